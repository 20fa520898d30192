-- The download that waits for the request goes on, if there is one.
use Rattle.std.proofs.Common.{Bool, Some, None, sym, ◌∙◌, subst}
use Rattle.gb_system.proofs.LoadEnds.{load-goes, load-nowhere, load-stays}
use Rattle.gb_system.specs.Loading.{LoadsThere}
use Rattle.gb_system.proofs.parties.Parties.load_on.Goals as goal

pub returns-in_default : goal.returns-in_default
returns-in_default c = record {
  step = λ s st.
      load-nowhere c.args.number c.args.how.now st (sym c.in_default.is ∙ c.of.ensures);
}

pub returns-in_default-2 : goal.returns-in_default-2
returns-in_default-2 c = record {
  step = λ s st.
      load-stays c.args.number c.in-Some.whose.0 c.in-Some.whose.1 c.args.how.now
      c.load_way-way.result c.ended.new.self st (sym c.in-Some.is ∙ c.of.ensures)
      (subst (λ (can : Bool). LoadsThere can c.in-Some.whose.0 c.in-Some.whose.1 c.args.how.now
      c.args.self.now.modules c.ended.new.self None) c.is_some.ensures
      (subst (LoadsThere c.is_some.result c.in-Some.whose.0 c.in-Some.whose.1 c.args.how.now
      c.args.self.now.modules c.ended.new.self) c.in_default-2.is c.in_ok-next.ensures));
}

pub returns : goal.returns
returns c = record {
  step = λ s st.
      load-goes c.args.number c.in-Some.whose.0 c.in-Some.whose.1 c.args.how.now
      c.load_way-way.result c.ended.new.self st (sym c.in-Some.is ∙ c.of.ensures)
      c.in-Some-2.next (c.load_way-way.ensures s st)
      (subst (λ (can : Bool). LoadsThere can c.in-Some.whose.0 c.in-Some.whose.1 c.args.how.now
      c.args.self.now.modules c.ended.new.self (Some c.in-Some-2.next)) c.is_some.ensures
      (subst (LoadsThere c.is_some.result c.in-Some.whose.0 c.in-Some.whose.1 c.args.how.now
      c.args.self.now.modules c.ended.new.self) c.in-Some-2.is c.in_ok-next.ensures))
      c.in_ok-load_next.ensures.step;
}
