-- The application processor answers, and goes on.
use Rattle.std.proofs.Common.{◌≤◌, ℕ, List, length, subst, arith}
use Rattle.std.proofs.lemmas.Bool.Decides.{nat_tests}
use Rattle.gb_base.specs.declared.end.Side.TheVariants as side
use Rattle.gb_formats.specs.Results.{most_payload}
use Rattle.gb_machine.specs.Responding.{replies}
use Rattle.gb_machine.specs.Serving.{answer}
use Rattle.gb_system.proofs.ApServes.{ap-fits, ap-heeds, ap-twoway}
use Rattle.gb_system.specs.Doing.{Does}
use Rattle.gb_system.proofs.parties.Parties.serve_at_ap.Goals as goal

pub returns-then-asked-eq0 : goal.returns-then-asked-eq0
returns-then-asked-eq0 c = record {
  step = λ s x item a d st may.
      ap-heeds c.in_ok-served.served c.serve.new.self d st
      (c.in_ok-served.ensures.step s.host st.host)
      (grind (arith, nat_tests, c.if-asked-eq0.true)) may
      c.in_ok-heed.ensures.step c.in_ok-heed.ensures.ignored;
}

pub returns : goal.returns
returns c = record {
  step = λ s x item a d st may.
      ap-twoway c.in_ok-served.served c.serve.new.self d st
      (c.in_ok-served.ensures.step s.host st.host)
      (grind (arith, nat_tests, c.if-asked-eq0.false)) may
      (λ t stand live m. subst (λ (p : List ℕ). length p ≤ most_payload
      → Does c.answer.new.self
      (replies side.Ap x m.request (answer c.in_ok-served.served.result p)) t
      c.args.told.now c.answer.new.told) c.items-answer.ensures
      (c.in_ok-answer.ensures.step t x item stand live m)
      (ap-fits c.args.connection c.args.asked.now.kind c.args.payload.now s.host
      c.in_ok-served.served c.serve.new.self (c.in_ok-served.ensures.step s.host st.host)))
      c.in_ok-go_on.ensures.step;
}
