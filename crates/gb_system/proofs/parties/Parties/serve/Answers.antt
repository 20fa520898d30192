-- The party at the end serves.
use Rattle.std.proofs.Common.{refl, sym, subst}
use Rattle.gb_base.specs.declared.end.End.{End}
use Rattle.gb_system.proofs.Heard.{far-fits, far-reply, may-reply}
use Rattle.gb_system.specs.Serving.{ServesAt}
use Rattle.gb_system.proofs.parties.Parties.serve.Goals as goal

pub returns-in_ok-serve_at_svc-in-Svc : goal.returns-in_ok-serve_at_svc-in-Svc
returns-in_ok-serve_at_svc-in-Svc c = record {
  step = subst (λ (at : End). ServesAt at c.args.self.now c.serve_at_svc.new.self c.args.connection
      c.args.asked.now c.args.payload.now c.args.told.now c.serve_at_svc.new.told)
      (sym c.in-Svc.is)
      (λ s x item d st may. c.in_ok-serve_at_svc-in-Svc.ensures.step s x item d st);
}

pub returns-in_ok-serve_at_ap-in-Ap : goal.returns-in_ok-serve_at_ap-in-Ap
returns-in_ok-serve_at_ap-in-Ap c = record {
  step = subst (λ (at : End). ServesAt at c.args.self.now c.serve_at_ap.new.self c.args.connection
      c.args.asked.now c.args.payload.now c.args.told.now c.serve_at_ap.new.told)
      (sym c.in-Ap.is)
      (λ s x item d st may. c.in_ok-serve_at_ap-in-Ap.ensures.step s x item c.in-Ap.field-0 d st
      may);
}

pub returns-in_ok-serve_at_module-in-Module : goal.returns-in_ok-serve_at_module-in-Module
returns-in_ok-serve_at_module-in-Module c = record {
  step = subst (λ (at : End). ServesAt at c.args.self.now c.serve_at_module.new.self
      c.args.connection c.args.asked.now c.args.payload.now c.args.told.now
      c.serve_at_module.new.told) (sym c.in-Module.is)
      (λ s x item d st may. c.in_ok-serve_at_module-in-Module.ensures.step s x item st d.upon
      d.there
      (may-reply d (far-reply d refl st)) d.payload_is (far-fits d refl st));
}
