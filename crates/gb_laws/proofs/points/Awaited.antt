-- What stays where a sequence waits for a request.
use Rattle.std.proofs.Common.{Bool, List, None, Option, Some, cond, false, refl, true, ℕ, [], ◌++◌}
use Rattle.std.proofs.Common.{◌∷◌, ◌≡◌}
use Rattle.gb_base.specs.declared.interface.Link.{Link}
use Rattle.gb_base.specs.declared.steps.Purpose.{Purpose}
use Rattle.gb_machine.specs.{Host.Host, Host.link_at, HostActs.made_for, HostActs.with_awaited}
use Rattle.gb_machine.specs.{SequenceSteps.is_for_connection, State.State, Waits.awaits}

-- the parts of a state that no waiting changes
pub record SameRest (s t : State) : Type 0 where
  pub bus : t.bus ≡ s.bus
  pub now : t.now ≡ s.now
  pub held : t.held ≡ s.held
  pub names : t.names ≡ s.names
  pub ports : t.ports ≡ s.ports
  pub holds : t.holds ≡ s.holds
  pub pulled : t.past.pulled ≡ s.past.pulled
  pub modules : t.modules ≡ s.modules
  pub loads : t.loads ≡ s.loads
  pub unclean : t.past.unclean ≡ s.past.unclean
  pub loading : t.past.loading ≡ s.past.loading
  pub loaded : t.past.loaded ≡ s.past.loaded

-- another connection may be remembered, and the application processor is another
rest-but : (host : Host) (made : List (ℕ × ℕ)) {s : State}
    → SameRest s (record s { host = host; past = record s.past { made_for = made } })
rest-but host made = record {
  bus = refl;
  now = refl;
  held = refl;
  names = refl;
  ports = refl;
  holds = refl;
  pulled = refl;
  modules = refl;
  loads = refl;
  unclean = refl;
  loading = refl;
  loaded = refl;
}

pub awaited-rest : (p : Purpose) (n : ℕ) {s : State} → SameRest s (with_awaited p n s)
awaited-rest p n {s} = by (is_for_connection p.step) (link_at p.intf p.cport (awaits p n s.host))
  where
    made : (o : Option Link) → SameRest s (made_for n o (record s { host = awaits p n s.host }))
    made None = rest-but (awaits p n s.host) s.past.made_for
    made (Some l) = rest-but (awaits p n s.host) (s.past.made_for ++ (n, l.connection) ∷ [])

    by : (t : Bool) (o : Option Link)
        → SameRest s (cond t (made_for n o (record s { host = awaits p n s.host }))
        (record s { host = awaits p n s.host }))
    by true o = made o
    by false o = rest-but (awaits p n s.host) s.past.made_for
