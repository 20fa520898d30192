-- What a turn of the application processor asks creates no connection, but behind one that it
-- makes, of which the request then speaks.
use Rattle.std.proofs.Common.{List, false, refl, ℕ, ◌≡◌}
use Rattle.gb_base.specs.declared.steps.Purpose.{Purpose}
use Rattle.gb_machine.specs.Sequences.{ap_in, opens, target}
use Rattle.gb_machine.specs.Turns.{Act, Asking, Turn}
use Rattle.gb_machine.specs.{Host.Host, Host.link_at, Members.Each}
use Rattle.gb_machine.specs.{SequenceSteps.payload_of}
use Rattle.gb_invariants.proofs.HostChanges.{AsksNone, HostEnd, IsLast, Occasion, acts_by}
use Rattle.gb_invariants.proofs.HostChanges.{at_notice}
use Rattle.gb_invariants.proofs.HostChanges.{changes-ask, end_of, is_creating}
use Rattle.gb_invariants.proofs.{Lists.each-append, Lists.each-weaker, OverTurns.over-turn}
use Rattle.gb_invariants.proofs.HostChanges.{Notice, turn_of}
use Rattle.gb_laws.proofs.creations.Creating.{IsMade}

-- a request speaks of the connection of its purpose
abbrev pub IsAimed : Host → Asking → Type 0
IsAimed h q = q.payload ≡ payload_of q.purpose.step
    (target (ap_in (link_at q.purpose.intf q.purpose.cport h)) q.purpose h)

-- an act asks for no new connection and of that of its purpose, or makes the one that it asks for
abbrev pub IsOrderly : Host → Act → Type 0
IsOrderly h (Act.Ask q) = (is_creating q.purpose.step ≡ false) × IsAimed h q
IsOrderly h (Act.Make w q) = IsMade w q
IsOrderly h _ = Unit {0}

abbrev pub AreOrderly : Host → List Act → Type 0
AreOrderly h acts = Each (IsOrderly h) acts

-- a turn does such acts
abbrev pub IsTurn : Turn → Type 0
IsTurn t = AreOrderly t.host t.acts

opens-orderly : (a protocol : ℕ) (p : Purpose) (h : Host) → IsTurn (opens a protocol p h)
opens-orderly a protocol p h = (
  record {
    target = target a p h;
    kind = refl;
    payload = refl;
    ap = refl;
    intf = refl;
    cport = refl;
  },
  tt,
)

end-orderly : (o : Occasion) (x : HostEnd) (h : Host) → IsLast o h x → IsTurn (end_of x h)
end-orderly o HostEnd.rests h last = tt
end-orderly o (HostEnd.asks k p) h last = ((last.1, refl), tt)
end-orderly o (HostEnd.makes a protocol p) h last = opens-orderly a protocol p h
end-orderly o (HostEnd.enumerates p bytes) h last = (tt, tt)

none-orderly : (h : Host) (x : Act) → AsksNone x → IsOrderly h x
none-orderly h (Act.Ask q) none = absurd none
none-orderly h (Act.Make w q) none = absurd none
none-orderly h _ none = tt

-- Each turn is orderly.
pub turn-orderly : (e : Notice) (h : Host) → IsTurn (turn_of e h)
turn-orderly e h = over-turn e h (record {
  says = λ g t. IsTurn t;
  ends = λ x g last. end-orderly (at_notice e h) x g last;
  over = λ x g t finds why s. each-append (IsOrderly t.host) (acts_by x g) t.acts
      (each-weaker AsksNone (IsOrderly t.host) (acts_by x g) (none-orderly t.host)
      (changes-ask x g)) s;
})
