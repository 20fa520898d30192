-- What turns of the application processor tell of connections, they tell of those that it knows.
use Rattle.std.proofs.Common.{List, None, Some, inl, inr, map, refl, sym, ℕ, [], ◌++◌, ◌∙◌, ◌∷◌}
use Rattle.std.proofs.Common.{◌≡◌}
use Rattle.std.specs.Prelude.{◌==◌}
use Rattle.gb_base.specs.declared.entry.{ConnState.ConnState, Entry.Entry}
use Rattle.gb_base.specs.declared.interface.Link.{Link}
use Rattle.gb_base.specs.declared.steps.Purpose.{Purpose}
use Rattle.gb_base.specs.declared.entry.ConnState.TheVariants as state
use Rattle.gb_base.specs.declared.entry.Entry.TheVariants as entry
use Rattle.gb_machine.specs.Host.{Host, is_link, link_at}
use Rattle.gb_machine.specs.HostTurns.{links_left, links_of}
use Rattle.gb_machine.specs.{Failures.link_told, Failures.unsent, Members.Each, Members.IsIn}
use Rattle.gb_machine.specs.Turns.{Act}
use Rattle.gb_invariants.proofs.HostChanges.{Finds, HostChange, HostEnd, IsOfNone, Occasion}
use Rattle.gb_invariants.proofs.HostChanges.{TurnLaw, acts_by, at_notice, at_unsent, end_of}
use Rattle.gb_invariants.proofs.HostChanges.{host_after}
use Rattle.gb_invariants.proofs.{Lists.found-in, Lists.in-filter, OverTurns.over-turn}
use Rattle.gb_invariants.proofs.{OverFailures.over-unsent}
use Rattle.gb_invariants.proofs.HostChanges.{Notice, turn_of}
use Rattle.gb_laws.proofs.links.LinkSources.{LinksFrom, change-from}

-- an entry on a connection tells of one that is known
abbrev pub TellsLink : Host → Entry → Type 0
TellsLink h (entry.Connection k ap i c state) =
    (l : Link) × IsIn l h.links × (l.connection ≡ k) × (l.intf ≡ i) × (l.cport ≡ c)
TellsLink h _ = Unit {0}

-- what acts tell
abbrev pub ActsTell : Host → List Act → Type 0
ActsTell h [] = Unit {0}
ActsTell h (Act.Tell e ∷ rest) = TellsLink h e × ActsTell h rest
ActsTell h (Act.Ask q ∷ rest) = ActsTell h rest
ActsTell h (Act.Make w q ∷ rest) = ActsTell h rest
ActsTell h (Act.Shut k ∷ rest) = ActsTell h rest
ActsTell h (Act.Leave k ∷ rest) = ActsTell h rest

-- ---- hosts and lists

tells-back : (h g : Host) → LinksFrom None h g → (e : Entry) → TellsLink g e → TellsLink h e
tells-back h g from (entry.Connection k ap i c state) t =
    let x = (from t.0 t.1).from in (
      x.link,
      x.live,
      sym x.same.connection ∙ t.2,
      sym x.same.intf ∙ t.3,
      sym x.same.cport ∙ t.4,
    )
tells-back h g from _ t = tt

acts-back : (h g : Host) → LinksFrom None h g → (acts : List Act) → ActsTell g acts
    → ActsTell h acts
acts-back h g from [] t = tt
acts-back h g from (Act.Tell e ∷ rest) t =
    (tells-back h g from e t.0, acts-back h g from rest t.1)
acts-back h g from (Act.Ask q ∷ rest) t = acts-back h g from rest t
acts-back h g from (Act.Make w q ∷ rest) t = acts-back h g from rest t
acts-back h g from (Act.Shut k ∷ rest) t = acts-back h g from rest t
acts-back h g from (Act.Leave k ∷ rest) t = acts-back h g from rest t

told-acts : (h : Host) (es : List Entry) → ActsTell h (map Act.Tell es) → Each (TellsLink h) es
told-acts h [] t = tt
told-acts h (e ∷ es) t = (t.0, told-acts h es t.1)

-- ---- changes

none-tells : (h : Host) (e : Entry) → IsOfNone e → TellsLink h e
none-tells h (entry.Connection k ap i c state) of = absurd of
none-tells h _ of = tt

at-tells : (h : Host) (i c : ℕ) (l : Link) (to : ConnState) → link_at i c h ≡ Some l
    → TellsLink h (link_told to l)
at-tells h i c l to e = (l, (found-in (is_link i c) h.links l e).0, refl, refl, refl)

left-tells : (h : Host) (ls : List Link) (acts : List Act) → ((l : Link) → IsIn l ls
    → IsIn l h.links) → ActsTell h acts → ActsTell h (links_left ls ++ acts)
left-tells h [] acts known t = t
left-tells h (l ∷ ls) acts known t =
    ((l, known l (inl refl), refl, refl, refl), left-tells h ls acts (λ k i. known k (inr i)) t)

change-tells : (x : HostChange) (h : Host) (acts : List Act) → Finds h x → ActsTell h acts
    → ActsTell h (acts_by x h ++ acts)
change-tells (HostChange.tells e) h acts of t = (none-tells h e of, t)
change-tells (HostChange.departs i) h acts finds t = left-tells h (links_of i h) acts
    (λ l j. (in-filter (λ (k : Link). k.intf == i) h.links l j).0) t
change-tells (HostChange.turns_to i c to None) h acts finds t = t
change-tells (HostChange.turns_to i c to (Some l)) h acts finds t =
    (at-tells h i c l to finds, t)
change-tells (HostChange.closes i c l) h acts finds t = (at-tells h i c l state.Closing finds, t)
change-tells (HostChange.leaves p None) h acts finds t = t
change-tells (HostChange.leaves p (Some l)) h acts finds t =
    (at-tells h p.intf p.cport l state.Closed finds, t)
change-tells _ h acts finds t = t

end-tells : (x : HostEnd) (h : Host) → ActsTell h (end_of x h).acts
end-tells (HostEnd.enumerates p bytes) h = (tt, tt)
end-tells _ h = tt

abbrev tells_law : (o : Occasion) → TurnLaw o
tells_law o = record {
  says = λ h t. ActsTell h t.acts;
  ends = λ x h last. end-tells x h;
  over = λ x h t finds why s. change-tells x h t.acts finds
      (acts-back h (host_after x h) (change-from x h) t.acts s);
}

-- ---- turns

pub turns-tell : (e : Notice) (h : Host) → ActsTell h (turn_of e h).acts
turns-tell e h = over-turn e h (tells_law (at_notice e h))

-- where a request can't be made
pub unsent-told : (p : Purpose) (h : Host) → Each (TellsLink h) (unsent p h).told
unsent-told p h = told-acts h (unsent p h).told (over-unsent p h (tells_law (at_unsent p h)))
