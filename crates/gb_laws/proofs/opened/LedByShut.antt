-- Where acts of the application processor tell that a connection is closing, they close
-- its side first.
use Rattle.std.proofs.Common.{List, None, Some, ℕ, inl, inr, map, refl, [], ⊎_elim, ◌++◌, ◌∷◌, ◌≡◌}
use Rattle.std.proofs.Common.{◌⊎◌}
use Rattle.gb_base.specs.declared.entry.{ConnState.ConnState, Entry.Entry}
use Rattle.gb_base.specs.declared.interface.{Link.Link}
use Rattle.gb_base.specs.declared.steps.{Purpose.Purpose}
use Rattle.gb_base.specs.declared.entry.ConnState.TheVariants as state
use Rattle.gb_base.specs.declared.entry.Entry.TheVariants as entry
use Rattle.gb_machine.specs.Failures.{link_told, unsent}
use Rattle.gb_machine.specs.HostTurns.{links_left, links_of}
use Rattle.gb_machine.specs.Turns.{Act}
use Rattle.gb_machine.specs.{Host.Host, Members.Each}
use Rattle.gb_invariants.proofs.HostChanges.{Finds, HostChange, HostEnd, IsFor, IsOfNone, TurnsFor}
use Rattle.gb_invariants.proofs.HostChanges.{Occasion, TurnLaw, acts_by, at_notice, at_unsent}
use Rattle.gb_invariants.proofs.HostChanges.{end_of}
use Rattle.gb_invariants.proofs.OverTurns.{over-turn}
use Rattle.gb_invariants.proofs.OverFailures.{over-unsent}
use Rattle.gb_invariants.proofs.HostChanges.{Notice, turn_of}

-- what an entry tells to be closing is so
abbrev pub TellsOf : (ℕ → Type 0) → Entry → Type 0
TellsOf So (entry.Connection k ap i c state.Closing) = So k
TellsOf So _ = Unit {0}

-- What acts tell to be closing is so, or its side is closed before.
abbrev pub AreLed : (ℕ → Type 0) → List Act → Type 0
AreLed So [] = Unit {0}
AreLed So (Act.Shut k ∷ rest) = AreLed (λ n. (n ≡ k) ⊎ So n) rest
AreLed So (Act.Tell e ∷ rest) = TellsOf So e × AreLed So rest
AreLed So (Act.Ask q ∷ rest) = AreLed So rest
AreLed So (Act.Make w q ∷ rest) = AreLed So rest
AreLed So (Act.Leave k ∷ rest) = AreLed So rest

pub tells-more : (So Other : ℕ → Type 0) (e : Entry) → ((n : ℕ) → So n → Other n) → TellsOf So e
    → TellsOf Other e
tells-more So Other (entry.Connection k ap i c state.Closing) f t = f k t
tells-more So Other e f t = tt

pub led-more : (So Other : ℕ → Type 0) (acts : List Act) → ((n : ℕ) → So n → Other n)
    → AreLed So acts → AreLed Other acts
led-more So Other [] f led = tt
led-more So Other (Act.Shut k ∷ rest) f led =
    led-more (λ n. (n ≡ k) ⊎ So n) (λ n. (n ≡ k) ⊎ Other n) rest
    (λ n. ⊎_elim (λ e. inl e) (λ s. inr (f n s))) led
led-more So Other (Act.Tell e ∷ rest) f led =
    (tells-more So Other e f led.0, led-more So Other rest f led.1)
led-more So Other (Act.Ask q ∷ rest) f led = led-more So Other rest f led
led-more So Other (Act.Make w q ∷ rest) f led = led-more So Other rest f led
led-more So Other (Act.Leave k ∷ rest) f led = led-more So Other rest f led

-- ---- turns

none-closing : (So : ℕ → Type 0) (e : Entry) → IsOfNone e → TellsOf So e
none-closing So (entry.Connection k ap i c state) of = absurd of
none-closing So _ of = tt

turned-led : (So : ℕ → Type 0) (o : Occasion) (h : Host) (i c : ℕ) (to : ConnState) (l : Link)
    → TurnsFor to o h i c → TellsOf So (link_told to l)
turned-led So o h i c state.Closing l why = absurd why
turned-led So o h i c _ l why = tt

left-led : (So : ℕ → Type 0) (ls : List Link) (acts : List Act) → AreLed So acts
    → AreLed So (links_left ls ++ acts)
left-led So [] acts led = led
left-led So (l ∷ ls) acts led = (
  tt,
  left-led (λ n. (n ≡ l.connection) ⊎ So n) ls acts
      (led-more So (λ n. (n ≡ l.connection) ⊎ So n) acts (λ n s. inr s) led),
)

change-led : (So : ℕ → Type 0) (o : Occasion) (x : HostChange) (h : Host) (acts : List Act)
    → Finds h x → IsFor o h x → AreLed So acts → AreLed So (acts_by x h ++ acts)
change-led So o (HostChange.tells e) h acts of why led = (none-closing So e of, led)
change-led So o (HostChange.departs i) h acts finds why led = left-led So (links_of i h) acts led
change-led So o (HostChange.turns_to i c to None) h acts finds why led = led
change-led So o (HostChange.turns_to i c to (Some l)) h acts finds why led =
    (turned-led So o h i c to l why, led)
change-led So o (HostChange.closes i c l) h acts found why led = (
  inl refl,
  led-more So (λ n. (n ≡ l.connection) ⊎ So n) acts (λ n s. inr s) led,
)
change-led So o (HostChange.leaves p None) h acts found why led = led
change-led So o (HostChange.leaves p (Some l)) h acts found why led = (tt, led)
change-led So o _ h acts finds why led = led

end-led : (So : ℕ → Type 0) (x : HostEnd) (h : Host) → AreLed So (end_of x h).acts
end-led So (HostEnd.enumerates p bytes) h = (tt, tt)
end-led So _ h = tt

abbrev led_law : (ℕ → Type 0) → (o : Occasion) → TurnLaw o
led_law So o = record {
  says = λ h t. AreLed So t.acts;
  ends = λ x h last. end-led So x h;
  over = λ x h t finds why led. change-led So o x h t.acts finds why led;
}

pub led-turn : (So : ℕ → Type 0) (e : Notice) (h : Host) → AreLed So (turn_of e h).acts
led-turn So e h = over-turn e h (led_law So (at_notice e h))

-- where a request can't be made
tells-led : (So : ℕ → Type 0) (es : List Entry) → AreLed So (map Act.Tell es)
    → Each (TellsOf So) es
tells-led So [] led = tt
tells-led So (e ∷ es) led = (led.0, tells-led So es led.1)

pub led-unsent : (So : ℕ → Type 0) (p : Purpose) (h : Host) → Each (TellsOf So) (unsent p h).told
led-unsent So p h = tells-led So (unsent p h).told (over-unsent p h (led_law So (at_unsent p h)))
