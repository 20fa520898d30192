-- What an event that was done or is refused is as a step of the machine.
use Rattle.std.proofs.Common.{◌≡◌, Err, List, [], ◌∷◌, Result, sym, ap, ◌∙◌, subst}
use Rattle.std.proofs.lemmas.Result.{err_from_is_err_and}
use Rattle.std.specs.Result.{IsErrAnd}
use Rattle.gb_base.specs.declared.entry.Entry.{Entry}
use Rattle.gb_base.specs.declared.entry.Entry.TheVariants as entry
use Rattle.gb_base.specs.declared.event.Event.{Event}
use Rattle.gb_base.specs.declared.refusal.Refusal.{Refusal}
use Rattle.gb_machine.proofs.Steps.{behind_done, step-does, step-refused, told}
use Rattle.gb_machine.specs.Actions.{Told}
use Rattle.gb_machine.specs.Events.{does, step}
use Rattle.gb_machine.specs.State.{State}
use Rattle.gb_system.specs.Doing.{Does, EventAs, IsDone, IsRefused}
use Rattle.gb_system.specs.Stands.{PartsStand, PartsStep}
use Rattle.gb_system.specs.declared.parties.Parties.{Parties}
use Rattle.gb_system.specs.declared.stop.Stop.{Stop}
use Rattle.gb_system.specs.declared.stop.Stop.TheVariants as stop

-- the machine's step leads to this
landed : (y : Parties) (s : State) (e : Event) (t : Told) (es : List Entry)
    → step s e ≡ t → es ≡ t.entries → PartsStand [] y t.state → PartsStep y s e es
landed y s e t es h is st = (
  is ∙ sym (ap (λ (w : Told). w.entries) h),
  subst (λ (w : Told). PartsStand [] y w.state) (sym h) st,
)

-- An event that isn't refused is done behind the line's answer.
pub lands : {y : Parties} {s : State} {e : Event} {before es : List Entry}
    → before ≡ entry.Done ∷ [] → IsDone y s e before es → PartsStep y s e es
lands {y} {s} {e} {before} {es} begun d =
    landed y s e (behind_done (does e s)) es (step-does s e d.allowed)
    (subst (λ (b : List Entry). Does y (does e) s b es) begun d.done).told_is d.done.stand

-- A refused event leaves the state.
pub lands-refused : {y : Parties} {s : State} {e : Event} {why : Refusal} {es : List Entry}
    → es ≡ entry.Refused why ∷ [] → IsRefused y s e why → PartsStep y s e es
lands-refused {y} {s} {e} {why} {es} is r =
    landed y s e (told s (entry.Refused why ∷ [])) es (step-refused s e why r.refused) is r.stand

-- where a question is answered by a refusal, so is the event
pub stops : {y : Parties} {s : State} {e : Event} (before es : List Entry) {why : Refusal}
    (r : Result Unit Stop) → IsErrAnd r (λ how. how ≡ stop.Refused why) → IsRefused y s e why
    → EventAs y s e before es r
stops {y} {s} {e} before es r is refused =
    let p = err_from_is_err_and r is in
    subst (EventAs y s e before es) (sym (p.1 ∙ ap Err p.2)) refused

-- what is told, and who stands for the state, by other names
pub done-as : {x y : Parties} {s : State} {e : Event} {before a b : List Entry} → x ≡ y → a ≡ b
    → IsDone y s e before b → IsDone x s e before a
done-as {x} {y} {s} {e} {before} {a} {b} same told_is h =
    subst (λ (w : Parties). IsDone w s e before a) (sym same)
    (subst (IsDone y s e before) (sym told_is) h)
