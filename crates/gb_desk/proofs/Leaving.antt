-- The turn is given back with nothing changed in it.
use Rattle.std.proofs.Common.{◌≡◌, ℕ, ◌+◌, ◌<◌, inl, inr, [], ◌∷◌, length, refl, sym, ap}
use Rattle.std.proofs.Common.{◌∙◌, subst, arith, Some}
use Rattle.std.specs.Prelude.{slice_set}
use mathlib.Core.Option as core
use lib.ListN.{get_elem?}
use Rattle.atomic_table.specs.Table.{Allows, State, gives, step}
use Rattle.gb_desk.proofs.Keeping.{Changes, changed, first_word}
use Rattle.gb_desk.proofs.Prefixes.{prefix_self}
use Rattle.gb_desk.proofs.Turning.{Holds, holds}
use Rattle.gb_desk.specs.Rules.{Fits, Kept, Sound, held_in, home_of, once_below}
use Rattle.gb_desk.specs.Slots.{times}
use Rattle.gb_desk.specs.Steps.{Leaves, left}
use Rattle.gb_desk.specs.declared.stored.Stored.{Stored}
use Rattle.gb_desk.specs.declared.view.View.{View}
use Rattle.gb_system.specs.declared.system.System.{System}
use Rattle.gb_desk.specs.Turns.{is_broken}

fits_left : (first : System) (x : Stored) (v : View) → 0 < v.parts → Fits first x v
    → Fits first x (left v x)
fits_left first x v part fits = record {
  seen = prefix_self x.journal;
  beside = fits.beside;
  told = fits.told;
  tickets = fits.tickets;
  enough = fits.enough;
  clear = λ i is. absurd (cc is);
  first = fits.first;
  out = λ z is. absurd (cc is);
  idle = λ none. absurd (omega arith);
}

leaving : (first : System) (s : State Stored View) (id : ℕ) (v : View) (x : Stored)
    (k : Kept first s) → 0 < v.parts → get_elem? s.views id ≡ core.some v
    → Holds first s id v x k
    → Changes first s id v (left v x) k.current x (slice_set s.words 0 0)
leaving first s id v x k part at h =
    let words = first_word s.words 0 k.words in
    record {
      at = at;
      size = words.size;
      word = (let now = words.first in omega arith);
      turns = (let now = words.first in let held = h.word in let one = h.turns in omega arith);
      counts = λ i within. ap (λ m. m + held_in i v) (words.rest i);
      holds = inl (λ i none. none);
      clear = λ i is. absurd (cc is);
      sound = subst (Sound first) h.is k.sound;
      fits = fits_left first x v part (subst (λ z. Fits first z v) h.is (k.each id v at));
      others = λ j u apart there fits. subst (λ z. Fits first z u) h.is fits;
      parts = refl;
      places = λ m. ap (λ z. times m v.mine + once_below m (length z.journal)) h.is;
      told = λ broken. inr (ap is_broken h.is ∙ broken, refl);
    }

pub leave : (slots : ℕ) (first : System) (id : ℕ) (v : View) (x : Stored) → v.out ≡ Some x
    → 0 < v.parts
    → Allows (Kept first) slots id (v, (0, x) ∷ []) 0 (λ _. 0)
    (λ _. Leaves (step slots 0 0 0 core.none) (v, (0, x) ∷ []) 0)
leave slots first id v x out part s k len at small =
    let h = holds first s id v x k out at in
    let words = first_word s.words 0 k.words in (
      left v x,
      gives,
      tt,
      changed first s id v (left v x) x (slice_set s.words 0 0)
          (slice_set s.homes 0 (core.some x)) k (leaving first s id v x k part at h)
          (ap (λ hs. slice_set hs 0 (core.some x)) h.home
          ∙ ap (λ n. home_of n x ∷ []) (sym words.first)),
      λ x' out' me. (let same : x ≡ x' = cc (out, out') in ap (λ z. (left v z, [])) same),
    )
