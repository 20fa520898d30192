-- A pass is free again after each call.
use Rattle.std.proofs.Common.{◌≡◌, ℕ, ◌+◌, ◌<◌, ◌≤◌, ⊎_elim, Bool, true, false}
use Rattle.std.proofs.Common.{List, ◌∷◌, length, length-append, refl, sym, subst}
use Rattle.std.proofs.Common.{arith}
use Rattle.std.specs.Prelude.{MatchBool}
use mathlib.Core.Option as core
use Rattle.atomic_table.specs.Table.{step}
use Rattle.gb_desk.proofs.Holding.{fewer_in, fewer_long, in_append}
use Rattle.gb_desk.specs.Calls.{IsFree}
use Rattle.gb_desk.specs.Steps.{Knows, Met, Releases, Retains, Settles, both, settled}
use Rattle.gb_desk.specs.Steps.{stays}
use Rattle.gb_desk.specs.Tickets.{fewer}
use Rattle.gb_desk.specs.declared.stored.Stored.{Stored}
use Rattle.gb_desk.specs.declared.ticket.Ticket.{Ticket}
use Rattle.gb_desk.specs.declared.view.View.{View}
use Rattle.gb_machine.specs.Members.{IsIn}

-- where another pass had the turn
pub free_met : (l : List (ℕ × Stored)) (v : View) (me : Knows) → IsFree (v, l) → Met v me
    → IsFree me
free_met l v me free m =
    subst IsFree (sym m.me) record {
      rests = refl;
      out = free.out;
      clear = free.clear;
      beside = free.beside;
      part = free.part;
      enough = free.enough;
      within = free.within;
    }

-- a test of whether there is a part left for a ticket
pub has_part : (b : Bool) (P Q : Type 0) → MatchBool b P Q → b ≡ false → Q
has_part true P Q is left_ = absurd cc
has_part false P Q is left_ = is

-- ---- one ticket more or less

pub retained : (slots n : ℕ) (me me' : Knows) (t : Ticket)
    → Retains (step slots (t.slot + 1) 1 0 core.none) me n me' → IsIn t me.0.tickets
    → me' ≡ (record me.0 { tickets = t ∷ me.0.tickets }, me.1)
retained slots n me me' t told there = told t refl there

pub free_retained : (slots n : ℕ) (me me' : Knows) (t : Ticket) → IsFree me
    → Retains (step slots (t.slot + 1) 1 0 core.none) me n me' → IsIn t me.0.tickets
    → length me.0.tickets < me.0.parts → IsFree me'
free_retained slots n me me' t free told there room =
    subst IsFree (sym (retained slots n me me' t told there)) record {
      rests = free.rests;
      out = free.out;
      clear = free.clear;
      beside = free.beside;
      part = free.part;
      enough = omega arith;
      within = λ u i. ⊎_elim
          (λ is. subst (λ (k : Ticket). k.slot < 256) (sym is) (free.within t there))
          (λ old. free.within u old) i;
    }

pub released : (slots n : ℕ) (me me' : Knows) (t : Ticket)
    → Releases (step slots (t.slot + 1) 1 0 core.none) me n me' → IsIn t me.0.tickets
    → me' ≡ (record me.0 { tickets = fewer t me.0.tickets }, me.1)
released slots n me me' t told there = told t refl there

pub free_released : (slots n : ℕ) (me me' : Knows) (t : Ticket) → IsFree me
    → Releases (step slots (t.slot + 1) 1 0 core.none) me n me' → IsIn t me.0.tickets
    → IsFree me'
free_released slots n me me' t free told there =
    subst IsFree (sym (released slots n me me' t told there)) record {
      rests = free.rests;
      out = free.out;
      clear = free.clear;
      beside = free.beside;
      part = free.part;
      enough =
          let less = fewer_long t me.0.tickets there in
          let most = free.enough in omega arith;
      within = λ u i. free.within u (fewer_in t u me.0.tickets i);
    }

-- ---- passes are cut and put together

pub free_stays : (l : List (ℕ × Stored)) (v : View) (k : ℕ) → k < v.parts
    → length v.tickets + k ≤ v.parts → IsFree (v, l) → IsFree (stays k v, l)
free_stays l v k less enough free = record {
  rests = free.rests;
  out = free.out;
  clear = free.clear;
  beside = free.beside;
  part = omega arith;
  enough = omega arith;
  within = free.within;
}

pub free_glued : (l m : List (ℕ × Stored)) (v w : View) (n : ℕ) (me me' : Knows) → IsFree (v, l)
    → IsFree (w, m) → me ≡ (both v w, l) → Settles (step 1 0 0 0 core.none) me n me' → IsFree me'
free_glued l m v w n me me' free other is settles =
    subst IsFree (sym settles.0)
    (subst (λ (k : Knows). IsFree (settled k.0, k.1)) (sym is) record {
      rests = free.rests;
      out = free.out;
      clear = free.clear;
      beside = refl;
      part = (let some = free.part in omega arith);
      enough =
          let long = length-append v.tickets w.tickets in
          let one = free.enough in
          let more = other.enough in omega arith;
      within = λ t i. ⊎_elim (free.within t) (other.within t) (in_append t v.tickets w.tickets i);
    })
