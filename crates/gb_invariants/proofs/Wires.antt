-- Which connections are live and wired, whatever becomes of the bus.
use Rattle.std.proofs.Common.{Bool, List, None, Option, Some, ap, false, inl, inr, refl, subst, sym}
use Rattle.std.proofs.Common.{true, ℕ, ⊎_elim, ◌∙◌, ◌≡◌, ◌≢◌, ◌⊎◌}
use Rattle.gb_machine.specs.{Bus.Bus, Bus.Connection, Members.IsIn, Wiring.next_connection}
use Rattle.gb_invariants.proofs.Awaiting.{none-some, not-both, same-some}
use Rattle.gb_invariants.proofs.BusChanges.{Becomes, BusChange, Was, becomes, bus_after, came}
use Rattle.gb_invariants.proofs.BusChanges.{changes, goes, is_gone, leaves, left_by, made_by}
use Rattle.gb_invariants.proofs.BusChanges.{number_of, opens, stayed, stays, unwires, was, went}
use Rattle.gb_invariants.proofs.BusChanges.{what-becomes, wired_by, wires}
use Rattle.gb_invariants.proofs.Apart.{SameEnds}

-- ---- one change

-- the connection that it wires, and the one that it unwires or lets go
abbrev pub wires_of : BusChange → Option ℕ
wires_of (wires k) = Some k
wires_of _ = None

abbrev pub cuts_of : BusChange → Option ℕ
cuts_of (unwires k) = Some k
cuts_of (leaves k) = Some k
cuts_of _ = None

was-on : (x : BusChange) (t : Bool) → wired_by x t ≡ true
    → (t ≡ true) ⊎ (wires_of x ≡ Some (number_of x))
was-on (wires k) t on = inr refl
was-on (unwires k) t on = absurd (not-both false on refl)
was-on _ t on = inl on

stays-on : (x : BusChange) (t : Bool) → (cuts_of x ≡ Some (number_of x) → ⊥) → t ≡ true
    → wired_by x t ≡ true
stays-on (wires k) t uncut on = refl
stays-on (unwires k) t uncut on = absurd (uncut refl)
stays-on _ t uncut on = on

stays-off : (x : BusChange) (t : Bool) → wires_of x ≡ None → t ≡ false → wired_by x t ≡ false
stays-off (wires k) t none off = absurd cc
stays-off (unwires k) t none off = refl
stays-off _ t none off = off

-- what goes is cut
gone-cut : (x : BusChange) (k : ℕ) → left_by x ≡ Some k → cuts_of x ≡ Some k
gone-cut (leaves j) k e = e
gone-cut _ k e = absurd cc

-- one that is made isn't wired, and its number is new
pub made-off : (x : BusChange) (b : Bus) (c : Connection) → made_by x b ≡ Some c → c.wired ≡ false
made-off (opens a i p protocol) b c e =
    ap (λ (y : Connection). y.wired) (sym (same-some _ c e))
made-off _ b c e = absurd cc

pub made-number : (x : BusChange) (b : Bus) (c : Connection) → made_by x b ≡ Some c
    → c.number ≡ next_connection b
made-number (opens a i p protocol) b c e =
    ap (λ (y : Connection). y.number) (sym (same-some _ c e))
made-number _ b c e = absurd cc

-- ---- what is so of each connection that is wired

abbrev pub WiredAreSo : (ℕ → Type 0) → List Connection → Type 0
WiredAreSo So cs = (c : Connection) → IsIn c cs → c.wired ≡ true → So c.number

-- stays so, where it is so of one that becomes wired
pub so-after : (So : ℕ → Type 0) (x : BusChange) (b : Bus) → ((k : ℕ) → wires_of x ≡ Some k → So k)
    → WiredAreSo So b.connections → WiredAreSo So (bus_after x b).connections
so-after So x b new h c live on = by (was x b c live)
  where
    by : Was x b c → So c.number
    by (stayed o) = h c o on
    by (went d o at is g) = subst So (sym g.ends.number)
        (⊎_elim (λ t. h d o t) (λ w. subst So (sym at) (new (number_of x) w))
        (was-on x d.wired (sym g.wired ∙ on)))
    by (came e) = absurd (not-both c.wired on (made-off x b c e))

-- ---- what isn't wired

-- a connection that isn't wired stays so
abbrev pub StaysUnwired : Bus → Bus → Type 0
StaysUnwired b after = (c : Connection) → IsIn c b.connections → c.wired ≡ false
    → (d : Connection) × IsIn d after.connections × (d.number ≡ c.number) × (d.wired ≡ false)

pub stays-unwired : (x : BusChange) (b : Bus) → wires_of x ≡ None → left_by x ≡ None
    → StaysUnwired b (bus_after x b)
stays-unwired x b none left c live off = by (what-becomes x b c live)
  where
    by : Becomes x b c → (d : Connection) × IsIn d (bus_after x b).connections
        × (d.number ≡ c.number) × (d.wired ≡ false)
    by (stays o) = (c, o, refl, off)
    by (changes at o) = let g = goes x b c in
        (becomes x b c, o, g.ends.number, g.wired ∙ stays-off x c.wired none off)
    by (is_gone e) = absurd (none-some (sym left ∙ e))

-- one that is wired was so, with its ends
abbrev pub WasWired : Bus → Bus → Type 0
WasWired b after = (d : Connection) → IsIn d after.connections → d.wired ≡ true
    → (c : Connection) × IsIn c b.connections × SameEnds c d × (c.wired ≡ true)

pub was-wired : (x : BusChange) (b : Bus) → wires_of x ≡ None → WasWired b (bus_after x b)
was-wired x b none d live on = by (was x b d live)
  where
    by : Was x b d → (c : Connection) × IsIn c b.connections × SameEnds c d × (c.wired ≡ true)
    by (stayed o) = (d, o, record { number = refl; ap = refl; peer = refl }, on)
    by (went c o at is g) = (
      c,
      o,
      g.ends,
      ⊎_elim (λ t. t) (λ w. absurd (none-some (sym none ∙ w)))
          (was-on x c.wired (sym g.wired ∙ on)),
    )
    by (came e) = absurd (not-both d.wired on (made-off x b d e))

-- ---- connection k

-- it is live
pub record IsAlive (k : ℕ) (cs : List Connection) : Type 0 where
  pub connection : Connection
  pub live : IsIn connection cs
  pub number : connection.number ≡ k

pub alive-after : (x : BusChange) (b : Bus) (k : ℕ) → (left_by x ≡ Some k → ⊥)
    → IsAlive k b.connections → IsAlive k (bus_after x b).connections
alive-after x b k kept h = by (what-becomes x b h.connection h.live)
  where
    by : Becomes x b h.connection → IsAlive k (bus_after x b).connections
    by (stays o) = record { connection = h.connection; live = o; number = h.number }
    by (changes at o) = record {
      connection = becomes x b h.connection;
      live = o;
      number = (goes x b h.connection).ends.number ∙ h.number;
    }
    by (is_gone e) = absurd (kept (e ∙ ap Some h.number))

-- it is live, and wired
pub record IsOn (k : ℕ) (b : Bus) : Type 0 where
  pub connection : Connection
  pub live : IsIn connection b.connections
  pub number : connection.number ≡ k
  pub wired : connection.wired ≡ true

pub on-after : (x : BusChange) (b : Bus) (k : ℕ) → (cuts_of x ≡ Some k → ⊥) → IsOn k b
    → IsOn k (bus_after x b)
on-after x b k uncut h = by (what-becomes x b h.connection h.live)
  where
    by : Becomes x b h.connection → IsOn k (bus_after x b)
    by (stays o) = record {
      connection = h.connection;
      live = o;
      number = h.number;
      wired = h.wired;
    }
    by (changes at o) = let g = goes x b h.connection in record {
      connection = becomes x b h.connection;
      live = o;
      number = g.ends.number ∙ h.number;
      wired = g.wired ∙ stays-on x h.connection.wired
          (λ e. uncut (e ∙ ap Some (sym at ∙ h.number))) h.wired;
    }
    by (is_gone e) = absurd (uncut (gone-cut x k (e ∙ ap Some h.number)))

-- each live connection of this number is wired, and there is one
pub record AreOn (k : ℕ) (b : Bus) : Type 0 where
  pub wired : (c : Connection) → IsIn c b.connections → c.number ≡ k → c.wired ≡ true
  pub there : IsAlive k b.connections

pub are-on-after : (x : BusChange) (b : Bus) (k : ℕ) → (cuts_of x ≡ Some k → ⊥)
    → ((c : Connection) → made_by x b ≡ Some c → c.number ≢ k) → AreOn k b → AreOn k (bus_after x b)
are-on-after x b k uncut new h = record {
  wired = λ c live at. by c at (was x b c live);
  there = alive-after x b k (λ e. uncut (gone-cut x k e)) h.there;
}
  where
    by : (c : Connection) → c.number ≡ k → Was x b c → c.wired ≡ true
    by c at (stayed o) = h.wired c o at
    by c at (went d o of is g) = let same = sym g.ends.number ∙ at in
        g.wired ∙ stays-on x d.wired (λ e. uncut (e ∙ ap Some (sym of ∙ same))) (h.wired d o same)
    by c at (came e) = absurd (new c e at)
