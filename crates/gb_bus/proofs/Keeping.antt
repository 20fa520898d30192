-- How the index of live connections is kept where one changes.
use Rattle.std.proofs.Common.{◌≡◌, ◌≢◌, ℕ, true, ◌⊎◌, inl, inr, ⊎_elim, Some, List}
use Rattle.std.proofs.Common.{refl, sym, ap, ◌∙◌, subst, IsSome}
use Rattle.std.proofs.lemmas.Bool.{cases_eq, true≢false}
use Rattle.std.proofs.lemmas.Map.{keys-set_value}
use Rattle.std.specs.List.{IsDistinct}
use Rattle.std.specs.Map.{keys_of, lookup, set_value}
use Rattle.std.specs.Prelude.{nat_eq}
use Rattle.indexmap.specs.IndexMap.{IsUnique, get}
use Rattle.gb_base.specs.declared.end.End.{End}
use Rattle.gb_base.specs.declared.end.End.TheVariants as end
use Rattle.gb_bus.proofs.Entries.{same-some, set-here, set-others}
use Rattle.gb_bus.specs.Connection.{Connection}
use Rattle.gb_bus.specs.Ends.{is_far}
use Rattle.gb_bus.specs.Index.{Ends, HasEnd, IsEndOf, IsIndexed, IsMarked, Live, MapsAgree}
use Rattle.gb_bus.specs.Index.{Remarks, number_at}
use Rattle.gb_bus.specs.Parts.{with_wire}
use Rattle.gb_bus.specs.Seen.{seen}
use Rattle.gb_bus.specs.Sides.{HasEndsOf}
use Rattle.gb_bus.specs.declared.connection.Connection as code
use Rattle.gb_switch.proofs.Places.{is-end}
use Rattle.gb_switch.specs.Queue.{has_items}
use Rattle.gb_switch.specs.WaitingEnds.{is_in}

-- ---- what is kept, by its parts

abbrev pub AreIndexed : Live → Ends → Type 0
AreIndexed live ends =
    (k : ℕ) (x : code.Connection) → get nat_eq live k ≡ Some x → IsIndexed ends k x

abbrev pub AreNumbered : Live → Ends → Type 0
AreNumbered live ends = (at : End) (k : ℕ) → number_at ends at ≡ Some k → HasEnd live k at

-- ---- ends are those of one connection

pub number-of-end : (ends : Ends) (k : ℕ) (x : code.Connection) (at : End) → IsIndexed ends k x
    → IsEndOf at x → number_at ends at ≡ Some k
number-of-end ends k x at i own =
    ⊎_elim
    (λ e. ap (number_at ends) e ∙ i.near)
    (λ e. ap (number_at ends) e ∙ i.far)
    own

pub ends-apart : (live : Live) (ends : Ends) (k n : ℕ) (z x : code.Connection) (a e : End)
    → AreIndexed live ends → get nat_eq live k ≡ Some z → get nat_eq live n ≡ Some x → k ≢ n
    → IsEndOf a z → IsEndOf e x → a ≢ e
ends-apart live ends k n z x a e i there found ne of_z of_x same =
    ne (same-some k n
    (sym (number-of-end ends k z a (i k z there) of_z)
    ∙ ap (number_at ends) same
    ∙ number-of-end ends n x e (i n x found) of_x))

-- the two ends of one differ
pub two-ends : (a : ℕ) (peer : End) → is_far peer ≡ true → end.Ap a ≢ peer
two-ends a peer far e = true≢false (sym far ∙ sym (ap is_far e))

-- ---- one connection changes, but not its ends

pub get-set : (live live' : Live) (n k : ℕ) (x y z : code.Connection)
    → get nat_eq live n ≡ Some x → live'.entries ≡ set_value (nat_eq n) live.entries y
    → get nat_eq live' k ≡ Some z
    → ((k ≡ n) × (z ≡ y)) ⊎ ((k ≢ n) × (get nat_eq live k ≡ Some z))
get-set live live' n k x y z found set there = by (cases_eq k n)
  where
    value : get nat_eq live' k
        ≡ lookup (nat_eq k) (set_value (nat_eq n) live.entries y)
    value = ap (lookup (nat_eq k)) set

    by : (k ≡ n) ⊎ (k ≢ n) → ((k ≡ n) × (z ≡ y)) ⊎ ((k ≢ n) × (get nat_eq live k ≡ Some z))
    by (inl e) = inl (
      e,
      same-some z y (sym there ∙ value
          ∙ ap (λ j. lookup (nat_eq j) (set_value (nat_eq n) live.entries y)) e
          ∙ set-here n live.entries x y found),
    )
    by (inr ne) = inr (ne, sym (set-others n k live.entries y ne) ∙ sym value ∙ there)

pub unique-set : (live live' : Live) (n : ℕ) (y : code.Connection)
    → live'.entries ≡ set_value (nat_eq n) live.entries y
    → IsUnique nat_eq live → IsUnique nat_eq live'
unique-set live live' n y set s =
    subst (λ ks. IsDistinct nat_eq ks)
    (sym (ap keys_of set ∙ keys-set_value (nat_eq n) live.entries y)) s

pub indexed-set : (live live' : Live) (ends : Ends) (n : ℕ) (x y : code.Connection)
    → get nat_eq live n ≡ Some x → live'.entries ≡ set_value (nat_eq n) live.entries y
    → y.ap ≡ x.ap → y.peer ≡ x.peer → AreIndexed live ends → AreIndexed live' ends
indexed-set live live' ends n x y found set ap_is peer_is i k z there =
    by (get-set live live' n k x y z found set there)
  where
    own : IsIndexed ends n y
    own = record {
      near = ap (λ a. number_at ends (end.Ap a)) ap_is ∙ (i n x found).near;
      far = ap (number_at ends) peer_is ∙ (i n x found).far;
      beyond = ap is_far peer_is ∙ (i n x found).beyond;
    }

    by : ((k ≡ n) × (z ≡ y)) ⊎ ((k ≢ n) × (get nat_eq live k ≡ Some z)) → IsIndexed ends k z
    by (inl e) = subst (λ c. IsIndexed ends k c) (sym e.1)
        (subst (λ j. IsIndexed ends j y) (sym e.0) own)
    by (inr e) = i k z e.1

-- an end of the one before is one of it after
pub end-of-set : (x y : code.Connection) (a : End) → y.ap ≡ x.ap → y.peer ≡ x.peer
    → IsEndOf a x → IsEndOf a y
end-of-set x y a ap_is peer_is own =
    ⊎_elim (λ e. inl (e ∙ ap end.Ap (sym ap_is))) (λ e. inr (e ∙ sym peer_is)) own

-- an end is still one of the connection with a number
has-end-set : (live live' : Live) (n k : ℕ) (x y : code.Connection) (a : End)
    → get nat_eq live n ≡ Some x → live'.entries ≡ set_value (nat_eq n) live.entries y
    → y.ap ≡ x.ap → y.peer ≡ x.peer → HasEnd live k a → HasEnd live' k a
has-end-set live live' n k x y a found set ap_is peer_is h = by (cases_eq k n)
  where
    by : (k ≡ n) ⊎ (k ≢ n) → HasEnd live' k a
    by (inl e) =
        let same : h.connection ≡ x = same-some h.connection x
        (sym h.there ∙ ap (λ j. get nat_eq live j) e ∙ found) in
        subst (λ j. HasEnd live' j a) (sym e)
        (record {
          connection = y;
          there = ap (lookup (nat_eq n)) set ∙ set-here n live.entries x y found;
          own = end-of-set x y a ap_is peer_is (subst (IsEndOf a) same h.own);
        })
    by (inr ne) = record {
      connection = h.connection;
      there = ap (lookup (nat_eq k)) set ∙ set-others n k live.entries y ne ∙ h.there;
      own = h.own;
    }

pub numbered-set : (live live' : Live) (ends : Ends) (n : ℕ) (x y : code.Connection)
    → get nat_eq live n ≡ Some x → live'.entries ≡ set_value (nat_eq n) live.entries y
    → y.ap ≡ x.ap → y.peer ≡ x.peer → AreNumbered live ends → AreNumbered live' ends
numbered-set live live' ends n x y found set ap_is peer_is h a k has =
    has-end-set live live' n k x y a found set ap_is peer_is (h a k has)

-- ---- what is marked

-- the ends of other connections stay marked or not where those of one change
pub marked-others : (live : Live) (ends : Ends) (old new : List End) (k n : ℕ)
    (z x : code.Connection)
    → AreIndexed live ends → get nat_eq live k ≡ Some z → get nat_eq live n ≡ Some x → k ≢ n
    → ((a : End) → (IsEndOf a x → ⊥) → is_in new a ≡ is_in old a)
    → IsMarked old z → IsMarked new z
marked-others live ends old new k n z x i there found ne stay m = record {
  near = stay (end.Ap z.ap)
      (λ of_x. ends-apart live ends k n z x (end.Ap z.ap) (end.Ap z.ap) i there found ne (inl refl)
      of_x refl)
      ∙ m.near;
  far = stay z.peer
      (λ of_x. ends-apart live ends k n z x z.peer z.peer i there found ne (inr refl) of_x refl)
      ∙ m.far;
  idle = m.idle;
}

-- what is kept where one connection changes, but not its ends
pub kept-change : (live live' : Live) (ends : Ends) (old new : List End) (n : ℕ)
    (x y : code.Connection)
    → get nat_eq live n ≡ Some x → live'.entries ≡ set_value (nat_eq n) live.entries y
    → Remarks old new x y → MapsAgree live ends old → MapsAgree live' ends new
kept-change live live' ends old new n x y found set m k = record {
  unique = unique-set live live' n y set k.unique;
  indexed = indexed-set live live' ends n x y found set m.near m.far k.indexed;
  numbered = numbered-set live live' ends n x y found set m.near m.far k.numbered;
  marked = λ j z there. one j z (get-set live live' n j x y z found set there);
  owned = λ a is. whose a is (is-end a (end.Ap x.ap)) (is-end a x.peer);
}
  where
    one : (j : ℕ) (z : code.Connection)
        → ((j ≡ n) × (z ≡ y)) ⊎ ((j ≢ n) × (get nat_eq live j ≡ Some z)) → IsMarked new z
    one j z (inl e) = subst (IsMarked new) (sym e.1) m.own
    one j z (inr e) =
        marked-others live ends old new j n z x k.indexed e.1 found e.0 m.others (k.marked j z e.1)

    own : (a : End) → IsEndOf a x → IsSome (number_at ends a)
    own a is = subst IsSome (sym (number-of-end ends n x a (k.indexed n x found) is)) refl

    whose : (a : End) → is_in new a ≡ true → (a ≡ end.Ap x.ap) ⊎ (a ≢ end.Ap x.ap)
        → (a ≡ x.peer) ⊎ (a ≢ x.peer) → IsSome (number_at ends a)
    whose a is (inl e) far = own a (inl e)
    whose a is (inr near) (inl e) = own a (inr e)
    whose a is (inr near) (inr far) =
        k.owned a (sym (m.others a (λ of_x. ⊎_elim near far of_x)) ∙ is)

-- where the same waits at the same ends
pub same-marks : (old : List End) (x y : code.Connection) → HasEndsOf (seen 0 x) (seen 0 y)
    → IsMarked old x → Remarks old old x y
same-marks old x y s m = record {
  near = s.near;
  far = s.far;
  own = record {
    near = ap (λ a. is_in old (end.Ap a)) s.near ∙ m.near ∙ ap has_items (sym s.near_waits);
    far = ap (is_in old) s.far ∙ m.far ∙ ap has_items (sym s.far_waits);
    idle = λ loose.
        let i = m.idle (sym s.wire ∙ loose) in (s.near_waits ∙ i.0, s.far_waits ∙ i.1);
  };
  others = λ a never. refl;
}

-- so it does, and then something else waits there
pub marks-after : (old new : List End) (x y z : code.Connection) → HasEndsOf (seen 0 x) (seen 0 y)
    → Remarks old new y z → Remarks old new x z
marks-after old new x y z s m = record {
  near = m.near ∙ s.near;
  far = m.far ∙ s.far;
  own = m.own;
  others = λ a never.
      m.others a
      (λ own. never (⊎_elim (λ e. inl (e ∙ ap end.Ap s.near)) (λ e. inr (e ∙ s.far)) own));
}

pub kept-set : (live live' : Live) (ends : Ends) (old : List End) (n : ℕ) (x y : code.Connection)
    → get nat_eq live n ≡ Some x → live'.entries ≡ set_value (nat_eq n) live.entries y
    → HasEndsOf (seen 0 x) (seen 0 y) → MapsAgree live ends old → MapsAgree live' ends old
kept-set live live' ends old n x y found set s k =
    kept-change live live' ends old old n x y found set
    (same-marks old x y s (k.marked n x found)) k

-- none changes
pub kept-same : (live live' : Live) (ends : Ends) (old : List End) → live'.entries ≡ live.entries
    → MapsAgree live ends old → MapsAgree live' ends old
kept-same live live' ends old same k = record {
  unique = subst (λ es. IsDistinct nat_eq (keys_of es)) (sym same) k.unique;
  indexed = λ n x there. k.indexed n x (ap (lookup (nat_eq n)) (sym same) ∙ there);
  numbered = λ a n has.
      let h = k.numbered a n has in
      record {
        connection = h.connection;
        there = ap (lookup (nat_eq n)) same ∙ h.there;
        own = h.own;
      };
  marked = λ n x there. k.marked n x (ap (lookup (nat_eq n)) (sym same) ∙ there);
  owned = k.owned;
}

-- a connection that is wired
pub wired-marks : (old : List End) (x y : code.Connection) → seen 0 y ≡ with_wire (seen 0 x)
    → IsMarked old x → Remarks old old x y
wired-marks old x y is m = record {
  near = ap (λ (c : Connection). c.ap) is;
  far = ap (λ (c : Connection). c.peer) is;
  own = record {
    near = ap (λ (c : Connection). is_in old (end.Ap c.ap)) is ∙ m.near
        ∙ sym (ap (λ (c : Connection). has_items c.to_ap) is);
    far = ap (λ (c : Connection). is_in old c.peer) is ∙ m.far
        ∙ sym (ap (λ (c : Connection). has_items c.to_far) is);
    idle = λ loose. absurd (true≢false (sym (ap (λ (c : Connection). c.wired) is) ∙ loose));
  };
  others = λ a never. refl;
}
