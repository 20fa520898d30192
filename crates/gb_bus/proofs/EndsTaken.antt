-- Whether a number or an end is that of a live connection.
use Rattle.std.proofs.Common.{◌≡◌, ◌≢◌, ℕ, ◌+◌, Bool, true, false, ◌||◌, eqb, ◌⊎◌, inl, inr}
use Rattle.std.proofs.Common.{Option, Some, None, is_some, List, [], ◌∷◌, map, cond}
use Rattle.std.proofs.Common.{refl, sym, ap, ◌∙◌, arith}
use Rattle.std.proofs.lemmas.Bool.{cases_eq, eq-eqb, ne_eqb, true≢false}
use Rattle.std.specs.List.{list_any}
use Rattle.std.specs.Map.{lookup}
use Rattle.std.specs.Prelude.{nat_eq}
use Rattle.indexmap.specs.IndexMap.{get}
use Rattle.gb_base.specs.declared.end.End.{End}
use Rattle.gb_base.specs.declared.end.End.TheVariants as end
use Rattle.gb_bus.proofs.Entries.{EachEntry, each-entry, other-number, same-number, same-some}
use Rattle.gb_bus.proofs.Entries.{some-none}
use Rattle.gb_bus.proofs.KeepingLive.{none-there}
use Rattle.gb_bus.proofs.Ordered.{any-sorted}
use Rattle.gb_bus.proofs.Placing.{end-differs, end-own}
use Rattle.gb_bus.specs.Connection.{Connection}
use Rattle.gb_bus.specs.Ends.{is_far}
use Rattle.gb_bus.specs.Index.{Ends, IsEndOf, MapsAgree, Live, number_at}
use Rattle.gb_bus.specs.Parts.{has_one_of, is_taken}
use Rattle.gb_bus.specs.Seen.{all_seen, seen, seen_in_order}
use Rattle.gb_bus.specs.Shown.{connection_in, without_ops}
use Rattle.gb_bus.specs.Stands.{Around, Stands}
use Rattle.gb_bus.specs.Wiring.{IsOther, MayAttach, is_taken_on}
use Rattle.gb_bus.specs.declared.bus.Bus.{Bus}
use Rattle.gb_bus.specs.declared.connection.Connection as code
use Rattle.gb_invariants.proofs.Lists.{each-from, each-in}
use Rattle.gb_invariants.specs.Facts.{IsMade}
use Rattle.gb_machine.specs.Bus as machine
use Rattle.gb_machine.specs.Bus.{Request, same_end}
use Rattle.gb_machine.specs.Members.{Each, IsIn}

-- ---- truth

or-right : (a b : Bool) → b ≡ true → a || b ≡ true
or-right true b e = refl
or-right false b e = e

or-three : (a b c : Bool) → a ≡ false → b ≡ false → c ≡ false → a || (b || c) ≡ false
or-three a b c e f g =
    ap (λ t. t || (b || c)) e ∙ ap (λ t. t || c) f ∙ g

record NoneOf (a b c : Bool) : Type 0 where
  first : a ≡ false
  second : b ≡ false
  third : c ≡ false

none-of : (a b c : Bool) → a || (b || c) ≡ false → NoneOf a b c
none-of true b c e = absurd (true≢false e)
none-of false true c e = absurd (true≢false e)
none-of false false c e = record { first = refl; second = refl; third = e }

-- ---- one connection

-- the connection with the number has it
its-number : (n a : ℕ) (peer : End) (x : code.Connection)
    → has_one_of n a peer (seen n x) ≡ true
its-number n a peer x =
    ap (λ b. b || (eqb x.ap a || same_end x.peer peer)) (eq-eqb n n refl)

-- the one that has the CPort of the application processor
its-near : (n j a : ℕ) (peer : End) (x : code.Connection) → is_far x.peer ≡ true
    → IsEndOf (end.Ap a) x → has_one_of n a peer (seen j x) ≡ true
its-near n j a peer x far (inl e) =
    let same : x.ap ≡ a = cc in
    or-right (eqb j n) (eqb x.ap a || same_end x.peer peer)
    (ap (λ b. b || same_end x.peer peer) (eq-eqb x.ap a same))
its-near n j a peer x far (inr e) = absurd (true≢false (sym far ∙ sym (ap is_far e)))

-- the one that has the far end
its-far : (n j a : ℕ) (peer : End) (x : code.Connection) → is_far peer ≡ true
    → IsEndOf peer x → has_one_of n a peer (seen j x) ≡ true
its-far n j a peer x far (inl e) = absurd (true≢false (sym far ∙ ap is_far e))
its-far n j a peer x far (inr e) =
    or-right (eqb j n) (eqb x.ap a || same_end x.peer peer)
    (or-right (eqb x.ap a) (same_end x.peer peer)
    (ap (λ p. same_end x.peer p) e ∙ end-own x.peer))

-- ---- all

any-there : (test : Connection → Bool) (es : List (ℕ × code.Connection)) (n : ℕ)
    (x : code.Connection) → lookup (nat_eq n) es ≡ Some x → test (seen n x) ≡ true
    → list_any test (all_seen es) ≡ true
any-there test [] n x l t = absurd (some-none x (sym l))
any-there test (e ∷ es) n x l t = by (cases_eq n e.0) (any-there test es n x)
  where
    by : (n ≡ e.0) ⊎ (n ≢ e.0)
        → (lookup (nat_eq n) es ≡ Some x → test (seen n x) ≡ true
        → list_any test (all_seen es) ≡ true)
        → test (seen e.0 e.1) || list_any test (all_seen es) ≡ true
    by (inl same) later =
        let value : e.1 ≡ x = same-some e.1 x
        (sym (ap (λ b. cond b (Some e.1) (lookup (nat_eq n) es)) (same-number n e.0 same)) ∙ l) in
        ap (λ b. b || list_any test (all_seen es))
        (ap (λ k. test (seen k e.1)) (sym same) ∙ ap (λ v. test (seen n v)) value ∙ t)
    by (inr ne) later =
        or-right (test (seen e.0 e.1)) (list_any test (all_seen es))
        (later (sym (ap (λ b. cond b (Some e.1) (lookup (nat_eq n) es)) (other-number n e.0 ne))
        ∙ l) t)

any-none : (test : Connection → Bool) (es : List (ℕ × code.Connection))
    → EachEntry (λ k x. test (seen k x) ≡ false) es → list_any test (all_seen es) ≡ false
any-none test [] h = refl
any-none test (e ∷ es) h =
    ap (λ b. b || list_any test (all_seen es)) h.0 ∙ any-none test es h.1

-- It is told by the maps whether the number or an end is taken.
pub taken-by : (live : Live) (ends : Ends) (q : List End) (xs : List Connection) (n a : ℕ)
    (peer : End) → MapsAgree live ends q → seen_in_order live.entries ≡ xs → is_far peer ≡ true
    → is_some (get nat_eq live n)
    || (is_some (number_at ends (end.Ap a)) || is_some (number_at ends peer))
    ≡ is_taken n a peer xs
taken-by live ends q xs n a peer kept view far =
    by (get nat_eq live n) refl (number_at ends (end.Ap a)) refl (number_at ends peer) refl
    ∙ sym (any-sorted (has_one_of n a peer) live.entries)
    ∙ ap (is_taken n a peer) view
  where
    one : (j : ℕ) (x : code.Connection) → get nat_eq live j ≡ Some x
        → has_one_of n a peer (seen j x) ≡ true
        → true ≡ is_taken n a peer (all_seen live.entries)
    one j x there t = sym (any-there (has_one_of n a peer) live.entries j x there t)

    not-its : (j : ℕ) (x : code.Connection) → get nat_eq live j ≡ Some x
        → get nat_eq live n ≡ None → number_at ends (end.Ap a) ≡ None
        → number_at ends peer ≡ None → has_one_of n a peer (seen j x) ≡ false
    not-its j x there e f g =
        let i = kept.indexed j x there in
        or-three (eqb j n) (eqb x.ap a) (same_end x.peer peer)
        (ne_eqb j n (λ s. some-none x (sym there ∙ ap (get nat_eq live) s ∙ e)))
        (ne_eqb x.ap a (λ s. some-none j (sym i.near ∙ ap (λ m. number_at ends (end.Ap m)) s ∙ f)))
        (end-differs x.peer peer (λ s. some-none j (sym i.far ∙ ap (number_at ends) s ∙ g)))

    by : (o : Option code.Connection) → get nat_eq live n ≡ o
        → (p : Option ℕ) → number_at ends (end.Ap a) ≡ p
        → (r : Option ℕ) → number_at ends peer ≡ r
        → is_some o || (is_some p || is_some r) ≡ is_taken n a peer (all_seen live.entries)
    by (Some x) e p f r g = one n x e (its-number n a peer x)
    by None e (Some j) f r g =
        let h = kept.numbered (end.Ap a) j f in
        one j h.connection h.there
        (its-near n j a peer h.connection (kept.indexed j h.connection h.there).beyond h.own)
    by None e None f (Some j) g =
        let h = kept.numbered peer j g in
        one j h.connection h.there (its-far n j a peer h.connection far h.own)
    by None e None f None g =
        sym (any-none (has_one_of n a peer) live.entries
        (each-entry (λ j x. has_one_of n a peer (seen j x) ≡ false) live.entries kept.unique
        (λ j x there. not-its j x there e f g)))

module _ (live : Live) (ends : Ends) (q : List End) (xs : List Connection) (n a : ℕ) (peer : End)
    (kept : MapsAgree live ends q) (view : seen_in_order live.entries ≡ xs)
    (far : is_far peer ≡ true) where
  -- the number is
  pub taken-first : is_some (get nat_eq live n) ≡ true → true ≡ is_taken n a peer xs
  taken-first e =
      sym (ap (λ b. b || (is_some (number_at ends (end.Ap a)) || is_some (number_at ends peer))) e)
      ∙ taken-by live ends q xs n a peer kept view far

  -- the CPort of the application processor is
  pub taken-second : is_some (get nat_eq live n) ≡ false
      → is_some (number_at ends (end.Ap a)) ≡ true → true ≡ is_taken n a peer xs
  taken-second e f =
      sym (ap (λ b. b || (is_some (number_at ends (end.Ap a)) || is_some (number_at ends peer))) e
      ∙ ap (λ b. b || is_some (number_at ends peer)) f)
      ∙ taken-by live ends q xs n a peer kept view far

  -- the far end is, or none is
  pub taken-last : is_some (get nat_eq live n) ≡ false
      → is_some (number_at ends (end.Ap a)) ≡ false
      → is_some (number_at ends peer) ≡ is_taken n a peer xs
  taken-last e f =
      sym (ap (λ b. b || (is_some (number_at ends (end.Ap a)) || is_some (number_at ends peer))) e
      ∙ ap (λ b. b || is_some (number_at ends peer)) f)
      ∙ taken-by live ends q xs n a peer kept view far

-- neither the number nor an end is that of a live connection
pub record AreFree (live : Live) (ends : Ends) (n a : ℕ) (peer : End) : Type 0 where
  pub number : get nat_eq live n ≡ None
  pub near : number_at ends (end.Ap a) ≡ None
  pub far : number_at ends peer ≡ None

pub are-free : (live : Live) (ends : Ends) (q : List End) (xs : List Connection) (n a : ℕ)
    (peer : End) → MapsAgree live ends q → seen_in_order live.entries ≡ xs → is_far peer ≡ true
    → is_taken n a peer xs ≡ false → AreFree live ends n a peer
are-free live ends q xs n a peer kept view far free =
    let none = none-of (is_some (get nat_eq live n)) (is_some (number_at ends (end.Ap a)))
    (is_some (number_at ends peer)) (taken-by live ends q xs n a peer kept view far ∙ free) in
    record {
      number = none-there (get nat_eq live n) (is_some (get nat_eq live n)) refl none.first;
      near = none-there (number_at ends (end.Ap a)) (is_some (number_at ends (end.Ap a))) refl
          none.second;
      far = none-there (number_at ends peer) (is_some (number_at ends peer)) refl none.third;
    }

-- ---- in a bus that stands for the machine's

-- it is seen without the requests of sides
taken-seen : (n a : ℕ) (peer : End) (xs : List Connection)
    → is_taken n a peer (map without_ops xs) ≡ is_taken n a peer xs
taken-seen n a peer [] = refl
taken-seen n a peer (x ∷ xs) = ap (λ b. has_one_of n a peer x || b) (taken-seen n a peer xs)

none-shown : (rs : List Request) (n a : ℕ) (peer : End) (cs : List machine.Connection)
    → Each (λ c. has_one_of n a peer (connection_in rs c) ≡ false) cs
    → is_taken n a peer (map (connection_in rs) cs) ≡ false
none-shown rs n a peer [] h = refl
none-shown rs n a peer (c ∷ cs) h =
    ap (λ b. b || is_taken n a peer (map (connection_in rs) cs)) h.0
    ∙ none-shown rs n a peer cs h.1

-- Nothing is taken where no connection of the machine has one of the ends.
pub untaken : (around : Around) (x : Bus) (b : machine.Bus) (a i c : ℕ) → Stands around x b
    → MayAttach a i c b → is_taken_on x a i c ≡ false
untaken around x b a i c s may =
    sym (taken-seen (x.made + 1) a (end.Module i c) x.connections)
    ∙ ap (is_taken (x.made + 1) a (end.Module i c)) s.shows.connections
    ∙ none-shown b.requests (x.made + 1) a (end.Module i c) b.connections
    (each-from (λ d. has_one_of (x.made + 1) a (end.Module i c) (connection_in b.requests d)
    ≡ false) b.connections not-its)
  where
    not-its : (d : machine.Connection) → IsIn d b.connections
        → has_one_of (x.made + 1) a (end.Module i c) (connection_in b.requests d) ≡ false
    not-its d live =
        let own = each-in (IsOther a i c) b.connections d may live in
        let range = each-in (IsMade b) b.connections d s.facts.fits.numbers.range live in
        let made = s.shows.made in
        or-three (eqb d.number (x.made + 1)) (eqb d.ap a) (same_end d.peer (end.Module i c))
        (ne_eqb d.number (x.made + 1)
        (λ e. let low = range.1 in absurd (omega (arith, e, low, made))))
        (ne_eqb d.ap a own.ap) own.peer
