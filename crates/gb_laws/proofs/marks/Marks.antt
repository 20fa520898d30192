-- The insertions and removals that the supervisory controller has told and that wait to be handled.
use Rattle.std.proofs.Common.{Bool, List, None, Option, Some, ap, append-nil, append_assoc, arith}
use Rattle.std.proofs.Common.{false, inl, inr, refl, sym, true, ℕ, [], ◌++◌, ◌∙◌, ◌∷◌, ◌≡◌, ◌≢◌}
use Rattle.std.proofs.lemmas.List.Folds.{list_any-append}
use Rattle.std.specs.List.{find, list_any}
use Rattle.std.specs.Prelude.{if◌then◌else◌, is_some, map, option_map, ◌&&◌, ◌==◌, ◌||◌}
use Rattle.gb_base.specs.declared.end.Side.TheVariants as side
use Rattle.gb_base.specs.declared.host_event.HostEvent.TheVariants as host_event
use Rattle.gb_base.specs.declared.host_event.HostEvent.{HostEvent}
use Rattle.gb_base.specs.declared.interface.Interface.{Interface}
use Rattle.gb_machine.specs.Bus.{Ask, Bus, Connection, Item, Raw, RawReply, Reply, Request}
use Rattle.gb_machine.specs.Bus.{has_number, next_number, queue, request_of}
use Rattle.gb_machine.proofs.Lists.{nth-past}
use Rattle.gb_machine.specs.Host.{Host, first_host, interface_of, interfaces_of}
use Rattle.gb_machine.specs.{HostServing.serves_svc, Lists.at_first, Members.EachTwo}
use Rattle.gb_machine.specs.{Members.IsIn}
use Rattle.gb_machine.specs.{State.State, SvcQueues.is_told, SvcQueues.items_in}
use Rattle.gb_machine.specs.{SvcQueues.svc_items}
use Rattle.gb_machine.specs.Lists.{is_within}
use Rattle.gb_invariants.proofs.Awaiting.{none-some, not-both, same-some}
use Rattle.gb_invariants.proofs.{BusChanges.KeepsRequests, Found.found-first}
use Rattle.gb_invariants.proofs.{Outcomes.is-same, Outcomes.same-number}
use Rattle.gb_invariants.proofs.ModuleHosts.{in-module}
use Rattle.gb_laws.proofs.marks.Wholes.{AreElsewhere, AreWhole, IsRange, plugged_at}

-- what a request of the supervisory controller makes the application processor take notice of
abbrev pub notice_of : ℕ → List ℕ → Option HostEvent
notice_of kind payload = (serves_svc kind payload first_host).notices

-- What is told of an interface: its module came, or a module went, be it its own or another one.
-- A module is named by its primary interface.
pub data Mark : Type 0 where
  came : ℕ → Mark
  went : ℕ → Bool → Mark

-- the mark of an interface in what is noticed, where it is known whether it tells that this
-- was pulled
abbrev pub mark_in : ℕ → Bool → Option HostEvent → List Mark
mark_in i own (Some (host_event.Inserted p count)) =
    if is_within p count i then came p ∷ [] else []
mark_in i own (Some (host_event.Removed p)) = went p own ∷ []
mark_in i own _ = []

abbrev pub request_mark : ℕ → Bool → Option Request → List Mark
request_mark i own None = []
request_mark i own (Some r) = mark_in i own (notice_of r.kind r.payload)

abbrev pub item_mark : ℕ → List (ℕ × ℕ) → Bus → Item → List Mark
item_mark i ps b (Ask n) = request_mark i (is_told n i ps) (request_of n b)
item_mark i ps b _ = []

abbrev pub marks_of : ℕ → List (ℕ × ℕ) → Bus → List Item → List Mark
marks_of i ps b [] = []
marks_of i ps b (x ∷ xs) = item_mark i ps b x ++ marks_of i ps b xs

-- What was told of an interface and waits to be handled, in order.
abbrev pub marks : ℕ → List (ℕ × ℕ) → Bus → List Mark
marks i ps b = marks_of i ps b (svc_items side.Ap b)

-- the module that the application processor knows at an interface
abbrev pub known_at : ℕ → Host → Option ℕ
known_at i h = option_map (λ (x : Interface). x.primary) (interface_of i h)

-- Marks are read from the module that is known at an interface. One comes only where none is known.
-- One that goes from the interface is no other than the one that is known, and one that goes from
-- elsewhere is another. What is known at the end is plugged.
abbrev pub Reads : Option ℕ → List Mark → Option ℕ → Type 0
Reads known [] plugged = (p : ℕ) → known ≡ Some p → plugged ≡ Some p
Reads known (came p ∷ ms) plugged = (known ≡ None) × Reads (Some p) ms plugged
Reads known (went p true ∷ ms) plugged =
    ((q : ℕ) → known ≡ Some q → q ≡ p) × Reads None ms plugged
Reads known (went p false ∷ ms) plugged = (known ≢ Some p) × Reads known ms plugged

-- a request was made that told the removal of a module
pub record IsRemoval (n : ℕ) (b : Bus) : Type 0 where
  pub request : Request
  pub primary : ℕ
  pub made : request_of n b ≡ Some request
  pub notice : notice_of request.kind request.payload ≡ Some (host_event.Removed primary)

-- each request that told that an interface was pulled is one
abbrev pub ArePulled : List (ℕ × ℕ) → Bus → Type 0
ArePulled ps b = (n i : ℕ) → is_told n i ps ≡ true → IsRemoval n b

-- each insertion that the supervisory controller told is of a module that there can be
abbrev pub AreInserted : Bus → Type 0
AreInserted b = (n : ℕ) (r : Request) → request_of n b ≡ Some r → r.connection ≡ 1
    → r.side ≡ side.Far → (p count : ℕ)
    → notice_of r.kind r.payload ≡ Some (host_event.Inserted p count) → IsRange p count

-- Insertions and removals come in turn, and none before the supervisory controller has started.
-- What is plugged is whole.
pub record MarksFit (s : State) : Type 0 where
  pub reads : (i : ℕ) → Reads (known_at i s.host) (marks i s.past.pulled s.bus)
      (plugged_at i s.modules)
  pub unstarted : s.booted ≡ false
      → (i : ℕ) → (marks i s.past.pulled s.bus ≡ []) × (interface_of i s.host ≡ None)
  pub differ : EachTwo AreElsewhere s.modules
  pub pulled : ArePulled s.past.pulled s.bus
  pub whole : AreWhole s.modules
  pub told : AreInserted s.bus

-- ---- what is known

pub known-there : (i : ℕ) (h : Host) → is_some (interface_of i h) ≡ true
    → (p : ℕ) × (known_at i h ≡ Some p)
known-there i h e = by (interface_of i h) e
  where
    by : (o : Option Interface) → is_some o ≡ true
        → (p : ℕ) × (option_map (λ (x : Interface). x.primary) o ≡ Some p)
    by None g = absurd (not-both false g refl)
    by (Some x) g = (x.primary, refl)

-- it is one of the interfaces of its module
pub known-in : (i p : ℕ) (h : Host) → known_at i h ≡ Some p → IsIn i (interfaces_of p h)
known-in i p h e = by (interface_of i h) refl e
  where
    by : (o : Option Interface) → interface_of i h ≡ o
        → option_map (λ (x : Interface). x.primary) o ≡ Some p → IsIn i (interfaces_of p h)
    by None f g = absurd (none-some g)
    by (Some x) f g = in-module p i h x f (same-some x.primary p g)

-- nothing is known
pub known-none : (i : ℕ) (h : Host) → known_at i h ≡ None → interface_of i h ≡ None
known-none i h e = by (interface_of i h) e
  where
    by : (o : Option Interface) → option_map (λ (x : Interface). x.primary) o ≡ None → o ≡ None
    by None f = refl
    by (Some x) f = absurd (none-some (sym f))

-- ---- reading

-- where less is known
pub reads-less : {known : Option ℕ} (less : Option ℕ) (ms : List Mark) (plugged : Option ℕ)
    → ((p : ℕ) → less ≡ Some p → known ≡ Some p) → Reads known ms plugged → Reads less ms plugged
reads-less less [] plugged h r = λ p e. r p (h p e)
reads-less {known} less (came p ∷ ms) plugged h r = (by less refl, r.1)
  where
    by : (o : Option ℕ) → less ≡ o → o ≡ None
    by None e = refl
    by (Some q) e = absurd (none-some (sym r.0 ∙ h q e))
reads-less less (went p true ∷ ms) plugged h r = (λ q e. r.0 q (h q e), r.1)
reads-less less (went p false ∷ ms) plugged h r =
    (λ e. r.0 (h p e), reads-less less ms plugged h r.1)

-- where nothing is plugged at the end, something is plugged and told
pub reads-told : (known : Option ℕ) (ms : List Mark) (p : ℕ) → Reads known ms None
    → Reads known (ms ++ came p ∷ []) (Some p)
reads-told known [] p r = (by known r, λ q e. e)
  where
    by : (o : Option ℕ) → ((q : ℕ) → o ≡ Some q → None ≡ Some q) → o ≡ None
    by None h = refl
    by (Some q) h = absurd (none-some (h q refl))
reads-told known (came q ∷ ms) p r = (r.0, reads-told (Some q) ms p r.1)
reads-told known (went q true ∷ ms) p r = (r.0, reads-told None ms p r.1)
reads-told known (went q false ∷ ms) p r = (r.0, reads-told known ms p r.1)

-- what was plugged goes, and this is told
pub reads-removed : (known : Option ℕ) (ms : List Mark) (p : ℕ) (plugged after : Option ℕ)
    → ((q : ℕ) → plugged ≡ Some q → q ≡ p) → Reads known ms plugged
    → Reads known (ms ++ went p true ∷ []) after
reads-removed known [] p plugged after own r =
    (λ q e. own q (r q e), λ q e. absurd (none-some e))
reads-removed known (came q ∷ ms) p plugged after own r =
    (r.0, reads-removed (Some q) ms p plugged after own r.1)
reads-removed known (went q true ∷ ms) p plugged after own r =
    (r.0, reads-removed None ms p plugged after own r.1)
reads-removed known (went q false ∷ ms) p plugged after own r =
    (r.0, reads-removed known ms p plugged after own r.1)

-- another module goes than the one that is plugged
pub reads-other : (known : Option ℕ) (ms : List Mark) (p : ℕ) (plugged : Option ℕ)
    → plugged ≢ Some p → Reads known ms plugged → Reads known (ms ++ went p false ∷ []) plugged
reads-other known [] p plugged other r = (λ e. other (r p e), r)
reads-other known (came q ∷ ms) p plugged other r =
    (r.0, reads-other (Some q) ms p plugged other r.1)
reads-other known (went q true ∷ ms) p plugged other r =
    (r.0, reads-other None ms p plugged other r.1)
reads-other known (went q false ∷ ms) p plugged other r =
    (r.0, reads-other known ms p plugged other r.1)

-- something is plugged where nothing was
pub reads-plugged : (known : Option ℕ) (ms : List Mark) (plugged : Option ℕ) → Reads known ms None
    → Reads known ms plugged
reads-plugged known [] plugged r = λ p e. absurd (none-some (r p e))
reads-plugged known (came q ∷ ms) plugged r = (r.0, reads-plugged (Some q) ms plugged r.1)
reads-plugged known (went q true ∷ ms) plugged r = (r.0, reads-plugged None ms plugged r.1)
reads-plugged known (went q false ∷ ms) plugged r = (r.0, reads-plugged known ms plugged r.1)

-- ---- marks of items

pub marks-append : (i : ℕ) (ps : List (ℕ × ℕ)) (b : Bus) (xs ys : List Item)
    → marks_of i ps b (xs ++ ys) ≡ marks_of i ps b xs ++ marks_of i ps b ys
marks-append i ps b [] ys = refl
marks-append i ps b (x ∷ xs) ys = ap (λ ms. item_mark i ps b x ++ ms) (marks-append i ps b xs ys)
    ∙ sym (append_assoc (item_mark i ps b x) (marks_of i ps b xs) (marks_of i ps b ys))

-- one more that is no mark
pub marks-unmarked : (i : ℕ) (ps : List (ℕ × ℕ)) (b : Bus) (xs : List Item) (y : Item)
    → item_mark i ps b y ≡ []
    → marks_of i ps b (xs ++ y ∷ []) ≡ marks_of i ps b xs
marks-unmarked i ps b xs y e = marks-append i ps b xs (y ∷ [])
    ∙ ap (λ ms. marks_of i ps b xs ++ (ms ++ [])) e ∙ append-nil (marks_of i ps b xs)

-- the requests of items were made
abbrev pub AreAsked : Bus → List Item → Type 0
AreAsked b xs = (n : ℕ) → IsIn (Ask n) xs → (r : Request) × (request_of n b ≡ Some r)

-- where more requests were made
pub marks-more : (i : ℕ) (ps : List (ℕ × ℕ)) (b after : Bus) (xs : List Item)
    → KeepsRequests b after → AreAsked b xs
    → marks_of i ps after xs ≡ marks_of i ps b xs
marks-more i ps b after [] keeps asked = refl
marks-more i ps b after (x ∷ xs) keeps asked =
    ap (λ ms. ms ++ marks_of i ps after xs) (one x (λ n e. asked n (inl (sym e))))
    ∙ ap (λ ms. item_mark i ps b x ++ ms)
    (marks-more i ps b after xs keeps (λ n j. asked n (inr j)))
  where
    one : (y : Item) → ((n : ℕ) → y ≡ Ask n → (r : Request) × (request_of n b ≡ Some r))
        → item_mark i ps after y ≡ item_mark i ps b y
    one (Ask n) made = let m = made n refl in
        ap (request_mark i (is_told n i ps)) (keeps n m.0 m.1 ∙ sym m.1)
    one (Reply n result payload) made = refl
    one (Raw bytes) made = refl
    one (RawReply label kind result payload) made = refl

-- ---- marks on a bus

-- where a connection changes that isn't the supervisory controller's, or keeps its marks
pub marks-first : (i : ℕ) (ps : List (ℕ × ℕ)) (b : Bus) (k : ℕ)
    (f : Connection → Connection) (cs : List Connection)
    → ((c : Connection) → (f c).number ≡ c.number)
    → ((c : Connection) → IsIn c cs → c.number ≡ k → c.number ≡ 1
    → marks_of i ps b (queue side.Ap (f c)) ≡ marks_of i ps b (queue side.Ap c))
    → marks_of i ps b (items_in side.Ap
    (find (has_number 1) (at_first (has_number k) f cs))) ≡ marks_of i ps b
    (items_in side.Ap (find (has_number 1) cs))
marks-first i ps b k f cs same keeps =
    found-first 1 (λ o. marks_of i ps b (items_in side.Ap o)) k f cs same keeps

-- ---- pulls that are remembered

-- more are remembered
told-append : (k j : ℕ) (ps qs : List (ℕ × ℕ))
    → is_told k j (ps ++ qs) ≡ is_told k j ps || is_told k j qs
told-append k j ps qs = list_any-append (λ p. p.0 == k && p.1 == j) ps qs

-- those of one request
told-of : (n k j : ℕ) (is : List ℕ)
    → is_told k j (map (λ i. (n, i)) is) ≡ n == k && list_any (λ i. i == j) is
told-of n k j [] = last (n == k)
  where
    last : (t : Bool) → false ≡ (t && false)
    last true = refl
    last false = refl
told-of n k j (i ∷ is) = ap (λ t. (n == k && i == j) || t) (told-of n k j is)
    ∙ same (n == k) (i == j) (list_any (λ i. i == j) is)
  where
    same : (t u v : Bool) → ((t && u) || (t && v)) ≡ (t && (u || v))
    same true u v = refl
    same false u v = refl

-- they are those of this request alone
pub told-others : (n : ℕ) (is : List ℕ) (k j : ℕ) (ps : List (ℕ × ℕ)) → (n == k) ≡ false
    → is_told k j (ps ++ map (λ i. (n, i)) is) ≡ is_told k j ps
told-others n is k j ps e = told-append k j ps (map (λ i. (n, i)) is)
    ∙ ap (λ t. is_told k j ps || t) (told-of n k j is
    ∙ ap (λ t. t && list_any (λ i. i == j) is) e) ∙ last (is_told k j ps)
  where
    last : (t : Bool) → (t || false) ≡ t
    last true = refl
    last false = refl

pub told-other : (n i k j : ℕ) (ps : List (ℕ × ℕ)) → (n == k) ≡ false
    → is_told k j (ps ++ (n, i) ∷ []) ≡ is_told k j ps
told-other n i k j ps e = told-others n (i ∷ []) k j ps e

-- and of this interface alone
pub told-elsewhere : (n i k j : ℕ) (ps : List (ℕ × ℕ)) → (i == j) ≡ false
    → is_told k j (ps ++ (n, i) ∷ []) ≡ is_told k j ps
told-elsewhere n i k j ps e = told-append k j ps ((n, i) ∷ [])
    ∙ ap (λ t. is_told k j ps || ((n == k && t) || false)) e ∙ last (n == k) (is_told k j ps)
  where
    last : (t u : Bool) → (u || ((t && false) || false)) ≡ u
    last true true = refl
    last true false = refl
    last false true = refl
    last false false = refl

-- where they are the first of their request
pub told-new : (n : ℕ) (is : List ℕ) (j : ℕ) (ps : List (ℕ × ℕ)) → is_told n j ps ≡ false
    → is_told n j (ps ++ map (λ i. (n, i)) is) ≡ list_any (λ i. i == j) is
told-new n is j ps none = told-append n j ps (map (λ i. (n, i)) is)
    ∙ ap (λ t. t || is_told n j (map (λ i. (n, i)) is)) none ∙ told-of n n j is
    ∙ ap (λ t. t && list_any (λ i. i == j) is) (is-same n)

-- the next request isn't made yet
pub next-none : (b : Bus) → request_of (next_number b) b ≡ None
next-none b = nth-past (next_number b) b.requests (omega arith)

-- a request that wasn't made told nothing
pub untold-yet : (n i : ℕ) (ps : List (ℕ × ℕ)) (b : Bus) → ArePulled ps b → request_of n b ≡ None
    → is_told n i ps ≡ false
untold-yet n i ps b pulled none = by (is_told n i ps) refl
  where
    by : (t : Bool) → is_told n i ps ≡ t → t ≡ false
    by false e = refl
    by true e = absurd (none-some (sym none ∙ (pulled n i e).made))

-- where more requests were made
pub pulled-more : (ps : List (ℕ × ℕ)) (b after : Bus) → KeepsRequests b after → ArePulled ps b
    → ArePulled ps after
pulled-more ps b after keeps pulled n i e = let r = pulled n i e in record {
  request = r.request;
  primary = r.primary;
  made = keeps n r.request r.made;
  notice = r.notice;
}

-- marks stay where pulls are remembered of a request that isn't among them
pub marks-recalled : (n : ℕ) (is : List ℕ) (j : ℕ) (ps : List (ℕ × ℕ)) (b : Bus) (xs : List Item)
    → AreAsked b xs → request_of n b ≡ None
    → marks_of j (ps ++ map (λ i. (n, i)) is) b xs ≡ marks_of j ps b xs
marks-recalled n is j ps b [] asked none = refl
marks-recalled n is j ps b (x ∷ xs) asked none =
    ap (λ ms. ms ++ marks_of j (ps ++ map (λ i. (n, i)) is) b xs)
    (one x (λ k e. asked k (inl (sym e)))) ∙ ap (λ ms. item_mark j ps b x ++ ms)
    (marks-recalled n is j ps b xs (λ k e. asked k (inr e)) none)
  where
    one : (y : Item) → ((k : ℕ) → y ≡ Ask k → (r : Request) × (request_of k b ≡ Some r))
        → item_mark j (ps ++ map (λ i. (n, i)) is) b y ≡ item_mark j ps b y
    one (Ask k) made = by (n == k) refl
      where
        by : (t : Bool) → (n == k) ≡ t
            → item_mark j (ps ++ map (λ i. (n, i)) is) b (Ask k) ≡ item_mark j ps b (Ask k)
        by true e = absurd (none-some (sym none
            ∙ ap (λ m. request_of m b) (same-number n k e) ∙ (made k refl).1))
        by false e = ap (λ t. request_mark j t (request_of k b)) (told-others n is k j ps e)
    one (Reply m result payload) made = refl
    one (Raw bytes) made = refl
    one (RawReply label kind result payload) made = refl
