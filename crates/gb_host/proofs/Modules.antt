-- The turns of the interfaces of a module, one after another.
use Rattle.std.proofs.Common.{◌≡◌, ◌<◌, ℕ, zero, suc, ◌+◌, ◌==◌, Bool, true, false, not, ◌||◌}
use Rattle.std.proofs.Common.{cond, List, [], ◌∷◌, ◌++◌, length, get_or, drop, refl, sym, ap, ◌∙◌}
use Rattle.std.proofs.Common.{append_assoc, append-nil, add-one, drop-cons, arith, subst}
use Rattle.std.proofs.lemmas.Bool.Decides.{nat_tests}
use Rattle.std.specs.List.{filter, list_any}
use Rattle.gb_base.specs.declared.entry.Entry.{Entry}
use Rattle.gb_base.specs.declared.entry.Entry.TheVariants as entry
use Rattle.gb_base.specs.declared.entry.IntfStage.TheVariants as stage
use Rattle.gb_base.specs.declared.interface.Interface.{Interface}
use Rattle.gb_base.specs.declared.interface.Link.{Link}
use Rattle.gb_formats.specs.Images.{Images}
use Rattle.gb_host.proofs.Fronts.{spelled-after}
use Rattle.gb_host.proofs.Numbers.{filter-same}
use Rattle.gb_host.specs.Changes.{with_module}
use Rattle.gb_host.specs.Stands.{host_of}
use Rattle.gb_host.specs.Turning.{Pends, Turns, begins, begun, spelled}
use Rattle.gb_host.specs.declared.acts.Act.{Act}
use Rattle.gb_host.specs.declared.host.Host.{Host}
use Rattle.gb_machine.specs.Host as machine
use Rattle.gb_machine.specs.Host.{all_forgotten, is_intf, with_new_interface}
use Rattle.gb_machine.specs.HostTurns.{host_inserted, host_removed, links_left, links_of}
use Rattle.gb_machine.specs.HostTurns.{one_by_one, without_interface}
use Rattle.gb_machine.specs.Lists.{span, without}
use Rattle.gb_machine.specs.Turns as turns
use Rattle.gb_machine.specs.Turns.{Turn, turn}

-- an application processor by what it knows
abbrev with_parts : List Interface → List Link → Images → machine.Host
with_parts xs ls is = record { interfaces = xs; links = ls; images = is }

-- the acts with one interface more, at the end
pub acts-more : (one : ℕ → machine.Host → Turn) (is : List ℕ) (i : ℕ) (h : machine.Host)
    → (one_by_one one (is ++ i ∷ []) h).acts
    ≡ (one_by_one one is h).acts ++ (one i (one_by_one one is h).host).acts
acts-more one [] i h = append-nil (one i h).acts
acts-more one (j ∷ is) i h =
    ap (λ xs. (one j h).acts ++ xs) (acts-more one is i (one j h).host)
    ∙ sym (append_assoc (one j h).acts _ _)

-- ---- an insertion

-- the enumerations begin, and their interfaces are known
inserted-is : (p : ℕ) (is : List ℕ) (h : machine.Host)
    → one_by_one (host_inserted p) is h
    ≡ turn (with_parts (with_module p is h.interfaces) h.links h.images) (begun is)
inserted-is p [] h = refl
inserted-is p (i ∷ is) h =
    ap (λ (t : Turn). turn t.host (begins i ++ t.acts))
    (inserted-is p is (with_new_interface p i h))

-- they make no connection
begun-pends : (is : List ℕ) (x : Host) → Pends (begun is) x
begun-pends [] x = tt
begun-pends (i ∷ is) x = begun-pends is x

-- the turn of an insertion is done
pub inserted-turns : (p : ℕ) (is : List ℕ) (old new : Host) (front all : List Act)
    → new.interfaces ≡ with_module p is old.interfaces → new.links.items ≡ old.links.items
    → new.images ≡ old.images → all ≡ front ++ spelled (begun is)
    → Turns (one_by_one (host_inserted p) is (host_of old)) front new all
inserted-turns p is old new front all known same given acts =
    subst (λ t. Turns t front new all) (sym (inserted-is p is (host_of old))) (record {
      host = sym (ap (λ xs. with_parts xs new.links.items new.images) known
          ∙ ap (λ ls. with_parts (with_module p is old.interfaces) ls new.images) same
          ∙ ap (with_parts (with_module p is old.interfaces) old.links.items) given);
      acts = acts;
      pending = begun-pends is new;
    })

-- so many numbers, and the next
pub span-more : (p n q : ℕ) → q ≡ p + n → span p n ++ q ∷ [] ≡ span p (suc n)
span-more p zero q e = let same : q ≡ p = omega (arith, e) in ap (λ m. m ∷ []) same
span-more p (suc n) q e = ap (λ ms. p ∷ ms) (span-more (p + 1) n q (omega (arith, e)))

-- ---- a removal

-- what is left and told makes no connection
left-pends : (ls : List Link) (e : Entry) (later : List turns.Act) (x : Host) → Pends later x
    → Pends ((links_left ls ++ turns.Act.Tell e ∷ []) ++ later) x
left-pends [] e later x pends = pends
left-pends (l ∷ ls) e later x pends = left-pends ls e later x pends

removed-pends : (is : List ℕ) (h : machine.Host) (x : Host)
    → Pends (one_by_one host_removed is h).acts x
removed-pends [] h x = tt
removed-pends (i ∷ is) h x =
    left-pends (links_of i h) (entry.Interface i stage.Removed) _ x
    (removed-pends is (without_interface i h) x)

-- the turn of a removal is done
pub removed-turns : (is : List ℕ) (old new : Host) (front all : List Act)
    → host_of new ≡ (one_by_one host_removed is (host_of old)).host
    → all ≡ front ++ spelled (one_by_one host_removed is (host_of old)).acts
    → Turns (one_by_one host_removed is (host_of old)) front new all
removed-turns is old new front all host acts = record {
  host = sym host;
  acts = acts;
  pending = removed-pends is (host_of old) new;
}

-- one interface more is left
pub left-more : (is : List ℕ) (i : ℕ) (h : machine.Host) (front before all : List Act)
    → before ≡ front ++ spelled (one_by_one host_removed is h).acts
    → all ≡ before ++ spelled (host_removed i (one_by_one host_removed is h).host).acts
    → all ≡ front ++ spelled (one_by_one host_removed (is ++ i ∷ []) h).acts
left-more is i h front before all e f =
    let first = (one_by_one host_removed is h).acts in
    let last = (host_removed i (one_by_one host_removed is h).host).acts in
    spelled-after first last front before all e f
    ∙ ap (λ xs. front ++ spelled xs) (sym (acts-more host_removed is i h))

-- one interface is gone, and then those behind it
pub one-gone : (is : List ℕ) (n : ℕ) → n < length is
    → (h : machine.Host) (xs : List Interface) (ls : List Link) (ims : Images)
    → xs ≡ without (is_intf (get_or is n 0)) h.interfaces
    → ls ≡ without (λ l. l.intf == get_or is n 0) h.links
    → ims ≡ all_forgotten (links_of (get_or is n 0) h) h.images
    → (one_by_one host_removed (drop (n + 1) is) (with_parts xs ls ims)).host
    ≡ (one_by_one host_removed (drop n is) h).host
one-gone is n within h xs ls ims e f g =
    let i = get_or is n 0 in
    let later = drop (n + 1) is in
    let split : drop n is ≡ i ∷ later =
    drop-cons is n 0 within ∙ ap (λ m. i ∷ drop m is) (sym (add-one n)) in
    let after : machine.Host → machine.Host = λ j. (one_by_one host_removed later j).host in
    let others = without (is_intf i) h.interfaces in
    ap (λ ys. after (with_parts ys ls ims)) e
    ∙ ap (λ ms. after (with_parts others ms ims)) f
    ∙ ap (λ js. after (with_parts others (without (λ l. l.intf == i) h.links) js)) g
    ∙ ap (λ js. (one_by_one host_removed js h).host) (sym split)

-- the connections of an interface, without those of another
others : (i j : ℕ) (ls : List Link)
    → filter (λ l. l.intf == i) (without (λ l. l.intf == j) ls)
    ≡ cond (not (i == j)) (filter (λ l. l.intf == i) ls) []
others i j ls =
    filter-same (λ (l : Link). not (l.intf == j)) (λ l. l.intf == i) (not (i == j))
    (λ l is. let same : l.intf ≡ i = grind (arith, nat_tests) in ap (λ k. not (k == j)) same) ls

-- the connections of an interface that are left once others are gone, none where it is among them
pub rest-links : (i : ℕ) (gone : List ℕ) (h : machine.Host)
    → links_of i (one_by_one host_removed gone h).host
    ≡ cond (list_any (λ j. i == j) gone) [] (links_of i h)
rest-links i [] h = refl
rest-links i (j ∷ gone) h =
    rest-links i gone (without_interface j h)
    ∙ by (i == j) (list_any (λ k. i == k) gone) (links_of i h)
    (links_of i (without_interface j h)) (others i j h.links)
  where
    by : (t a : Bool) (ls ms : List Link) → ms ≡ cond (not t) ls []
        → cond a [] ms ≡ cond (t || a) [] ls
    by true true ls ms e = refl
    by true false ls ms e = e
    by false true ls ms e = refl
    by false false ls ms e = e
