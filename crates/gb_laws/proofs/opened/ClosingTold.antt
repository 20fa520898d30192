-- Where it is told at a moment that a connection is closing, the application processor's side of it
-- isn't open after that, and so no request of its own is.
use Rattle.std.proofs.Common.{Bool, List, Some, ℕ, ap, append-nil, append_assoc, arith, false, map}
use Rattle.std.proofs.Common.{refl, subst, sym, true, [], ⊎_elim, ◌++◌, ◌∙◌, ◌∷◌, ◌≡◌, ◌≢◌, ◌⊎◌}
use Rattle.std.specs.Prelude.{option_map, ◌||◌}
use Rattle.gb_base.specs.declared.entry.{Entry.Entry}
use Rattle.gb_base.specs.declared.end.Side.TheVariants as side
use Rattle.gb_base.specs.declared.entry.ConnState.TheVariants as state
use Rattle.gb_base.specs.declared.entry.Entry.TheVariants as entry
use Rattle.gb_machine.specs.Bus.{Bus, Connection, is_open, next_number}
use Rattle.gb_machine.specs.Members.{Each, IsIn}
use Rattle.gb_machine.specs.Requests.{is_given_up, open_on}
use Rattle.gb_machine.specs.Runs.{IsMoment, Moment, after, told_at}
use Rattle.gb_machine.specs.{Sending.Draft, State.State, Turns.Act, Wires.disconnected_told}
use Rattle.gb_machine.specs.{Wiring.shut_down}
use Rattle.gb_invariants.proofs.BusChanges.{BusChange, Was, bus_after, came, made_by, shut_by}
use Rattle.gb_invariants.proofs.BusChanges.{shuts, stayed, was, went}
use Rattle.gb_invariants.proofs.Lists.{each-append, each-from, each-in, in-behind}
use Rattle.gb_invariants.proofs.Numbers.{found-by_number, found-number}
use Rattle.gb_invariants.proofs.{Awaiting.none-some, Wires.made-number}
use Rattle.gb_invariants.specs.{Facts.NumbersRise}
use Rattle.gb_laws.proofs.points.ChangeBuses.{bus_change, by-bus}
use Rattle.gb_laws.proofs.opened.LedByShut.{AreLed, TellsOf, led-more, led-turn, led-unsent}
use Rattle.gb_laws.proofs.links.LinkKept.{InsertsAbsent, LinkedAt}
use Rattle.gb_laws.proofs.links.LinkRuns.{LinkedTo, start-absent}
use Rattle.gb_laws.proofs.links.LinkSides.{is_shut, shut-self, shut_of}
use Rattle.gb_laws.proofs.opened.OpenRuns.{OpensTo, open-there, opens-throughout, opens_law}
use Rattle.gb_laws.proofs.points.PointParts.{Basis, Point, asked_told, is_silent, resting}
use Rattle.gb_laws.proofs.points.PointParts.{sent_told}
use Rattle.gb_laws.proofs.points.Points.{Change, IsAsking, Law, acts_asked, acts_failed, acts_left}
use Rattle.gb_laws.proofs.points.Points.{acts_made, acts_shut, acts_told, answers, asking, asks}
use Rattle.gb_laws.proofs.points.Points.{changed}
use Rattle.gb_laws.proofs.points.Points.{drops, gives_up, injects, names, opening, replies, tells}
use Rattle.gb_laws.proofs.points.Points.{turns}
use Rattle.gb_laws.proofs.points.Points.{unwires, upon}
use Rattle.gb_laws.proofs.runs.Runs.{HoldsAtMoments, at_each}
use Rattle.gb_laws.proofs.opened.ToldLinks.{Matches, ToldAt}
use Rattle.gb_laws.proofs.opened.ToldRuns.{ToldTo, told-throughout, told_law}
use Rattle.gb_laws.proofs.{ends.Answering.same-rest, links.Links.ArePending, opened.Opens.Opens}
use Rattle.gb_laws.proofs.{steps.Steps.over-step}
use Rattle.gb_machine.specs.LawsDraining.{ClosingLeavesNoneOpen}

-- the application processor's side of connection n isn't open
abbrev IsUnopen : Bus → ℕ → Type 0
IsUnopen b n = shut_of n b ≢ Some false

-- ---- it stays so

-- a side that is open was open, but where the connection is new
open-before : (x : BusChange) (b : Bus) (n : ℕ) → NumbersRise b
    → ((c : Connection) → made_by x b ≡ Some c → c.number ≢ n)
    → shut_of n (bus_after x b) ≡ Some false → shut_of n b ≡ Some false
open-before x b n numbers other e =
    let o = open-there n (bus_after x b) e in
    let f = found-number n (bus_after x b) o.0 o.1 in
    by o.0 f.1 o.2 (was x b o.0 f.0)
  where
    there : (c : Connection) → IsIn c b.connections → c.number ≡ n → c.shut ≡ false
        → shut_of n b ≡ Some false
    there c live on open_ = subst (λ k. shut_of k b ≡ Some false) on
        (ap (option_map is_shut) (found-by_number b.connections c numbers.rise live)
        ∙ ap Some open_)

    unshut : (y : BusChange) (t : Bool) → shut_by y t ≡ false → t ≡ false
    unshut (shuts k) t e = absurd cc
    unshut _ t e = e

    by : (c : Connection) → c.number ≡ n → c.shut ≡ false → Was x b c → shut_of n b ≡ Some false
    by c on open_ (stayed live) = there c live on open_
    by c on open_ (went d live at is g) =
        there d live (sym g.ends.number ∙ on) (unshut x d.shut (sym g.shut ∙ open_))
    by c on open_ (came made) = absurd (other c made on)

unopen-stays : {m : Moment} {a : Point} (x : Change m a) → Basis a → (n : ℕ)
    → ((c : Connection) → made_by (bus_change x) a.state.bus ≡ Some c → c.number ≢ n)
    → IsUnopen a.state.bus n → IsUnopen (changed m a x).state.bus n
unopen-stays {m} {a} x basis n other shut = by-bus (λ b. IsUnopen b n) x
    (λ e. shut (open-before (bus_change x) a.state.bus n basis.bus.numbers other e))

-- what was told stays so
told-stays : {m : Moment} {a : Point} (x : Change m a) → Basis a → (e : Entry)
    → Matches a.state.bus e → TellsOf (IsUnopen a.state.bus) e
    → TellsOf (IsUnopen (changed m a x).state.bus) e
told-stays {m} {a} x basis (entry.Connection k own i c state.Closing) match t =
    unopen-stays x basis k
    (λ d made on. let low = match.0 in let new = made-number (bus_change x) a.state.bus d made in
    absurd (omega (arith, low, new, on))) t
told-stays x basis e match t = tt

-- what is to be told does too, where no connection is made
acts-stay : {m : Moment} {a : Point} (x : Change m a) → Basis a
    → ((c : Connection) → made_by (bus_change x) a.state.bus ≡ Some c → ⊥) → (acts : List Act)
    → AreLed (IsUnopen a.state.bus) acts → AreLed (IsUnopen (changed m a x).state.bus) acts
acts-stay {m} {a} x basis none acts led =
    led-more (IsUnopen a.state.bus) (IsUnopen (changed m a x).state.bus) acts
    (λ n s. unopen-stays x basis n (λ c made on. none c made) s) led

-- ---- what was told at the moment so far

record IsSoFar (m : Moment) (a : Point) : Type 0 where
  new : List Entry
  told : a.told ≡ m.told ++ new
  closing : Each (TellsOf (IsUnopen a.state.bus)) new
  acts : AreLed (IsUnopen a.state.bus) a.pending

so-far : {m : Moment} {a : Point} (x : Change m a) (es : List Entry) → Basis a → ToldAt a
    → (changed m a x).told ≡ a.told ++ es
    → Each (TellsOf (IsUnopen (changed m a x).state.bus)) es
    → AreLed (IsUnopen (changed m a x).state.bus) (changed m a x).pending
    → IsSoFar m a → IsSoFar m (changed m a x)
so-far {m} {a} x es basis said told more acts h = record {
  new = h.new ++ es;
  told = told ∙ ap (λ l. l ++ es) h.told ∙ append_assoc m.told h.new es;
  closing = each-append (TellsOf (IsUnopen (changed m a x).state.bus)) h.new es
      (each-from (TellsOf (IsUnopen (changed m a x).state.bus)) h.new
      (λ e i. told-stays x basis e
      (each-in (Matches a.state.bus) a.told e said.told
      (subst (IsIn e) (sym h.told) (in-behind e m.told h.new i)))
      (each-in (TellsOf (IsUnopen a.state.bus)) h.new e h.closing i)))
      more;
  acts = acts;
}

-- ---- what is told

silent-so : (So : ℕ → Type 0) (e : Entry) → is_silent e ≡ true → TellsOf So e
silent-so So (entry.Connection k own i c state) silent = absurd cc
silent-so So _ silent = tt

asked-so : (So : ℕ → Type 0) (d : Draft) (c : Connection) (label : ℕ) (b : Bus)
    → Each (TellsOf So) (asked_told d c label b)
asked-so So d c label b = (tt, by d.oneway)
  where
    by : (t : Bool) → Each (TellsOf So) (sent_told t (next_number b))
    by true = (tt, tt)
    by false = tt

ends-so : (So : ℕ → Type 0) (ns : List ℕ) → Each (TellsOf So) (map disconnected_told ns)
ends-so So [] = tt
ends-so So (n ∷ ns) = (tt, ends-so So ns)

-- ---- each single change

so-far-kept : (m : Moment) (a : Point) (x : Change m a) → Basis a → LinkedAt a → ToldAt a
    → IsSoFar m a → IsSoFar m (changed m a x)
so-far-kept m a (tells e silent) basis links said h =
    so-far (tells e silent) (e ∷ []) basis said refl (silent-so _ e silent, tt) h.acts h
so-far-kept m a (asks d c label free live drawn who) basis links said h =
    let x = asks d c label free live drawn who in
    so-far x (asked_told d c label a.state.bus) basis said refl
    (asked-so _ d c label a.state.bus)
    (acts-stay x basis (λ e made. none-some made) a.pending h.acts) h
so-far-kept m a (names name d c label free live drawn host) basis links said h =
    let x = names name d c label free live drawn host in
    so-far x (asked_told d c label a.state.bus) basis said refl
    (asked-so _ d c label a.state.bus)
    (acts-stay x basis (λ e made. none-some made) a.pending h.acts) h
so-far-kept m a drops basis links said h =
    so-far drops [] basis said (sym (append-nil a.told)) tt h.acts h
so-far-kept m a (replies y q r is made twoway) basis links said h =
    let x = replies y q r is made twoway in
    so-far x (_ ∷ []) basis said refl (tt, tt)
    (acts-stay x basis (λ e new. none-some new) a.pending h.acts) h
so-far-kept m a (answers y n result payload is says which) basis links said h =
    let x = answers y n result payload is says which in
    so-far x (_ ∷ []) basis said refl (tt, tt)
    (acts-stay x basis (λ e made. none-some made) a.pending h.acts) h
so-far-kept m a (gives_up n how free unended cause) basis links said h =
    let x = gives_up n how free unended cause in
    so-far x (_ ∷ []) basis said refl (tt, tt)
    (acts-stay x basis (λ e made. none-some made) a.pending h.acts) h
so-far-kept m a (unwires k free before live) basis links said h =
    let x = unwires k free before live in
    so-far x (map disconnected_told (open_on k side.Far a.state.bus)) basis said refl
    (ends-so _ (open_on k side.Far a.state.bus))
    (acts-stay x basis (λ e made. none-some made) a.pending h.acts) h
so-far-kept m a (injects i c p bytes free named) basis links said h =
    let x = injects i c p bytes free named in
    so-far x (_ ∷ []) basis said refl (tt, tt)
    (acts-stay x basis (λ e made. none-some made) a.pending h.acts) h
so-far-kept m a (turns e free untouched none cause) basis links said h =
    so-far (turns e free untouched none cause) [] basis said refl tt
    (led-turn (IsUnopen a.state.bus) e a.state.host) h
so-far-kept m a (acts_told e rest is quiet) basis links said h =
    let led = subst (AreLed (IsUnopen a.state.bus)) is h.acts in
    so-far (acts_told e rest is quiet) (e ∷ []) basis said refl (led.0, tt) led.1 h
so-far-kept m a (acts_shut k rest free is cause) basis links said h =
    let x = acts_shut k rest free is cause in
    so-far x (map disconnected_told (open_on k side.Ap a.state.bus)) basis said refl
    (ends-so _ (open_on k side.Ap a.state.bus))
    (led-more (λ n. (n ≡ k) ⊎ IsUnopen a.state.bus n) (IsUnopen (shut_down k a.state.bus)) rest
    (λ n. ⊎_elim (λ e. subst (IsUnopen (shut_down k a.state.bus)) (sym e)
    (shut-self k a.state.bus.connections))
    (λ s. unopen-stays x basis n (λ e made on. none-some made) s))
    (subst (AreLed (IsUnopen a.state.bus)) is h.acts)) h
so-far-kept m a (acts_left k rest free untouched is) basis links said h =
    let x = acts_left k rest free untouched is in
    so-far x [] basis said refl tt
    (acts-stay x basis (λ e made. none-some made) rest
    (subst (AreLed (IsUnopen a.state.bus)) is h.acts)) h
so-far-kept m a (acts_made w q rest free is) basis links said h =
    let x = acts_made w q rest free is in
    so-far x (_ ∷ []) basis said refl (tt, tt)
    (subst (AreLed (IsUnopen (changed m a x).state.bus))
    (sym (subst (ArePending a.state.host) is links.pending).0.1) tt) h
so-far-kept m a (acts_asked q n rest is) basis links said h =
    let x = acts_asked q n rest is in
    so-far x [] basis said refl tt
    (acts-stay x basis (λ e made. none-some made) rest
    (subst (AreLed (IsUnopen a.state.bus)) is.0 h.acts)) h
so-far-kept m a (acts_failed q rest is quiet) basis links said h =
    so-far (acts_failed q rest is quiet) _ basis said refl
    (led-unsent (IsUnopen a.state.bus) q.purpose a.state.host) (by is) h
  where
    by : IsAsking q a.pending rest → AreLed (IsUnopen a.state.bus) rest
    by (asking e) = subst (AreLed (IsUnopen a.state.bus)) e h.acts
    by (opening w e) = subst (AreLed (IsUnopen a.state.bus)) e h.acts
so-far-kept m a x basis links said h =
    so-far x [] basis said refl tt
    (acts-stay x basis (λ e made. none-some made) a.pending h.acts) h

-- ---- the law

abbrev closing_law : (m : Moment) → InsertsAbsent m → Law m
closing_law m absent =
    upon (told_law m absent) (IsSoFar m) (λ a x g h. so-far-kept m a x g.0.0 g.0.1 g.1 h)

-- what it stands on
record ClosingTo (told : List Entry) (s : State) : Type 0 where
  said : ToldTo told s
  opens : OpensTo told s

leaves-none : (m : Moment) → IsMoment m.event → ClosingTo m.told m.before
    → ClosingLeavesNoneOpen m
leaves-none m one start k n r closing made on ap_side = by (is_open n (after m).bus) refl
  where
    links : LinkedTo m.told m.before
    links = start.said.links

    told : (w : _) × (closing_law m (start-absent m links)).holds
        (record (resting (m.told ++ told_at m) (after m)) { wires = w })
    told = over-step m (closing_law m (start-absent m links)) one (
      ((links.0, links.1), start.said.said),
      record { new = []; told = sym (append-nil m.told); closing = tt; acts = tt },
    )

    unopen : IsUnopen (after m).bus k
    unopen =
        let h = told.1.1 in
        let e = entry.Connection k closing.0 closing.1 closing.2 state.Closing in
        each-in (TellsOf (IsUnopen (after m).bus)) h.new e h.closing
        (subst (IsIn e) (same-rest m.told (told_at m) h.new h.told) closing.3)

    opens : Opens (after m).bus (after m).host []
    opens = (over-step m (opens_law m (start-absent m links)) one
        ((links.0, links.1), start.opens.opens)).1.1

    by : (t : Bool) → is_open n (after m).bus ≡ t → t ≡ false
    by false e = refl
    by true e = absurd (unopen (subst (λ j. shut_of j (after m).bus ≡ Some false) on
        (opens.upon n r made (ap (λ t. t || is_given_up n (after m).bus) e) ap_side).open_))

-- No request of the application processor is open where it is told that its connection is closing.
pub closing-none_open : HoldsAtMoments ClosingLeavesNoneOpen
closing-none_open = at_each ClosingTo ClosingLeavesNoneOpen
    (λ es are. record { said = told-throughout es are; opens = opens-throughout es are })
    leaves-none
