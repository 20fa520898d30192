-- What is told of ends is what the outcomes are.
use Rattle.std.proofs.Common.{Bool, List, Some, ap, append-nil, append_assoc, ap₂, arith, cond}
use Rattle.std.proofs.Common.{false, inl, inr, map, refl, subst, sym, true, ℕ, ⊎_elim, [], ◌++◌}
use Rattle.std.proofs.Common.{◌+◌, ◌∙◌, ◌∷◌, ◌≡◌}
use Rattle.std.specs.Prelude.{is_some, ◌==◌}
use Rattle.gb_base.specs.declared.bridge.Reading.{Reading}
use Rattle.gb_base.specs.declared.bridge.Reading.TheVariants as reading
use Rattle.gb_base.specs.declared.end.Side.TheVariants as side
use Rattle.gb_base.specs.declared.entry.Entry.{Entry}
use Rattle.gb_base.specs.declared.entry.Entry.TheVariants as entry
use Rattle.gb_base.specs.declared.outcome.Outcome.{Outcome}
use Rattle.gb_base.specs.declared.outcome.Outcome.TheVariants as outcome
use Rattle.gb_machine.specs.Bus.{Bus, Connection, next_number}
use Rattle.gb_machine.specs.LawsEnds.{EndsTold, is_end_of, is_outcome_of}
use Rattle.gb_machine.specs.Members.{Each, IsIn, times}
use Rattle.gb_machine.specs.{Asking.asked, Lists.lookup, Requests.is_of, Requests.open_on}
use Rattle.gb_machine.specs.{Runs.Moment, Sending.Draft, Sending.sent_at_once, State.State}
use Rattle.gb_machine.specs.{Wires.disconnected_told, Wiring.all_ended}
use Rattle.gb_invariants.proofs.Lists.{in-append, in-behind, in-front}
use Rattle.gb_invariants.proofs.{Awaiting.not-both, Counts.times-append, Counts.times-cons}
use Rattle.gb_invariants.proofs.{Outcomes.is-same, Outcomes.open_requests-same}
use Rattle.gb_laws.proofs.basis.Basics.{basis-first, basis-kept, rested}
use Rattle.gb_laws.proofs.points.PointParts.{AreQuiet, Basis, Point, asked_told, is_quiet, resting}
use Rattle.gb_laws.proofs.points.PointParts.{sent_told}
use Rattle.gb_laws.proofs.points.Points.{Change, Law, acts_asked, acts_failed, acts_made}
use Rattle.gb_laws.proofs.points.Points.{acts_shut}
use Rattle.gb_laws.proofs.points.Points.{acts_told, answers, asks, changed, drops, gives_up}
use Rattle.gb_laws.proofs.points.Points.{injects}
use Rattle.gb_laws.proofs.points.Points.{names, replies, tells, unwires}
use Rattle.gb_laws.proofs.runs.Runs.{HoldsByMoments, throughout, weaker}
use Rattle.gb_laws.proofs.{points.Awaited.awaited-rest, points.Silent.silent-quiet}
use Rattle.gb_laws.proofs.{steps.Steps.over-step}

-- What was told of ends is what the outcomes are, and as often.
pub record SaysEnds (told : List Entry) (outcomes : List (ℕ × Outcome)) : Type 0 where
  pub count : (n : ℕ) → times (is_end_of n) told ≡ times (is_outcome_of n) outcomes
  pub said : (n : ℕ) (how : Outcome) → IsIn (n, how) outcomes → (read : Reading)
      × IsIn (entry.Ended n how read) told
  pub kept : (n : ℕ) (how : Outcome) (read : Reading) → IsIn (entry.Ended n how read) told
      → IsIn (n, how) outcomes

-- an entry is no end
abbrev IsNoEnd : Entry → Type 0
IsNoEnd e = (n : ℕ) → is_end_of n e ≡ false

is-end : (n : ℕ) (how : Outcome) (read : Reading) → is_end_of n (entry.Ended n how read) ≡ true
is-end n how read = is-same n

no-end-in : (es : List Entry) (n : ℕ) (how : Outcome) (read : Reading) → Each IsNoEnd es
    → IsIn (entry.Ended n how read) es → ⊥
no-end-in [] n how read h i = i
no-end-in (e ∷ es) n how read h (inl is) =
    not-both (is_end_of n e) (ap (is_end_of n) (sym is) ∙ is-end n how read) (h.0 n)
no-end-in (e ∷ es) n how read h (inr j) = no-end-in es n how read h.1 j

no-end-count : (es : List Entry) (n : ℕ) → Each IsNoEnd es → times (is_end_of n) es ≡ 0
no-end-count [] n h = refl
no-end-count (e ∷ es) n h = ap (λ b. cond b (times (is_end_of n) es + 1) (times (is_end_of n) es))
    (h.0 n) ∙ no-end-count es n h.1

-- where nothing is told of ends
pub says-more : {told : List Entry} (es : List Entry) {outcomes : List (ℕ × Outcome)} → Each IsNoEnd
    es → SaysEnds told outcomes → SaysEnds (told ++ es) outcomes
says-more {told} es quiet h = record {
  count = λ n. times-append (is_end_of n) told es
      ∙ (let c = h.count n in let z = no-end-count es n quiet in omega (arith, c, z));
  said = λ n how i. let r = h.said n how i in (r.0, in-front (entry.Ended n how r.0) told es r.1);
  kept = λ n how read i. ⊎_elim (λ old. h.kept n how read old)
      (λ new. absurd (no-end-in es n how read quiet new))
      (in-append (entry.Ended n how read) told es i);
}

-- two pairs are one
abbrev Pair : ℕ → Outcome → ℕ → Outcome → Type 0
Pair k w n how = let p : ℕ × Outcome = (k, w) in let q : ℕ × Outcome = (n, how) in p ≡ q

pair : (k n : ℕ) (w how : Outcome) → k ≡ n → w ≡ how → Pair k w n how
pair k n w how e f = ap₂ (λ (a : ℕ) (b : Outcome). let p : ℕ × Outcome = (a, b) in p) e f

-- where an end is told
pub says-end : {told : List Entry} {outcomes : List (ℕ × Outcome)} (n : ℕ) (how : Outcome)
    (read : Reading) → SaysEnds told outcomes
    → SaysEnds (told ++ entry.Ended n how read ∷ []) ((n, how) ∷ outcomes)
says-end {told} {outcomes} n how read h = record {
  count = λ k. times-append (is_end_of k) told (entry.Ended n how read ∷ [])
      ∙ (let c = h.count k in let z = times-cons (is_outcome_of k) (n, how) outcomes in omega
      (arith, c, z));
  said = λ k w i. ⊎_elim (λ e. (
    read,
    in-behind (entry.Ended k w read) told (entry.Ended n how read ∷ []) (inl (same k w e)),
  )) (λ old. let r = h.said k w old in
      (r.0, in-front (entry.Ended k w r.0) told (entry.Ended n how read ∷ []) r.1)) i;
  kept = λ k w r i. ⊎_elim (λ old. inr (h.kept k w r old))
      (λ new. ⊎_elim (λ e. inl (back k w r e)) (λ none. absurd none) new)
      (in-append (entry.Ended k w r) told (entry.Ended n how read ∷ []) i);
}
  where
    same : (k : ℕ) (w : Outcome) → Pair k w n how → entry.Ended k w read ≡ entry.Ended n how read
    same k w e = ap (λ (p : ℕ × Outcome). entry.Ended p.0 p.1 read) e

    back : (k : ℕ) (w : Outcome) (r : Reading) → entry.Ended k w r ≡ entry.Ended n how read
        → Pair k w n how
    back k w r e = pair k n w how (number-of e) (outcome-of e)
      where
        number-of : entry.Ended k w r ≡ entry.Ended n how read → k ≡ n
        number-of e = cc

        outcome-of : entry.Ended k w r ≡ entry.Ended n how read → w ≡ how
        outcome-of e = cc

-- where requests are disconnected, one after another
pub says-ended : {told : List Entry} (ns : List ℕ) {outcomes : List (ℕ × Outcome)}
    → SaysEnds told outcomes
    → SaysEnds (told ++ map disconnected_told ns) (all_ended ns outcome.Disconnected outcomes)
says-ended {told} [] {outcomes} h = subst (λ es. SaysEnds es outcomes) (sym (append-nil told)) h
says-ended {told} (n ∷ ns) {outcomes} h =
    subst (λ es. SaysEnds es (all_ended (n ∷ ns) outcome.Disconnected outcomes))
    (append_assoc told (disconnected_told n ∷ []) (map disconnected_told ns)) (says-ended ns
    (says-end n outcome.Disconnected reading.Nothing h))

-- quiet entries are no ends
quiet-no-end : (e : Entry) → is_quiet e ≡ true → IsNoEnd e
quiet-no-end (entry.Ended k how read) quiet n = absurd cc
quiet-no-end entry.Done quiet n = refl
quiet-no-end _ quiet n = refl

quiet-no-ends : (es : List Entry) → AreQuiet es → Each IsNoEnd es
quiet-no-ends [] h = tt
quiet-no-ends (e ∷ es) h = (quiet-no-end e h.0, quiet-no-ends es h.1)

-- what is told where a request is made
says-asked : {told : List Entry} {outcomes : List (ℕ × Outcome)} (d : Draft) (c : Connection)
    (label : ℕ) (b : Bus) → SaysEnds told outcomes → SaysEnds (told ++ asked_told d c label b)
    (sent_at_once d (next_number b) outcomes)
says-asked {told} {outcomes} d c label b h = by d.oneway
  where
    asked_first : SaysEnds (told ++ asked d c label b ∷ []) outcomes
    asked_first = says-more (asked d c label b ∷ []) ((λ n. refl), tt) h

    by : (t : Bool) → SaysEnds (told ++ asked d c label b ∷ sent_told t (next_number b))
        (cond t ((next_number b, outcome.Sent) ∷ outcomes) outcomes)
    by false = asked_first
    by true =
        subst (λ es. SaysEnds es ((next_number b, outcome.Sent) ∷ outcomes))
        (append_assoc told (asked d c label b ∷ [])
        (entry.Ended (next_number b) outcome.Sent reading.Nothing ∷ []))
        (says-end (next_number b) outcome.Sent reading.Nothing asked_first)

-- ---- the law of points

-- what was told at a point is what the outcomes are
abbrev Says : Point → Type 0
Says a = SaysEnds a.told a.state.bus.outcomes

untold : (a : Point) → Says a → SaysEnds (a.told ++ []) a.state.bus.outcomes
untold a h = says-more [] tt h

says-kept : (m : Moment) (a : Point) (x : Change m a) → Says a → Says (changed m a x)
says-kept m a (tells e quiet) h =
    says-more (e ∷ []) (quiet-no-end e (silent-quiet e quiet), tt) h
says-kept m a (asks d c label free live drawn who) h =
    says-asked d c label a.state.bus h
says-kept m a (names name d c label free live drawn host) h =
    says-asked d c label a.state.bus h
says-kept m a drops h = h
says-kept m a (replies x q r is made twoway) h =
    says-more _ ((λ n. refl), tt) h
says-kept m a (answers x n result payload is says which) h =
    says-end n _ _ h
says-kept m a (gives_up n how free unended cause) h =
    says-end n how reading.Nothing h
says-kept m a (unwires k free before live) h =
    subst (λ ns. SaysEnds (a.told ++ map disconnected_told (open_on k side.Far a.state.bus))
    (all_ended ns outcome.Disconnected a.state.bus.outcomes))
    (sym (open_requests-same (is_of k side.Far) a.state.bus _))
    (says-ended (open_on k side.Far a.state.bus) h)
says-kept m a (injects i c p bytes free named) h =
    says-more _ ((λ n. refl), tt) h
says-kept m a (acts_told e rest is quiet) h =
    says-more (e ∷ []) (quiet-no-end e quiet, tt) h
says-kept m a (acts_shut k rest free is cause) h =
    subst (λ ns. SaysEnds (a.told ++ map disconnected_told (open_on k side.Ap a.state.bus))
    (all_ended ns outcome.Disconnected a.state.bus.outcomes))
    (sym (open_requests-same (is_of k side.Ap) a.state.bus _))
    (says-ended (open_on k side.Ap a.state.bus) h)
says-kept m a (acts_made w q rest free is) h =
    says-more _ ((λ n. refl), tt) h
says-kept m a (acts_asked q n rest is) h =
    subst (λ (b : Bus). SaysEnds (a.told ++ []) b.outcomes)
    (sym (awaited-rest q.purpose n).bus) (untold a h)
says-kept m a (acts_failed q rest is quiet) h =
    says-more _ (quiet-no-ends _ quiet) h
says-kept m a _ h =
    untold a h

-- ---- the laws

-- the basis, and what is told of ends
abbrev AreToldEnds : Point → Type 0
AreToldEnds a = Basis a × Says a

abbrev ends_law : (m : Moment) → Law m
ends_law m = record {
  holds = AreToldEnds;
  basis = λ a h. h.0;
  kept = λ a x h. (basis-kept a x h.0, says-kept m a x h.1);
}

abbrev pub ToldAt : List Entry → State → Type 0
ToldAt told s = AreToldEnds (resting told s)

pub ends-throughout : HoldsByMoments ToldAt
ends-throughout = throughout ToldAt (
  basis-first,
  record {
    count = λ n. refl;
    said = λ n how i. absurd i;
    kept = λ n how read i. absurd i;
  },
) (λ m one h. let r = over-step m (ends_law m) one h in (rested _ _ r.0 r.1.0, r.1.1))

-- What is told of ends is what the outcomes are.
pub ends-told_by_moments : HoldsByMoments EndsTold
ends-told_by_moments = weaker ToldAt EndsTold (λ told s h. record {
  said = λ n how i other. h.1.said n how i;
  kept = h.1.kept;
  made = λ n how i. h.0.bus.outcomes.made n (found n how s.bus.outcomes i);
}) ends-throughout
  where
    found : (n : ℕ) (how : Outcome) (outs : List (ℕ × Outcome)) → IsIn (n, how) outs
        → is_some (lookup n outs) ≡ true
    found n how [] i = absurd i
    found n how (p ∷ ps) (inl e) =
        ap (λ b. is_some (cond b (Some p.1) (lookup n ps)))
        (ap (λ k. k == n) (sym (ap (λ (q : ℕ × Outcome). q.0) e)) ∙ is-same n)
    found n how (p ∷ ps) (inr i) = later (p.0 == n) (found n how ps i)
      where
        later : (t : Bool) → is_some (lookup n ps) ≡ true
            → is_some (cond t (Some p.1) (lookup n ps)) ≡ true
        later true h = refl
        later false h = h
