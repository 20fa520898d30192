-- What is known of the messages that are heard of a connection is kept by each single change
-- at a point.
use Rattle.std.proofs.Common.{◌≡◌, ◌<◌, ℕ, Bool, true, false, Some, List, []}
use Rattle.std.proofs.Common.{◌∷◌, ◌++◌, refl, sym, ap, ◌∙◌, append_assoc, cond, map}
use Rattle.std.proofs.Common.{subst, ⊎_elim}
use Rattle.std.proofs.lemmas.List.{map-append}
use Rattle.std.proofs.lemmas.List.Elements.{filter-append}
use Rattle.std.specs.List.{filter}
use Rattle.gb_base.specs.declared.end.Side.TheVariants as side
use Rattle.gb_hearing.specs.Hearing.{Spoken, asked, asking}
use Rattle.gb_hearing.proofs.Findings.{onto, onto-append}
use Rattle.gb_hearing.proofs.Hears.{Hears, IsAsked, IsSteady, Steady, hears-steady, steady-by}
use Rattle.gb_hearing.proofs.HearsAsked.{hears-oneway, hears-twoway, hears-unasked}
use Rattle.gb_invariants.proofs.Awaiting.{is-of, is_of-is, none-some, not-both, same-some}
use Rattle.gb_invariants.proofs.Awaiting.{sent-before}
use Rattle.gb_invariants.proofs.BusChanges.{BusChange, awaits-after, bus_after}
use Rattle.gb_invariants.specs.Facts.{OutcomesFit}
use Rattle.gb_laws.proofs.marks.Marks.{next-none}
use Rattle.gb_laws.proofs.points.ChangeBuses.{bus_change, by-bus, keeps-requests}
use Rattle.gb_laws.proofs.links.LinkSides.{shut_of}
use Rattle.gb_laws.proofs.identifiers.LowRequests.{asked-low}
use Rattle.gb_laws.proofs.runs.Midway.{KnownAt}
use Rattle.gb_laws.proofs.opened.OpenActs.{upon-asked, upon-line}
use Rattle.gb_laws.proofs.points.PointParts.{Point}
use Rattle.gb_laws.proofs.points.Points.{Change, answers, asks, changed, forgets, gives_up, names}
use Rattle.gb_machine.specs.Bus.{Bus, Request, request_of}
use Rattle.gb_machine.specs.Labels.{next_label}
use Rattle.gb_machine.specs.LawsBus.{OwnLabels, is_awaited}
use Rattle.gb_machine.specs.Requests.{is_of}
use Rattle.gb_machine.specs.Runs.{Moment}
use Rattle.gb_machine.specs.Sending.{Draft, label_for, requested, sent}

-- requests are those of before and some more, and what is known goes with what was heard
-- first and these
pub record HearsIn (before : List Request) (k : ℕ) (start : List Spoken) (b : Bus) : Type 0 where
  pub news : List Request
  pub grown : b.requests ≡ before ++ news
  pub hears : Hears k b (onto start (asked k news))

-- ---- a request is made

asked-more : (k : ℕ) (news : List Request) (r : Request) (start : List Spoken)
    → onto start (asked k (news ++ r ∷ [])) ≡ onto (onto start (asked k news)) (asked k (r ∷ []))
asked-more k news r start =
    ap (λ rs. onto start (map asking rs)) (filter-append (is_of k side.Ap) news (r ∷ []))
    ∙ ap (onto start) (map-append asking (filter (is_of k side.Ap) news)
    (filter (is_of k side.Ap) (r ∷ [])))
    ∙ onto-append start (asked k news) (asked k (r ∷ []))

asked-one : (k : ℕ) (r : Request) (past : List Spoken) (t : Bool) → is_of k side.Ap r ≡ t
    → onto past (asked k (r ∷ [])) ≡ cond t (asking r ∷ past) past
asked-one k r past true e =
    ap (λ t. onto past (map asking (cond t (r ∷ []) []))) e
asked-one k r past false e =
    ap (λ t. onto past (map asking (cond t (r ∷ []) []))) e

pub hears-sent : {before : List Request} {k : ℕ} {start : List Spoken} (d : Draft) (label : ℕ)
    (b : Bus) → OutcomesFit b → OwnLabels b → label_for d b ≡ Some label → d.kind < 128
    → (d.side ≡ side.Ap → shut_of d.connection b ≡ Some false) → HearsIn before k start b
    → HearsIn before k start (sent d label b)
hears-sent {before} {k} {start} d label b fits labels drawn low live h = record {
  news = h.news ++ requested d label ∷ [];
  grown = ap (λ rs. rs ++ requested d label ∷ []) h.grown
      ∙ append_assoc before h.news (requested d label ∷ []);
  hears = subst (Hears k (sent d label b)) (sym (asked-more k h.news (requested d label) start
      ∙ asked-one k (requested d label) (onto start (asked k h.news)) _ refl))
      (by (is_of k side.Ap (requested d label)) refl);
}
  where
    past : List Spoken
    past = onto start (asked k h.news)

    own : d.connection ≡ k → d.side ≡ side.Ap → (t : Bool) → d.oneway ≡ t
        → Hears k (sent d label b) (asking (requested d label) ∷ past)
    own on ap_side true e =
        hears-oneway k d label b fits e
        (sym (same-some 0 label
        (sym (ap (λ t. cond t (Some 0) (next_label d.connection d.side b)) e) ∙ drawn)))
        low labels h.hears
    own on ap_side false e =
        hears-twoway k d label b fits on ap_side e
        (ap (λ j. next_label j side.Ap b) (sym on)
        ∙ ap (λ s. next_label d.connection s b) (sym ap_side)
        ∙ sym (ap (λ t. cond t (Some 0) (next_label d.connection d.side b)) e) ∙ drawn)
        (ap (λ j. shut_of j b) (sym on) ∙ live ap_side) low labels h.hears

    by : (t : Bool) → is_of k side.Ap (requested d label) ≡ t
        → Hears k (sent d label b) (cond t (asking (requested d label) ∷ past) past)
    by true e =
        let of = is_of-is k side.Ap (requested d label) e in own of.0 (sym of.1) d.oneway refl
    by false e = hears-unasked k d label b fits
        (λ on ap_side. not-both (is_of k side.Ap (requested d label))
        (ap (λ j. is_of j side.Ap (requested d label)) (sym on)
        ∙ ap (λ s. is_of d.connection s (requested d label)) (sym ap_side)
        ∙ is-of (requested d label)) e) h.hears

-- ---- each single change

-- what is answered or forgotten isn't of the application processor on connection k
abbrev pub IsAway : (m : Moment) (k : ℕ) (a : Point) → Change m a → Type 0
IsAway m k a (answers h n result payload is says which) =
    (r : Request) → IsAsked k n r a.state.bus → ⊥
IsAway m k a (forgets h n is which) = (r : Request) → IsAsked k n r a.state.bus → ⊥
IsAway m k a _ = Unit {0}

-- it asks nothing
abbrev AsksNone : (m : Moment) (a : Point) → Change m a → Type 0
AsksNone m a (asks d c label free live drawn who) = ⊥
AsksNone m a (names name d c label free live drawn host) = ⊥
AsksNone m a _ = Unit {0}

is-steady : (m : Moment) (k : ℕ) (a : Point) (x : Change m a) → AsksNone m a x → IsAway m k a x
    → IsSteady k (bus_change x) a.state.bus
is-steady m k a (asks d c label free live drawn who) none away = none
is-steady m k a (names name d c label free live drawn host) none away = none
is-steady m k a (answers h n result payload is says which) none away = away
is-steady m k a (forgets h n is which) none away = away
is-steady m k a (gives_up n how free unended cause) none away = unended
is-steady m k a _ none away = tt

steady-kept : (m : Moment) (k : ℕ) (start : List Spoken) (a : Point) (x : Change m a) → KnownAt a
    → AsksNone m a x → IsAway m k a x → HearsIn m.before.bus.requests k start a.state.bus
    → HearsIn m.before.bus.requests k start (changed m a x).state.bus
steady-kept m k start a x known none away h =
    let steady = by-bus (Steady k a.state.bus) x
    (steady-by k (bus_change x) a.state.bus (is-steady m k a x none away)
    known.basis.bus.numbers.on) in
    record {
      news = h.news;
      grown = steady.fewer.same ∙ h.grown;
      hears = hears-steady steady h.hears;
    }

pub hears-kept : (m : Moment) (k : ℕ) (start : List Spoken) (a : Point) (x : Change m a) → KnownAt a
    → IsAway m k a x → HearsIn m.before.bus.requests k start a.state.bus
    → HearsIn m.before.bus.requests k start (changed m a x).state.bus
hears-kept m k start a (asks d c label free live drawn who) known away h =
    hears-sent d label a.state.bus known.basis.bus.outcomes known.basis.bus.labels drawn
    (asked-low m a d c known.links who)
    (λ ap_side. (upon-asked m a d c live known.links who ap_side).open_) h
hears-kept m k start a (names name d c label free live drawn host) known away h =
    hears-sent d label a.state.bus known.basis.bus.outcomes known.basis.bus.labels drawn
    host.3 (λ ap_side. (upon-line a d c live known.links host.1 host.2).open_) h
hears-kept m k start a (answers x n result payload is says which) known away h =
    steady-kept m k start a (answers x n result payload is says which) known tt away h
hears-kept m k start a (forgets x n is which) known away h =
    steady-kept m k start a (forgets x n is which) known tt away h
hears-kept m k start a x known away h = steady-kept m k start a x known tt away h

-- ---- requests that ended

-- request n was made, and isn't awaited any more
pub record IsEnded (n : ℕ) (b : Bus) : Type 0 where
  pub request : Request
  pub made : request_of n b ≡ Some request
  pub ended : is_awaited n b ≡ false

sent-ended : (d : Draft) (label n : ℕ) (b : Bus) → OutcomesFit b → IsEnded n b
    → is_awaited n (sent d label b) ≡ true → ⊥
sent-ended d label n b fits h e = ⊎_elim (λ w. not-both (is_awaited n b) w h.ended)
    (λ new. none-some (sym (next-none b) ∙ ap (λ j. request_of j b) (sym new.0) ∙ h.made))
    (sent-before d label b n fits e)

-- It isn't awaited again.
pub ended-kept : (m : Moment) (n : ℕ) (a : Point) (x : Change m a) → KnownAt a
    → IsEnded n a.state.bus → IsEnded n (changed m a x).state.bus
ended-kept m n a x known h = record {
  request = h.request;
  made = keeps-requests m a x n h.request h.made;
  ended = by-bus (λ b. is_awaited n b ≡ false) x
      (by (is_awaited n (bus_after (bus_change x) a.state.bus)) refl);
}
  where
    waits : (x : Change m a) → is_awaited n (bus_after (bus_change x) a.state.bus) ≡ true → ⊥
    waits (asks d c label free live drawn who) e =
        sent-ended d label n a.state.bus known.basis.bus.outcomes h e
    waits (names name d c label free live drawn host) e =
        sent-ended d label n a.state.bus known.basis.bus.outcomes h e
    waits (gives_up k how free unended cause) e = not-both (is_awaited n a.state.bus)
        ((awaits-after (BusChange.gives_up k how) a.state.bus unended).before n e) h.ended
    waits x e = not-both (is_awaited n a.state.bus)
        ((awaits-after (bus_change x) a.state.bus tt).before n e) h.ended

    by : (t : Bool) → is_awaited n (bus_after (bus_change x) a.state.bus) ≡ t → t ≡ false
    by true e = absurd (waits x e)
    by false e = refl
