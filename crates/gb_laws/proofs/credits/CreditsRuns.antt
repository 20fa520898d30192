-- The credits of each connection to a UART add up over the moments of every run.
use Rattle.std.proofs.Common.{Bool, List, None, Option, Some, ap, arith, cond, false, refl, subst}
use Rattle.std.proofs.Common.{sym, true, ℕ, [], ◌++◌, ◌+◌, ◌<◌, ◌∙◌, ◌∷◌, ◌≡◌, ◌≤◌}
use Rattle.std.proofs.lemmas.Bool.Decides.{nat_tests}
use Rattle.std.specs.List.{list_any}
use Rattle.std.specs.Prelude.{is_none, ◌&&◌, ◌==◌}
use Rattle.gb_base.specs.declared.end.End.TheVariants as end
use Rattle.gb_base.specs.declared.entry.Entry.{Entry}
use Rattle.gb_base.specs.declared.event.Event.{Event}
use Rattle.gb_base.specs.declared.event.Event.TheVariants as event
use Rattle.gb_base.specs.declared.interface.Link.{Link}
use Rattle.gb_base.specs.declared.refusal.Refusal.{Refusal}
use Rattle.gb_formats.specs.{Bridges.credits_taken, UartDevice.most_credits}
use Rattle.gb_machine.proofs.Conditions.{waits}
use Rattle.gb_machine.specs.Bus.{Place, place_of, queue}
use Rattle.gb_machine.specs.Events.{last_state, step, trace_from}
use Rattle.gb_machine.specs.LawsCredits.{AddUp, CreditsAddUp, back_on, bytes_sent, count_at}
use Rattle.gb_machine.specs.LawsCredits.{count_on, credits_back, is_credits, is_numbered, sent_on}
use Rattle.gb_machine.specs.Runs.{AreMoments, IsMoment, Moment, after, moments_from, moments_in}
use Rattle.gb_machine.specs.Runs.{state_by, told_at, unsettled}
use Rattle.gb_machine.specs.{Host.is_link, Host.link_at, Lists.first, Members.IsIn}
use Rattle.gb_machine.specs.{Refusals.refusal, State.State, State.first_state}
use Rattle.gb_invariants.proofs.Lists.{each-from, each-in, found-in}
use Rattle.gb_invariants.specs.Facts.{IsMade}
use Rattle.gb_laws.proofs.credits.CreditsLines.{Moved, moved-line, new, old}
use Rattle.gb_laws.proofs.credits.CreditsMoved.{IsOther, if-zero, moved-other, moved-refused}
use Rattle.gb_laws.proofs.links.LinkRuns.{LinkedTo, linked-over, linked-throughout}
use Rattle.gb_laws.proofs.{credits.CreditsDelivered.moved-delivery, credits.CreditsKept.made_law}
use Rattle.gb_laws.proofs.{points.Places.place-is}
use Rattle.gb_laws.proofs.{runs.Settling.settles-are_deliveries, steps.Steps.over-step}

-- ---- a moment

-- what each moment makes of credits
moved-at : (m : Moment) → IsMoment m.event → LinkedTo m.told m.before → (l : Link)
    → IsIn l (after m).host.links → Moved m l
moved-at m one start = by (refusal m.before m.event) refl
  where
    done : refusal m.before m.event ≡ None → (e : Event) → m.event ≡ e → (l : Link)
        → IsIn l (after m).host.links → Moved m l
    done allowed (event.Bridge name i c what) is = moved-line m name i c what is allowed start.1
    done allowed (event.Deliver at) is =
        let w = waits m.before at (ap (refusal m.before) (sym is) ∙ allowed) in
        moved-delivery m one start at is allowed w.place w.item w.named w.front
    done allowed (event.Settle most) is = absurd (subst IsMoment is one)
    done allowed _ is = moved-other m one start (subst IsOther (sym is) tt)

    by : (o : Option Refusal) → refusal m.before m.event ≡ o → (l : Link)
        → IsIn l (after m).host.links → Moved m l
    by (Some why) e = moved-refused m one start why e
    by None e = done e m.event refl

-- nothing is sent on a connection that isn't made yet
unsent-above : (m : Moment) → LinkedTo m.told m.before → (k : ℕ) → m.before.bus.made < k
    → (e : Event) → bytes_sent k m e ≡ 0
unsent-above m start k high (event.Bridge name i c what) =
    ap (λ t. cond (is_none (refusal m.before m.event) && t) (credits_taken what) 0)
    (by (link_at i c m.before.host) refl) ∙ none (is_none (refusal m.before m.event))
  where
    none : (t : Bool) → cond (t && false) (credits_taken what) 0 ≡ 0
    none true = refl
    none false = refl

    by : (o : Option Link) → link_at i c m.before.host ≡ o → is_numbered k o ≡ false
    by None f = refl
    by (Some l) f =
        let i' = (found-in (is_link i c) m.before.host.links l f).0 in
        let low = (start.1.host.links.numbered l i').given in grind (arith, nat_tests)
unsent-above m start k high _ = refl

-- nor does anything come back
unback-above : (m : Moment) → LinkedTo m.told m.before → (k : ℕ) → m.before.bus.made < k
    → (e : Event) → credits_back k m e ≡ 0
unback-above m start k high (event.Deliver (end.Ap a)) =
    if-zero (list_any is_credits (told_at m))
    (count_on k m.before.bus (place_of (end.Ap a) m.before.bus.connections))
    (by (place_of (end.Ap a) m.before.bus.connections) refl)
  where
    other : (n : ℕ) → n ≤ m.before.bus.made → (n == k) ≡ false
    other n low = grind (arith, nat_tests)

    by : (o : Option Place) → place_of (end.Ap a) m.before.bus.connections ≡ o
        → count_on k m.before.bus o ≡ 0
    by None f = refl
    by (Some p) f =
        let place = place-is (end.Ap a) m.before.bus.connections p f in
        ap (λ t. cond t (count_at m.before.bus (first (queue p.side p.connection))) 0)
        (other p.connection.number
        (each-in (IsMade m.before.bus) m.before.bus.connections p.connection
        start.0.bus.numbers.range place.live).1)
unback-above m start k high _ = refl

-- ---- sums

-- What was sent and what came back on each connection so far add up, and are nothing where a
-- connection isn't made yet.
record SumsFit (sent back : ℕ → ℕ) (s : State) : Type 0 where
  uart : (l : Link) → IsIn l s.host.links → l.protocol ≡ 0x04
      → (l.credits + sent l.connection ≡ most_credits + back l.connection)
      × (l.credits ≤ most_credits)
  above : (k : ℕ) → s.bus.made < k → (sent k ≡ 0) × (back k ≡ 0)

sums-same : {sent back more later : ℕ → ℕ} {s : State} → ((k : ℕ) → more k ≡ sent k)
    → ((k : ℕ) → later k ≡ back k) → SumsFit sent back s → SumsFit more later s
sums-same e f h = record {
  uart = λ l i p.
      let u = h.uart l i p in (
        ap (λ n. l.credits + n) (e l.connection) ∙ u.0
            ∙ ap (λ n. most_credits + n) (sym (f l.connection)),
        u.1,
      );
  above = λ k high. let a = h.above k high in (e k ∙ a.0, f k ∙ a.1);
}

-- over a moment
sums-step : (m : Moment) → IsMoment m.event → LinkedTo m.told m.before → (sent back : ℕ → ℕ)
    → SumsFit sent back m.before
    → SumsFit (λ k. sent k + bytes_sent k m m.event) (λ k. back k + credits_back k m m.event)
    (after m)
sums-step m one start sent back h = record {
  uart = λ l i p. by l p (moved-at m one start l i);
  above = λ k high.
      let low : m.before.bus.made < k = omega (arith, made, high) in
      let a = h.above k low in
      let x = unsent-above m start k low m.event in
      let y = unback-above m start k low m.event in
      (omega (arith, a.0, x), omega (arith, a.1, y));
}
  where
    made : m.before.bus.made ≤ (after m).bus.made
    made = (over-step m (made_law m) one (start.0, omega arith)).1.1

    by : (l : Link) → l.protocol ≡ 0x04 → Moved m l
        → (l.credits + (sent l.connection + bytes_sent l.connection m m.event)
        ≡ most_credits + (back l.connection + credits_back l.connection m m.event))
        × (l.credits ≤ most_credits)
    by l p (new later most) =
        let a = h.above l.connection later in
        let x = unsent-above m start l.connection later m.event in
        let y = unback-above m start l.connection later m.event in
        (omega (arith, a.0, a.1, x, y, most), omega (arith, most))
    by l p (old k i same moves) =
        let q = sym same.protocol ∙ p in
        let u = h.uart k i q in
        let v = moves q in
        let x : sent l.connection ≡ sent k.connection = ap sent same.connection in
        let y : back l.connection ≡ back k.connection = ap back same.connection in
        let sum = v.sum in
        (omega (arith, u.0, sum, x, y), v.bound u.1)

-- over a run of moments
sums-from : (es : List Event) (told : List Entry) {s : State} {sent back : ℕ → ℕ} → AreMoments es
    → LinkedTo told s → SumsFit sent back s
    → SumsFit (λ k. sent k + sent_on k (moments_from told s es))
    (λ k. back k + back_on k (moments_from told s es)) (last_state s (trace_from s es))
sums-from [] told are start h =
    sums-same (λ k. omega arith) (λ k. omega arith) h
sums-from (e ∷ es) told {s} {sent} {back} are start h = sums-same
    (λ k. omega arith) (λ k. omega arith) (sums-from es (told ++ (step s e).entries) are.1
    (linked-over m are.0 start) (sums-step m are.0 start sent back h))
  where
    m : Moment
    m = record { told = told; before = s; event = e }

-- The credits of each connection to a UART add up, and are never above the most.
pub credits-add_up : CreditsAddUp
credits-add_up es valid =
    let d = settles-are_deliveries es valid in
    let apart = unsettled first_state es in
    let fits = sums-from apart [] d.moments (linked-throughout [] tt)
    (record { uart = λ l i. absurd i; above = λ k high. (refl, refl) }) in
    each-from (λ (l : Link). l.protocol ≡ 0x04 → AddUp (moments_in es) l) (state_by es).host.links
    (λ l i p.
    let u = fits.uart l (subst (λ (s : State). IsIn l s.host.links) (sym d.state) i) p in
    record { sum = let sum = u.0 in omega (arith, sum); bound = u.1 })
