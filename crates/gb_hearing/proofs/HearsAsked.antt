-- What is known of the messages that are heard of a connection, once a request is made.
use Rattle.std.proofs.Common.{◌≡◌, ◌⊎◌, ◌<◌, ℕ, ◌==◌, Bool, true, false}
use Rattle.std.proofs.Common.{Some, List, ◌∷◌, inl, inr, refl, sym, ap, ◌∙◌, ⊎_elim}
use Rattle.std.proofs.Common.{arith}
use Rattle.std.proofs.lemmas.Bool.Decides.{nat_tests}
use Rattle.gb_base.specs.declared.end.Side.TheVariants as side
use Rattle.gb_formats.specs.Message.{request}
use Rattle.gb_hearing.specs.Hearing.{Spoken}
use Rattle.gb_hearing.proofs.Findings.{anew, plain}
use Rattle.gb_hearing.proofs.Hears.{Hears, IsAsked, IsOver, Waits, over-same}
use Rattle.gb_hearing.proofs.Lasts.{last}
use Rattle.gb_hearing.proofs.Messages.{asked-here, asked-other, asked-way, asks-low, is-zero}
use Rattle.gb_invariants.proofs.Awaiting.{none-some, not-both, sent-after, sent-awaited}
use Rattle.gb_invariants.proofs.Awaiting.{sent-before, sent-made, sent-new, sent-request, unasked}
use Rattle.gb_invariants.proofs.BusChanges.{BusChange}
use Rattle.gb_invariants.proofs.Drawing.{IsFree, awaited-used, drawn-is-free}
use Rattle.gb_invariants.proofs.Outcomes.{is-same, same-number}
use Rattle.gb_invariants.specs.Facts.{OutcomesFit}
use Rattle.gb_laws.proofs.links.LinkSides.{shut-after, shut_of}
use Rattle.gb_machine.proofs.Lists.{nth-past}
use Rattle.gb_machine.specs.Bus.{Bus, Request, next_number, request_of}
use Rattle.gb_machine.specs.LawsBus.{OwnLabels, is_awaited}
use Rattle.gb_machine.specs.Labels.{next_label}
use Rattle.gb_machine.specs.Requests.{is_used}
use Rattle.gb_machine.specs.Sending.{Draft, requested, sent}

module _ (k : ℕ) (d : Draft) (label : ℕ) (b : Bus) (fits : OutcomesFit b) where
  after : Bus
  after = sent d label b

  -- a request that was there and is awaited was awaited
  was : (n : ℕ) (r : Request) → request_of n b ≡ Some r → is_awaited n (sent d label b) ≡ true
      → is_awaited n b ≡ true
  was n r made w = ⊎_elim (λ old. old) (λ new. absurd (none-some
      (sym (nth-past (next_number b) b.requests (omega arith))
      ∙ ap (λ j. request_of j b) (sym new.0) ∙ made))) (sent-before d label b n fits w)

  still : {v : ℕ} → Waits k v b → Waits k v (sent d label b)
  still w = record {
    number = w.number;
    request = w.request;
    asked = record {
      made = sent-request d label b w.number w.request w.asked.made;
      on = w.asked.on;
      by = w.asked.by;
    };
    label = w.label;
    awaited = sent-after d label b w.number w.awaited;
  }

  over : IsOver k b → IsOver k (sent d label b)
  over = over-same (shut-after (BusChange.sends d label) b tt k) (omega arith)

  -- another side, or on another connection
  pub hears-unasked : {past : List Spoken} → (d.connection ≡ k → d.side ≡ side.Ap → ⊥)
      → Hears k b past → Hears k (sent d label b) past
  hears-unasked other h = record {
    fit = h.fit;
    far = h.far;
    own = λ n r a w. ⊎_elim
        (λ old. h.own n r (record { made = old; on = a.on; by = a.by }) (was n r old w))
        (λ new. absurd (other
        (ap (λ (q : Request). q.connection) (sym new.1) ∙ a.on)
        (ap (λ (q : Request). q.side) (sym new.1) ∙ a.by))) (sent-made d label b n r a.made);
    left = λ v kind some is.
        ⊎_elim (λ w. inl (still w)) (λ o. inr (over o)) (h.left v kind some is);
  }

  -- a unidirectional request of the application processor
  pub hears-oneway : {past : List Spoken} → d.oneway ≡ true → label ≡ 0 → d.kind < 128 → OwnLabels b
      → Hears k b past
      → Hears k (sent d label b) ((true, request label d.kind d.payload) ∷ past)
  hears-oneway {past} oneway zero low labels h = record {
    fit = (plain (asks-low label d.kind d.payload low) (is-zero label zero), h.fit);
    far = λ v kind some is. h.far v kind some
        (sym (asked-way true label d.kind d.payload past low v) ∙ is);
    own = λ n r a w. let old = before n r a w in
        asked-other true label d.kind d.payload past low r.label
        (λ e. let least = (labels.range n r old.0 old.1).0 in
        absurd (omega (arith, least, e, zero)))
        ∙ h.own n r (record { made = old.0; on = a.on; by = a.by }) old.1;
    left = λ v kind some is. ⊎_elim (λ w. inl (still w)) (λ o. inr (over o))
        (h.left v kind some (sym (asked-other true label d.kind d.payload past low v
        (λ e. not-both (v == 0) (is-zero v (sym e ∙ zero)) some)) ∙ is));
  }
    where
      before : (n : ℕ) (r : Request) → IsAsked k n r (sent d label b)
          → is_awaited n (sent d label b) ≡ true
          → (request_of n b ≡ Some r) × (is_awaited n b ≡ true)
      before n r a w = ⊎_elim
          (λ x. ⊎_elim (λ old. (old, x)) (λ new. absurd (not-both (is_awaited n b) x
          (ap (λ j. is_awaited j b) new.0 ∙ unasked b fits))) (sent-made d label b n r a.made))
          (λ new. absurd (not-both d.oneway oneway new.1)) (sent-before d label b n fits w)

  -- another request of the application processor: its identifier was free, and the
  -- connection isn't over
  pub hears-twoway : {past : List Spoken} → d.connection ≡ k → d.side ≡ side.Ap → d.oneway ≡ false
      → next_label k side.Ap b ≡ Some label → shut_of k b ≡ Some false → d.kind < 128 → OwnLabels b
      → Hears k b past
      → Hears k (sent d label b) ((true, request label d.kind d.payload) ∷ past)
  hears-twoway {past} on ap_side twoway drawn live low labels h = record {
    fit = (anew (asks-low label d.kind d.payload low) unasked_then, h.fit);
    far = λ v kind some is. h.far v kind some
        (sym (asked-way true label d.kind d.payload past low v) ∙ is);
    own = λ n r a w. ⊎_elim
        (λ old.
        let x = was n r old w in
        asked-other true label d.kind d.payload past low r.label
        (λ e. free (waits n r (record { made = old; on = a.on; by = a.by }) x (sym e)))
        ∙ h.own n r (record { made = old; on = a.on; by = a.by }) x)
        (λ new. ap (λ (q : Request). last true q.label now) new.1
        ∙ asked-here true label d.kind d.payload past low
        ∙ ap (λ (q : Request). Some (q.kind, false)) (sym new.1)) (sent-made d label b n r a.made);
    left = λ v kind some is. by v kind some is (label == v) refl;
  }
    where
      now : List Spoken
      now = (true, request label d.kind d.payload) ∷ past

      waits : (n : ℕ) (r : Request) → IsAsked k n r b → is_awaited n b ≡ true → {v : ℕ}
          → r.label ≡ v → Waits k v b
      waits n r a w e = record { number = n; request = r; asked = a; label = e; awaited = w }

      drawn_free : IsFree k side.Ap label b
      drawn_free = drawn-is-free k side.Ap b label drawn

      -- no request that is awaited has the identifier
      free : Waits k label b → ⊥
      free w =
          not-both (is_used k side.Ap b label)
          (ap (λ j. is_used j side.Ap b label) (sym w.asked.on)
          ∙ ap (λ at. is_used w.request.connection at b label) (sym w.asked.by)
          ∙ ap (is_used w.request.connection w.request.side b) (sym w.label)
          ∙ awaited-used b w.number w.request w.asked.made w.awaited) drawn_free.unused

      some-label : (label == 0) ≡ false
      some-label = let least = drawn_free.least in grind (arith, nat_tests, least)

      unasked_then : (kind : ℕ) → last true label past ≡ Some (kind, false) → ⊥
      unasked_then kind is = ⊎_elim free (λ o. o.closed live) (h.left label kind some-label is)

      by : (v kind : ℕ) → (v == 0) ≡ false → last true v now ≡ Some (kind, false) → (t : Bool)
          → (label == v) ≡ t → Waits k v (sent d label b) ⊎ IsOver k (sent d label b)
      by v kind some is true e = inl (record {
        number = next_number b;
        request = requested d label;
        asked = record { made = sent-new d label b; on = on; by = ap_side };
        label = same-number label v e;
        awaited = sent-awaited d label b fits twoway;
      })
      by v kind some is false e = ⊎_elim (λ w. inl (still w)) (λ o. inr (over o))
          (h.left v kind some (sym (asked-other true label d.kind d.payload past low v
          (λ f. not-both (label == v) (ap (λ i. label == i) (sym f) ∙ is-same label) e)) ∙ is))
