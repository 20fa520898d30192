-- What is known of the messages that are heard of a connection, once a message is taken there.
use Rattle.std.proofs.Common.{◌≡◌, ◌≢◌, ◌⊎◌, ◌<◌, ℕ, ◌==◌, Bool, true, false, Option, Some}
use Rattle.std.proofs.Common.{List, ◌∷◌, inl, inr, refl, sym, ap, ◌∙◌, ⊎_elim, arith}
use Rattle.std.proofs.lemmas.Bool.Decides.{nat_tests}
use Rattle.gb_formats.specs.Message.{request, response}
use Rattle.gb_hearing.specs.Hearing.{Spoken}
use Rattle.gb_hearing.proofs.Findings.{anew, plain, responds}
use Rattle.gb_hearing.proofs.Hears.{Hears, IsAsked, IsOver, Waits, asked-after}
use Rattle.gb_hearing.proofs.Hears.{asked-before}
use Rattle.gb_hearing.proofs.Lasts.{Last, last}
use Rattle.gb_hearing.proofs.Messages.{answered-here, answered-other, answered-way, answers-type}
use Rattle.gb_hearing.proofs.Messages.{asked-here, asked-other, asked-way, asks-low, is-zero}
use Rattle.gb_hearing.proofs.Messages.{responds-high}
use Rattle.gb_invariants.proofs.Awaiting.{AwaitsFewer, not-both, same-some}
use Rattle.gb_invariants.proofs.Outcomes.{is-same, same-number}
use Rattle.gb_machine.specs.Bus.{Bus, Request, request_of}
use Rattle.gb_machine.specs.LawsBus.{OwnLabels, is_awaited}

differs : (m n : ℕ) → (m == n) ≡ false → m ≢ n
differs m n e f = not-both (m == n) (ap (λ j. m == j) (sym f) ∙ is-same m) e

-- what is kept of a request that is answered, and of one that isn't
abbrev done : ℕ → Option Last
done kind = Some (kind, true)

abbrev undone : ℕ → Option Last
undone kind = Some (kind, false)

unanswered : (kind other : ℕ) → done kind ≡ undone other → ⊥
unanswered kind other e = not-both true refl (ap (λ (l : Last). l.1)
    (same-some (kind, true) (other, false) e))

-- ---- requests of the far side

-- one that gets no response
pub hears-plain : {k : ℕ} {b : Bus} {past : List Spoken} (label kind : ℕ) (payload : List ℕ)
    → kind < 128 → label ≡ 0 → Hears k b past
    → Hears k b ((false, request label kind payload) ∷ past)
hears-plain {past} label kind payload low zero h = record {
  fit = (plain (asks-low label kind payload low) (is-zero label zero), h.fit);
  far = λ v type some is. h.far v type some
      (sym (asked-other false label kind payload past low v
      (λ e. not-both (v == 0) (is-zero v (sym e ∙ zero)) some)) ∙ is);
  own = λ n r a w. asked-way false label kind payload past low r.label ∙ h.own n r a w;
  left = λ v type some is. h.left v type some
      (sym (asked-way false label kind payload past low v) ∙ is);
}

-- another, and the response to it
pub hears-pair : {k : ℕ} {b : Bus} {past : List Spoken} (label kind : ℕ) (payload : List ℕ)
    (result : ℕ) (answer : List ℕ) → kind < 128 → (label == 0) ≡ false → Hears k b past
    → Hears k b
    ((true, response label kind result answer) ∷ (false, request label kind payload) ∷ past)
hears-pair {past} label kind payload result answer low some_label h = record {
  fit = (
    responds (responds-high label kind result answer) some_label
        (asked-here false label kind payload past low
        ∙ ap (λ t. Some (t, false)) (sym (answers-type label kind result answer low))),
    (
      anew (asks-low label kind payload low) (λ type is. h.far label type some_label is),
      h.fit,
    ),
  );
  far = λ v type some is. by v type some is (label == v) refl;
  own = λ n r a w. same r.label ∙ h.own n r a w;
  left = λ v type some is. h.left v type some (sym (same v) ∙ is);
}
  where
    now : List Spoken
    now = (false, request label kind payload) ∷ past

    same : (v : ℕ) → last true v ((true, response label kind result answer) ∷ now)
        ≡ last true v past
    same v = answered-way true label kind result answer now v
        ∙ asked-way false label kind payload past low v

    by : (v type : ℕ) → (v == 0) ≡ false
        → last false v ((true, response label kind result answer) ∷ now) ≡ Some (type, false)
        → (t : Bool) → (label == v) ≡ t → ⊥
    by v type some is true e = unanswered kind type
        (sym (answered-here true label kind result answer now low
        (asked-here false label kind payload past low))
        ∙ ap (λ j. last false j ((true, response label kind result answer) ∷ now))
        (same-number label v e) ∙ is)
    by v type some is false e = h.far v type some
        (sym (answered-other true label kind result answer now v (differs label v e)
        ∙ asked-other false label kind payload past low v (differs label v e)) ∙ is)

-- ---- responses of the far side

-- The request of a response isn't awaited any more, and what else is stays so.
pub record IsReplied (k n : ℕ) (b after : Bus) : Type 0 where
  pub fewer : AwaitsFewer b after
  pub ended : is_awaited n after ≡ false
  pub stays : (j : ℕ) → (n ≡ j → ⊥) → is_awaited j b ≡ true → is_awaited j after ≡ true
  pub over : IsOver k b → IsOver k after

pub hears-reply : {k : ℕ} {b after : Bus} {past : List Spoken} (n : ℕ) (r : Request) (result : ℕ)
    (payload : List ℕ) → IsAsked k n r b → is_awaited n b ≡ true → r.kind < 128 → OwnLabels b
    → IsReplied k n b after → Hears k b past
    → Hears k after ((false, response r.label r.kind result payload) ∷ past)
hears-reply {k} {b} {after} {past} n r result payload asked waits low labels replied h = record {
  fit = (
    responds (responds-high r.label r.kind result payload) some_label
        (h.own n r asked waits
        ∙ ap (λ t. Some (t, false)) (sym (answers-type r.label r.kind result payload low))),
    h.fit,
  );
  far = λ v type some is. h.far v type some
      (sym (answered-way false r.label r.kind result payload past v) ∙ is);
  own = λ m q a w. other m q (asked-before replied.fewer a) (replied.fewer.before m w) w;
  left = λ v type some is. by v type some is (r.label == v) refl;
}
  where
    now : List Spoken
    now = (false, response r.label r.kind result payload) ∷ past

    some_label : (r.label == 0) ≡ false
    some_label = let least = (labels.range n r asked.made waits).0 in
        grind (arith, nat_tests, least)

    -- a request with the identifier is that one
    only : (m : ℕ) (q : Request) → IsAsked k m q b → is_awaited m b ≡ true → r.label ≡ q.label
        → n ≡ m
    only m q a w e = labels.differ n m r q asked.made a.made waits w (asked.on ∙ sym a.on)
        (asked.by ∙ sym a.by) e

    other : (m : ℕ) (q : Request) → IsAsked k m q b → is_awaited m b ≡ true
        → is_awaited m after ≡ true → last true q.label now ≡ Some (q.kind, false)
    other m q a w w' =
        answered-other false r.label r.kind result payload past q.label
        (λ e. not-both (is_awaited m after) w'
        (ap (λ j. is_awaited j after) (sym (only m q a w e)) ∙ replied.ended))
        ∙ h.own m q a w

    still : {v : ℕ} → (r.label ≡ v → ⊥) → Waits k v b → Waits k v after
    still differ w = record {
      number = w.number;
      request = w.request;
      asked = asked-after replied.fewer w.asked;
      label = w.label;
      awaited = replied.stays w.number (λ e. differ
          (ap (λ (q : Request). q.label) (same-some r w.request
          (sym asked.made ∙ ap (λ j. request_of j b) e ∙ w.asked.made)) ∙ w.label)) w.awaited;
    }

    by : (v type : ℕ) → (v == 0) ≡ false → last true v now ≡ Some (type, false) → (t : Bool)
        → (r.label == v) ≡ t → Waits k v after ⊎ IsOver k after
    by v type some is true e = absurd (unanswered r.kind type
        (sym (answered-here false r.label r.kind result payload past low (h.own n r asked waits))
        ∙ ap (λ j. last true j now) (same-number r.label v e) ∙ is))
    by v type some is false e = ⊎_elim (λ w. inl (still (differs r.label v e) w))
        (λ o. inr (replied.over o)) (h.left v type some
        (sym (answered-other false r.label r.kind result payload past v (differs r.label v e))
        ∙ is))
