-- What is asked and what was replied, where an item is in hand.
use Rattle.std.proofs.Common.{Bool, List, None, Option, Some, ap, arith, cond, false, map, refl}
use Rattle.std.proofs.Common.{subst, sym, true, ℕ, [], ◌++◌, ◌+◌, ◌∙◌, ◌∷◌, ◌≡◌, ◌≤◌}
use Rattle.std.specs.Prelude.{Err, Ok, Result, option_map, ◌==◌}
use Rattle.gb_base.specs.declared.end.Side.{Side}
use Rattle.gb_base.specs.declared.entry.Entry.{Entry}
use Rattle.gb_base.specs.declared.entry.Entry.TheVariants as entry
use Rattle.gb_base.specs.declared.reasons.RawFault.{RawFault}
use Rattle.gb_formats.specs.{Message.Message, Wire.raw_message}
use Rattle.gb_machine.proofs.Lists.{nth-past}
use Rattle.gb_machine.specs.Bus.{Ask, Bus, Connection, Item, Raw, RawReply, Reply, Request}
use Rattle.gb_machine.specs.Bus.{next_number, other_side, request_of}
use Rattle.gb_machine.specs.Incoming.{Incoming, incoming, incoming_raw, is_request, raw_request}
use Rattle.gb_machine.specs.Incoming.{reply_entry, reply_item, request_in}
use Rattle.gb_machine.specs.{LawsBus.is_item_of, LawsEnds.is_reply_of, Members.Each, Members.times}
use Rattle.gb_machine.specs.{Runs.Moment, Sending.Draft, Sending.sent, Serving.Answer}
use Rattle.gb_machine.specs.{SvcQueues.is_ask}
use Rattle.gb_invariants.proofs.Awaiting.{none-some, same-some, sent-request}
use Rattle.gb_invariants.proofs.Counts.{in-weaker, one, replied-counts, sent-counts, times-append}
use Rattle.gb_invariants.proofs.Counts.{times-cons}
use Rattle.gb_invariants.proofs.{OneItem.none-unmade, Outcomes.same-number}
use Rattle.gb_invariants.specs.Facts.{Loose, times_in}
use Rattle.gb_laws.proofs.points.PointParts.{AreQuiet, Basis, Hand, Point, asked_told, is_quiet}
use Rattle.gb_laws.proofs.points.PointParts.{loose}
use Rattle.gb_laws.proofs.points.PointParts.{loose_hand, loose_held, sent_told}
use Rattle.gb_laws.proofs.points.Points.{AnswersAs, changed, replies}
use Rattle.gb_laws.proofs.{basis.BasisParts.loose_of}

-- ---- what is asked, and what was replied

-- how many items ask request n at a point
abbrev pub asked_times : ℕ → Point → ℕ
asked_times n a = times_in (is_ask n) (loose a) a.state.bus

-- each request is asked in one item, or its reply was told; of none that wasn't made a
-- reply was told
pub record RepliesOnce (a : Point) : Type 0 where
  pub once : (n : ℕ) → asked_times n a + times (is_reply_of n) a.told ≤ 1
  pub made : (n : ℕ) → request_of n a.state.bus ≡ None → times (is_reply_of n) a.told ≡ 0

-- an entry tells no reply
abbrev pub IsNoReply : Entry → Type 0
IsNoReply e = (n : ℕ) → is_reply_of n e ≡ false

no-reply-count : (es : List Entry) (n : ℕ) → Each IsNoReply es → times (is_reply_of n) es ≡ 0
no-reply-count [] n h = refl
no-reply-count (e ∷ es) n h = ap
    (λ b. cond b (times (is_reply_of n) es + 1) (times (is_reply_of n) es)) (h.0 n)
    ∙ no-reply-count es n h.1

pub quiet-no-reply : (e : Entry) → is_quiet e ≡ true → IsNoReply e
quiet-no-reply (entry.Replied k from to result size bytes) quiet n = absurd cc
quiet-no-reply entry.Done quiet n = refl
quiet-no-reply _ quiet n = refl

pub quiet-no-replies : (es : List Entry) → AreQuiet es → Each IsNoReply es
quiet-no-replies [] h = tt
quiet-no-replies (e ∷ es) h = (quiet-no-reply e h.0, quiet-no-replies es h.1)

-- where no reply is told, requests stay, and no item asks that didn't
pub once-fewer : (a after : Point) (es : List Entry) → after.told ≡ a.told ++ es → Each IsNoReply es
    → ((n : ℕ) (r : Request) → request_of n a.state.bus ≡ Some r
    → request_of n after.state.bus ≡ Some r)
    → ((n : ℕ) → asked_times n after ≤ asked_times n a) → RepliesOnce a → RepliesOnce after
once-fewer a after es told quiet stays fewer h = record {
  once = λ n. let c = h.once n in let f = fewer n in omega (arith, c, f, same n);
  made = λ n none. same n ∙ h.made n (unmade n none);
}
  where
    same : (n : ℕ) → times (is_reply_of n) after.told ≡ times (is_reply_of n) a.told
    same n = ap (times (is_reply_of n)) told ∙ times-append (is_reply_of n) a.told es
        ∙ (let z = no-reply-count es n quiet in omega (arith, z))

    unmade : (n : ℕ) → request_of n after.state.bus ≡ None → request_of n a.state.bus ≡ None
    unmade n none = by (request_of n a.state.bus) refl
      where
        by : (o : Option Request) → request_of n a.state.bus ≡ o → request_of n a.state.bus ≡ None
        by None e = e
        by (Some r) e = absurd (none-some (sym none ∙ stays n r e))

-- an item that asks a request has its number
asks-item : (n : ℕ) (item : Item) → is_ask n item ≡ true → is_item_of n item ≡ true
asks-item n (Ask k) h = h
asks-item n _ h = absurd cc

-- where a request is made
pub once-asked : (a : Point) (after : Point) (d : Draft) (c : Connection) (label : ℕ) → Basis a
    → a.hand ≡ after.hand → after.state.held ≡ a.state.held
    → after.state.bus ≡ sent d label a.state.bus
    → after.told ≡ a.told ++ asked_told d c label a.state.bus → RepliesOnce a → RepliesOnce after
once-asked a after d c label basis hand held bus told h = record { once = once; made = made }
  where
    b : Bus
    b = a.state.bus

    same : (n : ℕ) → times (is_reply_of n) after.told ≡ times (is_reply_of n) a.told
    same n = ap (times (is_reply_of n)) told
        ∙ times-append (is_reply_of n) a.told (asked_told d c label a.state.bus) ∙ by d.oneway
      where
        by : (t : Bool) → times (is_reply_of n) a.told + times (is_reply_of n)
            (sent_told t (next_number a.state.bus)) ≡ times (is_reply_of n) a.told
        by true = omega arith
        by false = omega arith

    is : (n : ℕ) → asked_times n after ≡ times_in (is_ask n) (loose a) (sent d label a.state.bus)
    is n = ap (λ x. times_in (is_ask n) (loose_hand after.hand (map loose_held after.state.held)) x)
        bus ∙ ap (λ x. times_in (is_ask n) (loose_hand after.hand (map loose_held x))
        (sent d label a.state.bus)) held
        ∙ ap (λ x. times_in (is_ask n) (loose_hand x (map loose_held a.state.held))
        (sent d label a.state.bus)) (sym hand)

    old : (n : ℕ) → request_of n after.state.bus ≡ None → request_of n a.state.bus ≡ None
    old n none = by (request_of n a.state.bus) refl
      where
        by : (o : Option Request) → request_of n a.state.bus ≡ o → request_of n a.state.bus ≡ None
        by None e = e
        by (Some r) e = absurd (none-some (sym none ∙ ap (request_of n) bus
            ∙ sent-request d label a.state.bus n r e))

    made : (n : ℕ) → request_of n after.state.bus ≡ None → times (is_reply_of n) after.told ≡ 0
    made n none = same n ∙ h.made n (old n none)

    -- no item asks a request that wasn't made
    unasked : (n : ℕ) → next_number a.state.bus ≡ n → asked_times n a ≡ 0
    unasked n e =
        let unmade = ap (λ k. request_of k a.state.bus) (sym e)
        ∙ nth-past (next_number a.state.bus) a.state.bus.requests (omega arith) in
        omega (
          arith,
          in-weaker (is_ask n) (is_item_of n) (loose a) a.state.bus (asks-item n),
          none-unmade (loose a) a.state.bus n basis.bus.items unmade,
        )

    once : (n : ℕ) → asked_times n after + times (is_reply_of n) after.told ≤ 1
    once n = by (next_number a.state.bus == n) refl
      where
        more : times_in (is_ask n) (loose a) (sent d label a.state.bus) ≤ asked_times n a + one
            (is_ask n) (Ask (next_number a.state.bus))
        more = sent-counts (is_ask n) (loose a) d label a.state.bus

        by : (t : Bool) → (next_number a.state.bus == n) ≡ t
            → asked_times n after + times (is_reply_of n) after.told ≤ 1
        by true e =
            let single : one (is_ask n) (Ask (next_number a.state.bus)) ≡ 1 = ap
            (λ t. cond t (0 + 1) 0) e ∙ omega arith in
            let number = same-number (next_number a.state.bus) n e in
            let none = h.made n (ap (λ k. request_of k a.state.bus) (sym number)
            ∙ nth-past (next_number a.state.bus) a.state.bus.requests (omega arith)) in
            omega (arith, more, single, is n, same n, none, unasked n number)
        by false e =
            let zero_more : one (is_ask n) (Ask (next_number a.state.bus)) ≡ 0 = ap
            (λ t. cond t (0 + 1) 0) e in
            let c = h.once n in omega (arith, more, zero_more, is n, same n, c)

-- ---- where what is in hand is replied to

-- what a reply is and tells, by what it replies to
pub record RepliesTo (n : ℕ) (item reply : Item) (told : Entry) (b : Bus) : Type 0 where
  pub asks_none : one (is_ask n) reply ≡ 0
  pub tells : one (is_reply_of n) told ≡ one (is_ask n) item
  pub made : request_of n b ≡ None → one (is_ask n) item ≡ 0

replies-to : (n : ℕ) (at : Side) (c : Connection) (item : Item) (q : Incoming) (r : Answer)
    {b : Bus} → request_in item b ≡ Some q
    → RepliesTo n item (reply_item q r) (reply_entry at c q r) b
replies-to n at c (Ask k) q r {b} made = by (request_of k b) refl made
  where
    by : (o : Option Request) → request_of k b ≡ o → option_map (incoming k) o ≡ Some q
        → RepliesTo n (Ask k) (reply_item q r) (reply_entry at c q r) b
    by None e f = absurd cc
    by (Some x) e f =
        subst (λ z. RepliesTo n (Ask k) (reply_item z r) (reply_entry at c z r) b)
        (same-some (incoming k x) q f) (record {
          asks_none = refl;
          tells = refl;
          made = λ none. unmade none (k == n) refl;
        })
      where
        unmade : request_of n b ≡ None → (t : Bool) → (k == n) ≡ t → one (is_ask n) (Ask k) ≡ 0
        unmade none false g = ap (λ t. cond t (0 + 1) 0) g
        unmade none true g = absurd (none-some
            (sym none ∙ ap (λ j. request_of j b) (sym (same-number k n g)) ∙ e))
replies-to n at c (Raw bytes) q r {b} made = by (raw_message bytes) made
  where
    by : (o : Result Message RawFault) → raw_request o ≡ Some q
        → RepliesTo n (Raw bytes) (reply_item q r) (reply_entry at c q r) b
    by (Err fault) f = absurd cc
    by (Ok x) f = asks_by (is_request x) f
      where
        asks_by : (t : Bool) → cond t (Some (incoming_raw x)) None ≡ Some q
            → RepliesTo n (Raw bytes) (reply_item q r) (reply_entry at c q r) b
        asks_by false f = absurd cc
        asks_by true f =
            subst (λ z. RepliesTo n (Raw bytes) (reply_item z r) (reply_entry at c z r) b)
            (same-some (incoming_raw x) q f)
            (record { asks_none = refl; tells = refl; made = λ none. refl })
replies-to n at c (Reply k result payload) q r made = absurd cc
replies-to n at c (RawReply label kind result payload) q r made = absurd cc

-- what is asked where something is in hand
asked-in-hand : (a : Point) (x : Hand) (n : ℕ) → a.hand ≡ Some x
    → asked_times n a ≡ times_in (is_ask n) (map loose_held a.state.held) a.state.bus + one
    (is_ask n) x.item
asked-in-hand a x n is =
    ap (λ o. times_in (is_ask n) (loose_hand o (map loose_held a.state.held)) a.state.bus) is
    ∙ (let c = times-cons (λ (l : Loose). is_ask n l.item) (loose_of x)
    (map loose_held a.state.held) in omega (arith, c))

pub once-replied : (m : Moment) (a : Point) (x : Hand) (q : Incoming) (r : Answer)
    (is : a.hand ≡ Some x) (made : request_in x.item a.state.bus ≡ Some q)
    (twoway : (q.oneway ≡ false) × AnswersAs m a x q r) → RepliesOnce a
    → RepliesOnce (changed m a (replies x q r is made twoway))
once-replied m a x q r is made twoway h = record {
  once = λ n.
      let t = replies-to n x.side x.connection x.item q r made in
      let less = replied-counts (is_ask n) (map loose_held a.state.held) x.connection.number
      (other_side x.side) (reply_item q r) a.state.bus in
      let c = h.once n in
      let told = times-append (is_reply_of n) a.told (reply_entry x.side x.connection q r ∷ []) in
      omega (arith, less, t.asks_none, t.tells, c, asked-in-hand a x n is, told);
  made = λ n none.
      let t = replies-to n x.side x.connection x.item q r made in
      let z = h.made n none in
      let told = times-append (is_reply_of n) a.told (reply_entry x.side x.connection q r ∷ []) in
      omega (arith, t.tells, t.made none, z, told);
}
