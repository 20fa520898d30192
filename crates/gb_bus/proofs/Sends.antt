-- A send stands for the machine's.
use Rattle.std.proofs.Common.{◌≡◌, ◌≤◌, ◌<◌, ℕ, ◌+◌, Bool, true, false, not, cond, Option}
use Rattle.std.proofs.Common.{Some, None, Err, option_and_then, List, [], ◌∷◌, ◌++◌}
use Rattle.std.proofs.Common.{length, eqb, is_some, refl, sym, ap, ◌∙◌, ◌⊎◌, ⊎_elim, inl, arith}
use Rattle.std.proofs.Common.{subst, add-one}
use Rattle.std.specs.List.{find}
use Rattle.gb_base.specs.declared.end.Side.{Side}
use Rattle.gb_base.specs.declared.outcome.Outcome.{Outcome}
use Rattle.gb_base.specs.declared.outcome.Outcome.TheVariants as outcome
use Rattle.gb_bus.proofs.Counted.{tells-made}
use Rattle.gb_bus.proofs.Endings.{lookup-other, lookup-same, same-test}
use Rattle.gb_bus.proofs.Finding.{no-twin, twin}
use Rattle.gb_bus.proofs.LookedUp.{next-is}
use Rattle.gb_bus.proofs.ConnectionChanges.{drawn-shown, put-shown, shown-put, shown-changed}
use Rattle.gb_bus.proofs.Queues.{connections-more}
use Rattle.gb_bus.proofs.Sides.{sides-sent, sides-sent_oneway}
use Rattle.gb_bus.proofs.SlotLaws.{Tell, tell_more, tell_sent}
use Rattle.gb_bus.proofs.Standing.{AreShown}
use Rattle.gb_bus.specs.Counting.{Tells, with_one}
use Rattle.gb_bus.specs.Ends.{first_outcome}
use Rattle.gb_bus.specs.Listing.{count}
use Rattle.gb_bus.specs.Parts.{next_of, numbered, put}
use Rattle.gb_bus.specs.Sending.{MadeWhere, Sends, SendsAs, SendsNone, SendsNowhere}
use Rattle.gb_bus.specs.Sending.{label_on}
use Rattle.gb_bus.specs.Sides.{Asks, AsksIn, IsSpentIn, LabelsIn}
use Rattle.gb_bus.specs.Slots.{SlotsKept, MakesAs}
use Rattle.gb_bus.specs.Shown.{ask_in, item_in}
use Rattle.gb_bus.specs.Stands.{AreMade, Around, KeepSides, Shows, Stands, kept}
use Rattle.gb_bus.specs.declared.answers.SendFault.{SendFault}
use Rattle.gb_bus.specs.declared.answers.SendFault.TheVariants as fault
use Rattle.gb_bus.specs.declared.bus.Bus.{Bus}
use Rattle.gb_bus.specs.Connection.{Connection}
use Rattle.gb_bus.specs.declared.queue.Item.{Item}
use Rattle.gb_bus.specs.declared.queue.Item.TheVariants as code
use Rattle.gb_bus.specs.declared.slots.Slot.{Slot}
use Rattle.gb_invariants.proofs.Apart.{apart-changed}
use Rattle.gb_invariants.proofs.Awaiting.{not-both, sent-after, sent-awaited, sent-before}
use Rattle.gb_invariants.proofs.Awaiting.{sent-request, unasked, unended}
use Rattle.gb_invariants.proofs.Changes.{sent-keeps}
use Rattle.gb_invariants.proofs.Selves.{drawn-self, put-self}
use Rattle.gb_invariants.proofs.Outcomes.{same-number}
use Rattle.gb_invariants.specs.Facts.{OutcomesFit}
use Rattle.gb_machine.proofs.Lists.{nth-past, nth-push}
use Rattle.gb_machine.specs.Bus as machine
use Rattle.gb_machine.specs.Bus.{Request, connection_of, has_number, next_number, other_side}
use Rattle.gb_machine.specs.Bus.{outcome_of, request_of}
use Rattle.gb_machine.specs.Labels.{with_last_label}
use Rattle.gb_machine.specs.LawsBus.{is_awaited}
use Rattle.gb_machine.specs.Lists.{at_first, lookup, nth}
use Rattle.gb_machine.specs.Sending as sending
use Rattle.gb_machine.specs.Sending.{Draft, draft, drawn, is_lost, is_wired, label_for, requested}
use Rattle.gb_machine.specs.Sending.{sent, sent_at_once}
use Rattle.gb_ops.specs.Calls.{Begins}

-- ---- outcomes

-- what the outcomes say of other requests than the one that is sent
sent_others : (d : Draft) (outs : List (ℕ × Outcome)) (m n : ℕ) → n < m ⊎ m < n
    → lookup n (sent_at_once d m outs) ≡ lookup n outs
sent_others d outs m n h = by d.oneway
  where
    by : (b : Bool) → lookup n (cond b ((m, outcome.Sent) ∷ outs) outs) ≡ lookup n outs
    by true = lookup-other m n outcome.Sent outs h
    by false = refl

-- and of it
sent_own : (d : Draft) (outs : List (ℕ × Outcome)) (m : ℕ) → lookup m outs ≡ None
    → lookup m (sent_at_once d m outs) ≡ first_outcome d.oneway
sent_own d outs m free = by d.oneway
  where
    by : (b : Bool) → lookup m (cond b ((m, outcome.Sent) ∷ outs) outs) ≡ first_outcome b
    by true = lookup-same m outcome.Sent outs
    by false = free

-- ---- connections

-- what the connections are once a request has this identifier
record Drawn (ys : List Connection) (b : machine.Bus) (d : Draft) (label : ℕ) (i : Item)
    (m : machine.Item) : Type 0 where
  label_is : label_for d b ≡ Some label
  shown : AreShown (b.requests ++ requested d label ∷ [])
      (at_first (numbered d.connection) (put (other_side d.side) i) ys)
      (at_first (has_number d.connection) (λ c. sending.put (other_side d.side) m (drawn d label c))
      b.connections)
  sides : KeepSides (at_first (numbered d.connection) (put (other_side d.side) i) ys)
      (sent d label b)

-- one request more changes nothing that is seen
shown-more : (around : Around) (x : Bus) (b : machine.Bus) (r : Request) → Stands around x b
    → AreShown (b.requests ++ r ∷ []) x.connections b.connections
shown-more around x b r s =
    s.shows.connections ∙ sym (connections-more around.items b r s.facts.fits.items)

draws : (around : Around) (x : Bus) (ys : List Connection) (b : machine.Bus) (k : ℕ) (at : Side)
    (kind : ℕ) (payload : List ℕ) (deadline : ℕ) (oneway : Bool) (label : ℕ) (i : Item)
    → Stands around x b
    → i ≡ item_in (b.requests ++ requested (draft k at kind payload deadline oneway) label ∷ [])
    (machine.Ask (next_number b))
    → LabelsIn x.connections ys k at (next_number b) deadline oneway label
    → Drawn ys b (draft k at kind payload deadline oneway) label i (machine.Ask (next_number b))
draws around x ys b k at kind payload deadline true label i s item h =
    let d = draft k at kind payload deadline true in
    let r = requested d label in
    let m = machine.Ask (next_number b) in
    subst (λ zs. Drawn zs b d label i m) (sym h.1) (record {
      label_is = ap Some (sym h.0);
      shown = shown-put (b.requests ++ r ∷ []) k (other_side at) i m
          (sending.put (other_side at) m) x.connections b.connections item
          (put-shown (b.requests ++ r ∷ []) (other_side at) m) (shown-more around x b r s);
      sides = sides-sent_oneway around.items x.connections b d label i s.facts.fits refl
          s.shows.sides;
    })
draws around x ys b k at kind payload deadline false label i s item w =
    let d = draft k at kind payload deadline false in
    let rs = b.requests ++ requested d label ∷ [] in
    let m = machine.Ask (next_number b) in
    record {
      label_is = sym (next-is x b k at s.shows)
          ∙ ap (option_and_then (next_of at)) w.found ∙ w.did.next;
      shown = shown-put rs k (other_side at) i m
          (λ c. sending.put (other_side at) m (with_last_label at label c)) ys
          b.connections item
          (λ c. put-shown rs (other_side at) m (with_last_label at label c)
          ∙ ap (put (other_side at) (item_in rs m)) (drawn-shown rs at label c))
          (shown-changed rs x.connections ys b.connections k at
          (λ u v. Begins u v (next_number b) deadline label)
          (shown-more around x b (requested d label) s) w);
      sides = sides-sent around.items x.connections ys b d label i s.shows.connections
          s.facts.fits refl w s.shows.sides;
    }

-- the new message is that of the new request
new_item : (b : machine.Bus) (d : Draft) (label number : ℕ) → number ≡ next_number b
    → code.Ask number label d.kind d.payload
    ≡ item_in (b.requests ++ requested d label ∷ []) (machine.Ask (next_number b))
new_item b d label number e =
    ap (λ n. code.Ask n label d.kind d.payload) e
    ∙ sym (ap (ask_in (next_number b))
    (ap (λ m. nth m (b.requests ++ requested d label ∷ [])) (add-one (length b.requests))
    ∙ nth-push b.requests (requested d label)))

-- ---- the answer

-- the bus once the request was kept and waits toward the other side
abbrev pub sending_on : Draft → ℕ → ℕ → SlotsKept → Bus → Bus
sending_on d label number y x = record x {
  connections = at_first (numbered d.connection)
      (put (other_side d.side) (code.Ask number label d.kind d.payload)) x.connections;
  slots = y;
}

-- no name names the next request yet
unnamed : (names : List ℕ) (b : machine.Bus) → AreMade names b → count (next_number b) names ≡ 0
unnamed [] b made = refl
unnamed (n ∷ ns) b made = by (eqb n (next_number b)) (λ i. eqb n (next_number b))
    (unnamed ns b made.1)
  where
    by : (t : Bool) → eqb n (next_number b) ≡ t → count (next_number b) ns ≡ 0
        → cond t (count (next_number b) ns + 1) (count (next_number b) ns) ≡ 0
    by false e later = later
    by true e later =
        absurd (not-both (is_some (request_of n b)) made.0
        (ap is_some (ap (λ m. request_of m b) (same-number n (next_number b) e)
        ∙ nth-past (next_number b) b.requests (omega arith))))

-- and names of requests that were made name such then
pub still-made : (names : List ℕ) (b c : machine.Bus)
    → ((n : ℕ) (r : Request) → request_of n b ≡ Some r → request_of n c ≡ Some r)
    → AreMade names b → AreMade names c
still-made [] b c same made = tt
still-made (n ∷ ns) b c same made =
    (by (request_of n b) (λ i. request_of n b) made.0, still-made ns b c same made.1)
  where
    by : (o : Option Request) → request_of n b ≡ o → is_some o ≡ true
        → is_some (request_of n c) ≡ true
    by None e h = absurd cc
    by (Some r) e h = ap is_some (same n r e)

-- what was awaited among those that were made before
awaited-so : (d : Draft) (label : ℕ) (b : machine.Bus) → OutcomesFit b → (m : ℕ)
    → m ≤ length b.requests → is_awaited m (sent d label b) ≡ is_awaited m b
awaited-so d label b fits m low =
    same-test (is_awaited m (sent d label b)) (is_awaited m b) before (sent-after d label b m)
  where
    before : is_awaited m (sent d label b) ≡ true → is_awaited m b ≡ true
    before h =
        ⊎_elim (λ o. o) (λ e. let is = e.0 in absurd (omega (arith, low, is)))
        (sent-before d label b m fits h)

-- a unidirectional request isn't awaited
sent-unawaited : (d : Draft) (label : ℕ) (b : machine.Bus) → OutcomesFit b → d.oneway ≡ true
    → is_awaited (next_number b) (sent d label b) ≡ false
sent-unawaited d label b fits oneway =
    by (is_awaited (next_number b) (sent d label b))
    (λ i. is_awaited (next_number b) (sent d label b))
  where
    by : (t : Bool) → is_awaited (next_number b) (sent d label b) ≡ t → t ≡ false
    by false e = refl
    by true e =
        absurd (⊎_elim
        (λ o. not-both (is_awaited (next_number b) b) o (unasked b fits))
        (λ w. not-both d.oneway oneway w.1) (sent-before d label b (next_number b) fits e))

-- what is kept once a request is made
kept-sent : (around : Around) (x : Bus) (b : machine.Bus) (d : Draft) (label number : ℕ)
    (slot : Slot) (y : SlotsKept) → Stands around x b → number ≡ next_number b
    → slot ≡ kept number true 0 None (requested d label)
    → (t : Bool) → d.oneway ≡ t → MakesAs t slot x.slots y
    → Tell y around.names (b.requests ++ requested d label ∷ [])
    (λ n. is_awaited n (sent d label b)) (λ n. outcome_of n (sent d label b))
kept-sent around x b d label number slot y s place is true oneway makes =
    tell_sent x.slots y around.names b.requests (λ n. is_awaited n b)
    (λ n. is_awaited n (sent d label b)) (λ n. outcome_of n b)
    (λ n. outcome_of n (sent d label b)) (requested d label) makes.at
    (awaited-so d label b s.facts.fits.outcomes)
    (λ m low. sent_others d b.outcomes (next_number b) m (inl (omega (arith, low))))
    (sent-unawaited d label b s.facts.fits.outcomes oneway) (unnamed around.names b s.named)
    s.shows.slots
kept-sent around x b d label number slot y s place is false oneway makes =
    tell_more x.slots y slot around.names b.requests (λ n. is_awaited n b)
    (λ n. is_awaited n (sent d label b)) (λ n. outcome_of n b)
    (λ n. outcome_of n (sent d label b)) (requested d label) makes.at
    (is ∙ ap (λ n. kept n true 0 None (requested d label)) place)
    (awaited-so d label b s.facts.fits.outcomes)
    (λ m low. sent_others d b.outcomes (next_number b) m (inl (omega (arith, low))))
    (sent-awaited d label b s.facts.fits.outcomes oneway)
    (sent_own d b.outcomes (next_number b) (unended b s.facts.fits.outcomes)
    ∙ ap first_outcome oneway)
    (unnamed around.names b s.named) s.shows.slots

-- and what is counted
counted-sent : (around : Around) (x : Bus) (b : machine.Bus) (d : Draft) (label : ℕ)
    (slot : Slot) (y : SlotsKept) → Stands around x b → (t : Bool) → d.oneway ≡ t
    → MakesAs t slot x.slots y → Tells y.tally (sent d label b)
counted-sent around x b d label slot y s t oneway makes =
    tells-made x.slots.tally y.tally b (sent d label b) (requested d label) (first_outcome t) refl
    (sent_own d b.outcomes (next_number b) (unended b s.facts.fits.outcomes)
    ∙ ap first_outcome oneway)
    (λ m low. sent_others d b.outcomes (next_number b) m (inl (omega (arith, low))))
    (by t makes) s.shows.tally
  where
    by : (u : Bool) → MakesAs u slot x.slots y → y.tally ≡ with_one (first_outcome u) x.slots.tally
    by true m = m.tally_is
    by false m = m.tally_is

shows-sent : (around : Around) (x : Bus) (b : machine.Bus) (d : Draft) (label number : ℕ)
    (cs : List Connection) (slot : Slot) (y : SlotsKept) → Stands around x b
    → number ≡ next_number b
    → slot ≡ kept number true 0 None (requested d label) → MakesAs d.oneway slot x.slots y
    → AreShown (b.requests ++ requested d label ∷ [])
    (at_first (numbered d.connection)
    (put (other_side d.side) (code.Ask number label d.kind d.payload)) cs)
    (sent d label b).connections
    → KeepSides (at_first (numbered d.connection)
    (put (other_side d.side) (code.Ask number label d.kind d.payload)) cs) (sent d label b)
    → Shows around.names (sending_on d label number y (record x { connections = cs }))
    (sent d label b)
shows-sent around x b d label number cs slot y s place is makes shown sides = record {
  made = s.shows.made;
  connections = shown;
  sides = sides;
  slots = kept-sent around x b d label number slot y s place is d.oneway refl makes;
  tally = counted-sent around x b d label slot y s d.oneway refl makes;
}

-- where no identifier is had there is none on the connection
none_on : (o : Option machine.Connection) → option_and_then (λ c. let n : Option ℕ = None in n) o
    ≡ None
none_on None = refl
none_on (Some c) = refl

-- the machine's connection is live where that of the bus is
live-twin : (rs : List Request) (k : ℕ) (xs : List Connection) (cs : List machine.Connection)
    → AreShown rs xs cs → is_some (find (numbered k) xs) ≡ true
    → is_some (find (has_number k) cs) ≡ true
live-twin rs k xs cs shown live = by (find (numbered k) xs) refl live
  where
    by : (o : Option Connection) → find (numbered k) xs ≡ o → is_some o ≡ true
        → is_some (find (has_number k) cs) ≡ true
    by None e h = absurd cc
    by (Some x) e h = ap is_some (twin rs k xs cs x shown e).live

-- the answer where no identifier is left
spent : (around : Around) (x : Bus) (b : machine.Bus) (k : ℕ) (at : Side) (kind : ℕ)
    (payload : List ℕ) (deadline : ℕ) (oneway : Bool) → Stands around x b
    → IsSpentIn x.connections k at oneway
    → SendsNone around x (draft k at kind payload deadline oneway) b
spent around x b k at kind payload deadline oneway s none = record {
  live = live-twin b.requests k x.connections b.connections s.shows.connections none.live;
  needs = none.needs;
  label = ap (λ t. label_on (draft k at kind payload deadline t) b) none.needs
      ∙ ap (λ o. option_and_then (λ c. o) (connection_of k b))
      (sym (next-is x b k at s.shows) ∙ none.spent) ∙ none_on (connection_of k b);
  stands = s;
}

pub sends_none : (around : Around) (x : Bus) (cs : List Connection) (b : machine.Bus) (k : ℕ)
    (at : Side) (n kind : ℕ) (payload : List ℕ) (deadline : ℕ) (oneway : Bool)
    (e : SendFault) → Stands around x b
    → AsksIn x.connections cs k at n kind payload deadline oneway (Err e)
    → SendsAs around (record x { connections = cs }) (draft k at kind payload deadline oneway) b
    (Err e)
sends_none around x cs b k at n kind payload deadline oneway fault.NoLabel s h =
    subst (λ ys. SendsNone around (record x { connections = ys })
    (draft k at kind payload deadline oneway) b) (sym h.1)
    (spent around x b k at kind payload deadline oneway s h.0)
sends_none around x cs b k at n kind payload deadline oneway fault.NoConnection s h =
    subst (λ ys. SendsNowhere around (record x { connections = ys })
    (draft k at kind payload deadline oneway) b) (sym h.1) (record {
      gone = no-twin b.requests k x.connections b.connections s.shows.connections h.0;
      stands = s;
    })
sends_none around x cs b k at n kind payload deadline oneway (fault.Memory m) s h = tt

-- whether the connection is live, and why no request is made
pub made-where : (x : Bus) (cs : List Connection) (k : ℕ) (at : Side) (n kind : ℕ)
    (payload : List ℕ) (deadline : ℕ) (oneway : Bool) (e : SendFault)
    → AsksIn x.connections cs k at n kind payload deadline oneway (Err e)
    → MadeWhere x k at oneway (Err e)
made-where x cs k at n kind payload deadline oneway fault.NoLabel h = h.0
made-where x cs k at n kind payload deadline oneway fault.NoConnection h = ap is_some h.0
made-where x cs k at n kind payload deadline oneway (fault.Memory m) h = λ low. h

-- the answer where what waits and what is kept are given at once
sends_on : (around : Around) (x : Bus) (ys : List Connection) (z : Bus) (b : machine.Bus) (k : ℕ)
    (at : Side) (kind : ℕ) (payload : List ℕ) (deadline : ℕ) (oneway : Bool)
    (label number : ℕ) (lost : Bool) (found : Connection) (slot : Slot) (w : SlotsKept)
    → Stands around x b → number ≡ next_number b
    → LabelsIn x.connections ys k at (next_number b) deadline oneway label
    → find (numbered k) x.connections ≡ Some found → lost ≡ not found.wired
    → slot ≡ kept number true 0 None (requested (draft k at kind payload deadline oneway) label)
    → MakesAs oneway slot x.slots w
    → z ≡ sending_on (draft k at kind payload deadline oneway) label number w
    (record x { connections = ys })
    → Sends around z (draft k at kind payload deadline oneway) b
    (record { number = number; label = label; lost = lost })
sends_on around x ys z b k at kind payload deadline oneway label number lost found slot v s place h
    looks is_lost is makes after =
    let d = draft k at kind payload deadline oneway in
    let c = twin b.requests k x.connections b.connections found s.shows.connections looks in
    let w = draws around x ys b k at kind payload deadline oneway label
    (code.Ask number label kind payload) s (new_item b d label number place) h in
    let ask = machine.Ask (next_number b) in
    record {
      label = ap (option_and_then (λ o. label_for d b)) c.live ∙ w.label_is;
      number = place;
      lost = is_lost
          ∙ ap not (ap (λ (v : Connection). v.wired) c.shown ∙ sym (ap is_wired c.live));
      stands = subst (λ (u : Bus). Stands around u (sent d label b)) (sym after) (record {
        shows = shows-sent around x b d label number ys slot v s place is makes w.shown w.sides;
        named = still-made around.names b (sent d label b) (sent-request d label b) s.named;
        facts = record {
          fits = sent-keeps around.items d label c.connection b c.live w.label_is
              s.facts.fits;
          apart = apart-changed b k (λ v. sending.put (other_side at) ask (drawn d label v))
              (λ v.
              let p = put-self (other_side at) ask (drawn d label v) in
              let q = drawn-self d label v in
              record { number = p.number ∙ q.number; ap = p.ap ∙ q.ap; peer = p.peer ∙ q.peer })
              s.facts.apart;
        };
      });
    }

-- The answer of a send that draws an identifier, or needs none. What waits and what is kept are
-- given by their parts.
pub sends : (around : Around) (x : Bus) (b : machine.Bus) (k : ℕ) (at : Side) (kind : ℕ)
    (payload : List ℕ) (deadline : ℕ) (oneway : Bool)
    (label number : ℕ) (lost : Bool) (slot : Slot) (cs : List Connection) (w : SlotsKept)
    → Stands around x b → number ≡ x.slots.tally.requests + 1
    → Asks x.connections cs k at number kind payload deadline oneway label lost
    → slot ≡ kept number true 0 None (requested (draft k at kind payload deadline oneway) label)
    → MakesAs oneway slot x.slots w
    → Sends around (record x { connections = cs; slots = w })
    (draft k at kind payload deadline oneway) b
    (record { number = number; label = label; lost = lost })
sends around x b k at kind payload deadline oneway label number lost slot cs w s
    count asks is makes =
    let place : number ≡ next_number b = count ∙ ap (λ l. l + 1) s.shows.tally.requests in
    sends_on around x asks.begun (record x { connections = cs; slots = w }) b k at kind payload
    deadline oneway label number lost asks.connection slot w s place
    (subst (λ n. LabelsIn x.connections asks.begun k at n deadline oneway label) place asks.labels)
    asks.found asks.lost_is is makes
    (ap (λ l. record x { connections = l; slots = w }) asks.waits)
