-- An order that grows by one place.
use Rattle.std.proofs.Common.{◌≡◌, ◌≢◌, ℕ, ◌+◌, Bool, true, false, List, [], ◌∷◌, ◌++◌}
use Rattle.std.proofs.Common.{append_assoc, length, refl, suc, sym, ap, ◌∙◌, arith, subst}
use Rattle.std.proofs.Common.{⊎_elim}
use Rattle.std.proofs.lemmas.Bool.Decides.{nat_tests}
use Rattle.std.specs.List.{filter}
use Rattle.std.specs.Prelude.{if◌then◌else◌, map}
use Rattle.gb_base.specs.declared.entry.Entry.TheVariants as entry
use Rattle.gb_base.specs.declared.event.Event.{Event}
use Rattle.gb_base.specs.declared.journal.JournalEntry.{JournalEntry}
use Rattle.gb_base.specs.declared.parts.Asked.{Asked}
use Rattle.gb_base.specs.declared.refusal.Refusal.TheVariants as why
use Rattle.gb_formats.specs.Orders.{Merged, Place, is_by, merge, one_of, placed, times_of, who_at}
use Rattle.gb_formats.specs.Orders.{without_first}
use Rattle.gb_formats.specs.Texts.{entries_text}
use Rattle.gb_machine.specs.AskingEvents.{asks}
use Rattle.gb_machine.specs.Journal.{after, events_of}
use Rattle.gb_machine.specs.Events.{step}
use Rattle.gb_machine.specs.Report.{event_reported}
use Rattle.gb_machine.specs.Shared.{done_in, has_full, report_merged}
use Rattle.gb_machine.specs.State.{State, first_state}
use Rattle.gb_share.specs.Doing.{events_by, one_if}
use Rattle.gb_share.specs.Fulls.{AskMost, ComeLate, DoAsk}
use Rattle.gb_share.specs.Placing.{ArePlaced, Pops}
use Rattle.gb_share.proofs.FullLines.{done_append, done_full, exact_on, full_or, going_done}
use Rattle.gb_share.proofs.FullLines.{going_full, late_done, late_full, no_fewer, none_full}
use Rattle.gb_share.proofs.FullLines.{one_more}
use Rattle.gb_share.proofs.Queues.{by_who, first_is, other_who, others_stay, same_who}

-- ---- whatever the place is

mapped : (who : ℕ) (rest : List Asked) (q p : ℕ → List Merged) (a : Asked) (f : Bool)
    → filter (is_by who) rest ≡ map (λ (m : Merged). m.0) (q who) → Pops who (a, f) q p
    → filter (is_by who) rest ≡ a ∷ map (λ (m : Merged). m.0) (p who)
mapped who rest q p a f is pops =
    is ∙ ap (λ (ms : List Merged). map (λ (m : Merged). m.0) ms) pops.here

lead_on : (asked : List Asked) (o o' : List Place) (who : ℕ) (f : Bool) (a : Asked)
    (front : List Merged) (rest behind : List Asked)
    → ((more : List Place) → merge asked (o ++ more) ≡ front ++ merge rest more)
    → filter (is_by who) rest ≡ a ∷ behind → o' ≡ o ++ (who, f) ∷ [] → (more : List Place)
    → merge asked (o' ++ more) ≡ (front ++ (a, f) ∷ []) ++ merge (without_first who rest) more
lead_on asked o o' who f a front rest behind leads own is more =
    ap (λ (x : List Place). merge asked (x ++ more)) is
    ∙ (ap (λ (x : List Place). merge asked x) (append_assoc o ((who, f) ∷ []) more)
    ∙ (leads ((who, f) ∷ more)
    ∙ (ap (λ x. front ++ placed x f (merge (without_first who rest) more))
    (first_is who rest a behind own).0
    ∙ sym (append_assoc front ((a, f) ∷ []) (merge (without_first who rest) more)))))

each_on : (who : ℕ) (f : Bool) (a : Asked) (rest : List Asked) (q p : ℕ → List Merged)
    → ((r : ℕ) → filter (is_by r) rest ≡ map (λ (m : Merged). m.0) (q r)) → Pops who (a, f) q p
    → (r : ℕ) → filter (is_by r) (without_first who rest) ≡ map (λ (m : Merged). m.0) (p r)
each_on who f a rest q p each pops =
    by_who (λ r. filter (is_by r) (without_first who rest) ≡ map (λ (m : Merged). m.0) (p r)) who
    (first_is who rest a (map (λ (m : Merged). m.0) (p who))
    (mapped who rest q p a f (each who) pops)).1
    (λ r apart. others_stay who r rest apart
    ∙ (each r ∙ ap (λ (ms : List Merged). map (λ (m : Merged). m.0) ms) (sym (pops.there r apart))))

times_end : (r : ℕ) (o : List Place) (p : Place)
    → times_of r (who_at (o ++ p ∷ [])) ≡ times_of r (who_at o) + one_of r p.0
times_end r [] p = omega arith
times_end r (x ∷ xs) p = let later = times_end r xs p in omega arith

counts_on : (asked : List Asked) (o o' : List Place) (who : ℕ) (f : Bool) (a : Asked)
    (q p : ℕ → List Merged)
    → ((r : ℕ) → times_of r (who_at o) + length (q r) ≡ length (filter (is_by r) asked))
    → Pops who (a, f) q p → o' ≡ o ++ (who, f) ∷ [] → (r : ℕ)
    → times_of r (who_at o') + length (p r) ≡ length (filter (is_by r) asked)
counts_on asked o o' who f a q p counts pops is =
    by_who (λ r. times_of r (who_at o') + length (p r) ≡ length (filter (is_by r) asked)) who
    (let more = ap (λ (x : List Place). times_of who (who_at x)) is ∙ times_end who o (who, f) in
    let one : one_of who who ≡ 1 = ap (λ b. if b then 1 else 0) (same_who who) in
    let long = ap (λ (ms : List Merged). length ms) pops.here in
    let all = counts who in omega arith)
    (λ r apart.
    (let more = ap (λ (x : List Place). times_of r (who_at x)) is ∙ times_end r o (who, f) in
    let none : one_of r who ≡ 0 = ap (λ b. if b then 1 else 0) (other_who who r apart) in
    let long = ap (λ (ms : List Merged). length ms) (pops.there r apart) in
    let all = counts r in omega arith))

may_on : (es : List Event) (who : ℕ) (f : Bool) (a : Asked) (q p : ℕ → List Merged)
    → ((r : ℕ) → DoAsk es (q r)) → Pops who (a, f) q p → (r : ℕ) → DoAsk es (p r)
may_on es who f a q p may pops =
    by_who (λ r. DoAsk es (p r)) who
    (subst (λ (ms : List Merged). DoAsk es ms) pops.here (may who)).1
    (λ r apart. subst (λ (ms : List Merged). DoAsk es ms) (sym (pops.there r apart)) (may r))

may_now : (es : List Event) (who : ℕ) (f : Bool) (a : Asked) (q p : ℕ → List Merged)
    → ((r : ℕ) → DoAsk es (q r)) → Pops who (a, f) q p → f ≡ true
    → (asks a.event ≡ true) × AskMost es
may_now es who f a q p may pops =
    (subst (λ (ms : List Merged). DoAsk es ms) pops.here (may who)).0

ask_on : (es : List Event) (front : List Merged) (a : Asked) (f : Bool) → DoAsk es front
    → (f ≡ true → (asks a.event ≡ true) × AskMost es) → DoAsk es (front ++ (a, f) ∷ [])
ask_on es [] a f all last = (last, tt)
ask_on es (m ∷ ms) a f all last = (all.0, ask_on es ms a f all.1 last)

-- the line that is placed is its requester's
filter_head : (who : ℕ) (xs : List Asked) (a : Asked) (more : List Asked)
    → filter (is_by who) xs ≡ a ∷ more → is_by who a ≡ true
filter_head who [] a more is = absurd cc
filter_head who (x ∷ xs) a more is = go (is_by who x) refl (filter_head who xs a more) is
  where
    go : (b : Bool) → is_by who x ≡ b → (filter (is_by who) xs ≡ a ∷ more → is_by who a ≡ true)
        → (if b then x ∷ filter (is_by who) xs else filter (is_by who) xs) ≡ a ∷ more
        → is_by who a ≡ true
    go true mine later is = let same : x ≡ a = cc in ap (λ y. is_by who y) (sym same) ∙ mine
    go false mine later is = later is

its_own : (who : ℕ) (rest : List Asked) (q p : ℕ → List Merged) (a : Asked) (f : Bool)
    → filter (is_by who) rest ≡ map (λ (m : Merged). m.0) (q who) → Pops who (a, f) q p
    → a.who ≡ who
its_own who rest q p a f is pops =
    let mine = filter_head who rest a (map (λ (m : Merged). m.0) (p who))
    (mapped who rest q p a f is pops) in grind (arith, nat_tests)

-- ---- a full place

-- a full line of its own is behind none that was done
behind_full : (who : ℕ) (a : Asked) (placed : List Merged) (q p : ℕ → List Merged)
    (entries : List JournalEntry) → a.who ≡ who → Pops who (a, true) q p
    → ((r : ℕ) → has_full r placed ≡ true → ComeLate r 0 placed entries)
    → ((r : ℕ) (front back : List Merged) (b : Asked) → q r ≡ front ++ (b, true) ∷ back
    → ComeLate r (length (done_in front)) placed entries)
    → (r : ℕ) → has_full r (placed ++ (a, true) ∷ []) ≡ true
    → ComeLate r 0 (placed ++ (a, true) ∷ []) entries
behind_full who a placed q p entries by pops behind ahead r had =
    late_full r 0 placed (placed ++ (a, true) ∷ []) entries (done_full placed a)
    (⊎_elim (λ (already : has_full r placed ≡ true). behind r already)
    (λ (now : a.who ≡ r). subst (λ n. ComeLate n 0 placed entries) (sym by ∙ now)
    (ahead who [] (p who) a pops.here))
    (full_or r placed a had))

ahead_full : (who : ℕ) (a : Asked) (placed : List Merged) (q p : ℕ → List Merged)
    (entries : List JournalEntry) → Pops who (a, true) q p
    → ((r : ℕ) (front back : List Merged) (b : Asked) → q r ≡ front ++ (b, true) ∷ back
    → ComeLate r (length (done_in front)) placed entries)
    → (r : ℕ) (front back : List Merged) (b : Asked) → p r ≡ front ++ (b, true) ∷ back
    → ComeLate r (length (done_in front)) (placed ++ (a, true) ∷ []) entries
ahead_full who a placed q p entries pops ahead r front back b is =
    late_full r (length (done_in front)) placed (placed ++ (a, true) ∷ []) entries
    (done_full placed a)
    (by_who (λ n. p n ≡ front ++ (b, true) ∷ back
    → ComeLate n (length (done_in front)) placed entries) who
    (λ at. ahead who ((a, true) ∷ front) back b (pops.here ∙ ap (λ l. (a, true) ∷ l) at))
    (λ n apart at. ahead n front back b (sym (pops.there n apart) ∙ at)) r is)

pub place_full : (asked : List Asked) (hex : Bool) (o o' : List Place) (t t' : List ℕ)
    (q p : ℕ → List Merged) (es : List JournalEntry) (last : State) (who : ℕ) (a : Asked)
    → ArePlaced asked hex o t q es last → Pops who (a, true) q p → o' ≡ o ++ (who, true) ∷ []
    → t' ≡ t ++ entries_text a.line hex (entry.Refused why.Full ∷ [])
    → ArePlaced asked hex o' t' p es last
place_full asked hex o o' t t' q p es last who a s pops order text = record {
  placed = s.placed ++ (a, true) ∷ [];
  rest = without_first who s.rest;
  state = s.state;
  leads = lead_on asked o o' who true a s.placed s.rest (map (λ (m : Merged). m.0) (p who)) s.leads
      (mapped who s.rest q p a true (s.each who) pops) order;
  reports = λ more.
      ap (λ (ms : List Merged). report_merged hex first_state ms)
      (append_assoc s.placed ((a, true) ∷ []) more)
      ∙ (s.reports ((a, true) ∷ more)
      ∙ (sym (append_assoc t (entries_text a.line hex (entry.Refused why.Full ∷ []))
      (report_merged hex s.state more))
      ∙ ap (λ x. x ++ report_merged hex s.state more) (sym text)));
  ends = λ more.
      ap (λ (ms : List Merged). after first_state (done_in ms))
      (append_assoc s.placed ((a, true) ∷ []) more)
      ∙ s.ends ((a, true) ∷ more);
  legal = s.legal;
  each = each_on who true a s.rest q p s.each pops;
  ran = by_who (λ r. done_in (p r) ≡ events_by r es) who
      (sym (ap (λ (ms : List Merged). done_in ms) pops.here) ∙ s.ran who)
      (λ r apart. ap (λ (ms : List Merged). done_in ms) (pops.there r apart) ∙ s.ran r);
  counts = counts_on asked o o' who true a q p s.counts pops order;
  all = s.all;
  all_is = ap (λ ds. ds ++ events_of es) (done_full s.placed a) ∙ s.all_is;
  asking = ask_on s.all s.placed a true s.asking (may_now s.all who true a q p s.may pops);
  may = may_on s.all who true a q p s.may pops;
  behind = behind_full who a s.placed q p es own pops s.behind s.ahead;
  ahead = ahead_full who a s.placed q p es pops s.ahead;
  going = going_full s.placed a s.going;
  exact = exact_on s.placed who a true q p own pops.here pops.there s.exact;
}
  where
    own : a.who ≡ who
    own = its_own who s.rest q p a true (s.each who) pops

-- ---- a place of a line that was done

heads : (a b : Event) (xs ys : List Event) → a ∷ xs ≡ b ∷ ys → (a ≡ b) × (xs ≡ ys)
heads a b xs ys is = (cc, cc)

pub own_events : (e : JournalEntry) (es : List JournalEntry)
    → events_by e.by (e ∷ es) ≡ e.event ∷ events_by e.by es
own_events e es = ap (λ b. one_if b e.event ++ events_by e.by es) (same_who e.by)

pub other_events : (e : JournalEntry) (es : List JournalEntry) (r : ℕ) → r ≢ e.by
    → events_by r (e ∷ es) ≡ events_by r es
other_events e es r apart = ap (λ b. one_if b e.event ++ events_by r es) (other_who e.by r apart)

behind_done : (a : Asked) (e : JournalEntry) (placed : List Merged) (entries : List JournalEntry)
    → a.event ≡ e.event
    → ((r : ℕ) → has_full r placed ≡ true → ComeLate r 0 placed (e ∷ entries))
    → (r : ℕ) → has_full r (placed ++ (a, false) ∷ []) ≡ true
    → ComeLate r 0 (placed ++ (a, false) ∷ []) entries
behind_done a e placed entries same behind r had =
    late_done r 0 0 placed (placed ++ (a, false) ∷ []) e entries
    (done_append placed ((a, false) ∷ []) ∙ ap (λ d. done_in placed ++ d ∷ []) same)
    (λ front low. omega arith) (behind r (sym (none_full r placed a) ∙ had))

ahead_done : (a : Asked) (e : JournalEntry) (placed : List Merged) (q p : ℕ → List Merged)
    (entries : List JournalEntry) → a.event ≡ e.event → Pops e.by (a, false) q p
    → ((r : ℕ) (front back : List Merged) (b : Asked) → q r ≡ front ++ (b, true) ∷ back
    → ComeLate r (length (done_in front)) placed (e ∷ entries))
    → (r : ℕ) (front back : List Merged) (b : Asked) → p r ≡ front ++ (b, true) ∷ back
    → ComeLate r (length (done_in front)) (placed ++ (a, false) ∷ []) entries
ahead_done a e placed q p entries same pops ahead r front back b is =
    by_who (λ n. p n ≡ front ++ (b, true) ∷ back
    → ComeLate n (length (done_in front)) (placed ++ (a, false) ∷ []) entries) e.by
    (λ at.
    late_done e.by (length (done_in front)) (suc (length (done_in front))) placed
    (placed ++ (a, false) ∷ []) e entries grown
    (λ es low. (let more = one_more e es in omega arith))
    (ahead e.by ((a, false) ∷ front) back b (pops.here ∙ ap (λ l. (a, false) ∷ l) at)))
    (λ n apart at.
    late_done n (length (done_in front)) (length (done_in front)) placed
    (placed ++ (a, false) ∷ []) e entries grown
    (λ es low. (let more = no_fewer n e es in omega arith))
    (ahead n front back b (sym (pops.there n apart) ∙ at)))
    r is
  where
    grown : done_in (placed ++ (a, false) ∷ []) ≡ done_in placed ++ e.event ∷ []
    grown = done_append placed ((a, false) ∷ []) ∙ ap (λ d. done_in placed ++ d ∷ []) same

pub place_done : (asked : List Asked) (hex : Bool) (o o' : List Place) (t t' : List ℕ)
    (q p : ℕ → List Merged) (e : JournalEntry) (es : List JournalEntry) (last : State) (a : Asked)
    → ArePlaced asked hex o t q (e ∷ es) last → Pops e.by (a, false) q p
    → o' ≡ o ++ (e.by, false) ∷ [] → t' ≡ t ++ entries_text a.line hex e.entries
    → ArePlaced asked hex o' t' p es last
place_done asked hex o o' t t' q p e es last a s pops order text =
    let both = heads a.event e.event (done_in (p e.by)) (events_by e.by es)
    (sym (ap (λ (ms : List Merged). done_in ms) pops.here)
    ∙ (s.ran e.by ∙ own_events e es)) in record {
      placed = s.placed ++ (a, false) ∷ [];
      rest = without_first e.by s.rest;
      state = (step s.state e.event).state;
      leads = lead_on asked o o' e.by false a s.placed s.rest (map (λ (m : Merged). m.0) (p e.by))
          s.leads (mapped e.by s.rest q p a false (s.each e.by) pops) order;
      reports = λ more.
          ap (λ (ms : List Merged). report_merged hex first_state ms)
          (append_assoc s.placed ((a, false) ∷ []) more)
          ∙ (s.reports ((a, false) ∷ more)
          ∙ (ap (λ (x : Event). t ++ event_reported a.line hex (step s.state x)
          (λ later. report_merged hex later more)) both.0
          ∙ (ap (λ x. t ++ (entries_text a.line hex x
          ++ report_merged hex (step s.state e.event).state more)) (sym s.legal.0)
          ∙ (sym (append_assoc t (entries_text a.line hex e.entries)
          (report_merged hex (step s.state e.event).state more))
          ∙ ap (λ x. x ++ report_merged hex (step s.state e.event).state more) (sym text)))));
      ends = λ more.
          ap (λ (ms : List Merged). after first_state (done_in ms))
          (append_assoc s.placed ((a, false) ∷ []) more)
          ∙ (s.ends ((a, false) ∷ more)
          ∙ ap (λ (x : Event). after (step s.state x).state (done_in more)) both.0);
      legal = s.legal.1;
      each = each_on e.by false a s.rest q p s.each pops;
      ran = by_who (λ r. done_in (p r) ≡ events_by r es) e.by both.1
          (λ r apart. ap (λ (ms : List Merged). done_in ms) (pops.there r apart)
          ∙ (s.ran r ∙ other_events e es r apart));
      counts = counts_on asked o o' e.by false a q p s.counts pops order;
      all = s.all;
      all_is =
          ap (λ ds. ds ++ events_of es) (done_append s.placed ((a, false) ∷ []))
          ∙ (append_assoc (done_in s.placed) (a.event ∷ []) (events_of es)
          ∙ (ap (λ d. done_in s.placed ++ d ∷ events_of es) both.0 ∙ s.all_is));
      asking = ask_on s.all s.placed a false s.asking (λ f. absurd cc);
      may = may_on s.all e.by false a q p s.may pops;
      behind = behind_done a e s.placed es both.0 s.behind;
      ahead = ahead_done a e s.placed q p es both.0 pops s.ahead;
      going = going_done s.placed a e es s.going (sym own) (s.behind a.who);
      exact = exact_on s.placed e.by a false q p own pops.here pops.there s.exact;
    }
  where
    own : a.who ≡ e.by
    own = its_own e.by s.rest q p a false (s.each e.by) pops
