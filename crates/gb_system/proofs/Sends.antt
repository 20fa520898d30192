-- A request of a script goes on a connection, or is refused, as the machine does.
use Rattle.std.proofs.Common.{◌≡◌, ◌≤◌, ◌<◌, ℕ, ◌+◌, nat_lt, true, false, cond, ◌||◌, Option, Some}
use Rattle.std.proofs.Common.{None, IsSome, is_some, option_map, option_and_then, Ok, Err, List, []}
use Rattle.std.proofs.Common.{◌∷◌, ◌++◌, length, refl, sym, ap, ◌∙◌, subst, arith}
use Rattle.std.proofs.lemmas.Bool.Decides.{nat_tests}
use Rattle.gb_base.specs.declared.end.End.{End}
use Rattle.gb_base.specs.declared.end.End.TheVariants as end
use Rattle.gb_base.specs.declared.end.Side.TheVariants as side
use Rattle.gb_base.specs.declared.entry.Entry.{Entry}
use Rattle.gb_base.specs.declared.event.Event.TheVariants as event
use Rattle.gb_base.specs.declared.name.Name.{Name}
use Rattle.gb_base.specs.declared.interface.Link.{Link}
use Rattle.gb_base.specs.declared.refusal.Refusal.{Refusal}
use Rattle.gb_base.specs.declared.refusal.Refusal.TheVariants as why
use Rattle.gb_bus.specs.Listing.{count}
use Rattle.gb_bus.specs.Naming.{asked_for}
use Rattle.gb_bus.specs.Sending.{label_on}
use Rattle.gb_bus.specs.declared.bus.Bus as code
use Rattle.gb_formats.specs.ValidEvents.{IsFar, IsValid}
use Rattle.gb_invariants.proofs.Awaiting.{sent-awaited, sent-new}
use Rattle.gb_invariants.specs.Facts.{OutcomesFit}
use Rattle.gb_machine.proofs.Conditions.{front-unmet, unmet, unrefused}
use Rattle.gb_machine.proofs.Opened.{machine_opened}
use Rattle.gb_machine.proofs.Options.{none-of}
use Rattle.gb_machine.proofs.Steps.{told}
use Rattle.gb_machine.specs.Actions.{Action, Told, given}
use Rattle.gb_machine.specs.Asking.{asks, asks_with}
use Rattle.gb_machine.specs.Bus.{Bus, Connection, connection_of, next_number, request_of}
use Rattle.gb_machine.specs.Host.{link_at}
use Rattle.gb_machine.specs.HostRefusals.{is_kept, send_conditions}
use Rattle.gb_machine.specs.Labels.{cyclic_label, next_label}
use Rattle.gb_machine.specs.LineActions.{ap_draft, sends, sends_on}
use Rattle.gb_machine.specs.Lists.{Condition, conditions_of, first_met}
use Rattle.gb_machine.specs.Names.{bound, is_bound, named}
use Rattle.gb_machine.specs.Refusals.{has_no_label, is_long_payload, send_to_conditions}
use Rattle.gb_machine.specs.Sending.{Draft, label_for, sent}
use Rattle.gb_machine.specs.State.{State}
use Rattle.gb_system.proofs.Doings.{does-by_state, does-given, does-is}
use Rattle.gb_system.proofs.NamedRequests.{Binds, Keeps, bound-stand}
use Rattle.gb_laws.specs.Possible.{IsAskable}
use Rattle.gb_system.specs.Doing.{Does, IsDone, IsRefused}
use Rattle.gb_system.specs.Sending.{GoesAs, IsWay}
use Rattle.gb_system.specs.Stands.{PartiesStand, PartsStand, names_of}
use Rattle.gb_system.specs.declared.parties.Parties.{Parties}
use Rattle.gb_system.proofs.Ways.{met-late}

-- ---- the request

-- the number of a request is there, where an identifier is
is-numbered : (o : Option ℕ) (label : Option ℕ) (n : ℕ) → IsSome label
    → o ≡ option_map (λ l. n) label → o ≡ Some n
is-numbered o None n h is = absurd (cc (h))
is-numbered o (Some l) n h is = is

module _ (k kind : ℕ) (payload : List ℕ) (deadline : ℕ) where
  -- what is asked
  abbrev pub wanted : Draft
  wanted = ap_draft k kind payload deadline

  abbrev asks_by : Option Connection → Option ℕ → Action
  asks_by o p = given o (λ c. given p (λ l. asks_with wanted c l))

  -- Names are no matter of a request.
  asks-named : (names : List (Name × ℕ)) (s : State) → asks wanted (record s { names = names })
      ≡ told (record (asks wanted s).state { names = names }) (asks wanted s).entries
  unfolding machine_opened
  asks-named names s = by (connection_of k s.bus) (label_for wanted s.bus)
    where
      by : (o : Option Connection) (p : Option ℕ) → asks_by o p (record s { names = names })
          ≡ told (record (asks_by o p s).state { names = names }) (asks_by o p s).entries
      by None p = refl
      by (Some c) None = refl
      by (Some c) (Some l) = refl

  -- A request changes no names.
  asks-names : (s : State) → (asks wanted s).state.names ≡ s.names
  asks-names s = ap (λ (t : Told). t.state.names) (asks-named s.names s)

  -- where an identifier is left, the request gets it
  is-labelled : (b : Bus) → IsSome (next_label k side.Ap b) → IsSome (label_on wanted b)
  is-labelled b h = by (connection_of k b) refl
    where
      by : (o : Option Connection) → connection_of k b ≡ o
          → IsSome (option_and_then (λ (c : Connection). next_label k side.Ap b) o)
      by None e = subst (λ (p : Option Connection).
          IsSome (option_and_then (cyclic_label k side.Ap b) p)) e h
      by (Some c) e = h

  -- The request is asked for.
  asks-awaited : (s : State) (names : List ℕ) → OutcomesFit s.bus → IsSome (label_on wanted s.bus)
      → is_some (asked_for names (next_number s.bus) (asks wanted s).state.bus) ≡ true
  unfolding machine_opened
  asks-awaited s names fits label = by (connection_of k s.bus) (label_for wanted s.bus) label
    where
      asked : (l : ℕ) → is_some (asked_for names (next_number s.bus) (sent wanted l s.bus)) ≡ true
      asked l =
          ap (λ t. is_some (cond (t || nat_lt 0 (count (next_number s.bus) names))
          (request_of (next_number s.bus) (sent wanted l s.bus)) None))
          (sent-awaited wanted l s.bus fits refl)
          ∙ ap is_some (sent-new wanted l s.bus)

      by : (o : Option Connection) (p : Option ℕ) → IsSome (option_and_then (λ c. p) o)
          → is_some (asked_for names (next_number s.bus) (asks_by o p s).state.bus) ≡ true
      by None p e = absurd cc
      by (Some c) None e = absurd cc
      by (Some c) (Some l) e = asked l

  -- The machine binds the name before the request is made, which is the same as behind it.
  sends_on-is : (s : State) (name : Name) (timeout : ℕ) → deadline ≡ s.now + timeout
      → sends_on name k kind payload timeout s
      ≡ told (bound name (next_number s.bus) (asks wanted s).state) (asks wanted s).entries
  unfolding machine_opened
  sends_on-is s name timeout wait =
      let n = next_number s.bus in
      let after = asks wanted s in
      ap (λ t. asks (ap_draft k kind payload t) (bound name n s)) (sym wait)
      ∙ asks-named (bound name n s).names s
      ∙ ap (λ ns. told (record after.state { names = ns ++ (name, n) ∷ [] }) after.entries)
      (sym (asks-names s))

  -- what is known of the answer of a request
  abbrev pub IsNumber : Parties → Option ℕ → Type 0
  IsNumber x o = (t : State) → PartsStand [] x t
      → o ≡ option_map (λ l. next_number t.bus) (label_on wanted t.bus)

  module _ (x : Parties) (s : State) (st : PartsStand [] x s) (o : Option ℕ) (number : IsNumber x o)
      (label : IsSome (next_label k side.Ap s.bus)) where
    -- one whose connection has an identifier left has a number
    pub sent-numbered : o ≡ Some (next_number s.bus)
    sent-numbered =
        is-numbered o (label_on wanted s.bus) (next_number s.bus) (is-labelled s.bus label)
        (number s st)

    -- a request is sent on a connection
    pub sent-on : (y : Parties) (z : code.Bus) (names : List (Name × ℕ)) (name : Name)
        (timeout n : ℕ) {a b : List Entry} → named name s.names ≡ None
        → Binds y.names names name n → Keeps y.bus z n → deadline ≡ x.time + timeout → o ≡ Some n
        → Does y (asks wanted) s a b
        → Does (record y { bus = z; names = names }) (sends_on name k kind payload timeout) s a b
    sent-on y z names name timeout n free binds keeps wait is d =
        let after = asks wanted s in
        let next : n ≡ next_number s.bus = cc (is, sent-numbered) in
        does-is (bound name n after.state) after.entries
        (sends_on-is s name timeout (wait ∙ sym (ap (λ t. t + timeout) st.rest.time))
        ∙ ap (λ m. told (bound name m after.state) after.entries) (sym next)) d.told_is
        (bound-stand y after.state z names name n d.stand
        (ap (named name) (asks-names s) ∙ free) binds keeps
        (subst (λ m. is_some (asked_for (names_of after.state) m after.state.bus) ≡ true)
        (sym next)
        (asks-awaited s (names_of after.state) st.bus.facts.fits.outcomes
        (is-labelled s.bus label))))

-- ---- the event

-- What becomes of a request that is sent on a connection, by the parties before and after it.
abbrev pub SendsOn : Name → ℕ → ℕ → List ℕ → ℕ → Parties → Parties → List Entry → List Entry
    → Type 0
SendsOn name k kind payload timeout x y before told =
    (t : State) → PartsStand [] x t → named name t.names ≡ None → IsAskable kind payload
    → IsSome (next_label k side.Ap t.bus)
    → Does y (sends_on name k kind payload timeout) t before told

-- its payload fits into a message
is-short : (payload : List ℕ) → is_long_payload payload ≡ false → length payload ≤ 2040
is-short payload h = grind (arith, nat_tests, h)

module _ (s : State) (name : Name) (kind : ℕ) (payload : List ℕ) where
  -- a request of a script is refused
  pub send-refused : {x : Parties} (to : End) (timeout : ℕ) (why : Refusal) → IsFar to
      → PartiesStand x s → GoesAs s name to kind payload (Err why)
      → IsRefused x s (event.Send name to kind payload timeout) why
  send-refused to timeout why far st goes = record { refused = by to far goes; stand = st.parts }
    where
      by : (to : End) → IsFar to → GoesAs s name to kind payload (Err why)
          → first_met (send_to_conditions s name to kind payload) ≡ Some why
      by end.Svc far is = is
      by (end.Ap a) far is = absurd far
      by (end.Module i c) far is = is

  module _ (k : ℕ) where
    -- What is known where a request goes: nothing refuses it, its name is free, and its payload
    -- fits into a message.
    record Goes (to : End) : Type 0 where
      allowed : first_met (send_to_conditions s name to kind payload) ≡ None
      way : IsWay to s.host k
      label : IsSome (next_label k side.Ap s.bus)
      free : named name s.names ≡ None
      fits : length payload ≤ 2040

    -- the conditions of a connection of a module
    abbrev on_link : Option Link → List Condition
    on_link link =
        conditions_of (λ l. (is_kept l kind, why.Unsupported)
        ∷ (is_long_payload payload, why.TooLarge)
        ∷ (has_no_label l.connection side.Ap s, why.NoLabel) ∷ []) link

    fits-there : (link : Option Link) → option_map (λ (l : Link). l.connection) link ≡ Some k
        → first_met (on_link link) ≡ None → length payload ≤ 2040
    fits-there None e h = absurd cc
    fits-there (Some l) e h = is-short payload (unmet (on_link (Some l)) h).1.0

    goes-so : (to : End) → IsFar to → GoesAs s name to kind payload (Ok k) → Goes to
    goes-so end.Svc far is =
        let u = unmet (send_to_conditions s name end.Svc kind payload) is.0 in record {
          allowed = is.0;
          way = is.1;
          label = is.2;
          free = none-of (named name s.names) u.0;
          fits = is-short payload u.1.1.0;
        }
    goes-so (end.Ap a) far is = absurd far
    goes-so (end.Module i c) far is =
        let front : List Condition =
        (is_bound name s, why.Occupied) ∷ send_conditions i c s.host in
        let link = link_at i c s.host in
        let u = front-unmet front (on_link link) (unmet (front ++ on_link link) is.0) in record {
          allowed = is.0;
          way = is.1;
          label = is.2;
          free = none-of (named name s.names) u.0;
          fits = fits-there link is.1 (sym (met-late front (on_link link) (unrefused front u))
              ∙ is.0);
        }

    -- by the end
    does-sends : {y : Parties} {a b : List Entry} (to : End) (timeout : ℕ) → IsFar to
        → IsWay to s.host k → Does y (sends_on name k kind payload timeout) s a b
        → Does y (sends name to kind payload timeout) s a b
    unfolding machine_opened
    does-sends {y} {a} {b} end.Svc timeout far way d =
        subst (λ j. Does y (sends_on name j kind payload timeout) s a b) way d
    does-sends (end.Ap a) timeout far way d = absurd far
    does-sends {y} {a} {b} (end.Module i c) timeout far way d =
        does-by_state (λ t. given (link_at i c t.host) sent_to) (by (link_at i c s.host) way)
      where
        sent_to : Link → Action
        sent_to l = sends_on name l.connection kind payload timeout

        by : (link : Option Link) → option_map (λ (l : Link). l.connection) link ≡ Some k
            → Does y (given link sent_to) s a b
        by None e = absurd cc
        by (Some l) e = does-given sent_to l refl
            (subst (λ j. Does y (sends_on name j kind payload timeout) s a b) (cc (e)) d)

    -- a request of a script is sent
    pub send-done : (x y : Parties) (to : End) (timeout wait : ℕ) (before es : List Entry)
        → IsValid (event.Send name to kind payload timeout) → wait ≡ timeout → PartiesStand x s
        → GoesAs s name to kind payload (Ok k)
        → SendsOn name k kind payload wait x y before es
        → IsDone y s (event.Send name to kind payload timeout) before es
    unfolding machine_opened
    send-done x y to timeout wait before es valid same st goes_as sends =
        let g = goes-so to valid.1 goes_as in
        let low : kind < 128 = let most = valid.2 in omega (arith, most) in record {
          allowed = g.allowed;
          done =
              does-sends to timeout valid.1 g.way
              (subst (λ d. Does y (sends_on name k kind payload d) s before es) same
              (sends s st.parts g.free (low, g.fits) g.label));
        }
