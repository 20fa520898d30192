-- What a moment makes of the credits of a connection, and what a bridge line makes of them.
use Rattle.std.proofs.Common.{Bool, List, None, Option, Some, ap, arith, cond, false, inl, inr}
use Rattle.std.proofs.Common.{refl, subst, sym, true, ℕ, ⊎_elim, [], ◌++◌, ◌+◌, ◌<◌, ◌∙◌, ◌∷◌, ◌≡◌}
use Rattle.std.proofs.Common.{◌≤◌, ◌⊎◌}
use Rattle.std.proofs.lemmas.Bool.Decides.{nat_tests}
use Rattle.std.specs.List.{find}
use Rattle.std.specs.Prelude.{is_none, nat_le, ◌&&◌, ◌-◌, ◌==◌, ◌||◌}
use Rattle.gb_base.specs.declared.refusal.Refusal.TheVariants as why
use Rattle.gb_base.specs.declared.bridge.BridgeAsk.{BridgeAsk}
use Rattle.gb_base.specs.declared.end.Side.TheVariants as side
use Rattle.gb_base.specs.declared.event.Event.TheVariants as event
use Rattle.gb_base.specs.declared.name.Name.{Name}
use Rattle.gb_base.specs.declared.interface.Link.{Link}
use Rattle.gb_formats.specs.Bridges.{ask_request, bridge_answer, credits_taken}
use Rattle.gb_formats.specs.{Grammar.default_timeout, UartDevice.credits_spent}
use Rattle.gb_formats.specs.{UartDevice.most_credits}
use Rattle.gb_machine.proofs.BridgeAnswers.{answered-by}
use Rattle.gb_machine.proofs.{Conditions.AreUnmet, Conditions.free, Opened.machine_opened}
use Rattle.gb_machine.specs.Bus.{Connection, connection_of, next_number}
use Rattle.gb_machine.specs.Host.{Host, is_link, link_at, with_link}
use Rattle.gb_machine.specs.LawsCredits.{bytes_sent, credits_back, is_numbered}
use Rattle.gb_machine.specs.LineActions.{ap_draft, bridge_sent, bridges, sends_on, spent}
use Rattle.gb_machine.specs.Lists.{at_first, conditions_of, holds_of}
use Rattle.gb_machine.specs.{Actions.given, Asking.asks_with, Events.decided, Events.step}
use Rattle.gb_machine.specs.{HostRefusals.bridge_conditions, HostRefusals.is_unopened}
use Rattle.gb_machine.specs.{Labels.next_label, Members.EachTwo, Members.IsIn}
use Rattle.gb_machine.specs.{Names.bound, Refusals.has_no_label, Refusals.refusal, Runs.Moment}
use Rattle.gb_machine.specs.{Runs.after, State.State}
use Rattle.gb_invariants.proofs.{Awaiting.not-both, Awaiting.same-some, Lists.each-in}
use Rattle.gb_invariants.proofs.{Lists.found-in, Outcomes.is-same, Outcomes.same-number}
use Rattle.gb_laws.proofs.links.LinkLists.{found-at, is-link, link-is, one-link}
use Rattle.gb_laws.proofs.{links.LinkFrom.Linked, links.LinkHosts.same-link}
use Rattle.gb_laws.proofs.{links.Links.IsLinkBefore, links.Links.SameLink}

-- What a moment makes of the credits of a UART: fewer by what is sent, more by what comes back.
pub record Moves (m : Moment) (k l : Link) : Type 0 where
  pub sum : l.credits + bytes_sent l.connection m m.event
      ≡ k.credits + credits_back l.connection m m.event
  pub bound : k.credits ≤ most_credits → l.credits ≤ most_credits

-- A connection behind a moment was there before, or is new and has the most.
pub data Moved (m : Moment) (l : Link) : Type 0 where
  old : (k : Link) → IsIn k m.before.host.links → SameLink k l
      → (k.protocol ≡ 0x04 → Moves m k l) → Moved m l
  new : m.before.bus.made < l.connection → l.credits ≡ most_credits → Moved m l

-- ---- which connection changes

-- where the connection of a CPort changes, each is another, or that one, changed
pub in-linked : (i c : ℕ) (f : Link → Link) (ls : List Link) (l : Link) → EachTwo IsLinkBefore ls
    → IsIn l (at_first (is_link i c) f ls) → (IsIn l ls × (is_link i c l ≡ false))
    ⊎ ((y : Link) × IsIn y ls × (find (is_link i c) ls ≡ Some y) × (l ≡ f y))
in-linked i c f [] l rise j = absurd j
in-linked i c f (x ∷ xs) l rise j = by (is_link i c x) refl j (in-linked i c f xs l rise.1)
  where
    by : (t : Bool) → is_link i c x ≡ t
        → IsIn l (cond t (f x ∷ xs) (x ∷ at_first (is_link i c) f xs))
        → (IsIn l (at_first (is_link i c) f xs) → (IsIn l xs × (is_link i c l ≡ false))
        ⊎ ((y : Link) × IsIn y xs × (find (is_link i c) xs ≡ Some y) × (l ≡ f y)))
        → (IsIn l (x ∷ xs) × (is_link i c l ≡ false))
        ⊎ ((y : Link) × IsIn y (x ∷ xs) × (cond t (Some x) (find (is_link i c) xs) ≡ Some y)
        × (l ≡ f y))
    by true e (inl same) rec = inr (x, inl refl, refl, same)
    by true e (inr k) rec =
        let at = link-is i c x e in
        let apart = (each-in (IsLinkBefore x) xs l rise.0 k).apart in
        inl (
          inr k,
          ap (λ n. is_link n c l) (sym at.0) ∙ ap (λ n. is_link x.intf n l) (sym at.1) ∙ apart,
        )
    by false e (inl same) rec = inl (inl same, ap (is_link i c) same ∙ e)
    by false e (inr k) rec =
        ⊎_elim (λ o. inl (inr o.0, o.1)) (λ w. inr (w.0, inr w.1, w.2, w.3)) (rec k)

-- one that isn't at the CPort of a connection has another number
pub other-number : (ls : List Link) (x l : Link) → EachTwo IsLinkBefore ls → IsIn x ls → IsIn l ls
    → is_link x.intf x.cport l ≡ false → (x.connection == l.connection) ≡ false
other-number ls x l rise i j apart = by (x.connection == l.connection) refl
  where
    by : (t : Bool) → (x.connection == l.connection) ≡ t → t ≡ false
    by false e = refl
    by true e =
        let same = one-link ls x l rise i j (same-number x.connection l.connection e) in
        absurd (not-both (is_link x.intf x.cport l) (is-link x.intf x.cport l
        (ap (λ (k : Link). k.intf) (sym same)) (ap (λ (k : Link). k.cport) (sym same))) apart)

-- ---- bridge lines

-- sending a request leaves the application processor as it is
sent-host : (name : Name) (k kind : ℕ) (payload : List ℕ) (timeout : ℕ) (s : State)
    → (sends_on name k kind payload timeout s).state.host ≡ s.host
unfolding machine_opened
sent-host name k kind payload timeout s = by (connection_of k s.bus) (next_label k side.Ap s.bus)
  where
    by : (o : Option Connection) (l : Option ℕ) → (given o (λ c. given l (λ label.
        asks_with (ap_draft k kind payload (s.now + timeout)) c label))
        (bound name (next_number s.bus) s)).state.host ≡ s.host
    by None l = refl
    by (Some c) None = refl
    by (Some c) (Some label) = refl

-- what a bridge line does that isn't refused
pub record IsSpent (name : Name) (i c : ℕ) (what : BridgeAsk) (s : State) : Type 0 where
  pub link : Link
  pub at : link_at i c s.host ≡ Some link
  pub host : (bridges name i c what s).state.host
      ≡ with_link link.intf link.cport (spent what) s.host
  pub enough : credits_taken what ≤ link.credits

spends-enough : (credits n : ℕ) → is_none (credits_spent credits n) ≡ false → n ≤ credits
spends-enough credits n e = by (nat_le n credits) refl e
  where
    by : (t : Bool) → nat_le n credits ≡ t
        → is_none (cond t (Some (credits - n)) None) ≡ false → n ≤ credits
    by true is f = grind (arith, nat_tests)
    by false is f = absurd cc

bridge-spent : (name : Name) (i c : ℕ) (what : BridgeAsk) (s : State)
    → refusal s (event.Bridge name i c what) ≡ None → IsSpent name i c what s
unfolding machine_opened
bridge-spent name i c what s allowed =
    let met = free s (event.Bridge name i c what) allowed in
    by (link_at i c s.host) refl met.1.1.0 met.1.1.1.1.1
  where
    by : (o : Option Link) → link_at i c s.host ≡ o
        → (is_none o || holds_of (λ (l : Link). is_unopened l.state) o) ≡ false
        → AreUnmet (conditions_of (λ (k : Link).
        bridge_conditions k what ++ (has_no_label k.connection side.Ap s, why.NoLabel) ∷ []) o)
        → IsSpent name i c what s
    by None e f linked = absurd cc
    by (Some l) e f linked = record {
      link = l;
      at = e;
      host = ap (λ o. (given o
          (λ (k : Link). bridge_sent name k what (bridge_answer k.protocol what)) s).state.host) e
          ∙ ap (λ r. (bridge_sent name l what r s).state.host)
          (answered-by l.protocol what linked.0 linked.1.0)
          ∙ sent-host name l.connection (ask_request what).0 (ask_request what).1 default_timeout
          (record s { host = with_link l.intf l.cport (spent what) s.host });
      enough = spends-enough l.credits (credits_taken what) linked.1.1.0;
    }

-- A bridge line that is done spends what it sends.
pub moved-line : (m : Moment) (name : Name) (i c : ℕ) (what : BridgeAsk)
    → m.event ≡ event.Bridge name i c what → refusal m.before m.event ≡ None
    → Linked m.before.bus m.before.host [] → (l : Link) → IsIn l (after m).host.links → Moved m l
unfolding machine_opened
moved-line m name i c what is allowed links l j =
    by (in-linked x.link.intf x.link.cport (spent what) m.before.host.links l
    links.host.links.rise (subst (λ (h : Host). IsIn l h.links) host j))
  where
    x : IsSpent name i c what m.before
    x = bridge-spent name i c what m.before (ap (refusal m.before) (sym is) ∙ allowed)

    live : IsIn x.link m.before.host.links
    live = (found-in (is_link i c) m.before.host.links x.link x.at).0

    host : (after m).host ≡ with_link x.link.intf x.link.cport (spent what) m.before.host
    host = ap (λ e. (step m.before e).state.host) is
        ∙ ap (λ o. (decided o (event.Bridge name i c what) m.before).state.host)
        (ap (refusal m.before) (sym is) ∙ allowed) ∙ x.host

    sent_is : (k : ℕ) → bytes_sent k m m.event
        ≡ cond (x.link.connection == k) (credits_taken what) 0
    sent_is k = ap (bytes_sent k m) is
        ∙ ap (λ o. cond (is_none o && is_numbered k (link_at i c m.before.host))
        (credits_taken what) 0) allowed
        ∙ ap (λ o. cond (is_numbered k o) (credits_taken what) 0) x.at

    back_is : (k : ℕ) → credits_back k m m.event ≡ 0
    back_is k = ap (credits_back k m) is

    by : (IsIn l m.before.host.links × (is_link x.link.intf x.link.cport l ≡ false))
        ⊎ ((y : Link) × IsIn y m.before.host.links
        × (find (is_link x.link.intf x.link.cport) m.before.host.links ≡ Some y)
        × (l ≡ spent what y)) → Moved m l
    by (inl o) =
        let none : bytes_sent l.connection m m.event ≡ 0 = sent_is l.connection
        ∙ ap (λ t. cond t (credits_taken what) 0)
        (other-number m.before.host.links x.link l links.host.links.rise live o.0 o.1) in
        old l o.0 (same-link l) (λ p. record {
          sum = omega (arith, none, back_is l.connection);
          bound = λ h. h;
        })
    by (inr w) =
        let same : x.link ≡ w.0 = same-some x.link w.0
        (sym (found-at m.before.host.links x.link links.host.links.rise live) ∙ w.2) in
        let on : x.link.connection ≡ l.connection =
        ap (λ (k : Link). k.connection) same ∙ sym (ap (λ (k : Link). k.connection) w.3) in
        let all : bytes_sent l.connection m m.event ≡ credits_taken what = sent_is l.connection
        ∙ ap (λ t. cond t (credits_taken what) 0)
        (ap (λ n. n == l.connection) on ∙ is-same l.connection) in
        let enough : credits_taken what ≤ w.0.credits =
        subst (λ (k : Link). credits_taken what ≤ k.credits) same x.enough in
        let left : l.credits ≡ w.0.credits - credits_taken what =
        ap (λ (k : Link). k.credits) w.3 in
        old w.0 w.1 (subst (SameLink w.0) (sym w.3)
        (record { connection = refl; ap = refl; intf = refl; cport = refl; protocol = refl }))
        (λ p. record {
          sum = omega (arith, all, enough, left, back_is l.connection);
          bound = λ h. omega (arith, left, h);
        })
