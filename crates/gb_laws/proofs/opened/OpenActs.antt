-- The requests of the application processor are upon live connections behind each of its acts.
use Rattle.std.proofs.Common.{Bool, List, None, Option, Some, ap, arith, false, inl, inr, refl}
use Rattle.std.proofs.Common.{subst, sym, true, ℕ, ⊎_elim, [], ◌∙◌, ◌∷◌, ◌≡◌, ◌≢◌, ◌≤◌}
use Rattle.std.specs.Prelude.{option_map, ◌==◌}
use Rattle.gb_base.specs.declared.end.End.TheVariants as end
use Rattle.gb_base.specs.declared.end.Side.TheVariants as side
use Rattle.gb_base.specs.declared.entry.ConnState.TheVariants as state
use Rattle.gb_base.specs.declared.interface.Link.{Link}
use Rattle.gb_machine.specs.Bus.{Bus, Connection, Request, connection_of, request_of}
use Rattle.gb_machine.specs.Turns.{Act, Asking, Making}
use Rattle.gb_machine.specs.Wiring.{attached, detached, new_connection, next_connection, shut_down}
use Rattle.gb_machine.specs.Wiring.{with_connection}
use Rattle.gb_machine.specs.{Arriving.state_takes, Host.Host, Host.with_new_link}
use Rattle.gb_machine.specs.{LawsBus.is_awaited, Members.IsIn, Requests.is_of, Runs.Moment}
use Rattle.gb_machine.specs.{Sending.Draft, SequenceSteps.asks_control}
use Rattle.gb_invariants.proofs.Awaiting.{AwaitsFewer, is-of, not-both, side_ended-before}
use Rattle.gb_invariants.proofs.{Lists.in-pushed, Numbers.found-number, Outcomes.is-same}
use Rattle.gb_invariants.proofs.{Outcomes.same-number}
use Rattle.gb_laws.proofs.creations.CreatingKept.{far-side}
use Rattle.gb_laws.proofs.links.LinkSides.{is_shut, shut-gone, shut-left, shut-more, shut-other}
use Rattle.gb_laws.proofs.links.LinkSides.{shut-self, shut_of, side_ended-none}
use Rattle.gb_laws.proofs.opened.Opens.{IsUpon, Opens, open-found, open-link, open-svc}
use Rattle.gb_laws.proofs.points.Points.{IsAskedBy, IsPlain, by_far, by_host, by_loader}
use Rattle.gb_laws.proofs.{links.LinkBuses.new_link, links.LinkCloses.LeavesOpen}
use Rattle.gb_laws.proofs.{links.LinkFrom.Linked}
use Rattle.gb_laws.proofs.{links.LinkKept.LinkedAt, links.Links.ArePending, points.PointParts.Point}

-- ---- who asks

-- an act that asks
upon-host : (m : Moment) (a : Point) (d : Draft) (c : Connection) (q : Asking) (rest : List Act)
    → connection_of d.connection a.state.bus ≡ Some c → LinkedAt a → a.pending ≡ Act.Ask q ∷ rest
    → d.connection ≡ q.on → IsUpon d.connection a.state.bus a.pending
upon-host m a d c q rest live links is on = record {
  open_ = open-found d.connection a.state.bus c live (by (asks_control q.purpose.step) refl);
  stays = λ y. subst (λ acts. LeavesOpen d.connection acts) (is
      ∙ ap (λ r. Act.Ask q ∷ r) pending.0.1) y;
}
  where
    pending : ArePending a.state.host (Act.Ask q ∷ rest)
    pending = subst (ArePending a.state.host) is links.pending

    by : (t : Bool) → asks_control q.purpose.step ≡ t → c.shut ≡ true → ⊥
    by false e = open-svc d.connection c links live (on ∙ pending.0.2.on e)
    by true e =
        let l = pending.0.3 e in
        open-link d.connection c l.0 links live l.1 (on ∙ sym l.2) (λ deaf. deaf.cport l.3)

pub upon-asked : (m : Moment) (a : Point) (d : Draft) (c : Connection)
    → connection_of d.connection a.state.bus ≡ Some c → LinkedAt a → IsAskedBy m a c d
    → d.side ≡ side.Ap → IsUpon d.connection a.state.bus a.pending
upon-asked m a d c live links (by_host q rest is draft none) ap_side =
    upon-host m a d c q rest live links is (ap (λ (x : Draft). x.connection) draft)
upon-asked m a d c live links (by_far far on unloaded) ap_side =
    absurd (far-side m a d c far ap_side)
upon-asked m a d c live links (by_loader x going far on) ap_side =
    absurd (far-side m a d c far ap_side)

-- a line that asks
pub upon-line : (a : Point) (d : Draft) (c : Connection)
    → connection_of d.connection a.state.bus ≡ Some c
    → LinkedAt a → IsPlain a.state d → a.pending ≡ [] → IsUpon d.connection a.state.bus a.pending
upon-line a d c live links plain none = record {
  open_ = open-found d.connection a.state.bus c live (by plain);
  stays = λ y. subst (λ acts. LeavesOpen d.connection acts) none y;
}
  where
    by : IsPlain a.state d → c.shut ≡ true → ⊥
    by (inl svc) = open-svc d.connection c links live svc.1
    by (inr l) = open-link d.connection c l.0 links live l.1 l.2
        (λ deaf. not-both (state_takes l.0.state) l.3 deaf.takes)

-- ---- acts

-- a side is closed
pub opens-shut : {b : Bus} {h : Host} (k : ℕ) (rest : List Act) → Opens b h (Act.Shut k ∷ rest)
    → Opens (shut_down k b) h rest
opens-shut {b} k rest f = record {
  upon = λ n r made w ap_side.
      let other = apart n r made w ap_side in
      let u = f.upon n r made (before.before n w) ap_side in
      record {
        open_ = ap (option_map is_shut) (shut-other k closed b.connections
            (λ c. refl) r.connection other) ∙ u.open_;
        stays = λ y. u.stays (λ e. other (sym e), y);
      };
  closing = λ n x. ⊎_elim (λ shut. inl (still n shut (n == k) refl))
      (λ i. ⊎_elim (λ e. inl (subst (λ j. shut_of j (shut_down k b) ≢ Some false)
      (sym (same-shut n k e)) (shut-self k b.connections))) (λ j. inr j) i) (f.closing n x);
}
  where
    closed : Connection → Connection
    closed c = record c { shut = true }

    same-shut : (n j : ℕ) → Act.Shut n ≡ Act.Shut j → n ≡ j
    same-shut n j e = cc

    before : AwaitsFewer b (shut_down k b)
    before = let s = side_ended-before k side.Ap (with_connection k
        (λ c. record c { shut = true }) b) in
        record { same = s.same; before = s.before }

    apart : (n : ℕ) (r : Request) → request_of n b ≡ Some r → is_awaited n (shut_down k b) ≡ true
        → r.side ≡ side.Ap → r.connection ≢ k
    apart n r made w ap_side e = side_ended-none k side.Ap
        (with_connection k (λ c. record c { shut = true }) b) n r made
        (subst (λ j. is_of j side.Ap r ≡ true) e
        (subst (λ s. is_of r.connection s r ≡ true) ap_side (is-of r))) w

    still : (n : ℕ) → shut_of n b ≢ Some false → (t : Bool) → (n == k) ≡ t
        → shut_of n (shut_down k b) ≢ Some false
    still n shut true e = subst (λ j. shut_of j (shut_down k b) ≢ Some false)
        (sym (same-number n k e)) (shut-self k b.connections)
    still n shut false e = λ g. shut (sym (ap (option_map is_shut)
        (shut-other k closed b.connections (λ c. refl) n
        (λ f. not-both (n == k) (ap (λ j. j == k) f ∙ is-same k) e))) ∙ g)

-- a connection is given up
pub opens-left : {b : Bus} {h : Host} (k : ℕ) (rest : List Act) → Opens b h (Act.Leave k ∷ rest)
    → Opens (detached k b) h rest
opens-left {b} k rest f = record {
  upon = λ n r made w ap_side.
      let u = f.upon n r made w ap_side in
      record {
        open_ = shut-left k b.connections r.connection (λ e. u.stays (inl (sym e))) ∙ u.open_;
        stays = λ y. u.stays (inr y);
      };
  closing = λ n x. ⊎_elim (λ shut. inl (still n shut (n == k) refl))
      (λ i. inr (⊎_elim (λ e. absurd cc) (λ j. j) i)) (f.closing n x);
}
  where
    still : (n : ℕ) → shut_of n b ≢ Some false → (t : Bool) → (n == k) ≡ t
        → shut_of n (detached k b) ≢ Some false
    still n shut true e = subst (λ j. shut_of j (detached k b) ≢ Some false)
        (sym (same-number n k e)) (shut-gone k b.connections)
    still n shut false e = λ g. shut (sym (shut-left k b.connections n
        (λ f. not-both (n == k) (ap (λ j. j == k) f ∙ is-same k) e)) ∙ g)

-- a connection is made
pub opens-opened : {b : Bus} {h : Host} (w : Making) (q : Asking) (rest : List Act)
    → ((c : Connection) → IsIn c b.connections → c.number ≤ b.made)
    → Linked b h (Act.Make w q ∷ rest) → Opens b h (Act.Make w q ∷ rest)
    → Opens (attached w.ap w.intf w.cport w.protocol b)
    (with_new_link (next_connection b) w.ap w.intf w.cport w.protocol h) (Act.Ask q ∷ rest)
opens-opened {b} {h} w q rest range links f = record {
  upon = λ n r made w' ap_side.
      let u = f.upon n r made w' ap_side in
      record {
        open_ = shut-more b.connections new r.connection (made-before r.connection u.open_)
            ∙ u.open_;
        stays = u.stays;
      };
  closing = λ n x. ⊎_elim (λ old. ⊎_elim (λ shut. inl (λ e. shut (sym (shut-more b.connections new n
      (linked-before n x.link old x.on)) ∙ e))) (λ i. inr (⊎_elim (λ e. absurd cc) (λ j. inr j) i))
      (f.closing n (record { link = x.link; live = old; on = x.on; closing = x.closing })))
      (λ e. absurd (opening-closing (sym (ap (λ (l : Link). l.state) e) ∙ x.closing)))
      (in-pushed x.link h.links (new_link (next_connection b) w) x.live);
}
  where
    new : Connection
    new = new_connection (next_connection b) w.ap (end.Module w.intf w.cport) w.protocol

    opening-closing : state.Opening ≡ state.Closing → ⊥
    opening-closing e = absurd cc

    made-before : (k : ℕ) → shut_of k b ≡ Some false → next_connection b ≢ k
    made-before k open_ e = by (connection_of k b) refl open_
      where
        by : (o : Option Connection) → connection_of k b ≡ o → option_map is_shut o ≡ Some false → ⊥
        by None g i = absurd cc
        by (Some c) g i =
            let c' = found-number k b c g in
            let high = range c c'.0 in absurd (omega (arith, high, c'.1, e))

    linked-before : (n : ℕ) (l : Link) → IsIn l h.links → l.connection ≡ n → next_connection b ≢ n
    linked-before n l i on e =
        let high = (links.host.links.numbered l i).given in absurd (omega (arith, high, on, e))
