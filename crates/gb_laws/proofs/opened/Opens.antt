-- Each request of the application processor that is awaited is on a live connection, and its side
-- of that isn't closed.
use Rattle.std.proofs.Common.{Bool, List, Some, ap, arith, false, inl, inr, refl, subst, sym, true}
use Rattle.std.proofs.Common.{ℕ, ⊎_elim, ◌∙◌, ◌∷◌, ◌≡◌, ◌≢◌, ◌⊎◌}
use Rattle.std.specs.Prelude.{option_map}
use Rattle.gb_base.specs.declared.end.Side.TheVariants as side
use Rattle.gb_base.specs.declared.interface.Link.{Link}
use Rattle.gb_machine.proofs.Lists.{nth-past}
use Rattle.gb_machine.specs.Bus.{Bus, Connection, Request, connection_of, next_number, request_of}
use Rattle.gb_machine.specs.{Host.Host, LawsBus.is_awaited, Members.IsIn, Sending.Draft}
use Rattle.gb_machine.specs.{Sending.sent, Turns.Act}
use Rattle.gb_invariants.proofs.Awaiting.{AwaitsFewer, none-some, not-both, sent-before, sent-made}
use Rattle.gb_invariants.proofs.{ItemChanges.asked_on-self, Labels.asked_on, Labels.asked_on-number}
use Rattle.gb_invariants.proofs.{Numbers.found-number}
use Rattle.gb_invariants.specs.Facts.{OutcomesFit}
use Rattle.gb_laws.proofs.links.LinkCloses.{ClosesFewer, IsClosing, LeavesOpen}
use Rattle.gb_laws.proofs.links.LinkSides.{is_shut, shut-first, shut_of}
use Rattle.gb_laws.proofs.{links.LinkFrom.Linked, links.Links.IsDeaf}

-- connection k is live, its side of the application processor isn't closed, and it isn't given up
-- before it is
pub record IsUpon (k : ℕ) (b : Bus) (acts : List Act) : Type 0 where
  pub open_ : shut_of k b ≡ Some false
  pub stays : LeavesOpen k acts → ⊥

-- Each request of the application processor that is awaited is upon such a connection. The side of
-- one that is closing is closed, or is yet to be.
pub record Opens (b : Bus) (h : Host) (acts : List Act) : Type 0 where
  pub upon : (n : ℕ) (r : Request) → request_of n b ≡ Some r → is_awaited n b ≡ true
      → r.side ≡ side.Ap → IsUpon r.connection b acts
  pub closing : (n : ℕ) → IsClosing n h → (shut_of n b ≢ Some false) ⊎ IsIn (Act.Shut n) acts

-- ---- what doesn't ask

-- where no more is awaited, and sides stay as they are
pub opens-fewer : {b after : Bus} {h : Host} {acts : List Act} → AwaitsFewer b after
    → ((n : ℕ) → shut_of n after ≡ shut_of n b) → Opens b h acts → Opens after h acts
opens-fewer {b} fewer same f = record {
  upon = λ n r made w ap_side.
      let u = f.upon n r (ap (λ rs. request_of n (record b { requests = rs })) (sym fewer.same)
      ∙ made) (fewer.before n w) ap_side in
      record { open_ = same r.connection ∙ u.open_; stays = u.stays };
  closing = λ n x. ⊎_elim (λ shut. inl (λ e. shut (sym (same n) ∙ e))) (λ i. inr i) (f.closing n x);
}

-- where the application processor changes
pub opens-host : {b : Bus} {h g : Host} {acts : List Act} → ClosesFewer h g → Opens b h acts
    → Opens b g acts
opens-host fewer f =
    record { upon = f.upon; closing = λ n x. f.closing n (fewer n x) }

-- where an act is done that closes no side and gives up nothing
pub opens-act : {b : Bus} {h : Host} (x : Act) {rest : List Act}
    → ((n : ℕ) → LeavesOpen n rest → LeavesOpen n (x ∷ rest)) → ((n : ℕ) → Act.Shut n ≡ x → ⊥)
    → Opens b h (x ∷ rest) → Opens b h rest
opens-act x leaves other f = record {
  upon = λ n r made w ap_side.
      let u = f.upon n r made w ap_side in
      record { open_ = u.open_; stays = λ y. u.stays (leaves r.connection y) };
  closing = λ n y. ⊎_elim (λ shut. inl shut)
      (λ i. inr (⊎_elim (λ e. absurd (other n e)) (λ j. j) i)) (f.closing n y);
}

-- ---- a request is made

-- and is upon a connection, where the application processor makes it
pub opens-sent : (d : Draft) (label : ℕ) {b : Bus} {h : Host} {acts : List Act} → OutcomesFit b
    → (d.side ≡ side.Ap → IsUpon d.connection b acts) → Opens b h acts
    → Opens (sent d label b) h acts
opens-sent d label {b} {acts} fits own f = record {
  upon = λ n r made w ap_side. ⊎_elim
      (λ old. moved (f.upon n r old (was n r old (sent-before d label b n fits w)) ap_side))
      (λ new. subst (λ (q : Request). IsUpon q.connection (sent d label b) acts) (sym new.1)
      (moved (own (ap (λ (q : Request). q.side) (sym new.1) ∙ ap_side))))
      (sent-made d label b n r made);
  closing = λ n x. ⊎_elim (λ shut. inl (λ e. shut (sym (same n) ∙ e))) (λ i. inr i) (f.closing n x);
}
  where
    same : (n : ℕ) → shut_of n (sent d label b) ≡ shut_of n b
    same = shut-first d.connection (asked_on d label b) b.connections (asked_on-number d label b)
        (λ c. (asked_on-self d label b c).shut)

    moved : {k : ℕ} → IsUpon k b acts → IsUpon k (sent d label b) acts
    moved {k} u = record { open_ = same k ∙ u.open_; stays = u.stays }

    was : (n : ℕ) (r : Request) → request_of n b ≡ Some r
        → (is_awaited n b ≡ true) ⊎ ((n ≡ next_number b) × (d.oneway ≡ false))
        → is_awaited n b ≡ true
    was n r made (inl w) = w
    was n r made (inr new) = absurd (none-some (sym (nth-past (next_number b) b.requests
        (omega arith)) ∙ ap (λ k. request_of k b) (sym new.0) ∙ made))

-- a connection that isn't closed
pub open-found : (k : ℕ) (b : Bus) (c : Connection) → connection_of k b ≡ Some c → (c.shut ≡ true
    → ⊥) → shut_of k b ≡ Some false
open-found k b c found other = ap (option_map is_shut) found ∙ ap Some (by c.shut refl)
  where
    by : (t : Bool) → c.shut ≡ t → t ≡ false
    by false e = refl
    by true e = absurd (other e)

-- the supervisory controller's, and that of a link where something is taken
pub open-svc : {b : Bus} {h : Host} {acts : List Act} (k : ℕ) (c : Connection) → Linked b h acts
    → connection_of k b ≡ Some c → k ≡ 1 → c.shut ≡ true → ⊥
open-svc {b} k c links found one shut =
    let f = found-number k b c found in
    not-both c.shut shut (links.svc c f.0 (f.1 ∙ one)).shut

pub open-link : {b : Bus} {h : Host} {acts : List Act} (k : ℕ) (c : Connection) (l : Link)
    → Linked b h acts → connection_of k b ≡ Some c → IsIn l h.links → k ≡ l.connection
    → (IsDeaf l → ⊥) → c.shut ≡ true → ⊥
open-link {b} k c l links found live on hears shut =
    let f = found-number k b c found in
    hears (links.host.links.deaf l c live f.0 (f.1 ∙ on) shut)
