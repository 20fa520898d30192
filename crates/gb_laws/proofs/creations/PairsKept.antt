-- What is known of remembered requests is kept by each single change.
use Rattle.std.proofs.Common.{Bool, None, Option, Some, ap, arith, cond, false, refl, subst, sym}
use Rattle.std.proofs.Common.{true, ℕ, ⊎_elim, ◌∙◌, ◌≡◌}
use Rattle.gb_base.specs.declared.interface.Link.{Link}
use Rattle.gb_machine.specs.HostActs.{host_draft, made_for, with_awaited}
use Rattle.gb_machine.specs.Sending.{Draft, requested, sent}
use Rattle.gb_machine.specs.{Bus.next_number, Failures.unsent, Host.link_at, Host.with_given}
use Rattle.gb_machine.specs.{Host.with_link}
use Rattle.gb_machine.specs.{HostServing.host_serves, LineActions.spent}
use Rattle.gb_machine.specs.{Runs.Moment, SequenceSteps.is_for_connection, Turns.Asking}
use Rattle.gb_machine.specs.{Waits.awaits, Wiring.next_connection}
use Rattle.gb_invariants.proofs.Awaiting.{none-some, same-some, sent-new}
use Rattle.gb_invariants.proofs.Lists.{in-pushed}
use Rattle.gb_invariants.proofs.HostChanges.{turn_of}
use Rattle.gb_laws.proofs.creations.Pairs.{IsAskedAs, PairsFit, asked-more, come-from, come-link}
use Rattle.gb_laws.proofs.creations.Pairs.{come-same}
use Rattle.gb_laws.proofs.creations.Pairs.{come-served, pairs-on}
use Rattle.gb_laws.proofs.points.Points.{Change, IsAskedBy, acts_asked, acts_failed, acts_made}
use Rattle.gb_laws.proofs.points.Points.{asks, gives}
use Rattle.gb_laws.proofs.points.Points.{awaited_by, by_far, by_host, by_loader, changed, names}
use Rattle.gb_laws.proofs.points.Points.{serves}
use Rattle.gb_laws.proofs.points.Points.{spends}
use Rattle.gb_laws.proofs.points.Points.{turns}
use Rattle.gb_laws.proofs.{points.Awaited.awaited-rest, points.ChangeBuses.keeps-requests}
use Rattle.gb_laws.proofs.{links.LinkActs.awaited-host}
use Rattle.gb_laws.proofs.{links.LinkBuses.new_link, links.LinkKept.LinkedAt}
use Rattle.gb_laws.proofs.{links.LinkSources.from-turn}
use Rattle.gb_laws.proofs.{links.LinkSources.from-unsent, links.Links.ArePending}
use Rattle.gb_laws.proofs.{creations.PairsAsked.pairs-asked}
use Rattle.gb_laws.proofs.{creations.PairsAsked.pairs_then, points.PointParts.Point}
use Rattle.gb_laws.proofs.{creations.Remembering.RemembersAt}

-- ---- each single change

abbrev pub PairsAt : Point → Type 0
PairsAt a = PairsFit a.state.bus a.state.host a.state.past.made_for a.asked

pub pairs-kept : (m : Moment) (a : Point) (x : Change m a) → LinkedAt a → RemembersAt a
    → PairsAt a → PairsAt (changed m a x)
pairs-kept m a (asks d c label free live drawn who) links r f =
    pairs-on a.state.bus (sent d label a.state.bus) a.state.host a.state.host a.state.past.made_for
    a.asked (awaited_by m a c d who) (keeps-requests m a (asks d c label free live drawn who))
    (omega arith) (come-same a.state.host) (by who) f
  where
    still : (q : Asking) (n : ℕ) → a.asked ≡ Some (q, n)
        → IsAskedAs q n (sent d label a.state.bus) a.state.past.made_for
    still q n e = asked-more q n a.state.bus (sent d label a.state.bus) a.state.past.made_for
        (keeps-requests m a (asks d c label free live drawn who)) (f.asks q n e)

    by : (w : IsAskedBy m a c d) (q : Asking) (n : ℕ) → awaited_by m a c d w ≡ Some (q, n)
        → IsAskedAs q n (sent d label a.state.bus) a.state.past.made_for
    by (by_far far on unloaded) q n e = still q n e
    by (by_loader x going far on) q n e = still q n e
    by (by_host p rest is draft none) q n e =
        subst (λ (w : Asking × ℕ). IsAskedAs w.0 w.1 (sent d label a.state.bus)
        a.state.past.made_for) (same-some (p, next_number a.state.bus) (q, n) e)
        (subst (λ (y : Draft). IsAskedAs p (next_number a.state.bus) (sent y label a.state.bus)
        a.state.past.made_for) (sym draft) (record {
          request = requested (host_draft p a.state.now) label;
          made = sent-new (host_draft p a.state.now) label a.state.bus;
          on = refl;
          by_ap = refl;
          twoway = refl;
          kind = refl;
          payload = refl;
          behind = λ j k i. let low = r.below j k i in omega (arith, low);
        }))
pairs-kept m a (names name d c label free live drawn host) links r f =
    let keeps = keeps-requests m a (names name d c label free live drawn host) in
    pairs-on a.state.bus (sent d label a.state.bus) a.state.host a.state.host a.state.past.made_for
    a.asked a.asked keeps (omega arith) (come-same a.state.host)
    (λ q n e. asked-more q n a.state.bus (sent d label a.state.bus) a.state.past.made_for keeps
    (f.asks q n e)) f
pairs-kept m a (turns e free untouched none cause) links r f =
    pairs-on a.state.bus a.state.bus a.state.host (turn_of e a.state.host).host
    a.state.past.made_for a.asked a.asked (λ n x made. made) (omega arith)
    (come-from a.state.host (turn_of e a.state.host).host (from-turn e a.state.host)) f.asks f
pairs-kept m a (acts_made w q rest free is) links r f = record {
  made = λ n k i. let x = f.made n k i in record {
    request = x.request;
    made = x.made;
    on = x.on;
    by_ap = x.by_ap;
    twoway = x.twoway;
  };
  given = λ n k i. let low = f.given n k i in omega (arith, low);
  of = λ n i l x live j made is. ⊎_elim (λ o. f.of n i l x o j made is)
      (λ e. let low = f.given n l.connection j in
      absurd (omega (arith, low, ap (λ (y : Link). y.connection) e)))
      (in-pushed l a.state.host.links (new_link (next_connection a.state.bus) w) live);
  bound = λ l live v e. ⊎_elim (λ o. f.bound l o v e)
      (λ g. absurd (none-some (sym (ap (λ (y : Link). y.awaits) g) ∙ e)))
      (in-pushed l a.state.host.links (new_link (next_connection a.state.bus) w) live);
  asks = λ p n e. asked-more p n a.state.bus (changed m a (acts_made w q rest free is)).state.bus
      a.state.past.made_for (λ k x made. made) (f.asks p n e);
}
pairs-kept m a (acts_asked q n rest is) links r f =
    subst (λ b. PairsFit b (with_awaited q.purpose n a.state).host
    (with_awaited q.purpose n a.state).past.made_for None)
    (sym (awaited-rest q.purpose n {s = a.state}).bus)
    (subst (λ g. PairsFit a.state.bus g (with_awaited q.purpose n a.state).past.made_for None)
    (sym (awaited-host q.purpose n a.state)) (by (is_for_connection q.purpose.step)
    (link_at q.purpose.intf q.purpose.cport (awaits q.purpose n a.state.host))
    (pairs-asked a.state.bus a.state.host a.state.past.made_for q n links.host
    (subst (ArePending a.state.host) is.0 links.pending).0.0
    (subst (ArePending a.state.host) is.0 links.pending).0.2
    (subst (PairsFit a.state.bus a.state.host a.state.past.made_for) is.1 f)
    (is_for_connection q.purpose.step)
    (link_at q.purpose.intf q.purpose.cport (awaits q.purpose n a.state.host)) refl refl)))
  where
    by : (t : Bool) (o : Option Link) → PairsFit a.state.bus (awaits q.purpose n a.state.host)
        (pairs_then t o n a.state.past.made_for) None
        → PairsFit a.state.bus (awaits q.purpose n a.state.host) (cond t
        (made_for n o (record a.state { host = awaits q.purpose n a.state.host }))
        (record a.state { host = awaits q.purpose n a.state.host })).past.made_for None
    by true None x = x
    by true (Some l) x = x
    by false o x = x
pairs-kept m a (acts_failed q rest is quiet) links r f =
    pairs-on a.state.bus a.state.bus a.state.host (unsent q.purpose a.state.host).host
    a.state.past.made_for a.asked a.asked (λ n x made. made) (omega arith)
    (come-from a.state.host (unsent q.purpose a.state.host).host
    (from-unsent q.purpose a.state.host)) f.asks f
pairs-kept m a (serves k kind payload none) links r f =
    pairs-on a.state.bus a.state.bus a.state.host (host_serves k kind payload a.state.host).host
    a.state.past.made_for a.asked a.asked (λ n x made. made) (omega arith)
    (come-served k kind payload a.state.host) f.asks f
pairs-kept m a (spends i c what none) links r f =
    pairs-on a.state.bus a.state.bus a.state.host (with_link i c (spent what) a.state.host)
    a.state.past.made_for a.asked a.asked (λ n x made. made) (omega arith)
    (come-link a.state.host i c (spent what) (λ l. refl) (λ l. refl) (λ l. refl)) f.asks f
pairs-kept m a (gives tag bytes at none) links r f =
    pairs-on a.state.bus a.state.bus a.state.host (with_given tag bytes a.state.host)
    a.state.past.made_for a.asked a.asked (λ n x made. made) (omega arith)
    (come-same a.state.host) f.asks f
pairs-kept m a x links r f =
    pairs-on a.state.bus (changed m a x).state.bus a.state.host a.state.host
    a.state.past.made_for a.asked a.asked (keeps-requests m a x) (omega arith)
    (come-same a.state.host)
    (λ q n e. asked-more q n a.state.bus (changed m a x).state.bus a.state.past.made_for
    (keeps-requests m a x) (f.asks q n e)) f
