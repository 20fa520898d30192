-- What is taken at a delivery, and what it answers.
use Rattle.std.proofs.Common.{Bool, None, Option, Some, ap, false, refl, sym, true, ℕ, ◌∙◌, ◌≡◌}
use Rattle.std.specs.Prelude.{is_none, is_some, option_map, ◌&&◌, ◌==◌, ◌||◌}
use Rattle.gb_base.specs.declared.end.{End.End, Side.Side}
use Rattle.gb_base.specs.declared.outcome.Outcome.{Outcome}
use Rattle.gb_machine.specs.Bus.{Ask, Bus, Connection, Item, Raw, RawReply, Reply, connection_of}
use Rattle.gb_machine.specs.Bus.{has_number, is_open, outcome_of, request_of}
use Rattle.gb_machine.specs.Delivery.{ended, popped, replied}
use Rattle.gb_machine.specs.{Incoming.request_in, LawsBus.is_awaited, Requests.is_given_up}
use Rattle.gb_machine.specs.{Sending.put}
use Rattle.gb_invariants.proofs.Awaiting.{is-open, none-some, not-both, opened, same-some}
use Rattle.gb_invariants.proofs.{Drawing.open_with-in_use, Found.find-changed, Outcomes.pair-there}
use Rattle.gb_invariants.proofs.{Selves.put-self}
use Rattle.gb_invariants.specs.Facts.{OutcomesFit}
use Rattle.gb_laws.proofs.points.Points.{Answers, by_label, by_number}
use Rattle.gb_laws.proofs.{points.PointParts.Hand, steps.ServedOn.HasPeer}

-- requests stay where an item is taken
pub request-popped : (item : Item) (k : ℕ) (at : Side) (b : Bus)
    → request_in item (popped k at b) ≡ request_in item b
request-popped (Ask n) k at b = refl
request-popped (Raw bytes) k at b = refl
request-popped (Reply n result payload) k at b = refl
request-popped (RawReply label kind result payload) k at b = refl

-- far ends stay where something is replied
pub peer-replied : (k : ℕ) (at : Side) (item : Item) (e : End) (b : Bus) → HasPeer k e b
    → HasPeer k e (replied k at item b)
peer-replied k at item e b peer c f = by (connection_of k b) refl
  where
    by : (o : Option Connection) → connection_of k b ≡ o → c.peer ≡ e
    by None g = absurd (none-some (sym (find-changed (has_number k) (put at item) b.connections
        (λ x. ap (λ n. n == k) (put-self at item x).number) ∙ ap (option_map (put at item)) g) ∙ f))
    by (Some x) g =
        let is = same-some (put at item x) c
        (sym (find-changed (has_number k) (put at item) b.connections
        (λ x. ap (λ n. n == k) (put-self at item x).number)
        ∙ ap (option_map (put at item)) g) ∙ f) in
        sym (ap (λ (y : Connection). y.peer) is) ∙ (put-self at item x).peer ∙ peer x g

-- what is ended by a response is open
pub answers-open : (x : Hand) (n : ℕ) {b : Bus} → Answers x n b → is_open n b ≡ true
answers-open x n (by_number result payload is clean unended) = unended
answers-open x n {b} (by_label label dirty is) =
    let o = open_with-in_use x.connection.number x.side label b n is in is-open n b o.0 o.1 o.3

-- and isn't awaited any more then
pub over-ended : (n : ℕ) (how : Outcome) (b : Bus) → OutcomesFit b → is_open n b ≡ true
    → is_awaited n (ended n how b) ≡ false
over-ended n how b fits unended =
    ap (λ o. is_some (request_of n b) && is_none o || is_given_up n b) (pair-there n how b.outcomes)
    ∙ by (is_some (request_of n b)) (is_given_up n b) refl
  where
    by : (t u : Bool) → is_given_up n b ≡ u → (t && false || u) ≡ false
    by true false e = refl
    by false false e = refl
    by t true e = absurd (not-both (is_some (outcome_of n b)) (fits.given n e)
        (ap is_some (opened n b unended).2))
