-- What the bus is after a moment at which the supervisory controller serves a request to
-- destroy a connection.
use Rattle.std.proofs.Common.{Bool, List, None, Option, Some, ap, cond, false, refl, subst, sym}
use Rattle.std.proofs.Common.{true, ℕ, [], ◌∙◌, ◌≡◌}
use Rattle.std.specs.List.{list_any}
use Rattle.std.specs.Prelude.{Ok, ◌==◌}
use Rattle.gb_base.specs.declared.end.End.TheVariants as end
use Rattle.gb_base.specs.declared.end.Side.TheVariants as side
use Rattle.gb_base.specs.declared.event.Event.TheVariants as event
use Rattle.gb_formats.specs.SvcRecords.{SvcAsk, read_svc_ask, read_svc_ask_of_ap}
use Rattle.gb_machine.proofs.Steps.{deliver-allowed, delivers-serves, step-deliver}
use Rattle.gb_machine.proofs.Opened.{machine_opened}
use Rattle.gb_machine.specs.Bus.{Ask, Bus, Connection, Item, Request, end_of, request_of}
use Rattle.gb_machine.specs.Incoming.{Incoming, incoming, reply_item}
use Rattle.gb_machine.specs.Responding.{Response, destroys, disconnects, far_response, replies}
use Rattle.gb_machine.specs.Responding.{responds, responds_plainly, responds_with, serves}
use Rattle.gb_machine.specs.Responding.{serves_oneway, svc_decided, svc_stepped}
use Rattle.gb_machine.specs.Serving.{nonexistent, plainly, success}
use Rattle.gb_machine.specs.SvcTable.{Destroy, svc_read, svc_refuses, svc_stays, svc_step}
use Rattle.gb_machine.specs.{Actions.◌▸◌, Arriving.is_held, Arriving.takes, Delivery.popped}
use Rattle.gb_machine.specs.{Delivery.replied, Events.step, Members.IsIn, Modules.far_takes}
use Rattle.gb_machine.specs.{Refusals.is_end_unplugged, Refusals.refusal, Requests.open_on}
use Rattle.gb_machine.specs.{Runs.Moment, Runs.after, State.Port, State.State, Wires.with_unwired}
use Rattle.gb_machine.specs.{Wiring.joining, Wiring.unwired}
use Rattle.gb_invariants.proofs.Awaiting.{none-some, not-both, same-some}
use Rattle.gb_invariants.proofs.{Found.any-in, Outcomes.same-number}
use Rattle.gb_laws.proofs.{basis.Unheld.IsUnheld, links.LinkFrom.Linked, points.Places.place-is}
use Rattle.gb_laws.proofs.{steps.LoadFailures.loads-fail, svc.StillWaiting.IsFront}
use Rattle.gb_laws.proofs.{svc.SvcKinds.svc-kind}

-- ---- the table

-- a request to destroy a connection of the application processor is to unwire it
destroy-step : (ports : List Port) (kind : ℕ) (payload : List ℕ) (i1 a i c : ℕ)
    → read_svc_ask kind payload ≡ Ok (SvcAsk.ConnDestroy i1 a i c) → svc_step ports kind payload
    ≡ cond (i1 == 1) (svc_stays ports (Destroy a i c)) (svc_refuses ports nonexistent)
destroy-step ports kind payload i1 a i c e = ap (svc_read ports)
    (ap (λ k. read_svc_ask_of_ap k payload) (sym number) ∙ same
    ∙ ap (λ k. read_svc_ask k payload) number ∙ e)
  where
    number : 0x08 ≡ kind
    number = svc-kind kind payload (SvcAsk.ConnDestroy i1 a i c) e

    same : read_svc_ask_of_ap 0x08 payload ≡ read_svc_ask 0x08 payload
    same = refl

-- ---- what is done

-- A reply is made, and the connection that is there is unwired where it was wired.
pub data IsDestroyed (k i1 a i c : ℕ) (b after : Bus) : Type 0 where
  cut : (item : Item) (x : Connection) → joining a i c b ≡ Some x
      → after ≡ unwired x.number (replied k side.Ap item b) → IsDestroyed k i1 a i c b after
  uncut : (item : Item) → (i1 ≡ 1 → (x : Connection) → joining a i c b ≡ Some x → x.wired ≡ false)
      → after ≡ replied k side.Ap item b → IsDestroyed k i1 a i c b after

responded : (c : Connection) (q : Incoming) (r : Response) (s : State) → q.oneway ≡ false
    → (responds side.Far c q r s).state
    ≡ (r.behind (record s { bus = replied c.number side.Ap (reply_item q r.answer) s.bus })).state
unfolding machine_opened
responded c q r s twoway = ap (λ t. (cond t (serves_oneway q r)
    (λ u. (replies side.Far c q r.answer ▸ r.behind) u) s).state) twoway

destroyed-by : (x : Connection) (q : Incoming) (o : Option Connection) (k i1 a i c : ℕ) (s : State)
    → x.number ≡ k → q.oneway ≡ false → joining a i c s.bus ≡ o
    → IsDestroyed k i1 a i c s.bus (responds side.Far x q (destroys o) s).state.bus
unfolding machine_opened
destroyed-by x q None k i1 a i c s on twoway e = uncut (reply_item q (destroys None).answer)
    (λ one y f. absurd (none-some (sym e ∙ f)))
    (ap (λ (t : State). t.bus) (responded x q (destroys None) s twoway)
    ∙ ap (λ n. replied n side.Ap (reply_item q (destroys None).answer) s.bus) on)
destroyed-by x q (Some y) k i1 a i c s on twoway e = by y.wired refl
  where
    answered : Bool → Response
    answered t = cond t (responds_with (plainly success) (disconnects y.number))
        (responds_plainly nonexistent)

    -- what is done behind the reply leaves the bus but for the wire
    unwired-bus : (w : State) → (disconnects y.number w).state.bus ≡ unwired y.number w.bus
    unwired-bus w = ap (λ (t : State). t.bus)
        (loads-fail (open_on y.number side.Far w.bus) (with_unwired y.number w)).state

    by : (t : Bool) → y.wired ≡ t
        → IsDestroyed k i1 a i c s.bus (responds side.Far x q (answered t) s).state.bus
    by true f = cut (reply_item q (plainly success)) y e
        (ap (λ (t : State). t.bus) (responded x q (answered true) s twoway)
        ∙ unwired-bus (record s {
          bus = replied x.number side.Ap (reply_item q (plainly success)) s.bus;
        })
        ∙ ap (λ n. unwired y.number (replied n side.Ap (reply_item q (plainly success)) s.bus)) on)
    by false f = uncut (reply_item q (plainly nonexistent))
        (λ one z g. ap (λ (w : Connection). w.wired) (same-some z y (sym g ∙ e)) ∙ f)
        (ap (λ (t : State). t.bus) (responded x q (answered false) s twoway)
        ∙ ap (λ n. replied n side.Ap (reply_item q (plainly nonexistent)) s.bus) on)

served-by : (x : Connection) (q : Incoming) {k : ℕ} (i1 a i c : ℕ) (s : State) → x.number ≡ k
    → x.peer ≡ end.Svc → q.oneway ≡ false
    → read_svc_ask q.kind q.payload ≡ Ok (SvcAsk.ConnDestroy i1 a i c)
    → IsDestroyed k i1 a i c s.bus (serves side.Far x q s).state.bus
unfolding machine_opened
served-by x q {k} i1 a i c s on peer twoway read =
    subst (λ p. IsDestroyed k i1 a i c s.bus
    (responds side.Far x q (far_response p x.number q s) s).state.bus) (sym peer)
    (subst (λ d. IsDestroyed k i1 a i c s.bus (responds side.Far x q (svc_stepped d s) s).state.bus)
    (sym (destroy-step s.ports q.kind q.payload i1 a i c read)) (by (i1 == 1) refl))
  where
    by : (t : Bool) → (i1 == 1) ≡ t → IsDestroyed k i1 a i c s.bus
        (responds side.Far x q (svc_stepped (cond t (svc_stays s.ports (Destroy a i c))
        (svc_refuses s.ports nonexistent)) s) s).state.bus
    by true e = destroyed-by x q (joining a i c s.bus) k i1 a i c s on twoway refl
    by false e = uncut (reply_item q (plainly nonexistent))
        (λ one. absurd (not-both (i1 == 1) (ap (λ n. n == 1) one) e))
        (ap (λ (t : State). t.bus) (responded x q
        (svc_decided (svc_refuses s.ports nonexistent).served s.ports s) s twoway)
        ∙ ap (λ n. replied n side.Ap (reply_item q (plainly nonexistent)) s.bus) on)

-- ---- the moment

module _ (m : Moment) (links : Linked m.before.bus m.before.host []) (unheld : IsUnheld m.before)
    (n : ℕ) (f : IsFront m n) (r : Request) (made : request_of n m.before.bus ≡ Some r)
    (twoway : r.oneway ≡ false) (i1 a i c : ℕ)
    (read : read_svc_ask r.kind r.payload ≡ Ok (SvcAsk.ConnDestroy i1 a i c)) where
  peer : f.place.connection.peer ≡ end.Svc
  peer = (links.svc f.place.connection
      (place-is f.at m.before.bus.connections f.place f.named).live f.one).peer

  here : f.at ≡ end.Svc
  here = sym (place-is f.at m.before.bus.connections f.place f.named).is
      ∙ ap (λ s. end_of s f.place.connection) f.far ∙ peer

  taken : takes f.place.side f.place.connection m.before ≡ true
  taken = ap (λ s. takes s f.place.connection m.before) f.far
      ∙ ap (λ p. far_takes p m.before.modules) peer

  free : is_held f.place.side f.place.connection m.before ≡ false
  free = ap (λ s. is_held s f.place.connection m.before) f.far
      ∙ ap (λ k. list_any (λ j. j == k) m.before.holds) f.one
      ∙ by (list_any (λ j. j == 1) m.before.holds) refl
    where
      by : (t : Bool) → list_any (λ j. j == 1) m.before.holds ≡ t → t ≡ false
      by false e = refl
      by true e = let w = any-in (λ j. j == 1) m.before.holds e in
          absurd (unheld (subst (λ k. IsIn k m.before.holds) (same-number w.0 1 w.2) w.1))

  unrefused : refusal m.before (event.Deliver f.at) ≡ None
  unrefused = deliver-allowed m.before f.at f.place (Ask n)
      (ap (λ x. is_end_unplugged x m.before) here) f.named f.front

  -- the bus is as before but for that
  pub destroyed-bus : IsDestroyed f.place.connection.number i1 a i c
      (popped f.place.connection.number side.Far m.before.bus) (after m).bus
  destroyed-bus = subst (λ (s : State). IsDestroyed f.place.connection.number i1 a i c
      (popped f.place.connection.number side.Far m.before.bus) s.bus) (sym same)
      (served-by f.place.connection (incoming n r) i1 a i c
      (record m.before { bus = popped f.place.connection.number side.Far m.before.bus }) refl peer
      twoway read)
    where
      same : after m ≡ (serves side.Far f.place.connection (incoming n r) (record m.before {
        bus = popped f.place.connection.number side.Far m.before.bus;
      })).state
      same = ap (λ e. (step m.before e).state) f.event
          ∙ ap (λ t. t.state) (step-deliver m.before f.at unrefused) ∙ ap (λ t. t.state)
          (delivers-serves m.before f.at f.place n r f.named f.front taken free made)
          ∙ ap (λ s. (serves s f.place.connection (incoming n r) (record m.before {
            bus = popped f.place.connection.number s m.before.bus;
          })).state) f.far
