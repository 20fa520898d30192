-- What the application processor does where a request of a UART is delivered: its credits come
-- back, and that is told, or nothing of its own changes.
use Rattle.std.proofs.Common.{Bool, List, None, Option, Some, ap, arith, cond, false, refl, subst}
use Rattle.std.proofs.Common.{sym, true, ℕ, ◌+◌, ◌∙◌, ◌≡◌, ◌≤◌}
use Rattle.std.proofs.lemmas.Bool.Decides.{nat_tests}
use Rattle.std.specs.List.{list_any}
use Rattle.std.specs.Prelude.{Err, Ok, Result, nat_le, option_map, ◌==◌, ◌||◌}
use Rattle.gb_base.specs.declared.end.Side.TheVariants as side
use Rattle.gb_base.specs.declared.entry.Entry.{Entry}
use Rattle.gb_base.specs.declared.entry.Entry.TheVariants as entry
use Rattle.gb_base.specs.declared.reasons.RawFault.{RawFault}
use Rattle.gb_base.specs.declared.host_event.HostEvent.{HostEvent}
use Rattle.gb_base.specs.declared.interface.Link.{Link}
use Rattle.gb_formats.specs.{Message.Message, Records.PayloadFault, UartDevice.credits_added}
use Rattle.gb_formats.specs.{UartDevice.most_credits, UartRecords.UartAsk}
use Rattle.gb_formats.specs.{UartRecords.read_uart_ask_of_module, Wire.raw_message}
use Rattle.gb_machine.proofs.Opened.{machine_opened}
use Rattle.gb_machine.specs.Actions.{Told, given, on_host, tell, ◌▸◌}
use Rattle.gb_machine.specs.Arriving.{arrives, asked_at, by_label, dropped, handles, raw_taken}
use Rattle.gb_machine.specs.Arriving.{takes}
use Rattle.gb_machine.specs.Bus.{Ask, Connection, Item, Raw, RawReply, Reply, Request, request_of}
use Rattle.gb_machine.specs.Host.{Host, link_of, with_link}
use Rattle.gb_machine.specs.HostServing.{HostServed, credited, host_refuses, host_serves, served_on}
use Rattle.gb_machine.specs.HostServing.{serves_firmware, serves_gpio, serves_uart}
use Rattle.gb_machine.specs.HostServing.{uart_notified_by, with_credits}
use Rattle.gb_machine.specs.Incoming.{Incoming, incoming, incoming_raw, is_request, raw_request}
use Rattle.gb_machine.specs.Incoming.{request_in}
use Rattle.gb_machine.specs.Responding.{host_served, replies, responds, serves_oneway}
use Rattle.gb_machine.specs.{HostActs.notices, LawsCredits.is_credits, Serving.protocol_bad}
use Rattle.gb_machine.specs.{Serving.success, State.State}
use Rattle.gb_invariants.proofs.Awaiting.{same-some}

-- ---- what is served

-- something that is told is of credits
abbrev pub tells_credits : Option Entry → Bool
tells_credits None = false
tells_credits (Some e) = is_credits e

-- What a request of a UART does: nothing of its own changes and no credits are told, or
-- some come back.
pub data UartServed (l : Link) (h : Host) (read : Result UartAsk PayloadFault) (r : HostServed)
    : Type 0 where
  nothing_back : r.host ≡ h → tells_credits r.told ≡ false → UartServed l h read r
  comes_back : (count : ℕ) → read ≡ Ok (UartAsk.ReceiveCredits count)
      → l.credits + count ≤ most_credits
      → r.host ≡ with_link l.intf l.cport (with_credits (l.credits + count)) h
      → tells_credits r.told ≡ true → UartServed l h read r

-- it takes notice of nothing, and where it refuses it stays and tells nothing
pub record IsPlainly (h : Host) (r : HostServed) : Type 0 where
  pub notices : r.notices ≡ None
  pub refuses : (r.answer.result == success) ≡ false → (r.host ≡ h) × (r.told ≡ None)

uart-credited : (l : Link) (h : Host) (count : ℕ)
    → UartServed l h (Ok (UartAsk.ReceiveCredits count)) (credited l
    (credits_added l.credits count) h) × IsPlainly h (credited l (credits_added l.credits count) h)
uart-credited l h count = by (nat_le (l.credits + count) most_credits) refl
  where
    by : (t : Bool) → nat_le (l.credits + count) most_credits ≡ t
        → UartServed l h (Ok (UartAsk.ReceiveCredits count))
        (credited l (cond t (Some (l.credits + count)) None) h)
        × IsPlainly h (credited l (cond t (Some (l.credits + count)) None) h)
    by true e = (
      comes_back count refl (grind (arith, nat_tests)) refl refl,
      record { notices = refl; refuses = λ f. absurd cc },
    )
    by false e = (nothing_back refl refl, record { notices = refl; refuses = λ f. (refl, refl) })

uart-notified : (l : Link) (h : Host) (read : Result UartAsk PayloadFault)
    → UartServed l h read (uart_notified_by l read h) × IsPlainly h (uart_notified_by l read h)
uart-notified l h (Err fault) =
    (nothing_back refl refl, record { notices = refl; refuses = λ f. (refl, refl) })
uart-notified l h (Ok (UartAsk.ReceiveData flags bytes)) =
    (nothing_back refl refl, record { notices = refl; refuses = λ f. absurd cc })
uart-notified l h (Ok (UartAsk.SerialState lines)) =
    (nothing_back refl refl, record { notices = refl; refuses = λ f. absurd cc })
uart-notified l h (Ok (UartAsk.ReceiveCredits count)) = uart-credited l h count
uart-notified l h (Ok _) =
    (nothing_back refl refl, record { notices = refl; refuses = λ f. (refl, refl) })

-- a request on a connection of a UART is served as that
uart-serves : (k kind : ℕ) (payload : List ℕ) (h : Host) (l : Link) → link_of k h ≡ Some l
    → l.protocol ≡ 0x04 → host_serves k kind payload h ≡ serves_uart l kind payload h
uart-serves k kind payload h l found protocol =
    ap (λ o. served_on o kind payload h) found
    ∙ ap (λ p. cond (p == 0x02) (serves_gpio l kind payload h)
    (cond (p == 0x04) (serves_uart l kind payload h)
    (cond (p == 0x17) (serves_firmware l kind payload h) (host_refuses protocol_bad h)))) protocol

pub uart-served : (k kind : ℕ) (payload : List ℕ) {h : Host} (l : Link) → link_of k h ≡ Some l
    → l.protocol ≡ 0x04
    → UartServed l h (read_uart_ask_of_module kind payload) (host_serves k kind payload h)
    × IsPlainly h (host_serves k kind payload h)
uart-served k kind payload {h} l found protocol =
    subst (λ r. UartServed l h (read_uart_ask_of_module kind payload) r × IsPlainly h r)
    (sym (uart-serves k kind payload h l found protocol))
    (uart-notified l h (read_uart_ask_of_module kind payload))

-- ---- what is done

-- The application processor is as it is once it served a request, and credits are told as
-- it tells them.
pub record DoesAs (r : HostServed) (t : Told) : Type 0 where
  pub host : t.state.host ≡ r.host
  pub told : list_any is_credits t.entries ≡ tells_credits r.told

or-none : (t : Bool) → t || false ≡ t
or-none true = refl
or-none false = refl

behind-does : (h : Host) (o : Option Entry) (n : Option HostEvent) (s : State) → n ≡ None
    → (((on_host (λ old. h) ▸ given o tell ▸ given n notices) s).state.host ≡ h)
    × (list_any is_credits ((on_host (λ old. h) ▸ given o tell ▸ given n notices) s).entries
    ≡ tells_credits o)
unfolding machine_opened
behind-does h None None s none = (refl, refl)
behind-does h (Some e) None s none = (refl, or-none (is_credits e))
behind-does h o (Some e) s none = absurd cc

responds-does : (c : Connection) (q : Incoming) {r : HostServed} (s : State) → IsPlainly s.host r
    → DoesAs r (responds side.Ap c q (host_served r) s)
unfolding machine_opened
responds-does c q {r} s plainly = by q.oneway
  where
    done : (u : State) → DoesAs r ((host_served r).behind u)
    done u = let d = behind-does r.host r.told r.notices u plainly.notices in
        record { host = d.0; told = d.1 }

    oneway : (t : Bool) → (r.answer.result == success) ≡ t
        → DoesAs r (cond t (host_served r).behind (tell (entry.Ignored q.kind)) s)
    oneway true e = done s
    oneway false e = let stays = plainly.refuses e in record {
      host = sym stays.0;
      told = sym (ap tells_credits stays.1);
    }

    by : (t : Bool) → DoesAs r (cond t (serves_oneway q (host_served r))
        (replies side.Ap c q r.answer ▸ (host_served r).behind) s)
    by true = oneway (r.answer.result == success) refl
    by false = let d = done (replies side.Ap c q r.answer s).state in
        record { host = d.host; told = d.told }

-- An item that is a request is served where it is taken, and dropped otherwise.
pub data HandlesAs (h : Host) (r : HostServed) (t : Told) : Type 0 where
  takes_it : DoesAs r t → HandlesAs h r t
  drops_it : t.state.host ≡ h → list_any is_credits t.entries ≡ false → HandlesAs h r t

asked-does : (c : Connection) (item : Item) (q : Incoming) (s : State)
    → IsPlainly s.host (host_serves c.number q.kind q.payload s.host)
    → DoesAs (host_serves c.number q.kind q.payload s.host) (asked_at side.Ap c item q s)
unfolding machine_opened
asked-does c item q s plainly =
    responds-does c q s plainly

arrives-does : (c : Connection) (item : Item) (q : Incoming) (s : State)
    → request_in item s.bus ≡ Some q
    → IsPlainly s.host (host_serves c.number q.kind q.payload s.host)
    → DoesAs (host_serves c.number q.kind q.payload s.host) (arrives side.Ap c item s)
unfolding machine_opened
arrives-does c (Ask n) q s made plainly = by (request_of n s.bus) made
  where
    by : (o : Option Request) → option_map (incoming n) o ≡ Some q
        → DoesAs (host_serves c.number q.kind q.payload s.host)
        (given o (λ r. asked_at side.Ap c (Ask n) (incoming n r)) s)
    by None e = absurd cc
    by (Some r) e = subst (λ x. DoesAs (host_serves c.number q.kind q.payload s.host)
        (asked_at side.Ap c (Ask n) x s)) (sym (same-some (incoming n r) q e))
        (asked-does c (Ask n) q s plainly)
arrives-does c (Raw bytes) q s made plainly = by (raw_message bytes) made
  where
    if-request : (m : Message) (t : Bool) → cond t (Some (incoming_raw m)) None ≡ Some q
        → DoesAs (host_serves c.number q.kind q.payload s.host)
        (cond t (asked_at side.Ap c (Raw bytes) (incoming_raw m))
        (by_label side.Ap c m.id m.result m.payload) s)
    if-request m true e = subst (λ x. DoesAs (host_serves c.number q.kind q.payload s.host)
        (asked_at side.Ap c (Raw bytes) x s)) (sym (same-some (incoming_raw m) q e))
        (asked-does c (Raw bytes) q s plainly)
    if-request m false e = absurd cc

    by : (r : Result Message RawFault) → raw_request r ≡ Some q
        → DoesAs (host_serves c.number q.kind q.payload s.host)
        (raw_taken side.Ap c (Raw bytes) r s)
    by (Err fault) e = absurd cc
    by (Ok m) e = if-request m (is_request m) e
arrives-does c (Reply n result payload) q s made plainly = absurd cc
arrives-does c (RawReply label kind result payload) q s made plainly = absurd cc

dropped-plain : (item : Item) → is_credits (dropped item) ≡ false
dropped-plain (Ask n) = refl
dropped-plain (Reply n result payload) = refl
dropped-plain (Raw bytes) = refl
dropped-plain (RawReply label kind result payload) = refl

pub handles-does : (c : Connection) (item : Item) (q : Incoming) (s : State)
    → request_in item s.bus ≡ Some q
    → IsPlainly s.host (host_serves c.number q.kind q.payload s.host)
    → HandlesAs s.host (host_serves c.number q.kind q.payload s.host) (handles side.Ap c item s)
unfolding machine_opened
handles-does c item q s made plainly = by (takes side.Ap c s)
  where
    by : (t : Bool) → HandlesAs s.host (host_serves c.number q.kind q.payload s.host)
        (cond t (arrives side.Ap c item) (tell (dropped item)) s)
    by true = takes_it (arrives-does c item q s made plainly)
    by false = drops_it refl (or-none (is_credits (dropped item)) ∙ dropped-plain item)
