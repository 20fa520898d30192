-- The application processor serves a request as the machine does.
use Rattle.std.proofs.Common.{◌≡◌, ◌≤◌, ℕ, ◌==◌, Bool, true, false, cond, Option, Some, None}
use Rattle.std.proofs.Common.{Result, Ok, Err, List, [], ◌∷◌, ◌++◌, length, append-nil}
use Rattle.std.proofs.Common.{refl, sym, ap, ◌∙◌, subst, arith}
use Rattle.gb_base.specs.declared.end.End.{End}
use Rattle.gb_base.specs.declared.end.Side.TheVariants as side
use Rattle.gb_base.specs.declared.entry.Entry.{Entry}
use Rattle.gb_base.specs.declared.entry.Entry.TheVariants as entry
use Rattle.gb_base.specs.declared.host_event.HostEvent.{HostEvent}
use Rattle.gb_base.specs.declared.interface.Link.{Link}
use Rattle.gb_bus.specs.Delivering.{MayReply, taken_from}
use Rattle.gb_bus.specs.declared.answers.Asked.{Asked}
use Rattle.gb_formats.specs.GpioRecords.{GpioAsk, read_gpio_ask_of_module}
use Rattle.gb_formats.specs.Images.{Images}
use Rattle.gb_formats.specs.Records.{PayloadFault}
use Rattle.gb_formats.specs.Results.{most_payload}
use Rattle.gb_formats.specs.SvcRecords.{SvcAsk, read_svc_ask_of_svc}
use Rattle.gb_formats.specs.UartDevice.{credits_added}
use Rattle.gb_formats.specs.UartRecords.{UartAsk, read_uart_ask_of_module}
use Rattle.gb_host.specs.Serving.{served_of}
use Rattle.gb_host.specs.declared.served.HostServed as code_served
use Rattle.gb_host.specs.declared.host.Host as code_host
use Rattle.gb_invariants.specs.Facts.{Loose}
use Rattle.gb_machine.proofs.Opened.{machine_opened}
use Rattle.gb_machine.proofs.Steps.{told}
use Rattle.gb_machine.specs.Actions.{Action, given, tell, ◌▸◌}
use Rattle.gb_machine.specs.Bus.{Connection, Item}
use Rattle.gb_machine.specs.Delivery.{replied}
use Rattle.gb_machine.specs.Host.{Host, link_of}
use Rattle.gb_machine.specs.HostActs.{notices}
use Rattle.gb_machine.specs.HostServing.{HostServed, credited, host_refuses, host_serves}
use Rattle.gb_machine.specs.HostServing.{interrupted, notified_by, served_on, serves_firmware}
use Rattle.gb_machine.specs.HostServing.{serves_gpio, serves_uart, uart_notified_by}
use Rattle.gb_machine.specs.Incoming.{Incoming, reply_item}
use Rattle.gb_machine.specs.Responding.{host_behind, host_served, replies, responds, serves}
use Rattle.gb_machine.specs.Responding.{serves_oneway}
use Rattle.gb_machine.specs.Serving.{Answer, answer, success}
use Rattle.gb_machine.specs.State.{State}
use Rattle.gb_system.proofs.Doings.{does-as, does-given, does-given_none, does-is, does-tell}
use Rattle.gb_system.proofs.Doings.{does-then}
use Rattle.gb_system.proofs.Heard.{may-reply, request-sound}
use Rattle.gb_system.proofs.ImageFits.{images_lent}
use Rattle.gb_system.proofs.Replies.{responds-twoway}
use Rattle.gb_system.proofs.Standing.{let-gone, rehosted}
use Rattle.gb_laws.specs.Possible.{MayTurn}
use Rattle.gb_system.specs.Doing.{Does}
use Rattle.gb_system.specs.Drafts.{IsUpon}
use Rattle.gb_system.specs.Serving.{IsDelivered, MayNotice, MayServe, only, told_of}
use Rattle.gb_system.specs.Stands.{PartsStand}
use Rattle.gb_system.specs.declared.parties.Parties.{Parties}

-- ---- what is refused changes nothing

-- The application processor is as before where the answer isn't success, and the answer fits into
-- a message.
record IsFair (h : Host) (r : HostServed) : Type 0 where
  keeps : (r.answer.result == success) ≡ false → r.host ≡ h
  fits : length r.answer.payload ≤ most_payload

fair : {h : Host} (r : HostServed) → r.host ≡ h → length r.answer.payload ≤ most_payload
    → IsFair h r
fair r same fits = record { keeps = λ e. same; fits = fits }

fair-if : (h : Host) (t : Bool) (x y : HostServed) → IsFair h x → IsFair h y
    → IsFair h (cond t x y)
fair-if h true x y p q = p
fair-if h false x y p q = q

fair-svc : (h : Host) (r : Result SvcAsk PayloadFault) → IsFair h (notified_by r h)
fair-svc h (Err fault) = fair _ refl (omega arith)
fair-svc h (Ok (SvcAsk.ModuleInserted i count flags)) = fair _ refl (omega arith)
fair-svc h (Ok (SvcAsk.ModuleRemoved i)) = fair _ refl (omega arith)
fair-svc h (Ok (SvcAsk.ProtocolVersion major minor)) = fair _ refl (omega arith)
fair-svc h (Ok (SvcAsk.Hello endo intf)) = fair _ refl (omega arith)
fair-svc h (Ok _) = fair _ refl (omega arith)

fair-gpio : (h : Host) (l : Link) (r : Result GpioAsk PayloadFault) → IsFair h (interrupted l r h)
fair-gpio h l (Err fault) = fair _ refl (omega arith)
fair-gpio h l (Ok (GpioAsk.IrqEvent which)) = fair _ refl (omega arith)
fair-gpio h l (Ok _) = fair _ refl (omega arith)

fair-credits : (h : Host) (l : Link) (o : Option ℕ) → IsFair h (credited l o h)
fair-credits h l None = fair _ refl (omega arith)
fair-credits h l (Some total) = record {
  keeps = λ e. absurd (let f : true ≡ false = e in cc);
  fits = omega arith;
}

fair-uart : (h : Host) (l : Link) (r : Result UartAsk PayloadFault)
    → IsFair h (uart_notified_by l r h)
fair-uart h l (Err fault) = fair _ refl (omega arith)
fair-uart h l (Ok (UartAsk.ReceiveData flags bytes)) = fair _ refl (omega arith)
fair-uart h l (Ok (UartAsk.SerialState lines)) = fair _ refl (omega arith)
fair-uart h l (Ok (UartAsk.ReceiveCredits count)) =
    fair-credits h l (credits_added l.credits count)
fair-uart h l (Ok _) = fair _ refl (omega arith)

fair-firmware : (h : Host) (l : Link) (kind : ℕ) (payload : List ℕ)
    → IsFair h (serves_firmware l kind payload h)
fair-firmware h l kind payload =
    let lent = images_lent l.connection kind payload h.images in record {
      keeps = λ e. ap (λ (x : Images). record h { images = x }) (lent.keeps e);
      fits = lent.fits;
    }

serves-fair : (k kind : ℕ) (payload : List ℕ) (h : Host) → IsFair h (host_serves k kind payload h)
serves-fair k kind payload h = by (link_of k h)
  where
    by : (o : Option Link) → IsFair h (served_on o kind payload h)
    by None = fair-svc h (read_svc_ask_of_svc kind payload)
    by (Some l) =
        fair-if h (l.protocol == 0x02) (serves_gpio l kind payload h) _
        (fair-gpio h l (read_gpio_ask_of_module kind payload))
        (fair-if h (l.protocol == 0x04) (serves_uart l kind payload h) _
        (fair-uart h l (read_uart_ask_of_module kind payload))
        (fair-if h (l.protocol == 0x17) (serves_firmware l kind payload h) (host_refuses _ h)
        (fair-firmware h l kind payload) (fair _ refl (omega arith))))

-- an answer fits into a message
pub ap-fits : (k kind : ℕ) (payload : List ℕ) (h : Host) (served : code_served.HostServed)
    (y : code_host.Host) → host_serves k kind payload h ≡ served_of served y
    → length served.payload ≤ most_payload
ap-fits k kind payload h served y is =
    subst (λ (v : HostServed). length v.answer.payload ≤ most_payload) is
    (serves-fair k kind payload h).fits

-- ---- the machine's application processor

-- what is told, and what is noticed, after the reply
abbrev pub behind_ap : HostServed → Action
behind_ap h = given h.told tell ▸ given h.notices notices

-- what it serves
abbrev pub serving : Connection → Incoming → State → HostServed
serving c q s = host_serves c.number q.kind q.payload s.host

-- the state with the application processor as it is afterwards
abbrev pub with_served : HostServed → State → State
with_served h s = record s { host = h.host }

-- the application processor may change before the reply or after it
changed-first : (c : Connection) (q : Incoming) (a : Answer) (h : HostServed) (s : State)
    → (replies side.Ap c q a ▸ behind_ap h) (with_served h s)
    ≡ (replies side.Ap c q a ▸ host_behind h) s
unfolding machine_opened
changed-first c q a h s = refl

serves-responds : (c : Connection) (q : Incoming) (s : State)
    → serves side.Ap c q s ≡ responds side.Ap c q (host_served (serving c q s)) s
unfolding machine_opened
serves-responds c q s = refl

-- a request that gets a reply
pub ap-replies : (c : Connection) (q : Incoming) (s : State) → q.oneway ≡ false
    → (replies side.Ap c q (serving c q s).answer ▸ behind_ap (serving c q s))
    (with_served (serving c q s) s)
    ≡ serves side.Ap c q s
ap-replies c q s twoway =
    let h = serving c q s in
    changed-first c q h.answer h s ∙ sym (responds-twoway side.Ap c q (host_served h) s twoway)
    ∙ sym (serves-responds c q s)

-- one that gets none
oneway-is : (c : Connection) (q : Incoming) (s : State) (t : Bool) → q.oneway ≡ true
    → ((serving c q s).answer.result == success) ≡ t
    → serves side.Ap c q s
    ≡ cond t (host_served (serving c q s)).behind (tell (entry.Ignored q.kind)) s
unfolding machine_opened
oneway-is c q s t oneway is =
    let r = host_served (serving c q s) in
    ap (λ b. (cond b (serves_oneway q r) (replies side.Ap c q r.answer ▸ r.behind)) s) oneway
    ∙ ap (λ b. cond b r.behind (tell (entry.Ignored q.kind)) s) is

-- it is done
pub ap-done : (c : Connection) (q : Incoming) (s : State) → q.oneway ≡ true
    → ((serving c q s).answer.result == success) ≡ true
    → behind_ap (serving c q s) (with_served (serving c q s) s) ≡ serves side.Ap c q s
unfolding machine_opened
ap-done c q s oneway fine = sym (oneway-is c q s true oneway fine)

-- or refused
pub ap-ignores : (c : Connection) (q : Incoming) (s : State) → q.oneway ≡ true
    → ((serving c q s).answer.result == success) ≡ false
    → serves side.Ap c q s ≡ told s (entry.Ignored q.kind ∷ [])
unfolding machine_opened
ap-ignores c q s oneway refused = oneway-is c q s false oneway refused

-- an entry is told, where there is one
pub does-tell_any : {x : Parties} {s : State} {a b : List Entry} (o : Option Entry)
    → PartsStand [] x s → b ≡ a ++ told_of o → Does x (given o tell) s a b
does-tell_any {x} {s} {a} {b} None st is =
    subst (λ es. Does x (given None tell) s a es) (sym (is ∙ append-nil a))
    (does-given_none tell refl st)
does-tell_any (Some e) st is = does-given tell e refl (does-tell e st is)

told_any-state : (o : Option Entry) (s : State) → (given o tell s).state ≡ s
unfolding machine_opened
told_any-state None s = refl
told_any-state (Some e) s = refl

-- what is noticed then is possible still
pub may-then : (o : Option Entry) (m : Option HostEvent) (e : HostEvent) (s : State)
    → m ≡ Some e → MayNotice m s → MayTurn e (given o tell s).state
may-then o m e s is may =
    subst (MayTurn e) (sym (told_any-state o s)) (subst (λ n. MayNotice n s) is may)

-- ---- as the parties do it

-- the identifier says whether a reply is wanted
label-says : {x : Parties} {s : State} {at : End} {k : ℕ} {asked : Asked} {payload : List ℕ}
    {c : Connection} {item : Item} {loose : List Loose}
    (d : IsDelivered at k asked payload s c item)
    → PartsStand loose x s → (asked.label == 0) ≡ d.request.oneway
label-says {s = s} {item = item} d st =
    ap (λ l. l == 0) d.names.label
    ∙ (request-sound s.bus item d.request st.requests.sound d.is).label

-- what the code's application processor answered is what the machine's does
is-served : {s : State} {at : End} {k : ℕ} {asked : Asked} {payload : List ℕ}
    {c : Connection} {item : Item} (served : code_served.HostServed) (y : code_host.Host)
    (d : IsDelivered at k asked payload s c item)
    → host_serves k asked.kind payload s.host ≡ served_of served y
    → serving c d.request s ≡ served_of served y
is-served {s} {at} {k} {asked} {payload} {c} {item} served y d h =
    ap (λ j. host_serves j d.request.kind d.request.payload s.host)
    d.upon.number
    ∙ ap (λ m. host_serves k m d.request.payload s.host) (sym d.names.kind)
    ∙ ap (λ p. host_serves k asked.kind p s.host) (sym d.payload_is) ∙ h

-- the parties stand with the application processor as it is afterwards
served-stands : {x : Parties} {s : State} {loose : List Loose} (c : Connection) (q : Incoming)
    (served : code_served.HostServed) (y : code_host.Host)
    → serving c q s ≡ served_of served y → PartsStand loose x s
    → PartsStand loose (record x { host = y }) (with_served (serving c q s) s)
served-stands {s = s} c q served y is st =
    rehosted y (serving c q s).host st (ap (λ (h : HostServed). h.host) is)

-- the state after the answer, by whether one is wanted
abbrev after_by : Connection → Incoming → HostServed → State → Bool → State
after_by c q h s t = record s {
  bus = cond t s.bus (replied c.number side.Far (reply_item q h.answer) s.bus);
  host = h.host;
}

-- a request that gets no reply is refused, and nothing changes
ap-refused : {x : Parties} {s : State} {a b : List Entry} {at : End} {k : ℕ} {asked : Asked}
    {payload : List ℕ} {c : Connection} {item : Item} (served : code_served.HostServed)
    (y : code_host.Host) (d : IsDelivered at k asked payload s c item)
    → PartsStand (only k side.Ap item) x s
    → host_serves k asked.kind payload s.host ≡ served_of served y
    → (asked.label == 0) ≡ true → (served.result == success) ≡ false
    → b ≡ a ++ entry.Ignored asked.kind ∷ []
    → Does (record x { host = y }) (serves side.Ap c d.request) s a b
ap-refused {x} {s} {a} {b} {at} {k} {asked} {payload} {c} {item} served y d st h none refused
    pushed =
    let q = d.request in
    let is = is-served served y d h in
    let bad : ((serving c q s).answer.result == success) ≡ false =
    ap (λ (v : HostServed). v.answer.result == success) is ∙ refused in
    let same = (serves-fair c.number q.kind q.payload s.host).keeps bad in
    let whole = let-gone (taken_from k side.Ap item) [] st in
    does-is s (entry.Ignored q.kind ∷ [])
    (ap-ignores c q s (sym (label-says d st) ∙ none) bad)
    (pushed ∙ ap (λ m. a ++ entry.Ignored m ∷ []) d.names.kind)
    (rehosted y s.host whole (sym same ∙ ap (λ (v : HostServed). v.host) is))

-- it is done
ap-oneway : {x z : Parties} {s : State} {a b : List Entry} {at : End} {k : ℕ} {asked : Asked}
    {payload : List ℕ} {c : Connection} {item : Item} (served : code_served.HostServed)
    (y : code_host.Host) (d : IsDelivered at k asked payload s c item)
    → PartsStand (only k side.Ap item) x s
    → host_serves k asked.kind payload s.host ≡ served_of served y
    → (asked.label == 0) ≡ true → (served.result == success) ≡ true
    → MayServe side.Ap c d.request s
    → ((t : State) → PartsStand [] (record x { host = y }) t
    → MayNotice served.«then» t
    → Does z (given served.tell tell ▸ given served.«then» notices) t a b)
    → Does z (serves side.Ap c d.request) s a b
ap-oneway {x} {z} {s} {a} {b} {at} {k} {asked} {payload} {c} {item} served y d st h none fine may
    goes =
    let q = d.request in
    let is = is-served served y d h in
    let oneway : q.oneway ≡ true = sym (label-says d st) ∙ none in
    let good : ((serving c q s).answer.result == success) ≡ true =
    ap (λ (v : HostServed). v.answer.result == success) is ∙ fine in
    let whole = let-gone (taken_from k side.Ap item) [] st in
    let stands = served-stands c q served y is whole in
    let may_now : MayNotice (serving c q s).notices (with_served (serving c q s) s) =
    subst (λ t. MayNotice (serving c q s).notices (after_by c q (serving c q s) s t)) oneway may in
    does-as (ap (λ (v : HostServed). behind_ap v (with_served (serving c q s) s)) (sym is)
    ∙ ap-done c q s oneway good)
    (goes (with_served (serving c q s) s) stands
    (subst (λ (v : HostServed). MayNotice v.notices (with_served (serving c q s) s)) is may_now))

-- either
pub ap-heeds : {x z : Parties} {s : State} {a b : List Entry} {at : End} {k : ℕ} {asked : Asked}
    {payload : List ℕ} {c : Connection} {item : Item} (served : code_served.HostServed)
    (y : code_host.Host) (d : IsDelivered at k asked payload s c item)
    → PartsStand (only k side.Ap item) x s
    → host_serves k asked.kind payload s.host ≡ served_of served y
    → (asked.label == 0) ≡ true → MayServe side.Ap c d.request s
    → ((served.result == success) ≡ true → (t : State) → PartsStand [] (record x { host = y }) t
    → MayNotice served.«then» t
    → Does z (given served.tell tell ▸ given served.«then» notices) t a b)
    → ((served.result == success) ≡ false
    → (z ≡ record x { host = y }) × (b ≡ a ++ entry.Ignored asked.kind ∷ []))
    → Does z (serves side.Ap c d.request) s a b
ap-heeds {x} {z} {s} {a} {b} {c = c} served y d st h none may goes ignored =
    by (served.result == success) refl
  where
    by : (t : Bool) → (served.result == success) ≡ t → Does z (serves side.Ap c d.request) s a b
    by true fine = ap-oneway served y d st h none fine may (goes fine)
    by false bad =
        subst (λ w. Does w (serves side.Ap c d.request) s a b) (sym (ignored bad).0)
        (ap-refused served y d st h none bad (ignored bad).1)

replied-state : (c : Connection) (q : Incoming) (h : HostServed) (s : State)
    → (replies side.Ap c q h.answer (with_served h s)).state ≡ after_by c q h s false
unfolding machine_opened
replied-state c q h s = refl

-- a request that gets a reply
pub ap-twoway : {x y z : Parties} {s : State} {a b e : List Entry} {at : End} {k : ℕ}
    {asked : Asked} {payload : List ℕ} {c : Connection} {item : Item}
    (served : code_served.HostServed) (w : code_host.Host)
    (d : IsDelivered at k asked payload s c item)
    → PartsStand (only k side.Ap item) x s
    → host_serves k asked.kind payload s.host ≡ served_of served w
    → (asked.label == 0) ≡ false → MayServe side.Ap c d.request s
    → ((t : State) → PartsStand (only k side.Ap item) (record x { host = w }) t
    → IsUpon k t.bus c → (may : MayReply asked t.bus item)
    → Does y (replies side.Ap c may.request (answer served.result served.payload)) t a b)
    → ((t : State) → PartsStand [] y t → MayNotice served.«then» t
    → Does z (given served.tell tell ▸ given served.«then» notices) t b e)
    → Does z (serves side.Ap c d.request) s a e
ap-twoway {x} {y} {z} {s} {a} {b} {e} {at} {k} {asked} {payload} {c} {item} served w d st h some may
    answers goes =
    let q = d.request in
    let is = is-served served w d h in
    let twoway : d.request.oneway ≡ false = sym (label-says d st) ∙ some in
    let t = with_served (serving c q s) s in
    let stands = served-stands c q served w is st in
    let answered_so : Does y (replies side.Ap c q (serving c q s).answer) t a b =
    subst (λ (v : HostServed). Does y (replies side.Ap c q v.answer) t a b) (sym is)
    (answers t stands d.upon (may-reply d twoway)) in
    let mid = (replies side.Ap c q (serving c q s).answer t).state in
    let may_now : MayNotice (serving c q s).notices mid =
    subst (MayNotice (serving c q s).notices) (sym (replied-state c q (serving c q s) s))
    (subst (λ u. MayNotice (serving c q s).notices (after_by c q (serving c q s) s u)) twoway
    may) in
    let went = goes mid answered_so.stand
    (subst (λ (v : HostServed). MayNotice v.notices mid) is may_now) in
    does-as (ap-replies c q s twoway)
    (does-then answered_so
    (subst (λ (v : HostServed). Does z (behind_ap v) mid b e) (sym is) went))
