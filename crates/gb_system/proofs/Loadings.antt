-- What follows in a firmware download, in the order of the parties.
use Rattle.std.proofs.Common.{◌≡◌, ℕ, ◌==◌, Bool, true, false, cond, Option, Some, None}
use Rattle.std.proofs.Common.{option_map, is_some, Result, Ok, Err, List, ◌++◌, length}
use Rattle.std.proofs.Common.{refl, sym, ap, ◌∙◌, subst, arith}
use Rattle.std.specs.Prelude.{option_and_then}
use Rattle.gb_base.specs.declared.download.Next.{Next}
use Rattle.gb_base.specs.declared.download.Next.TheVariants as next
use Rattle.gb_base.specs.declared.end.Side.TheVariants as side
use Rattle.gb_base.specs.declared.outcome.Outcome.{Outcome}
use Rattle.gb_base.specs.declared.outcome.Outcome.TheVariants as outcome
use Rattle.gb_base.specs.declared.served.OwnAsk.{OwnAsk}
use Rattle.gb_formats.specs.Devices.{Device}
use Rattle.gb_formats.specs.Devices as devices
use Rattle.gb_formats.specs.FirmwareRecords.{FirmwareReply, read_firmware_reply}
use Rattle.gb_formats.specs.Loader.{Awaits, Download, Loaded, Loader, answered, ended_in, ended_so}
use Rattle.gb_formats.specs.Loader.{fails, fetch_ask, fetched, fetches, found, loader_begun}
use Rattle.gb_formats.specs.Loader.{loader_failed, piece, release_ask, released}
use Rattle.gb_formats.specs.Loader as loader
use Rattle.gb_formats.specs.Module.{CportState, Module, ModulePort, Off, On, Quiet, port_at}
use Rattle.gb_formats.specs.ModuleLoads.{ModuleLoaded, device_ended, if_may_ask, loader_changed}
use Rattle.gb_formats.specs.ModuleLoads.{module_ended, module_fail, module_load, port_ended}
use Rattle.gb_formats.specs.ModuleLoads.{port_loaded, unasked}
use Rattle.gb_formats.specs.Records.{PayloadFault}
use Rattle.gb_formats.specs.Results.{success}
use Rattle.gb_invariants.proofs.Awaiting.{same-some}
use Rattle.gb_machine.proofs.Opened.{machine_opened}
use Rattle.gb_machine.proofs.Steps.{asks_next-first}
use Rattle.gb_machine.specs.Actions.{Action, Told, given, nothing}
use Rattle.gb_machine.specs.Bus.{Place, next_number}
use Rattle.gb_machine.specs.Labels.{next_label}
use Rattle.gb_machine.specs.Loading.{asks_at, asks_next, goes_on, load_ended, load_follows}
use Rattle.gb_machine.specs.Loading.{load_of, longer_trail, with_loaded}
use Rattle.gb_machine.specs.Modules.{module_at, with_module}
use Rattle.gb_machine.specs.Refusals.{module_place}
use Rattle.gb_machine.specs.State.{Load, Past, State}
use Rattle.gb_system.specs.Loading.{IsFit, asks_last, follows_by, if_can, load_way, way_at, way_by}
use Rattle.gb_system.specs.Loading.{unmade}

-- ---- requests that fit, and manifests that stay

fetches-fit : (id size : ℕ) (d : Download) (l : Loader) → IsFit (fetches id size d l).next
fetches-fit id size d l = by (length d.bytes == size)
  where
    by : (b : Bool) → IsFit (cond b
        (loader.goes_on (record d { awaits = Awaits.Release }) (release_ask id) l)
        (loader.goes_on (record d { awaits = Awaits.Fetch id size }) (fetch_ask id size d.bytes)
        l)).next
    by true = (omega arith, omega arith)
    by false = (omega arith, omega arith)

found-fits : (r : Result FirmwareReply PayloadFault) (d : Download) (l : Loader)
    → IsFit (found r d l).next
found-fits (Ok (FirmwareReply.Find id size)) d l = fetches-fit id size d l
found-fits (Ok (FirmwareReply.Fetch bytes)) d l = tt
found-fits (Ok FirmwareReply.Release) d l = tt
found-fits (Err fault) d l = tt

fetched-fits : (id size : ℕ) (payload : List ℕ) (d : Download) (l : Loader)
    → IsFit (fetched id size payload d l).next
fetched-fits id size payload d l = by (length payload == piece size d.bytes)
  where
    by : (b : Bool) → IsFit (cond b
        (fetches id size (record d { bytes = d.bytes ++ payload }) l) (fails d l)).next
    by true = fetches-fit id size (record d { bytes = d.bytes ++ payload }) l
    by false = tt

released-fits : (r : Result FirmwareReply PayloadFault) (d : Download) (l : Loader)
    → IsFit (released r d l).next
released-fits (Ok (FirmwareReply.Find id size)) d l = tt
released-fits (Ok (FirmwareReply.Fetch bytes)) d l = tt
released-fits (Ok FirmwareReply.Release) d l = tt
released-fits (Err fault) d l = tt

answered-fits : (w : Awaits) (payload : List ℕ) (d : Download) (l : Loader)
    → IsFit (answered w payload d l).next
answered-fits Awaits.Find payload d l = found-fits (read_firmware_reply 0x01 payload) d l
answered-fits (Awaits.Fetch id size) payload d l = fetched-fits id size payload d l
answered-fits Awaits.Release payload d l = released-fits (read_firmware_reply 0x03 payload) d l

ended-fits : (how : Outcome) (d : Download) (l : Loader) → IsFit (ended_so how d l).next
ended-fits (outcome.Answered result payload) d l = by (result == success)
  where
    by : (b : Bool) → IsFit (cond b (answered d.awaits payload d l) (fails d l)).next
    by true = answered-fits d.awaits payload d l
    by false = tt
ended-fits outcome.Timeout d l = tt
ended-fits outcome.Cancelled d l = tt
ended-fits outcome.Disconnected d l = tt
ended-fits outcome.Sent d l = tt

unasked-fits : (n : Next) (t : Loaded) → IsFit t.next → IsFit (unasked n t).next
unasked-fits (next.Ask own) t fit = tt
unasked-fits (next.Done tag size) t fit = fit
unasked-fits (next.Failed tag) t fit = fit

may_ask-fits : (state : CportState) (t : Loaded) → IsFit t.next → IsFit (if_may_ask state t).next
may_ask-fits On t fit = fit
may_ask-fits Quiet t fit = unasked-fits t.next t fit
may_ask-fits Off t fit = unasked-fits t.next t fit

-- What follows fits into a message, and the module's manifest stays.
pub record GoesWell (m : Module) (t : ModuleLoaded) : Type 0 where
  pub fit : IsFit t.next
  pub manifest : t.after.manifest ≡ m.manifest

pub goes-well : (m : Module) (c : ℕ) (how : Outcome) (t : ModuleLoaded)
    → module_ended m c how ≡ Some t → GoesWell m t
goes-well m c how t is = at_port (port_at m c) is
  where
    loaded : (port : ModulePort) (l : Loader) (o : Option Download) → option_map
        (λ w. port_loaded m port (if_may_ask port.state w)) (ended_in o how l) ≡ Some t
        → GoesWell m t
    loaded port l None e = absurd cc
    loaded port l (Some d) e =
        subst (GoesWell m) (same-some _ t e) (record {
          fit = may_ask-fits port.state (ended_so how d l) (ended-fits how d l);
          manifest = refl;
        })

    at_device : (port : ModulePort) (device : Device) → device_ended m port device how ≡ Some t
        → GoesWell m t
    at_device port (devices.Firmware l) e = loaded port l l.running e
    at_device port (devices.Gpio lines) e = absurd cc
    at_device port (devices.I2c device) e = absurd cc
    at_device port (devices.Spi last) e = absurd cc
    at_device port devices.Uart e = absurd cc
    at_device port devices.Loopback e = absurd cc

    at_port : (o : Option ModulePort) → port_ended m o how ≡ Some t → GoesWell m t
    at_port None e = absurd cc
    at_port (Some port) e = at_device port port.device e

-- a module with another loader has the same manifest
fail-manifest : (m : Module) (c : ℕ) → (module_fail m c).manifest ≡ m.manifest
fail-manifest m c = by (port_at m c)
  where
    by : (o : Option ModulePort)
        → (loader_changed loader_failed m o).manifest ≡ m.manifest
    by None = refl
    by (Some port) = refl

pub load-manifest : (m : Module) (c : ℕ) (tag : List ℕ)
    → (module_load m c tag).manifest ≡ m.manifest
load-manifest m c tag = by (port_at m c)
  where
    by : (o : Option ModulePort)
        → (loader_changed (loader_begun tag) m o).manifest ≡ m.manifest
    by None = refl
    by (Some port) = refl

-- a failure that takes the place of a request fits too
pub can-well : (can : Bool) (c : ℕ) (m : Module) (t : ModuleLoaded) → GoesWell m t
    → GoesWell m (if_can can c t)
can-well true c m t well = well
can-well false c m t well = by t.next refl
  where
    by : (n : Next) → t.next ≡ n → GoesWell m (unmade n c t)
    by (next.Ask own) e =
        record { fit = tt; manifest = fail-manifest t.after c ∙ well.manifest }
    by (next.Done tag size) e = well
    by (next.Failed tag) e = well

-- ---- the order

-- what is remembered of downloads, by what follows
abbrev pub past_by : ℕ → ℕ → Option ℕ → Next → State → Past
past_by i c (Some k) (next.Ask own) s =
    record s.past { loading = longer_trail i c (next_number s.bus) s.past.loading }
past_by i c None (next.Ask own) s = s.past
past_by i c way (next.Done tag size) s = with_loaded i c s.past
past_by i c way (next.Failed tag) s = s.past

-- the state with the module as it is then
abbrev pub with_followed : ℕ → ℕ → Option ℕ → ModuleLoaded → State → State
with_followed i c way t s = record s {
  modules = with_module i (if_can (is_some way) c t).after s.modules;
  past = past_by i c way t.next s;
}

-- The machine asks first, and then the module changes; the parties the other way round.
pub goes-as : (i c : ℕ) (t : ModuleLoaded) (s : State)
    → follows_by i c (load_way i c s) (if_can (is_some (load_way i c s)) c t).next
    (with_followed i c (load_way i c s) t s) ≡ goes_on i c t.next t.after s
unfolding machine_opened follows_by asks_last
goes-as i c t s = by t.next refl
  where
    Is : Option ℕ → Next → Told → Type 0
    Is way n told =
        follows_by i c way (if_can (is_some way) c (record { after = t.after; next = n })).next
        (with_followed i c way (record { after = t.after; next = n }) s) ≡ told

    labelled : (o : Option ℕ) (k : ℕ) (own : OwnAsk)
        → Is (way_by o k) (next.Ask own) (asks_next o k i c own t.after s)
    labelled None k own = refl
    labelled (Some label) k own = sym (asks_next-first label k i c own t.after s)

    placed : (o : Option Place) (own : OwnAsk)
        → Is (way_at o s.bus) (next.Ask own) (asks_at o i c own t.after s)
    placed None own = refl
    placed (Some p) own =
        labelled (next_label p.connection.number side.Far s.bus) p.connection.number own

    done : (way : Option ℕ) (tag : List ℕ) (size : ℕ)
        → Is way (next.Done tag size) (goes_on i c (next.Done tag size) t.after s)
    done None tag size = refl
    done (Some k) tag size = refl

    failed : (way : Option ℕ) (tag : List ℕ)
        → Is way (next.Failed tag) (goes_on i c (next.Failed tag) t.after s)
    failed None tag = refl
    failed (Some k) tag = refl

    by : (n : Next) → t.next ≡ n → Is (load_way i c s) t.next (goes_on i c t.next t.after s)
    by (next.Ask own) e =
        subst (λ n. Is (load_way i c s) n (goes_on i c n t.after s)) (sym e)
        (placed (module_place i c s) own)
    by (next.Done tag size) e =
        subst (λ n. Is (load_way i c s) n (goes_on i c n t.after s)) (sym e)
        (done (load_way i c s) tag size)
    by (next.Failed tag) e =
        subst (λ n. Is (load_way i c s) n (goes_on i c n t.after s)) (sym e)
        (failed (load_way i c s) tag)

-- ---- the end of a request

-- the download that waits for it goes on
pub follows-on : (n : ℕ) (how : Outcome) (l : Load) (m : Module) (t : ModuleLoaded) (s : State)
    → load_of n s.loads ≡ Some l → module_at l.intf s.modules ≡ Some m
    → module_ended m l.cport how ≡ Some t
    → load_follows n how s ≡ goes_on l.intf l.cport t.next t.after s
unfolding machine_opened
follows-on n how l m t s waits there ends =
    ap (λ o. given o (load_ended how) s) waits
    ∙ ap (λ o. given o (λ m. given (module_ended m l.cport how)
    (λ t. goes_on l.intf l.cport t.next t.after)) s) there
    ∙ ap (λ o. given o (λ t. goes_on l.intf l.cport t.next t.after) s) ends

-- none waits for it
pub follows-none : (n : ℕ) (how : Outcome) (s : State) → load_of n s.loads ≡ None
    → load_follows n how s ≡ nothing s
unfolding machine_opened
follows-none n how s none = ap (λ o. given o (load_ended how) s) none

-- none runs there
pub follows-not : (n : ℕ) (how : Outcome) (l : Load) (s : State) → load_of n s.loads ≡ Some l
    → option_and_then (λ m. module_ended m l.cport how) (module_at l.intf s.modules) ≡ None
    → load_follows n how s ≡ nothing s
unfolding machine_opened
follows-not n how l s waits none =
    ap (λ o. given o (load_ended how) s) waits
    ∙ by (module_at l.intf s.modules) none
  where
    at : ModuleLoaded → Action
    at t = goes_on l.intf l.cport t.next t.after

    by : (o : Option Module) → option_and_then (λ m. module_ended m l.cport how) o ≡ None
        → given o (λ m. given (module_ended m l.cport how) at) s ≡ nothing s
    by None e = refl
    by (Some m) e = ap (λ o. given o at s) e
