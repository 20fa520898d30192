-- What follows where the request that a module's loader waits for ended: another request or the end
-- of the download behind an answer of success, or a failure.
use Rattle.std.proofs.Common.{Bool, List, None, Option, Some, ap, arith, cond, false, inr, refl}
use Rattle.std.proofs.Common.{subst, sym, true, ℕ, ◌<◌, ◌∙◌, ◌≡◌}
use Rattle.std.specs.Prelude.{Err, Ok, Result, length, option_map, ◌++◌, ◌==◌}
use Rattle.gb_base.specs.declared.download.Next.TheVariants as next
use Rattle.gb_base.specs.declared.outcome.Outcome.{Outcome}
use Rattle.gb_base.specs.declared.outcome.Outcome.TheVariants as outcome
use Rattle.gb_base.specs.declared.served.OwnAsk.{OwnAsk}
use Rattle.gb_formats.specs.Devices.{Device, Firmware, Gpio, I2c, Loopback, Spi, Uart}
use Rattle.gb_formats.specs.FirmwareRecords.{FirmwareReply, read_firmware_reply}
use Rattle.gb_formats.specs.Loader.{Awaits, Download, Loaded, Loader, answered, ended_in, ended_so}
use Rattle.gb_formats.specs.Loader.{fails, fetch_ask, fetched, fetches, found, goes_on}
use Rattle.gb_formats.specs.Loader.{loader_failed, piece, release_ask, released}
use Rattle.gb_formats.specs.Module.{Module, ModulePort, is_on, port_at, with_changed}
use Rattle.gb_formats.specs.ModuleLoads.{ModuleLoaded, device_ended, if_may_ask, loader_at}
use Rattle.gb_formats.specs.ModuleLoads.{loader_changed, loader_of, module_ended, module_fail}
use Rattle.gb_formats.specs.ModuleLoads.{port_ended, port_loaded, port_loader, unasked}
use Rattle.gb_formats.specs.Records.{PayloadFault}
use Rattle.gb_formats.specs.Results.{success}
use Rattle.gb_invariants.proofs.Awaiting.{none-some, same-some}
use Rattle.gb_invariants.proofs.Outcomes.{same-number}
use Rattle.gb_laws.proofs.steps.LoaderStays.{KeepsEach, keeps-one, loader-else, loader-there}
use Rattle.gb_laws.proofs.steps.LoaderStays.{own-number, own-port, port-changed}

-- ---- a loader

-- a request ended by an answer of success
abbrev pub IsSuccess : Outcome → Type 0
IsSuccess how = (payload : List ℕ) × (how ≡ outcome.Answered success payload)

-- What follows in a loader: but for its download it is as before.
pub data LoaderFollows (l : Loader) (how : Outcome) (t : Loaded) : Type 0 where
  asks : (own : OwnAsk) → t.next ≡ next.Ask own → IsSuccess how
      → (own.kind < 128) × (own.oneway ≡ false) → loader_failed t.after ≡ loader_failed l
      → LoaderFollows l how t
  done : (tag : List ℕ) (size : ℕ) → t.next ≡ next.Done tag size → IsSuccess how
      → LoaderFollows l how t
  failed : (tag : List ℕ) → t.next ≡ next.Failed tag → t.after ≡ loader_failed l
      → LoaderFollows l how t

follows-fetches : (id size : ℕ) (d : Download) (l : Loader) (how : Outcome) → IsSuccess how
    → LoaderFollows l how (fetches id size d l)
follows-fetches id size d l how is = by (length d.bytes == size)
  where
    by : (t : Bool) → LoaderFollows l how (cond t
        (goes_on (record d { awaits = Awaits.Release }) (release_ask id) l)
        (goes_on (record d { awaits = Awaits.Fetch id size }) (fetch_ask id size d.bytes) l))
    by true = asks (release_ask id) refl is (omega arith, refl) refl
    by false = asks (fetch_ask id size d.bytes) refl is (omega arith, refl) refl

follows-found : (r : Result FirmwareReply PayloadFault) (d : Download) (l : Loader) (how : Outcome)
    → IsSuccess how → LoaderFollows l how (found r d l)
follows-found (Ok (FirmwareReply.Find id size)) d l how is = follows-fetches id size d l how is
follows-found (Ok (FirmwareReply.Fetch bytes)) d l how is = failed d.tag refl refl
follows-found (Ok FirmwareReply.Release) d l how is = failed d.tag refl refl
follows-found (Err fault) d l how is = failed d.tag refl refl

follows-fetched : (id size : ℕ) (payload : List ℕ) (d : Download) (l : Loader) (how : Outcome)
    → IsSuccess how → LoaderFollows l how (fetched id size payload d l)
follows-fetched id size payload d l how is = by (length payload == piece size d.bytes)
  where
    by : (t : Bool) → LoaderFollows l how (cond t
        (fetches id size (record d { bytes = d.bytes ++ payload }) l) (fails d l))
    by true = follows-fetches id size (record d { bytes = d.bytes ++ payload }) l how is
    by false = failed d.tag refl refl

follows-released : (r : Result FirmwareReply PayloadFault) (d : Download) (l : Loader)
    (how : Outcome) → IsSuccess how → LoaderFollows l how (released r d l)
follows-released (Ok FirmwareReply.Release) d l how is = done d.tag (length d.bytes) refl is
follows-released (Ok (FirmwareReply.Find id size)) d l how is = failed d.tag refl refl
follows-released (Ok (FirmwareReply.Fetch bytes)) d l how is = failed d.tag refl refl
follows-released (Err fault) d l how is = failed d.tag refl refl

follows-answered : (a : Awaits) (payload : List ℕ) (d : Download) (l : Loader) (how : Outcome)
    → IsSuccess how → LoaderFollows l how (answered a payload d l)
follows-answered Awaits.Find payload d l how is =
    follows-found (read_firmware_reply 0x01 payload) d l how is
follows-answered (Awaits.Fetch id size) payload d l how is =
    follows-fetched id size payload d l how is
follows-answered Awaits.Release payload d l how is =
    follows-released (read_firmware_reply 0x03 payload) d l how is

follows-ended : (how : Outcome) (d : Download) (l : Loader)
    → LoaderFollows l how (ended_so how d l)
follows-ended (outcome.Answered result payload) d l = by (result == success) refl
  where
    by : (t : Bool) → (result == success) ≡ t
        → LoaderFollows l (outcome.Answered result payload)
        (cond t (answered d.awaits payload d l) (fails d l))
    by true e = follows-answered d.awaits payload d l (outcome.Answered result payload)
        (payload, ap (λ r. outcome.Answered r payload) (same-number result success e))
    by false e = failed d.tag refl refl
follows-ended outcome.Cancelled d l = failed d.tag refl refl
follows-ended outcome.Timeout d l = failed d.tag refl refl
follows-ended outcome.Disconnected d l = failed d.tag refl refl
follows-ended outcome.Sent d l = failed d.tag refl refl

-- a failure takes the place of a request where the CPort isn't on
follows-may : (b : Bool) (l : Loader) (how : Outcome) (t : Loaded) → LoaderFollows l how t
    → LoaderFollows l how (cond b t (unasked t.next t))
follows-may true l how t h = h
follows-may false l how t (asks own is won low after) =
    subst (λ n. LoaderFollows l how (unasked n t)) (sym is) (failed _ refl after)
follows-may false l how t (done tag size is won) =
    subst (λ n. LoaderFollows l how (unasked n t)) (sym is) (done tag size is won)
follows-may false l how t (failed tag is after) =
    subst (λ n. LoaderFollows l how (unasked n t)) (sym is) (failed tag is after)

-- ---- a module

-- What follows in a module: another request, which may fail, or the end of the download.
pub data ModuleFollows (x : Module) (c : ℕ) (how : Outcome) (t : ModuleLoaded) : Type 0 where
  asks : (own : OwnAsk) → t.next ≡ next.Ask own → IsSuccess how
      → (own.kind < 128) × (own.oneway ≡ false) → KeepsEach x (module_fail t.after c)
      → ModuleFollows x c how t
  done : (tag : List ℕ) (size : ℕ) → t.next ≡ next.Done tag size → IsSuccess how
      → ModuleFollows x c how t
  failed : (tag : List ℕ) → t.next ≡ next.Failed tag → KeepsEach x t.after
      → ModuleFollows x c how t

-- where a CPort has this loader
module _ (x : Module) (c : ℕ) (port : ModulePort) (there : port_at x c ≡ Some port) (l : Loader)
    (is : port.device ≡ Firmware l) where
  -- the CPort with another one, and the module then
  abbrev loading : Loader → ModulePort
  loading k = record port { device = Firmware k }

  abbrev loads : Loader → Module
  loads k = with_changed x (loading k)

  first-loads : loader_at x port.number ≡ Some l
  first-loads = ap port_loader (own-port x c port there) ∙ ap loader_of is

  fails-loads : (k : Loader) → k ≡ loader_failed l → KeepsEach x (loads k)
  fails-loads k e = keeps-one x (loads k) port.number
      (inr (inr (inr (loader-there x (loading k) port (own-port x c port there) ∙ ap Some e
      ∙ sym (ap (option_map loader_failed) first-loads)))))
      (λ d. loader-else x (loading k) d)

  -- the module that fails behind it
  abbrev fallen : Loader → Module
  fallen k = with_changed (loads k) (loading (loader_failed k))

  fails-fallen : (k : Loader) → loader_failed k ≡ loader_failed l → KeepsEach x (fallen k)
  fails-fallen k e = keeps-one x (fallen k) port.number
      (inr (inr (inr (loader-there (loads k) (loading (loader_failed k)) (loading k)
      (port-changed x (loading k) port (own-port x c port there)) ∙ ap Some e
      ∙ sym (ap (option_map loader_failed) first-loads)))))
      (λ d other. loader-else (loads k) (loading (loader_failed k)) d other
      ∙ loader-else x (loading k) d other)

  fail-is : (k : Loader) → module_fail (loads k) c ≡ fallen k
  fail-is k = ap (loader_changed loader_failed (loads k))
      (ap (port_at (loads k)) (sym (own-number x c port there))
      ∙ port-changed x (loading k) port (own-port x c port there))

  loaded-follows : (how : Outcome) (t : Loaded) → LoaderFollows l how t
      → ModuleFollows x c how (port_loaded x port t)
  loaded-follows how t (asks own next won low after) = asks own next won low
      (subst (KeepsEach x) (sym (fail-is t.after)) (fails-fallen t.after after))
  loaded-follows how t (done tag size next won) = done tag size next won
  loaded-follows how t (failed tag next after) = failed tag next (fails-loads t.after after)

  device-follows : (how : Outcome) (t : ModuleLoaded)
      → device_ended x port (Firmware l) how ≡ Some t → ModuleFollows x c how t
  device-follows how t e = by l.running e
    where
      by : (o : Option Download)
          → option_map (λ k. port_loaded x port (if_may_ask port.state k)) (ended_in o how l)
          ≡ Some t → ModuleFollows x c how t
      by None f = absurd (none-some f)
      by (Some d) f = subst (ModuleFollows x c how) (same-some _ t f)
          (loaded-follows how (if_may_ask port.state (ended_so how d l))
          (follows-may (is_on port.state) l how (ended_so how d l) (follows-ended how d l)))

-- What follows where the last request at a CPort ended.
pub module-follows : (x : Module) (c : ℕ) (how : Outcome) (t : ModuleLoaded)
    → module_ended x c how ≡ Some t → ModuleFollows x c how t
module-follows x c how t e = by (port_at x c) refl e
  where
    device : (port : ModulePort) → port_at x c ≡ Some port → (d : Device) → port.device ≡ d
        → device_ended x port d how ≡ Some t → ModuleFollows x c how t
    device port there (Firmware l) is f = device-follows x c port there l is how t f
    device port there (Gpio lines) is f = absurd (none-some f)
    device port there (I2c i2c) is f = absurd (none-some f)
    device port there (Spi last) is f = absurd (none-some f)
    device port there Uart is f = absurd (none-some f)
    device port there Loopback is f = absurd (none-some f)

    by : (o : Option ModulePort) → port_at x c ≡ o → port_ended x o how ≡ Some t
        → ModuleFollows x c how t
    by None there f = absurd (none-some f)
    by (Some port) there f = device port there port.device refl f
