-- What takes no memory to answer.
use Rattle.std.specs.Prelude.{◌≡◌, ◌==◌, ℕ, if◌then◌else◌, Option, Some, None, IsOk, Result, List}
use Rattle.std.specs.Prelude.{[]}
use Rattle.gb_base.specs.Bytes.{AreFew}
use Rattle.gb_base.specs.declared.errors.OutOfMemory.{OutOfMemory}
use Rattle.gb_base.specs.declared.served.Served.{Served}
use Rattle.gb_formats.specs.ControlResponder.{control_step}
use Rattle.gb_formats.specs.Devices.{device_step}
use Rattle.gb_formats.specs.Module.{Module, ModulePort, port_at}
use Rattle.gb_formats.specs.Results.{protocol_bad, refusal_of}

-- An answer of few bytes without requests takes no memory.
abbrev pub FewSucceed : Served → Result Served OutOfMemory → Type 0
FewSucceed answer result = AreFew answer.payload → answer.asks ≡ [] → IsOk result

-- what the device of a CPort answers, with the requests that it makes in each state of the CPort
abbrev pub device_answer : Option ModulePort → ℕ → List ℕ → Served
device_answer None kind payload = refusal_of protocol_bad
device_answer (Some port) kind payload = (device_step port.device kind payload).served

-- what Control or the device of a CPort answers, before requests are left out
abbrev pub whole_answer : Module → ℕ → ℕ → List ℕ → Served
whole_answer m c kind payload =
    if c == 0 then (control_step m kind payload).served
    else device_answer (port_at m c) kind payload
