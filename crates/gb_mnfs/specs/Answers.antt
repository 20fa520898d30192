-- What is answered where a manifest is made of a text.
use Rattle.std.specs.Prelude.{◌≡◌, ℕ, Option, Some, None, Result, Ok, Err, List, IfSome}
use Rattle.gb_formats.specs.ManifestSpec as formats
use Rattle.gb_formats.specs.ManifestSpec.{plain, write_answer}
use Rattle.gb_formats.specs.Source.{IsSource, SourceFault, compile_answer}
use Rattle.gb_manifest.specs.Writes.{spec_of}
use Rattle.gb_manifest.specs.declared.spec.ManifestSpec.{ManifestSpec}
use Rattle.gb_manifest.specs.declared.writing.WriteFault.{WriteFault}
use Rattle.gb_manifest.specs.declared.writing.WriteFault.TheVariants as write
use Rattle.gb_mnfs.specs.declared.mnfs_fault.LineStop.{LineStop}
use Rattle.gb_mnfs.specs.declared.mnfs_fault.LineStop.TheVariants as stop
use Rattle.gb_mnfs.specs.declared.mnfs_fault.MnfsFault.{MnfsFault}
use Rattle.gb_mnfs.specs.declared.mnfs_fault.MnfsFault.TheVariants as fault

-- the fault of a manifest that isn't written
abbrev pub unwritten : WriteFault → MnfsFault
unwritten (write.StringLong id) = fault.StringLong id
unwritten (write.Rule reason) = fault.Rule reason
unwritten write.TooLong = fault.TooLong
unwritten (write.Memory refused) = fault.Memory refused

-- the fault of a line that isn't taken
abbrev pub stop_fault : ℕ → LineStop → MnfsFault
stop_fault line (stop.Bad reason) = fault.Line line reason
stop_fault line (stop.Memory refused) = fault.Memory refused

-- The refusal that a fault stands for, None where memory is wanting.
abbrev pub fault_of : MnfsFault → Option SourceFault
fault_of (fault.Line line reason) = Some (SourceFault.Line line reason)
fault_of (fault.StringLong id) = Some (SourceFault.Write (formats.WriteFault.StringLong id))
fault_of (fault.Rule reason) = Some (SourceFault.Write (formats.WriteFault.Rule reason))
fault_of fault.TooLong = Some (SourceFault.Write formats.WriteFault.TooLong)
fault_of (fault.Memory refused) = None

-- By cases on the answer: it is the same, as the code has it. After want of memory nothing is said.
abbrev pub Compiles : Result (List ℕ) MnfsFault → Result (List ℕ) SourceFault → Type 0
Compiles (Ok bytes) answer = answer ≡ Ok bytes
Compiles (Err why) answer = IfSome (fault_of why) (λ refusal. answer ≡ Err refusal)

-- The bytes are the plain manifest of a spec of which the text is a source, and which
-- can be written.
pub record IsMade (text bytes : List ℕ) : Type 0 where
  pub spec : formats.ManifestSpec
  pub source : IsSource text spec
  pub writes : write_answer spec ≡ Ok bytes
  pub plain_is : bytes ≡ plain spec

-- these bytes were answered, or memory was wanting
abbrev pub OkOrMemory : List ℕ → Result (List ℕ) MnfsFault → Type 0
OkOrMemory bytes (Ok made) = made ≡ bytes
OkOrMemory bytes (Err why) = fault_of why ≡ None

-- By cases on the answer: the text is a source of the spec, or this is its first refusal. After
-- want of memory nothing is said.
abbrev pub Reads : List ℕ → Result ManifestSpec MnfsFault → Type 0
Reads text (Ok spec) = IsSource text (spec_of spec)
Reads text (Err why) = IfSome (fault_of why) (λ refusal. compile_answer text ≡ Err refusal)
