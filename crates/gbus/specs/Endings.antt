-- How a run ends.
use Rattle.std.specs.Prelude.{⊤, Result, Ok, Err}
use Rattle.gb_base.specs.declared.errors.OutOfMemory.{OutOfMemory}
use Rattle.gb_base.specs.declared.status.Status.{Status}
use Rattle.gb_base.specs.declared.status.Status.TheVariants as status

-- the status of a run
abbrev pub status_of : Result Status OutOfMemory → Status
status_of (Ok s) = s
status_of (Err refused) = status.NoMemory

-- Status 6 comes of what was refused, and of nothing else.
abbrev pub HasCause : Result Status OutOfMemory → Type 0
HasCause (Ok status.NoMemory) = ⊥
HasCause (Ok status.Success) = ⊤
HasCause (Ok status.Usage) = ⊤
HasCause (Ok status.Refused) = ⊤
HasCause (Ok status.TooLong) = ⊤
HasCause (Ok status.ReadFault) = ⊤
HasCause (Ok status.WriteFault) = ⊤
HasCause (Err refused) = ⊤
