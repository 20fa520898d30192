-- What the program tells of how it ended.
use Rattle.std.specs.Prelude.{ℕ, Option, Some, None, List, codes}
use Rattle.gb_base.specs.declared.status.Status.{Status}
use Rattle.gb_base.specs.declared.status.Status.TheVariants as status

-- the line on the standard error
abbrev pub complaint_text : Status → Option (List ℕ)
complaint_text status.Success = None
complaint_text status.Refused = None
complaint_text status.Usage = Some (codes "usage")
complaint_text status.TooLong = Some (codes "input too long")
complaint_text status.ReadFault = Some (codes "read failed")
complaint_text status.WriteFault = Some (codes "write failed")
complaint_text status.NoMemory = Some (codes "out of memory")

-- the number with which the process ends
abbrev pub exit_number : Status → ℕ
exit_number status.Success = 0
exit_number status.Refused = 1
exit_number status.Usage = 2
exit_number status.TooLong = 3
exit_number status.ReadFault = 4
exit_number status.WriteFault = 5
exit_number status.NoMemory = 6
