-- What the handle of a session owns.
use Rattle.std.specs.Prelude.{Option, Some, None}
use Rattle.std.specs.Box.Ownership.{box_owns}
use Rattle.std.specs.Coded.{coded_option}
use Rattle.std.specs.declared.alloc.Global.{Global}
use Rattle.std.specs.contracts.impls.GlobalAllocator.TheImpl.{ghosts}
use Rattle.gb_session.specs.contracts.session.Session.{the_row}
use base.Fml.{Fml, feq}
use base.Stored.{Coded}
use denote.RawPtr.{Ptr, null_ptr}

-- a session owns the box of it at the pointer; without one the pointer is null
abbrev pub handle_owns : Global → Ptr → Option the_row.Denot → Fml
handle_owns alloc at None = feq Ptr at null_ptr
handle_owns alloc at (Some x) = box_owns (ghosts.dealloc_token alloc) the_row at x

abbrev pub held_coded : Coded (Option the_row.Denot)
held_coded = coded_option the_row.coded
