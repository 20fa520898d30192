-- A handle goes to another thread as the session that it owns does.
use mir.Raw.{raw}
use base.Shift.{Keyless}
use denote.Memory.{lone}
use denote.RawPtr.{Ptr}
use denote.Struct.Struct.{exits_of}
use denote.Struct.Owning.{shape, fields, to}
use denote.Param.Send.{IsSend, AllSend, owning_send, struct_send, sendable}
use Rattle.std.proofs.Crossing as heap
use Rattle.std.specs.Prelude.{Option, Some, None}
use Rattle.std_alloc.proofs.SendSync.{quiet, lies}
use Rattle.std_heap.specs.declared.Global.{Global}
use Rattle.std_heap.proofs.Global.TheSendSync as handle
use Rattle.gb_session.specs.contracts.session.Session as Session
use Rattle.gb_session.proofs.session.Session.TheSendSync.{the_send as session}
use Rattle.gbus_c.specs.Handles.{handle_owns}
use Rattle.gbus_c.specs.contracts.handle.Handle.{the_row, the_type}

crosses : (a : Global) (p : Ptr) (s : Option Session.the_row.Denot) → Keyless (handle_owns a p s)
crosses a p None = tt
crosses a p (Some x) = (
  lies Session.the_row session p x,
  heap.frees.frees a (raw (lone Session.the_row.mir)) p,
)

pub send : IsSend the_row
send =
    let all : AllSend (fields the_type) = (search sendable, (handle.the_field_send, tt)) in
    owning_send the_type all (λ d. crosses d.alloc d.at d.session)
    (λ k. quiet (to the_type) (exits_of k (fields the_type))
    ((struct_send (shape the_type) all).leaving k))
