-- What an answer of the application processor stands for.
use Rattle.std.specs.Prelude.{◌≡◌, ◌≤◌, ⊤, Option, Some, None, Result, Ok, Err, length}
use Rattle.gb_base.specs.Bytes.{AreFew}
use Rattle.gb_base.specs.Copies.{IsSmallEntry}
use Rattle.gb_base.specs.declared.entry.Entry.{Entry}
use Rattle.gb_base.specs.declared.errors.OutOfMemory.{OutOfMemory}
use Rattle.gb_host.specs.Stands.{IsUnchanged, host_of}
use Rattle.gb_host.specs.declared.served.HostServed.{HostServed}
use Rattle.gb_host.specs.declared.host.Host.{Host}
use Rattle.gb_machine.specs.Host as host
use Rattle.gb_machine.specs.HostServing as machine
use Rattle.gb_machine.specs.Serving.{answer}

-- what the machine's application processor answers, and how it is then
abbrev pub served_of : HostServed → Host → machine.HostServed
served_of s x = record {
  host = host_of x;
  answer = answer s.result s.payload;
  told = s.tell;
  notices = s.then;
}

-- A request is served as the machine's application processor serves it. After want of memory
-- nothing has changed.
abbrev pub ServesAs : machine.HostServed → Host → Host → Result HostServed OutOfMemory → Type 0
ServesAs served old new (Ok s) = served ≡ served_of s new
ServesAs served old new (Err refused) = IsUnchanged old new

-- What is told, if anything, takes no memory.
abbrev pub IsSmallTold : Option Entry → Type 0
IsSmallTold None = ⊤
IsSmallTold (Some told) = IsSmallEntry told

-- What is served takes no memory: the answer and what is told have few bytes, and no image is lent.
pub record IsSmallServed (served : machine.HostServed) (h : host.Host) : Type 0 where
  pub told : IsSmallTold served.told
  pub answer : AreFew served.answer.payload
  pub loans : length served.host.images.loans ≤ length h.images.loans
