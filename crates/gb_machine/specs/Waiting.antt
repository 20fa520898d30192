-- The queues that aren't empty, in the order in which they are settled.
use Rattle.std.specs.Prelude.{ℕ, ◌==◌, nat_lt, Bool, true, false, ◌&&◌, ◌||◌, if◌then◌else◌, Option}
use Rattle.std.specs.Prelude.{option_map, List, [], ◌∷◌, ◌++◌, length}
use Rattle.gb_base.specs.declared.end.End.{End}
use Rattle.gb_base.specs.declared.end.End.TheVariants as end
use Rattle.gb_machine.specs.Bus.{Bus, Connection, Item}
use Rattle.gb_machine.specs.Lists.{first, sorted}

-- an end, and how many items wait there
pub record Queue : Type 0 where
  pub at : End
  pub count : ℕ

-- The order: the supervisory controller, then the CPorts of the application processor, then those
-- of modules.
abbrev pub end_before : End → End → Bool
end_before end.Svc end.Svc = false
end_before end.Svc (end.Ap b) = true
end_before end.Svc (end.Module j d) = true
end_before (end.Ap a) end.Svc = false
end_before (end.Ap a) (end.Ap b) = nat_lt a b
end_before (end.Ap a) (end.Module j d) = true
end_before (end.Module i c) end.Svc = false
end_before (end.Module i c) (end.Ap b) = false
end_before (end.Module i c) (end.Module j d) = nat_lt i j || i == j && nat_lt c d

-- the order of queues is that of their ends
abbrev pub queue_before : Queue → Queue → Bool
queue_before q r = end_before q.at r.at

-- a queue, unless it is empty
abbrev pub unless_empty : End → List Item → List Queue
unless_empty at [] = []
unless_empty at (i ∷ is) = record { at = at; count = length (i ∷ is) } ∷ []

-- the queues of a connection that is wired
abbrev pub queues_of : Connection → List Queue
queues_of c =
    if c.wired then unless_empty (end.Ap c.ap) c.to_ap ++ unless_empty c.peer c.to_far else []

-- the queues of connections
abbrev pub queues_in : List Connection → List Queue
queues_in [] = []
queues_in (c ∷ cs) = queues_of c ++ queues_in cs

-- The queues that aren't empty, in their order.
abbrev pub queues : Bus → List Queue
queues b = sorted queue_before (queues_in b.connections)

-- The first end at which something waits.
abbrev pub first_waiting : Bus → Option End
first_waiting b = option_map (λ q. q.at) (first (queues b))
