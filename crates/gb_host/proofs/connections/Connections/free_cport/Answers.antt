-- The counts are those of the connections.
use Rattle.std.proofs.Common.{◌==◌, ap, ◌∙◌}
use Rattle.std.specs.List.{list_any}
use Rattle.gb_base.specs.declared.interface.Link.{Link}
use Rattle.gb_host.specs.LinkList.{LinkList}
use Rattle.gb_machine.specs.Lists.{first_free}
use Rattle.gb_host.proofs.connections.Connections.free_cport.Goals as goal

pub returns : goal.returns
returns c =
    c.free.ensures c.self.inside.links.items c.self.invariant.counted
    ∙ ap (λ (x : LinkList). first_free (λ a. list_any (λ (l : Link). l.ap == a) x.items) 4095 1)
    c.self.view_is
