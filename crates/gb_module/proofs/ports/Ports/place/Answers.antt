-- A place is one of as many as there are CPorts.
use Rattle.std.proofs.Common.{◌≡◌, ◌-◌, Some, rules}
use Rattle.std.specs.List.{position_from}
use Rattle.gb_formats.specs.Module.{is_port}
use Rattle.gb_module.proofs.Standing.{place-within}
use Rattle.gb_module.proofs.ports.Ports.place.Goals as goal

pub returns-then-count-self-clause-within : goal.returns-then-count-self-clause-within
returns-then-count-self-clause-within c =
    let first : Some (c.from-count.result - 1)
    ≡ position_from (is_port c.args.number) 0 c.args.self.now = search rules in
    place-within c.args.number c.args.self.now _ first

pub returns-clause-within : goal.returns-clause-within
returns-clause-within c =
    let first : c.copied.result ≡ position_from (is_port c.args.number) 0 c.args.self.now =
    search rules in place-within c.args.number c.args.self.now c.copied.result first
