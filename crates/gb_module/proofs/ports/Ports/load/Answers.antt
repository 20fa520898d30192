-- The CPort with the number begins a download, and no other changes.
use Rattle.std.proofs.Common.{ap, sym, ◌∙◌, false, option_map}
use Rattle.gb_formats.specs.Loader.{is_running, loader_begun}
use Rattle.gb_module.proofs.Loading.{changes-at, loader-found, nowhere}
use Rattle.gb_module.proofs.Standing.{found-at, none-stands}
use Rattle.gb_module.proofs.Stepping.{number_of}
use Rattle.gb_module.proofs.ports.Ports.load.Goals as goal

pub unreachable-requires : goal.unreachable-requires
unreachable-requires c =
    nowhere false
    (none-stands c.args.number c.args.self.now c.place.ensures.first c.in_default.is)
    c.requires

pub load-requires : goal.load-requires
load-requires c =
    let found = found-at c.place.ensures.first c.in-Some.is c.self.view_is
    c.index_mut-port.ensures.value in
    ap (option_map is_running) (sym (loader-found found)) ∙ c.requires

pub invariant_of-self : goal.invariant_of-self
invariant_of-self c =
    let found = found-at c.place.ensures.first c.in-Some.is c.self.view_is
    c.index_mut-port.ensures.value in
    found.stay c.self.inside.counted c.self.inside.places c.self.invariant c.load.new.self
    (ap number_of c.load.ensures.port)

pub returns-clause-module : goal.returns-clause-module
returns-clause-module c manifest =
    let found = found-at c.place.ensures.first c.in-Some.is c.self.view_is
    c.index_mut-port.ensures.value in
    changes-at c.load.new.self (loader_begun c.args.tag.now) manifest found c.load.ensures.port
