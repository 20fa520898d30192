-- The download of the CPort with the number fails, and no other CPort changes.
use Rattle.std.proofs.Common.{ap, sym, ◌∙◌, option_map, true}
use Rattle.gb_formats.specs.Loader.{is_running, loader_failed}
use Rattle.gb_formats.specs.ModuleLoads.{running_tag}
use Rattle.gb_module.proofs.Loading.{changes-at, loader-found, nowhere}
use Rattle.gb_module.proofs.Standing.{found-at, none-stands}
use Rattle.gb_module.proofs.Stepping.{number_of}
use Rattle.gb_module.proofs.ports.Ports.fail.Goals as goal

pub unreachable-requires : goal.unreachable-requires
unreachable-requires c =
    nowhere true
    (none-stands c.args.number c.args.self.now c.place.ensures.first c.in_default.is)
    c.requires

pub fail-requires : goal.fail-requires
fail-requires c =
    let found = found-at c.place.ensures.first c.in-Some.is c.self.view_is
    c.index_mut-port.ensures.value in
    ap (option_map is_running) (sym (loader-found found)) ∙ c.requires

pub invariant_of-self : goal.invariant_of-self
invariant_of-self c =
    let found = found-at c.place.ensures.first c.in-Some.is c.self.view_is
    c.index_mut-port.ensures.value in
    found.stay c.self.inside.counted c.self.inside.places c.self.invariant c.fail.new.self
    (ap number_of c.fail.ensures.port)

pub returns-clause-tag : goal.returns-clause-tag
returns-clause-tag c =
    let found = found-at c.place.ensures.first c.in-Some.is c.self.view_is
    c.index_mut-port.ensures.value in
    c.fail.ensures.tag ∙ ap running_tag (sym (loader-found found))

pub returns-clause-module : goal.returns-clause-module
returns-clause-module c manifest =
    let found = found-at c.place.ensures.first c.in-Some.is c.self.view_is
    c.index_mut-port.ensures.value in
    changes-at c.fail.new.self loader_failed manifest found c.fail.ensures.port
