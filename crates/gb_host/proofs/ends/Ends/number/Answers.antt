-- The number is that of the one connection at the far end.
use Rattle.std.proofs.Common.{nat_eq, ap, ◌∙◌}
use Rattle.std.specs.HashMap.{get}
use Rattle.std.specs.Option.{option_to_list}
use Rattle.gb_host.proofs.Numbers.{one-number}
use Rattle.gb_machine.specs.Host.{is_link}
use Rattle.gb_host.proofs.ends.Ends.number.Goals as goal

pub returns : goal.returns
returns c = λ ls named.
    one-number c.copied.result (is_link c.args.intf c.args.cport) ls
    (ap option_to_list (c.copied.ensures ∙ c.get.ensures.value
    ∙ ap (get nat_eq c.args.self.now.numbers) c.far_end.ensures.number)
    ∙ named c.args.intf c.args.cport c.far_end.ensures.fits)
