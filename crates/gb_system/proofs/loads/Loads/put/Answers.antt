-- The requests that stay are those of other CPorts.
use Rattle.std.proofs.Common.{rules, ◌∷◌, ◌++◌, [], not, ap, ◌∙◌}
use Rattle.std.proofs.lemmas.Fn.{filter_same}
use Rattle.gb_machine.specs.Lists.{without}
use Rattle.gb_machine.specs.Loading.{is_load_at}
use Rattle.gb_machine.specs.State.{Load}
use Rattle.gb_system.proofs.loads.Loads.put.Goals as goal

pub returns : goal.returns
returns c =
    let one : Load = record {
      intf = c.args.intf;
      cport = c.args.cport;
      request = c.args.request;
    } in
    c.in_ok-push.ensures.items
    ∙ ap (λ ls. ls ++ one ∷ [])
    (filter_same _ (λ (l : Load). not (is_load_at c.args.intf c.args.cport l)) _
    (λ x b f' k. search rules) _ _ c.retain.ensures.filtered
    ∙ ap (without (is_load_at c.args.intf c.args.cport)) c.self.view_is)
