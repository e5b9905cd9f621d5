use Rattle.std.proofs.Common.{◌∙◌, List, ap}
use Rattle.std.specs.Prelude.{is_some}
use Rattle.am_model.specs.declared.config.Receiver.{Receiver}
use Rattle.am_model.specs.Receivers.{has_receiver}
use Rattle.am_model.proofs.configuration.Receivers.{has-place}
use Rattle.am_model.proofs.config.receivers.Receivers.has.Goals as goal

pub returns : goal.returns
returns c =
    let name = c.args.name.now in
    c.contains_key.ensures ∙ ap is_some (c.self.invariant.0 name) ∙ has-place 0 c.self.inside.list.items name
    ∙ ap (λ (rs : List Receiver). has_receiver rs name) c.self.view_is
