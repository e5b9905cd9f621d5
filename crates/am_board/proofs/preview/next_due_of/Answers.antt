use Rattle.std.proofs.Common.{◌∙◌, Some, map, sym, ap}
use Rattle.std.specs.Option.{option_map}
use Rattle.am_model.specs.State.{GroupState}
use Rattle.am_board.specs.Refinement.{flush_state}
use Rattle.am_board.specs.declared.group.Group.{Group}
use Rattle.am_board.proofs.preview.next_due_of.Goals as goal

pub returns-in-None : goal.returns-in-None
returns-in-None c =
    sym (ap (option_map (λ (g : GroupState). g.due)) (c.in-None.ensures.first (map flush_state c.args.state.now.flushes.items) c.requires))

pub returns-in-Some : goal.returns-in-Some
returns-in-Some c =
    ap (λ (g : Group). Some g.due) c.at.ensures
    ∙ sym (ap (option_map (λ (g : GroupState). g.due)) (c.in-Some.ensures.first (map flush_state c.args.state.now.flushes.items) c.requires c.at.result.now))
