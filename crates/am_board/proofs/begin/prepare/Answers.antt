use Rattle.std.proofs.Common.{ap, ◌∙◌}
use Rattle.am_mute.specs.Silences.{SilenceList}
use Rattle.am_board.specs.GroupList.{GroupList}
use Rattle.am_board.proofs.begin.prepare.Goals as goal

pub returns : goal.returns
returns c =
    let s = c.args.state.now in
    ap (λ (gs : GroupList). record s { groups = gs; silences = c.prepare.new.silences }) c.prepare.ensures.groups
    ∙ ap (λ (ss : SilenceList). record s { silences = ss }) c.prepare.ensures.silences
