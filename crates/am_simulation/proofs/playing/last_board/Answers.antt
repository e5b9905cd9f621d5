use Rattle.std.proofs.Common.{◌≡◌, ◌∙◌, ◌-◌, length, None, Some, ap, sym}
use Rattle.std.specs.Prelude.{slice_get}
use Rattle.std.specs.Option.{option_copied}
use Rattle.am_simulation.proofs.Parting.{board_of_last}
use Rattle.am_simulation.specs.declared.play.Played.{Played}
use Rattle.am_simulation.proofs.playing.last_board.Goals as goal

pub returns-in-Some : goal.returns-in-Some
returns-in-Some c =
    let played = c.args.played.now in
    let is : slice_get played (length played - 1) ≡ Some c.in-Some.last.now = sym c.last.ensures.value ∙ ap option_copied c.in-Some.is in
    ap (λ (p : Played). Some p.board) c.deref.ensures ∙ sym (board_of_last None played c.in-Some.last.now is)
