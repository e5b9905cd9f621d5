use Rattle.std.proofs.Common.{◌≡◌, ◌∙◌, ◌∷◌, ◌++◌, [], List, None, Option, ap, subst}
use Rattle.std.specs.Option.{option_copied}
use Rattle.am_board.specs.History.{BoardData}
use Rattle.am_simulation.specs.Playing.{PlaysPart, last_board}
use Rattle.am_simulation.specs.declared.playing.PlayedPart.{PlayedPart}
use Rattle.am_simulation.proofs.playing.play_next.Goals as goal

pub returns-clause-added : goal.returns-clause-added
returns-clause-added g c =
    let next : PlayedPart = c.in_ok-next.next in
    let before : option_copied c.last_board-before.result ≡ last_board None c.args.played.now.items = c.last_board-before.ensures ∙ ap (last_board None) (c.as_slice.ensures.value ∙ c.in_ok-reserve.ensures.items) in (
      next,
      c.push_reserved.ensures.items ∙ ap (λ (qs : List PlayedPart). qs ++ next ∷ []) c.in_ok-reserve.ensures.items,
      subst (λ (b : Option BoardData). PlaysPart c.args.conditions.now.upkeep c.args.conditions.now.outages.now b c.args.part next) before c.in_ok-next.ensures.played,
    )
