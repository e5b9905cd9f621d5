use Rattle.std.proofs.Common.{◌<◌, ◌+◌, length, take, sym, ap, ◌∙◌, subst, arith}
use Rattle.std.specs.Option.{option_copied}
use Rattle.am_board.specs.Look.{state_seen}
use Rattle.am_board.specs.Walk.{AreSeen}
use Rattle.am_board.proofs.lemmas.begin.Walks.{found_same, found_more}
use Rattle.am_board.proofs.walk.walk_indexes.Goals as goal
use Rattle.am_board.proofs.walk.walk_indexes.Goals.{in-Some+in_ok-visit, in_default}

pub loop-index-preserved : goal.loop-index-preserved
loop-index-preserved c =
    let look = c.args.look.now in
    let rules = look.config.now.rules in
    let s = state_seen look in
    let ms = c.args.members.now in
    let ps = c.args.indexes.now in
    let i = c.loop-index.index-index in
    let within : i < length ps = omega arith in
    elim c.match-member_at.branch [
      | in-Some+in_ok-visit w ↦
          subst (AreSeen look ms (take (i + 1) ps)) (sym w.walk-is)
          (found_more rules s look.t ms ps i within look.why c.loop-index.walk c.loop-index.invariant w.in-Some.member.now
          (sym c.member_at.ensures ∙ ap option_copied w.in-Some.is)
          w.visit.new.self w.in_ok-visit.ensures.firing w.in_ok-visit.ensures.resolved w.in_ok-visit.ensures.muted)
      | in_default w ↦
          subst (AreSeen look ms (take (i + 1) ps)) (sym w.walk-is)
          (found_same rules s look.t ms ps i within look.why c.loop-index.walk c.loop-index.invariant (sym c.member_at.ensures ∙ ap option_copied w.in_default.is))
    ]
