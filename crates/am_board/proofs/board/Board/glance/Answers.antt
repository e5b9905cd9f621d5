use Rattle.std.proofs.Common.{◌∙◌, ap, arith}
use Rattle.am_board.specs.History.{BoardData}
use Rattle.am_model.specs.Views.{SummaryData}
use Rattle.am_model.specs.declared.views.Glance.{Glance}
use Rattle.am_board.proofs.lemmas.invariant.Calls.{handed_counted, summary_then}
use Rattle.am_board.proofs.lemmas.invariant.Sound.{all_counted, few_calls, opened_now}
use Rattle.am_board.proofs.board.Board.glance.Goals as goal

pub glance_of-requires : goal.glance_of-requires
glance_of-requires c = omega (arith, all_counted c.self.inside c.self.invariant, few_calls c.self.inside c.self.invariant)

pub returns-clause-glance : goal.returns-clause-glance
returns-clause-glance c =
    c.glance_of.ensures
    ∙ ap (λ (s : SummaryData). record { calls = s.calls; groups = s.groups; flushes = s.flushes }) (summary_then c.self.inside c.self.invariant c.args.self.now c.self.view_is)

pub returns-clause-within : goal.returns-clause-within
returns-clause-within c =
    let sound = c.self.invariant in
    let is = c.glance_of.ensures in
    let handed = handed_counted c.self.inside sound c.args.self.now c.self.view_is in
    let most = ap (λ (b : BoardData). b.config.limits.history) c.self.view_is in
    let most_groups = ap (λ (b : BoardData). b.config.limits.groups) c.self.view_is in
    let most_open = ap (λ (b : BoardData). b.config.limits.flushes) c.self.view_is in (
      omega (arith, ap (λ (g : Glance). g.calls) is, handed, sound.kept, most),
      omega (arith, ap (λ (g : Glance). g.groups) is, sound.groups, most_groups),
      omega (arith, ap (λ (g : Glance). g.flushes) is, opened_now c.self.inside.state, sound.opened, most_open),
    )

pub returns-clause-bounds : goal.returns-clause-bounds
returns-clause-bounds c =
    let sound = c.self.invariant in
    let handed = handed_counted c.self.inside sound c.args.self.now c.self.view_is in
    let is = c.glance_of.ensures in (
      omega (arith, ap (λ (g : Glance). g.calls) is, handed, sound.kept, sound.limits.history.1),
      omega (arith, ap (λ (g : Glance). g.groups) is, sound.groups, sound.limits.groups.1),
      omega (arith, ap (λ (g : Glance). g.flushes) is, opened_now c.self.inside.state, sound.opened, sound.limits.flushes.1),
    )
