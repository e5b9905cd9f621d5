use Rattle.std.proofs.Common.{◌∙◌, ap, arith}
use Rattle.am_board.specs.History.{BoardData}
use Rattle.am_model.specs.Views.{SummaryData}
use Rattle.am_board.proofs.lemmas.invariant.Calls.{handed_counted, summary_then}
use Rattle.am_board.proofs.lemmas.invariant.Sound.{all_counted, few_alerts, few_calls, few_inserts, opened_now}
use Rattle.am_board.proofs.board.Board.summary.Goals as goal

pub summary_of-requires : goal.summary_of-requires
summary_of-requires c =
    record {
      calls = omega (arith, all_counted c.self.inside c.self.invariant, few_calls c.self.inside c.self.invariant);
      alerts = few_alerts c.self.inside c.self.invariant;
      inserts = few_inserts c.self.inside c.self.invariant;
    }

pub returns-clause-summary : goal.returns-clause-summary
returns-clause-summary c = c.summary_of.ensures ∙ summary_then c.self.inside c.self.invariant c.args.self.now c.self.view_is

pub returns-clause-within : goal.returns-clause-within
returns-clause-within c =
    let sound = c.self.invariant in
    let is = c.summary_of.ensures in
    let handed = handed_counted c.self.inside sound c.args.self.now c.self.view_is in
    let most = ap (λ (b : BoardData). b.config.limits.history) c.self.view_is in
    let most_groups = ap (λ (b : BoardData). b.config.limits.groups) c.self.view_is in
    let most_open = ap (λ (b : BoardData). b.config.limits.flushes) c.self.view_is in (
      omega (arith, ap (λ (s : SummaryData). s.calls) is, handed, sound.kept, most),
      omega (arith, ap (λ (s : SummaryData). s.groups) is, sound.groups, most_groups),
      omega (arith, ap (λ (s : SummaryData). s.flushes) is, opened_now c.self.inside.state, sound.opened, most_open),
    )
