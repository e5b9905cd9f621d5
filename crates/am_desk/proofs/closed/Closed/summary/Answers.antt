use Rattle.std.proofs.Common.{List, length, ap, arith}
use Rattle.am_board.specs.History.{BoardData}
use Rattle.am_model.specs.declared.record.Record.{Record}
use Rattle.am_desk.proofs.closed.Closed.summary.Goals as goal

pub returns-clause-within : goal.returns-clause-within
returns-clause-within c =
    let none = ap (λ (h : List Record). length h) c.self.invariant.0 in
    let within = c.summary.ensures.within in
    let most = ap (λ (b : BoardData). b.config.limits.history) c.self.view_is in
    let most_groups = ap (λ (b : BoardData). b.config.limits.groups) c.self.view_is in
    let most_open = ap (λ (b : BoardData). b.config.limits.flushes) c.self.view_is in
    (omega (arith, within.0, none, most), omega (arith, within.1, most_groups), omega (arith, within.2, most_open))
