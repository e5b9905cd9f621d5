use Rattle.std.proofs.Common.{ap}
use Rattle.am_config.proofs.Timed.{moved_later}
use Rattle.am_config.specs.declared.hours.Hours.{Hours}
use Rattle.am_config.proofs.clocks.Clocks.in_time.Goals as goal

pub returns : goal.returns
returns c =
    moved_later c.later.result c.args.self.now.from c.self.inside.hours.now.from c.args.spans c.as_slice-2.result.now c.later.ensures
    (ap (λ (h : Hours). h.from) c.self.view_is) c.as_slice-2.ensures.all
