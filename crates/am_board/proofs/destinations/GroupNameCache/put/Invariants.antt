use Rattle.std.proofs.Common.{suc, ◌-◌, ◌<◌, List, length}
use Rattle.am_alerts.specs.AlertData.{AlertData}
use Rattle.am_model.specs.declared.config.Config.{Config}
use Rattle.am_board.specs.GroupNameCache.{AreKept}
use Rattle.am_board.proofs.destinations.GroupNameCache.put.Given as goal

-- the names stay, and there is capacity for those of the index
abbrev pub invariant-loop-self : goal.invariant-loop-self
invariant-loop-self l = (config : Config) (known : List AlertData) → AreKept config known l.fn.self → l.index < length known → AreKept config known l.self-inside.names.items

-- the indexes that are left
abbrev pub decreases-loop-self : goal.decreases-loop-self
decreases-loop-self l = suc l.index - length l.self-inside.names.items
