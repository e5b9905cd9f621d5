use Rattle.std.proofs.Common.{take}
use Rattle.serde_json.specs.View.{items_view}
use Rattle.am_config.specs.Collects.{Adds, Collects}
use Rattle.am_config.specs.Matchers.{AreInTexts}
use Rattle.am_config.proofs.matchers.read_texts.Given as goal

-- the matchers so far are those of the texts so far
abbrev pub invariant-loop-index : goal.invariant-loop-index
invariant-loop-index l =
    Collects l.fn.faults l.faults (Adds l.fn.matchers.items l.matchers.items (AreInTexts (items_view (take l.index l.items))))
