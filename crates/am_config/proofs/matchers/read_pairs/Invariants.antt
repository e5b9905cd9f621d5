use Rattle.std.proofs.Common.{◌≡◌, ◌++◌, List}
use Rattle.serde_json.proofs.Views.{Entry}
use Rattle.serde_json.specs.View.{members_view}
use Rattle.am_config.specs.Collects.{Adds, Collects}
use Rattle.am_config.specs.Matchers.{ArePairs}
use Rattle.am_config.proofs.matchers.read_pairs.Given as goal

-- the matchers so far are those of the members so far
abbrev pub invariant-loop-label : goal.invariant-loop-label
invariant-loop-label l =
    (done : List Entry) × (l.pairs.members ≡ done ++ l.label-iterator)
    × Collects l.fn.faults l.faults (Adds l.fn.matchers.items l.matchers.items (ArePairs l.op (members_view done)))
