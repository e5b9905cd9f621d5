use Rattle.std.proofs.Common.{◌≡◌, List, ◌++◌}
use Rattle.serde_json.proofs.Views.{Entry}
use Rattle.serde_json.specs.View.{members_view}
use Rattle.am_json.specs.Configured.{text_members}
use Rattle.am_json.proofs.reader.Object.texts.Given as goal

-- the members so far are those of the texts so far
abbrev pub invariant-loop-name : goal.invariant-loop-name
invariant-loop-name l =
    (done : List Entry) × (l.self.members ≡ done ++ l.name-iterator) × (members_view done ≡ text_members l.texts.items)
