use Rattle.std.proofs.Common.{◌≡◌, ◌++◌, List, string_bytes}
use Rattle.std.specs.List.{list_all}
use Rattle.std.specs.Prelude.{IsTrue}
use Rattle.serde_json.proofs.Views.{Entry}
use Rattle.am_json.specs.Read.{is_one_of}
use Rattle.am_config.specs.Collects.{Collects}
use Rattle.am_config.proofs.collected.only.Given as goal

-- the members so far have known names
abbrev pub invariant-loop-name : goal.invariant-loop-name
invariant-loop-name l =
    (done : List Entry) × (l.object.members ≡ done ++ l.name-iterator)
    × Collects l.fn.faults l.faults (IsTrue (list_all (λ (e : Entry). is_one_of l.names (string_bytes e.0)) done))
