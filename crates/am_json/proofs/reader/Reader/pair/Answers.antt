use Rattle.std.proofs.Common.{◌≡◌, length, arith}
use Rattle.std.proofs.lemmas.Bool.{ltb-true, ltb-false}
use Rattle.serde_json.specs.Find.{as_array}
use Rattle.serde_json.specs.View.{view}
use Rattle.am_json.proofs.Members.{two_items}
use Rattle.am_json.proofs.reader.Reader.pair.Goals as goal
use Rattle.am_json.proofs.reader.Reader.pair.Goals.{in_default-via-then-branch-lt2, in_default-via-else-branch-lt2+else-this-lt3}

-- an array of another length
pub returns-in_default-clause-no_pair : goal.returns-in_default-clause-no_pair
returns-in_default-clause-no_pair c first second is =
    let values = c.in_ok-array.field-0.now in
    let len : length values ≡ 2 = two_items values (as_array (view c.args.self.now.value)) first second c.in_ok-array.ensures.items is in
    elim c.in_default.branch [
      | in_default-via-then-branch-lt2 w ↦ absurd (first_of (omega (arith, ltb-true, ltb-false), grind (arith, ltb-true, ltb-false)))
      | in_default-via-else-branch-lt2+else-this-lt3 w ↦ absurd (first_of (omega (arith, ltb-true, ltb-false), grind (arith, ltb-true, ltb-false)))
    ]
