use Rattle.std.proofs.Common.{◌≡◌, length, arith}
use Rattle.std.proofs.lemmas.Bool.{ltb-true, ltb-false}
use Rattle.serde_json.specs.Data.{string}
use Rattle.serde_json.specs.Find.{as_array}
use Rattle.serde_json.specs.View.{view}
use Rattle.am_json.proofs.Members.{three_items}
use Rattle.am_json.proofs.reader.Reader.three_texts.Goals as goal
use Rattle.am_json.proofs.reader.Reader.three_texts.Goals.{in_default-via-then-branch-lt3, in_default-via-else-branch-lt3+else-this-lt4}

-- an array of another length
pub returns-in_default-clause-no_texts : goal.returns-in_default-clause-no_texts
returns-in_default-clause-no_texts c first second third is =
    let values = c.in_ok-array.field-0.now in
    let len : length values ≡ 3 = three_items values (as_array (view c.args.self.now.value)) (string first) (string second) (string third) c.in_ok-array.ensures.items is in
    elim c.in_default.branch [
      | in_default-via-then-branch-lt3 w ↦ absurd (first_of (omega (arith, ltb-true, ltb-false), grind (arith, ltb-true, ltb-false)))
      | in_default-via-else-branch-lt3+else-this-lt4 w ↦ absurd (first_of (omega (arith, ltb-true, ltb-false), grind (arith, ltb-true, ltb-false)))
    ]
