use Rattle.std.proofs.Common.{◌≤◌, length, vec_len, arith}
use Rattle.std.proofs.lemmas.Result.{IfOk-weaker}
use Rattle.serde_json.specs.Find.{as_array}
use Rattle.serde_json.specs.View.{view}
use Rattle.am_json.proofs.Members.{counted, decoded_values}
use Rattle.am_json.proofs.reader.Reader.list_up_to.Goals as goal

-- a list that says more than so many
pub returns-then-branch-most-clause-refused : goal.returns-then-branch-most-clause-refused
returns-then-branch-most-clause-refused g c = λ refusal xs decoded.
    let decodes_to = g.T.FromJson.decodes_to c.args.self.now.mode in
    let count = decoded_values decodes_to (as_array (view c.args.self.now.value)) c.in_ok-array.field-0.now xs c.in_ok-array.ensures.items decoded.0 in
    absurd (omega (arith, count, decoded.2))

pub returns-clause-bound : goal.returns-clause-bound
returns-clause-bound g c =
    let few : length c.in_ok-array.field-0.now ≤ c.args.most = omega arith in
    IfOk-weaker c.list.result _ _
    (λ items count. omega (arith, few, counted (as_array (view c.args.self.now.value)) c.in_ok-array.field-0.now (vec_len items) c.in_ok-array.ensures.items count))
    c.list.ensures.count

-- few items are not too many
pub returns-clause-too_many : goal.returns-clause-too_many
returns-clause-too_many g c count has more =
    let few : length c.in_ok-array.field-0.now ≤ c.args.most = omega arith in
    absurd (omega (arith, few, more, counted (as_array (view c.args.self.now.value)) c.in_ok-array.field-0.now count c.in_ok-array.ensures.items has))
