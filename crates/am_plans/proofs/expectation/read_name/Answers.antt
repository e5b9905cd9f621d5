use Rattle.std.proofs.Common.{◌≡◌, ℕ, List, Option, Some}
use Rattle.serde_json.specs.Find.{as_str, get_member}
use Rattle.serde_json.specs.View.{members_view, view}
use Rattle.am_json.proofs.Decoding.{handed_on, starved}
use Rattle.am_plans.proofs.Decodings.{if_there, none_read}
use Rattle.am_plans.specs.Expected.{member_if}
use Rattle.am_plans.proofs.expectation.read_name.Goals as goal

pub returns-in_err-text-in-Some-clause-refused : goal.returns-in_err-text-in-Some-clause-refused
returns-in_err-text-in-Some-clause-refused c =
    let found = get_member c.args.member.now (members_view c.args.item.now.members) in
    handed_on (λ (name : Option (List ℕ)). member_if as_str found ≡ Some name) c.from_residual.result c.in_err-text-in-Some.field-0.0 c.from_residual.ensures.1
    (λ refusal name decoded. none_read _ _ (if_there as_str (view c.in-Some.member.value) found c.in-Some.ensures.value c.in_err-text-in-Some.ensures.text) decoded)

pub returns-in_err-new-in-Some-clause-refused : goal.returns-in_err-new-in-Some-clause-refused
returns-in_err-new-in-Some-clause-refused c =
    let found = get_member c.args.member.now (members_view c.args.item.now.members) in
    starved (λ (name : Option (List ℕ)). member_if as_str found ≡ Some name) c.from_residual-in_err-new-in-Some.result c.from_residual-in_err-new-in-Some.ensures.1
