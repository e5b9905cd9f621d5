use Rattle.std.proofs.Common.{◌≡◌, ◌<◌, ℕ, List, Option, Some, None, String, codes}
use Rattle.std.specs.Prelude.{IfSome, IsSomeAnd}
use Rattle.std.specs.declared.alloc.Global.{Global}
use Rattle.serde_json.specs.Data.{Data, Members}
use Rattle.serde_json.specs.Find.{get_member}
use Rattle.serde_json.specs.View.{members_view, view}
use Rattle.serde_json.specs.declared.value.Value.{Value}
use Rattle.am_json.proofs.Decoding.{found, handed_on}
use Rattle.am_json.specs.Decoding.{HasIf, IsDuration}
use Rattle.am_json.specs.Read.{duration_in}
use Rattle.am_plans.proofs.Decodings.{ends_early, none_if}
use Rattle.am_plans.proofs.span.read_end.Goals as goal

abbrev Decodes : Members → ℕ → Option ℕ → Type 0
Decodes members from to = HasIf IsDuration (codes "to") members to × IfSome to (λ t. from < t)

ends : (members : List (String Global × Value)) (value : Data) (to : Option ℕ) → Some value ≡ get_member (codes "to") (members_view members)
    → HasIf IsDuration (codes "to") (members_view members) to → IsSomeAnd to (IsDuration value)
ends members value to is decoded =
    found (to ≡ None) (λ v. IsSomeAnd to (IsDuration v)) value (get_member (codes "to") (members_view members)) is decoded

pub returns-in_err-to-clause-refused : goal.returns-in_err-to-clause-refused
returns-in_err-to-clause-refused c =
    handed_on (Decodes (members_view c.args.object.now.members) c.args.from) c.from_residual.result c.in_err-to.field-0.0 c.from_residual.ensures.1
    (λ refusal x decoded. none_if duration_in (view c.in-Some.member.value) x c.in_err-to.ensures (ends c.args.object.now.members (view c.in-Some.member.value) x c.in-Some.ensures.value decoded.0))

-- an end that isn't later
pub returns-then-to-from-clause-refused : goal.returns-then-to-from-clause-refused
returns-then-to-from-clause-refused c refusal x decoded =
    ends_early (view c.in-Some.member.value) c.args.from c.in_ok-to.to x c.in_ok-to.ensures c.if-to-from.true
    (ends c.args.object.now.members (view c.in-Some.member.value) x c.in-Some.ensures.value decoded.0) decoded.1
