use Rattle.std.proofs.Common.{◌≡◌, ◌≢◌, Some, None, codes}
use Rattle.serde_json.specs.Data.{Data, Members}
use Rattle.serde_json.specs.Find.{get_member}
use Rattle.serde_json.specs.View.{members_view, view}
use Rattle.am_json.proofs.Decoding.{found}
use Rattle.am_json.specs.Decoding.{HasNone}
use Rattle.am_plans.proofs.Decodings.{failed, fails_less}
use Rattle.am_plans.specs.Expected.{SaysExactly}
use Rattle.am_plans.proofs.expectation.content.check_exactly.Goals as goal

alone : (members : Members) (value : Data) → Some value ≡ get_member (codes "exactly") members → SaysExactly members
    → HasNone (codes "firing") members × HasNone (codes "resolved") members
alone members value is decoded =
    found Unit (λ v. HasNone (codes "firing") members × HasNone (codes "resolved") members) value (get_member (codes "exactly") members) is decoded

pub returns-in_err-refuse_together-clause-refused : goal.returns-in_err-refuse_together-clause-refused
returns-in_err-refuse_together-clause-refused c =
    let members = members_view c.args.item.now.members in
    failed (SaysExactly members → ⊥) c.from_residual.result
    (λ decoded. c.in_err-refuse_together.ensures.there (alone members (view c.in-Some.exactly.value) c.in-Some.ensures.value decoded).0)

pub returns-clause-refused : goal.returns-clause-refused
returns-clause-refused c =
    let members = members_view c.args.item.now.members in
    fails_less (get_member (codes "resolved") members ≢ None) (SaysExactly members → ⊥)
    (λ there decoded. there (alone members (view c.in-Some.exactly.value) c.in-Some.ensures.value decoded).1) c.refuse_together-2.result c.refuse_together-2.ensures.there
