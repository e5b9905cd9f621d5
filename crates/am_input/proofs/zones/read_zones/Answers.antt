use Rattle.std.proofs.Common.{ap, arith, codes, length}
use Rattle.std.specs.Prelude.{⊤, ◌≤◌}
use Rattle.serde_json.proofs.Views.{members_len-members_view}
use Rattle.serde_json.specs.Find.{get_member}
use Rattle.serde_json.specs.View.{members_view, view}
use Rattle.am_json.proofs.Decoding.{handed_on}
use Rattle.am_input.proofs.Listed.{as_listed, listed_in}
use Rattle.am_input.specs.Zones.{AreZonesIn}
use Rattle.am_input.specs.declared.zones.TheConstants.{MAX_ZONES}
use Rattle.am_input.proofs.zones.read_zones.Goals as goal

pub returns-then-len-gt-MAX_ZONES-clause-refused : goal.returns-then-len-gt-MAX_ZONES-clause-refused
returns-then-len-gt-MAX_ZONES-clause-refused c refusal u decoded =
    let listed = c.in_ok-listed.listed in
    let all = listed_in (get_member (codes "zones") (members_view c.args.top.now.members)) (view c.in-Some.member.value) (members_view listed.members)
    c.in-Some.ensures.value c.in_ok-listed.ensures.members decoded in
    absurd (omega (arith, all.1, members_len-members_view listed.members, ap length c.members.ensures, c.len.ensures.len, c.if-len-gt-MAX_ZONES.true))

pub returns-in_err-read_listed-clause-refused : goal.returns-in_err-read_listed-clause-refused
returns-in_err-read_listed-clause-refused c =
    let found = get_member (codes "zones") (members_view c.args.top.now.members) in
    handed_on (λ (u : ⊤). AreZonesIn found) c.from_residual-in_err-read_listed.result c.in_err-read_listed.field-0.0 c.from_residual-in_err-read_listed.ensures.1
    (λ refusal u decoded. c.in_err-read_listed.ensures.refused refusal u
    (listed_in found (view c.in-Some.member.value) (members_view c.in_ok-listed.listed.members) c.in-Some.ensures.value c.in_ok-listed.ensures.members decoded).0)

pub returns-clause-decoded : goal.returns-clause-decoded
returns-clause-decoded c =
    let listed = c.in_ok-listed.listed in
    let few : length listed.members ≤ MAX_ZONES = omega (arith, ap length c.members.ensures, c.len.ensures.len, c.if-len-gt-MAX_ZONES.false) in
    as_listed (get_member (codes "zones") (members_view c.args.top.now.members)) (view c.in-Some.member.value) (members_view listed.members)
    c.in-Some.ensures.value c.in_ok-listed.ensures.members (c.in_ok-read_listed.ensures.decoded, omega (arith, few, members_len-members_view listed.members))
