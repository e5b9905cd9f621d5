use Rattle.std.proofs.Common.{◌≡◌, true, codes, subst, sym}
use Rattle.std.specs.Prelude.{IsTrue}
use Rattle.serde_json.specs.Find.{get_member}
use Rattle.serde_json.specs.View.{members_view, view}
use Rattle.am_model.specs.declared.config.Limits.{Limits}
use Rattle.am_json.specs.Configured.{DecodesToLimits, limits_in}
use Rattle.am_json.specs.Decoding.{HasOr}
use Rattle.am_json.specs.declared.reader.Mode.{Mode}
use Rattle.am_json.proofs.Decoding.{found, narrowed, sure}
use Rattle.am_json.proofs.config.read_limits.Goals as goal

pub returns-in-Some-clause-refused : goal.returns-in-Some-clause-refused
returns-in-Some-clause-refused c =
    let o = c.args.config.now in
    let member = c.in-Some.member in
    let value = view member.value in
    let members = members_view o.members in
    narrowed (λ (l : Limits). DecodesToLimits member.mode value l × IsTrue true) (HasOr (DecodesToLimits o.mode) (limits_in o.mode) (codes "limits") members)
    (λ l decoded. (
      subst (λ (d : Mode). DecodesToLimits d value l) (sym c.in-Some.ensures.mode)
          (found (l ≡ limits_in o.mode) (λ v. DecodesToLimits o.mode v l) value (get_member (codes "limits") members) c.in-Some.ensures.value decoded),
      sure,
    ))
    c.read.result c.read.ensures.refused
