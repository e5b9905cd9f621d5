use Rattle.std.proofs.Common.{◌≡◌, codes}
use Rattle.std.specs.Prelude.{pos}
use Rattle.serde_json.specs.Find.{get_member}
use Rattle.serde_json.specs.View.{members_view, view}
use Rattle.am_protocol.proofs.Clocks.{given_ok}
use Rattle.am_protocol.specs.Hours.{IsInstant}
use Rattle.am_protocol.proofs.hours.start_at.Goals as goal

pub returns-in-Some : goal.returns-in-Some
returns-in-Some c =
    given_ok (λ v start. IsInstant v start.nanosecond) (λ start. start.nanosecond ≡ pos 0) c.read_start.result (get_member (codes "start") (members_view c.args.call.now.members))
    (view c.in-Some.member.value) c.in-Some.ensures.value c.read_start.ensures
