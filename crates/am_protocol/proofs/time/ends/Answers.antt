use Rattle.std.proofs.Common.{None, codes}
use Rattle.serde_json.specs.Find.{get_member}
use Rattle.serde_json.specs.View.{members_view, view}
use Rattle.am_protocol.specs.Time.{IsEnd}
use Rattle.am_protocol.proofs.Refusing.{or_err, or_ok}
use Rattle.am_protocol.proofs.time.ends.Goals as goal

pub returns-in-Some-clause-decoded : goal.returns-in-Some-clause-decoded
returns-in-Some-clause-decoded c =
    or_ok IsEnd None c.end.result (get_member (codes "ends") (members_view c.args.alert.now.members)) (view c.in-Some.member.value) c.in-Some.ensures.value c.end.ensures.decoded

pub returns-in-Some-clause-refused : goal.returns-in-Some-clause-refused
returns-in-Some-clause-refused c =
    or_err IsEnd None c.end.result (get_member (codes "ends") (members_view c.args.alert.now.members)) (view c.in-Some.member.value) c.in-Some.ensures.value c.end.ensures.refused
