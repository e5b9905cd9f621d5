use Rattle.serde_json.specs.Find.{get_member}
use Rattle.serde_json.specs.View.{members_view, view}
use Rattle.am_protocol.specs.Time.{IsTime, time_in}
use Rattle.am_protocol.proofs.Refusing.{or_err, or_ok, read_err, read_ok}
use Rattle.am_protocol.proofs.time.time_or.Goals as goal

pub returns-in-Some-clause-decoded : goal.returns-in-Some-clause-decoded
returns-in-Some-clause-decoded c =
    or_ok IsTime c.args.absent c.time.result (get_member c.args.name.now (members_view c.args.object.now.members)) (view c.in-Some.member.value) c.in-Some.ensures.value
    (read_ok time_in c.time.result (view c.in-Some.member.value) c.time.ensures)

pub returns-in-Some-clause-refused : goal.returns-in-Some-clause-refused
returns-in-Some-clause-refused c =
    or_err IsTime c.args.absent c.time.result (get_member c.args.name.now (members_view c.args.object.now.members)) (view c.in-Some.member.value) c.in-Some.ensures.value
    (read_err time_in c.time.result (view c.in-Some.member.value) c.time.ensures)
