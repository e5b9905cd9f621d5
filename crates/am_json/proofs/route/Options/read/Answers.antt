use Rattle.std.proofs.Common.{codes}
use Rattle.serde_json.specs.Find.{get_member}
use Rattle.serde_json.specs.View.{members_view}
use Rattle.am_json.specs.Configured.{DecodesToOptions}
use Rattle.am_json.specs.Read.{duration_in, interval_in}
use Rattle.am_json.proofs.Decoding.{handed_on, refused_or}
use Rattle.am_json.proofs.route.Options.read.Goals as goal

pub returns-in_err-receiver-clause-refused : goal.returns-in_err-receiver-clause-refused
returns-in_err-receiver-clause-refused c =
    handed_on (DecodesToOptions (members_view c.args.route.now.members)) c.from_residual.result c.in_err-receiver.field-0.0 c.from_residual.ensures.1
    (λ refusal x decoded. c.in_err-receiver.ensures.refused refusal x.receiver decoded.receiver)

pub returns-in_err-group_by-clause-refused : goal.returns-in_err-group_by-clause-refused
returns-in_err-group_by-clause-refused c =
    handed_on (DecodesToOptions (members_view c.args.route.now.members)) c.from_residual-in_err-group_by.result c.in_err-group_by.field-0.0 c.from_residual-in_err-group_by.ensures.1
    (λ refusal x decoded. c.in_err-group_by.ensures.refused refusal x.group_by decoded.group_by)

pub returns-in_err-group_wait-clause-refused : goal.returns-in_err-group_wait-clause-refused
returns-in_err-group_wait-clause-refused c =
    handed_on (DecodesToOptions (members_view c.args.route.now.members)) c.from_residual-in_err-group_wait.result c.in_err-group_wait.field-0.0 c.from_residual-in_err-group_wait.ensures.1
    (λ refusal x decoded. refused_or duration_in 30000 x.group_wait (get_member (codes "group_wait") (members_view c.args.route.now.members)) c.in_err-group_wait.field-0.0 c.in_err-group_wait.ensures decoded.group_wait)

pub returns-in_err-group_interval-clause-refused : goal.returns-in_err-group_interval-clause-refused
returns-in_err-group_interval-clause-refused c =
    handed_on (DecodesToOptions (members_view c.args.route.now.members)) c.from_residual-in_err-group_interval.result c.in_err-group_interval.field-0.0 c.from_residual-in_err-group_interval.ensures.1
    (λ refusal x decoded. refused_or interval_in 300000 x.group_interval (get_member (codes "group_interval") (members_view c.args.route.now.members)) c.in_err-group_interval.field-0.0 c.in_err-group_interval.ensures.value decoded.group_interval)

pub returns-in_err-repeat_interval-clause-refused : goal.returns-in_err-repeat_interval-clause-refused
returns-in_err-repeat_interval-clause-refused c =
    handed_on (DecodesToOptions (members_view c.args.route.now.members)) c.from_residual-in_err-repeat_interval.result c.in_err-repeat_interval.field-0.0 c.from_residual-in_err-repeat_interval.ensures.1
    (λ refusal x decoded. refused_or interval_in 14400000 x.repeat_interval (get_member (codes "repeat_interval") (members_view c.args.route.now.members)) c.in_err-repeat_interval.field-0.0 c.in_err-repeat_interval.ensures.value decoded.repeat_interval)
