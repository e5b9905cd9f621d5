use Rattle.serde_json.specs.Find.{get_member}
use Rattle.serde_json.specs.View.{members_view}
use Rattle.am_json.specs.Decoding.{HasOr, IsNumber}
use Rattle.am_json.specs.Read.{number_in}
use Rattle.am_json.proofs.Decoding.{handed_on, refused_or}
use Rattle.am_json.proofs.config.read_limit.Goals as goal

pub returns-in_err-number_or-clause-refused : goal.returns-in_err-number_or-clause-refused
returns-in_err-number_or-clause-refused c =
    handed_on (HasOr IsNumber c.args.absent c.args.name.now (members_view c.args.limits.now.members)) c.from_residual.result c.in_err-number_or.field-0.0 c.from_residual.ensures.1
    (λ refusal x decoded. refused_or number_in c.args.absent x (get_member c.args.name.now (members_view c.args.limits.now.members)) c.in_err-number_or.field-0.0 c.in_err-number_or.ensures.value decoded)
