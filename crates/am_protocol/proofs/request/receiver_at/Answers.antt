use Rattle.std.proofs.Common.{List, ℕ, Option, codes}
use Rattle.serde_json.specs.Find.{get_member}
use Rattle.serde_json.specs.View.{members_view, view}
use Rattle.am_json.proofs.Decoding.{handed_on, sure}
use Rattle.am_json.specs.Decoding.{HasIf, IsText}
use Rattle.am_protocol.proofs.Refusing.{if_refused}
use Rattle.am_protocol.proofs.request.receiver_at.Goals as goal

pub returns-in_err-read-in-Some-clause-refused : goal.returns-in_err-read-in-Some-clause-refused
returns-in_err-read-in-Some-clause-refused c =
    handed_on (λ (name : Option (List ℕ)). HasIf IsText (codes "receiver") (members_view c.args.row.now.members) name) c.from_residual.result c.in_err-read-in-Some.field-0.0 c.from_residual.ensures.1
    (λ refusal name decoded. if_refused (get_member (codes "receiver") (members_view c.args.row.now.members)) (view c.in-Some.name.value) name c.in-Some.ensures.value
    (λ text is. c.in_err-read-in-Some.ensures.refused refusal text (is, sure)) decoded)
