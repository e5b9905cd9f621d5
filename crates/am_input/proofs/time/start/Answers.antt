use Rattle.std.proofs.Common.{codes, refl}
use Rattle.serde_json.specs.Find.{get_member}
use Rattle.serde_json.specs.View.{members_view, view}
use Rattle.am_json.proofs.Decoding.{handed_on}
use Rattle.am_input.proofs.Starts.{no_text_starts, none_starts}
use Rattle.am_input.specs.Request.{DecodesToStart}
use Rattle.am_input.proofs.time.start.Goals as goal

pub returns-in_err-text-clause-refused : goal.returns-in_err-text-clause-refused
returns-in_err-text-clause-refused c =
    let found = get_member (codes "start") (members_view c.args.top.now.members) in
    handed_on (DecodesToStart found) c.from_residual.result c.in_err-text.field-0.0 c.from_residual.ensures.1
    (λ refusal start decoded. no_text_starts found (view c.in-Some.member.value) start c.in-Some.ensures.value c.in_err-text.ensures.text decoded)

pub returns-in-None-clause-refused : goal.returns-in-None-clause-refused
returns-in-None-clause-refused c refusal start decoded =
    none_starts (get_member (codes "start") (members_view c.args.top.now.members)) (view c.in-Some.member.value) c.in_ok-text.field-0.now start
    c.in-Some.ensures.value c.in_ok-text.ensures.text (c.in-None.ensures.refused refl) decoded
