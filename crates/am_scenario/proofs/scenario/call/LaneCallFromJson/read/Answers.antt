use Rattle.std.proofs.Common.{◌≡◌, Some}
use Rattle.std.specs.Prelude.{IsTrue}
use Rattle.serde_json.specs.Data.{Data}
use Rattle.serde_json.specs.Find.{as_object}
use Rattle.serde_json.specs.View.{members_view, view}
use Rattle.am_json.proofs.Decoding.{handed_on, in_object}
use Rattle.am_json.specs.Read.{ObjectData}
use Rattle.am_json.specs.declared.reader.Mode.{Mode}
use Rattle.am_scenario.proofs.Calls.{inserted_by, set_by}
use Rattle.am_scenario.specs.Decoding.{DecodesToCall, HasCall, call_compares_texts}
use Rattle.am_scenario.specs.declared.scenario.call.LaneCall.{LaneCall}
use Rattle.am_scenario.proofs.scenario.call.LaneCallFromJson.read.Goals as goal

-- what is never refused
abbrev Decodes : Mode → Data → LaneCall → Type 0
Decodes mode value call = DecodesToCall mode value call × IsTrue (call_compares_texts call)

inside : (mode : Mode) (value : Data) (o : ObjectData) (call : LaneCall) → Some (members_view o.members) ≡ as_object value → o.mode ≡ mode
    → Decodes mode value call → HasCall o.mode (members_view o.members) call
inside mode value o call is same decoded = in_object HasCall mode o.mode (members_view o.members) value call is same decoded.0

pub returns-in_err-insert-clause-refused : goal.returns-in_err-insert-clause-refused
returns-in_err-insert-clause-refused c =
    let d = c.args.reader.now.mode in
    let value = view c.args.reader.now.value in
    let o = c.in_ok-call.call in
    handed_on (Decodes d value) c.from_residual-in_err-insert.result c.in_err-insert.field-0.0 c.from_residual-in_err-insert.ensures.1
    (λ refusal x decoded.
    let insert = inserted_by o.mode (members_view o.members) x (inside d value o x c.in_ok-call.ensures.members c.in_ok-call.ensures.mode decoded) in
    c.in_err-insert.ensures.refused refusal insert.0 insert.1)

pub returns-in_err-silence-clause-refused : goal.returns-in_err-silence-clause-refused
returns-in_err-silence-clause-refused c =
    let d = c.args.reader.now.mode in
    let value = view c.args.reader.now.value in
    let o = c.in_ok-call.call in
    handed_on (Decodes d value) c.from_residual-in_err-silence.result c.in_err-silence.field-0.0 c.from_residual-in_err-silence.ensures.1
    (λ refusal x decoded.
    let silence = set_by o.mode (members_view o.members) x (inside d value o x c.in_ok-call.ensures.members c.in_ok-call.ensures.mode decoded) decoded.1 in
    c.in_err-silence.ensures.refused refusal silence.0 (silence.1, silence.2))
