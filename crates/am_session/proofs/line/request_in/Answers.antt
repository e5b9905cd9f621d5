use Rattle.std.proofs.Common.{◌≡◌, ◌∙◌, Some, List, ℕ, Result, Ok, Err, IfErr, ap, refl, subst, sym}
use Rattle.std.specs.Prelude.{IfSome, IsErrAnd}
use Rattle.serde_json.specs.Data.{Data}
use Rattle.serde_json.specs.Read.{read}
use Rattle.serde_json.specs.View.{view}
use Rattle.serde_json.specs.declared.value.Value.{Value}
use Rattle.am_json.specs.Read.{Excludes, IsRefusedBy}
use Rattle.am_json.specs.declared.fault.InputFault.{InputFault}
use Rattle.am_json.specs.declared.fault.InputFault.TheVariants as input
use Rattle.am_json.specs.declared.reader.Mode.{Mode}
use Rattle.am_json.specs.declared.reader.Mode.TheVariants.{Strict}
use Rattle.am_protocol.specs.Call.{form_fault}
use Rattle.am_protocol.specs.Fault.{IsOfInput}
use Rattle.am_protocol.specs.Request.{IsSureRequestIn}
use Rattle.am_protocol.specs.declared.fault.LineFault.{LineFault}
use Rattle.am_protocol.specs.declared.request.Request.{Request}
use Rattle.am_session.specs.Session.{IsUnread}
use Rattle.am_session.proofs.line.request_in.Goals as goal

-- a line whose value is refused
unread : (line : List ℕ) (value : Data) (f : InputFault) (g : LineFault) → read line ≡ Some value → IsOfInput f g
    → IfSome (form_fault value) (λ kind. IsRefusedBy kind f) → Excludes (IsSureRequestIn Strict value) f → IsUnread line g
unread line value (input.Refused pointer kind) g is of form none = subst (IsUnread line) (sym of) (value, is, record { form = form; none = none refl })
unread line value input.NoMemory g is of form none = subst (IsUnread line) (sym of) tt

-- its fault is passed on
passed : (r : Result Request LineFault) (line : List ℕ) (value seen : Value) (mode : Mode) (f : InputFault)
    → read line ≡ Some (view value) → seen ≡ value → mode ≡ Strict
    → IfSome (form_fault (view seen)) (λ kind. IsRefusedBy kind f) → Excludes (IsSureRequestIn mode (view seen)) f
    → IsErrAnd r (IsOfInput f) → IfErr r (IsUnread line)
passed (Ok x) line value seen mode f is same strict form none of = tt
passed (Err g) line value seen mode f is same strict form none of =
    unread line (view seen) f g (is ∙ ap (λ (v : Value). Some (view v)) (sym same)) of form
    (subst (λ (m : Mode). Excludes (IsSureRequestIn m (view seen)) f) strict none)

pub returns-in_err-read_request-clause-refused : goal.returns-in_err-read_request-clause-refused
returns-in_err-read_request-clause-refused c =
    passed _ c.args.line.now c.in_ok-value.value c.strict.result.value c.strict.result.mode c.in_err-read_request.field-0.0 c.in_ok-value.ensures.value
    c.strict.ensures.value c.strict.ensures.mode c.in_err-read_request.ensures.form c.in_err-read_request.ensures.refused
    c.from_residual-in_err-read_request.ensures.1
