-- Lines that aren't answered by themselves, and the answers to those that are refused.
use Rattle.std.proofs.Common.{◌≡◌, ◌≤◌, ℕ, List, true, false, Option, arith, length, refl, subst}
use Rattle.am_json.specs.declared.transfer.TheConstants.{MAX_INPUT}
use Rattle.am_protocol.specs.declared.fault.LineFault.{LineFault}
use Rattle.am_protocol.specs.declared.fault.LineFault.TheVariants as fault
use Rattle.am_protocol.specs.declared.lines.LineRead.{LineRead}
use Rattle.am_protocol.specs.declared.lines.LineRead.TheVariants.{Complete, TooLong, NoMemory, End}
use Rattle.am_protocol.specs.Fault.{AnswersFault}
use Rattle.am_protocol.specs.Lines.{IsRead}
use Rattle.am_session.specs.Line.{AnswersLine, IsRefused, is_remark}
use Rattle.am_session.specs.Line.AnswersLine.{Faulted}
use Rattle.am_session.specs.declared.session.Session.{Session}

-- a remark that isn't answered by itself was refused memory
pub remark_only : (read : LineRead) (text kept : List ℕ) (f : LineFault) → IsRead read text kept
    → (read ≡ Complete → is_remark kept ≡ false) → (read ≡ NoMemory → f ≡ fault.NoMemory)
    → is_remark text ≡ true → length text ≤ MAX_INPUT → f ≡ fault.NoMemory
remark_only Complete text kept f is other unread remark short =
    absurd (let no : is_remark text ≡ false = subst (λ (t : List ℕ). is_remark t ≡ false) is.0 (other refl) in cc)
remark_only TooLong text kept f is other unread remark short = absurd (omega (arith, is, short))
remark_only NoMemory text kept f is other unread remark short = unread refl
remark_only End text kept f is other unread remark short = absurd is

-- the answer to a line that is refused
pub faulted : (old new : Option Session) (read : LineRead) (text kept : List ℕ) (f : LineFault) → IsRead read text kept
    → (read ≡ Complete → is_remark kept ≡ false) → (read ≡ NoMemory → f ≡ fault.NoMemory) → IsRefused old text f new
    → (t : List ℕ) → AnswersFault f t → AnswersLine old text t new
faulted old new read text kept f is other unread refused t answers = Faulted f (remark_only read text kept f is other unread) refused answers
