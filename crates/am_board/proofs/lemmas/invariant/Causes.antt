-- What a caller learns from the fault that a call answered.
use Rattle.std.proofs.Common.{◌≡◌, ◌≢◌, ◌⊎◌, Option, Some, None, sym, ap, ⊎_elim}
use Rattle.am_board.specs.Step.{IsAnswer, IsNoteAnswer}
use Rattle.am_model.specs.declared.fault.Fault.{Fault}
use Rattle.am_model.specs.declared.fault.Fault.TheVariants.{NoMemory, TooManyAlerts, TooManyGroups, TooManySilences, TooManyOpen, HistoryFull}
use Rattle.am_model.specs.declared.fault.NoteFault.{NoteFault}
use Rattle.am_model.specs.declared.fault.NoteFault.TheVariants as note

-- an answer that is one of two, of which the second is lack of memory
one_of_two : (cause f : Fault) → (f ≡ cause) ⊎ (f ≡ NoMemory) → f ≢ NoMemory → Some cause ≡ Some f
one_of_two cause f answer ne = ⊎_elim (λ (e : f ≡ cause). ap (λ (x : Fault). Some x) (sym e)) (λ (e : f ≡ NoMemory). absurd (ne e)) answer

-- a fault other than lack of memory is the first cause
pub answer_is_cause : (cause : Option Fault) (f : Fault) → IsAnswer cause f → f ≢ NoMemory → cause ≡ Some f
answer_is_cause None f answer ne = absurd (ne answer)
answer_is_cause (Some NoMemory) f answer ne = absurd (ne answer)
answer_is_cause (Some TooManyAlerts) f answer ne = ap (λ (x : Fault). Some x) (sym answer)
answer_is_cause (Some TooManyGroups) f answer ne = one_of_two TooManyGroups f answer ne
answer_is_cause (Some TooManySilences) f answer ne = ap (λ (x : Fault). Some x) (sym answer)
answer_is_cause (Some TooManyOpen) f answer ne = one_of_two TooManyOpen f answer ne
answer_is_cause (Some HistoryFull) f answer ne = ap (λ (x : Fault). Some x) (sym answer)

-- the same of a note
pub note_answer_is_cause : (cause : Option NoteFault) (f : NoteFault) → IsNoteAnswer cause f → f ≢ note.NoMemory → cause ≡ Some f
note_answer_is_cause None f answer ne = absurd (ne answer)
note_answer_is_cause (Some cause) f answer ne = ap (λ (x : NoteFault). Some x) (sym answer)
