-- What contracts see of the retry machine, and how it is to the answers that it took.
use Rattle.std.specs.Prelude.{◌≡◌, ◌≢◌, ℕ, ◌+◌, ◌-◌, ◌*◌, ◌<◌, ◌≤◌, nat_lt, if◌then◌else◌, List, [], ◌∷◌, length}
use Rattle.am_retry.specs.declared.outcome.Answer.{Answer}
use Rattle.am_retry.specs.declared.outcome.Answer.TheVariants.{Done, Again, Never}
use Rattle.am_retry.specs.declared.outcome.Outcome.TheVariants.{Delivered, Refused, Expired, Starved}
use Rattle.am_retry.specs.declared.retry.Step.{Step}
use Rattle.am_retry.specs.declared.retry.Step.TheVariants.{Attempt, Over}
use Rattle.am_retry.specs.Attempts.{Response, wait_of, end_of, attempt_after, end_after}
use Rattle.am_retry.specs.Outcome.{HasOutcome}

-- how far the attempts have come: the deadline, the number of answers taken, the last attempt's end or the start, and what comes next
pub record Progress : Type 0 where
  pub deadline : ℕ
  pub attempts : ℕ
  pub ended : ℕ
  pub step : Step

-- an attempt is due at this time, if that is before the deadline
abbrev pub due : ℕ → ℕ → Step
due at deadline = if nat_lt at deadline then Attempt at else Over Expired

-- before any answer
abbrev pub started : ℕ → ℕ → Progress
started start deadline = record { deadline = deadline; attempts = 0; ended = start; step = due start deadline }

-- what an answer brings next, where its attempt ended and the wait are known
abbrev pub step_after : Answer → ℕ → ℕ → ℕ → Step
step_after Done ended wait deadline = Over Delivered
step_after Never ended wait deadline = Over Refused
step_after Again ended wait deadline = due (ended + wait) deadline

-- after an answer to the attempt that was due at a time
abbrev pub taken_at : ℕ → Progress → Answer → ℕ → Progress
taken_at at p answer ended =
    record {
      deadline = p.deadline;
      attempts = p.attempts + 1;
      ended = end_of at ended;
      step = step_after answer (end_of at ended) (wait_of p.attempts) p.deadline;
    }

-- after an answer, by what was next: where no attempt was due, nothing changes
abbrev pub taken_by : Step → Progress → Answer → ℕ → Progress
taken_by (Attempt at) p answer ended = taken_at at p answer ended
taken_by (Over outcome) p answer ended = p

-- after one more answer
abbrev pub answered : Progress → Answer → ℕ → Progress
answered p answer ended = taken_by p.step p answer ended

-- after a list of answers, one by one
abbrev pub answered_all : Progress → List Response → Progress
answered_all p [] = p
answered_all p (t ∷ responses) = answered_all (answered p t.answer t.ended) responses

-- the machine between a start and a deadline, after a list of answers
abbrev pub run : ℕ → ℕ → List Response → Progress
run start deadline responses = answered_all (started start deadline) responses

-- what comes next is what follows from the answers as a whole: the next attempt, at its time, or the outcome that they have
abbrev pub StepIsOf : ℕ → ℕ → List Response → Step → Type 0
StepIsOf start deadline responses (Attempt at) = HasOutcome start deadline responses Starved × (at ≡ attempt_after start responses)
StepIsOf start deadline responses (Over outcome) = HasOutcome start deadline responses outcome × (outcome ≢ Starved)

-- a machine that was started so took just these answers, and is where they lead
pub record IsAfterResponses (start deadline : ℕ) (responses : List Response) (p : Progress) : Type 0 where
  pub until : p.deadline ≡ deadline
  pub attempts : p.attempts ≡ length responses
  pub ended : p.ended ≡ end_after start responses
  pub step : StepIsOf start deadline responses p.step

-- how much time is left before the deadline when the next attempt is due, and none where all is over
abbrev pub time_left_at : Step → ℕ → ℕ
time_left_at (Attempt at) deadline = deadline - at
time_left_at (Over outcome) deadline = 0

-- the same of how far the attempts have come: it falls with each answer
abbrev pub time_left : Progress → ℕ
time_left p = time_left_at p.step p.deadline

-- an attempt that is due is before the deadline, and each answer before it took half a second at least
abbrev pub IsDue : Step → ℕ → ℕ → Type 0
IsDue (Attempt at) deadline attempts = (at < deadline) × (500 * attempts ≤ at)
IsDue (Over outcome) deadline attempts = Unit {0}
