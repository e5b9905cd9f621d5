-- The laws of the retry machine: what it gives is the outcome of its answers as a whole.
use Rattle.std.specs.Prelude.{◌≡◌, ◌≢◌, ℕ, ◌+◌, ◌↔◌, List, [], ◌∷◌, ◌++◌, length}
use Rattle.am_retry.specs.declared.outcome.Outcome.{Outcome}
use Rattle.am_retry.specs.declared.outcome.Outcome.TheVariants.{Starved}
use Rattle.am_retry.specs.declared.retry.Step.TheVariants.{Attempt, Over}
use Rattle.am_retry.specs.Attempts.{Response, attempt_after, end_after, tries_of}
use Rattle.am_retry.specs.Outcome.{HasOutcome}
use Rattle.am_retry.specs.Progress.{run}
use Rattle.am_retry.specs.declared.retry.TheConstants.{LATEST, FIRST_WAIT, LONGEST_WAIT}

-- some front of the answers has this outcome, with so many attempts and this end
pub record Concludes (start deadline : ℕ) (responses : List Response) (outcome : Outcome) (attempts ended : ℕ) : Type 0 where
  pub taken : List Response
  pub rest : List Response
  pub front : responses ≡ taken ++ rest
  pub has : HasOutcome start deadline taken outcome
  pub not_starved : outcome ≢ Starved
  pub attempts_are : attempts ≡ length taken
  pub end_is : ended ≡ end_after start taken

-- over with an outcome, so many attempts and an end, exactly when some front of the answers has this outcome, with these
abbrev pub OverExactly : Type 0
OverExactly =
    (start deadline attempts ended : ℕ) (responses : List Response) (outcome : Outcome)
    → (run start deadline responses ≡ record { deadline = deadline; attempts = attempts; ended = ended; step = Over outcome })
    ↔ Concludes start deadline responses outcome attempts ended

-- the next attempt is due at a time exactly when the answers as a whole let it follow, at this time
abbrev pub WaitsExactly : Type 0
WaitsExactly =
    (start deadline attempts ended at : ℕ) (responses : List Response)
    → (run start deadline responses ≡ record { deadline = deadline; attempts = attempts; ended = ended; step = Attempt at })
    ↔ (HasOutcome start deadline responses Starved × (attempts ≡ length responses) × (ended ≡ end_after start responses)
    × (at ≡ attempt_after start responses))

-- another attempt may follow exactly when no front of the answers has an outcome
abbrev pub ContinuesExactly : Type 0
ContinuesExactly =
    (start deadline : ℕ) (responses : List Response)
    → HasOutcome start deadline responses Starved
    ↔ ((outcome : Outcome) (attempts ended : ℕ) → Concludes start deadline responses outcome attempts ended → ⊥)

-- no list of answers has two outcomes
abbrev pub NeverBoth : Type 0
NeverBoth =
    (start deadline : ℕ) (responses : List Response) (one other : Outcome)
    → HasOutcome start deadline responses one → HasOutcome start deadline responses other → one ≡ other

-- one more answer is one more try, at the time that was due
abbrev pub OneMoreTry : Type 0
OneMoreTry =
    (start : ℕ) (responses : List Response) (t : Response)
    → tries_of start (responses ++ t ∷ [])
    ≡ tries_of start responses
    ++ record { attempt = length responses + 1; at = attempt_after start responses; answer = t.answer; ended = t.ended } ∷ []

-- an end counts as 10^15 + 10^12 ms at most; the first wait is half a second, and the longest a minute
abbrev pub LimitsAre : Type 0
LimitsAre = (LATEST ≡ 1_001_000_000_000_000) × (FIRST_WAIT ≡ 500) × (LONGEST_WAIT ≡ 60_000)
