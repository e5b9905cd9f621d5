-- Retry outcome: which outcome a whole list of answers has (Alertmanager's retry stage).
use Rattle.std.specs.Prelude.{ℕ, zero, suc, Bool, true, false, ◌&&◌, nat_lt, nat_le, List, [], ◌∷◌, length, IsTrue}
use Rattle.std.specs.List.{list_all}
use Rattle.am_retry.specs.declared.outcome.Answer.{Answer}
use Rattle.am_retry.specs.declared.outcome.Answer.TheVariants.{Done, Again, Never}
use Rattle.am_retry.specs.declared.outcome.Outcome.{Outcome}
use Rattle.am_retry.specs.declared.outcome.Outcome.TheVariants.{Delivered, Refused, Expired, Starved}
use Rattle.am_retry.specs.Attempts.{Response, attempt_at, attempt_after}

-- the attempt was the last one, and the notice is delivered
abbrev pub is_done : Answer → Bool
is_done Done = true
is_done Again = false
is_done Never = false

-- a later attempt may succeed
abbrev pub is_again : Answer → Bool
is_again Done = false
is_again Again = true
is_again Never = false

-- no attempt can succeed
abbrev pub is_never : Answer → Bool
is_never Done = false
is_never Again = false
is_never Never = true

-- every answer is Again
abbrev pub all_again : List Response → Bool
all_again responses = list_all (λ t. is_again t.answer) responses

-- every answer but the last is Again, and the last one passes the test
abbrev pub ends_with : (Answer → Bool) → List Response → Bool
ends_with test [] = false
ends_with test (t ∷ []) = test t.answer
ends_with test (t ∷ u ∷ rest) = is_again t.answer && ends_with test (u ∷ rest)

-- the first k attempts are made before the deadline
abbrev pub are_in_time : ℕ → ℕ → List Response → ℕ → Bool
are_in_time start deadline responses zero = true
are_in_time start deadline responses (suc j) = are_in_time start deadline responses j && nat_lt (attempt_at start responses j) deadline

-- the attempts are made before the deadline, and every answer is Again
abbrev pub asks_again : ℕ → ℕ → List Response → Bool
asks_again start deadline responses = are_in_time start deadline responses (length responses) && all_again responses

-- the attempts are made before the deadline, every answer but the last is Again, and the last one passes the test
abbrev pub is_settled : (Answer → Bool) → ℕ → ℕ → List Response → Bool
is_settled test start deadline responses = are_in_time start deadline responses (length responses) && ends_with test responses

-- whether a list of answers, as a whole, has an outcome. That of Starved says that one more attempt is due; that it wasn't made for
-- lack of memory is for who makes the attempts to say
abbrev pub has_outcome : ℕ → ℕ → List Response → Outcome → Bool
has_outcome start deadline responses Delivered = is_settled is_done start deadline responses
has_outcome start deadline responses Refused = is_settled is_never start deadline responses
has_outcome start deadline responses Expired = asks_again start deadline responses && nat_le deadline (attempt_after start responses)
has_outcome start deadline responses Starved = asks_again start deadline responses && nat_lt (attempt_after start responses) deadline

-- the answers, with the ends handed in, have this outcome between a start and a deadline
abbrev pub HasOutcome : ℕ → ℕ → List Response → Outcome → Type 0
HasOutcome start deadline responses outcome = IsTrue (has_outcome start deadline responses outcome)
