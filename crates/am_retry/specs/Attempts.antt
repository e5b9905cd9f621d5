-- The attempts of a list of answers: their times, their ends and the waits between them.
use Rattle.std.specs.Prelude.{ℕ, zero, suc, ◌+◌, ◌*◌, ◌/◌, min, max, List, [], ◌∷◌, ◌++◌, length, map, slice_index}
use Rattle.std.specs.List.{enumerate_from}
use Rattle.am_retry.specs.declared.outcome.Answer.{Answer}

-- an answer to an attempt, and the end that was handed in with it
pub record Response : Type 0 where
  pub answer : Answer
  pub ended : ℕ

-- the answers, and one more
abbrev pub one_more : List Response → Answer → ℕ → List Response
one_more responses answer ended = responses ++ record { answer = answer; ended = ended } ∷ []

-- 10^15 + 10^12: an attempt that begins no later ends no later
abbrev pub latest : ℕ
latest = 1_001_000_000_000_000

-- the waits between attempts (the back-off of Alertmanager's retry stage, without its random part): 500, 750, 1125, 1687, ..: each is
-- the one before times 3 divided by 2, rounded down, and at most 60,000
abbrev pub wait_of : ℕ → ℕ
wait_of zero = 500
wait_of (suc j) = min (3 * wait_of j / 2) 60_000

-- the end of an attempt that was made at a time: the end handed in, but none before that time and none above the latest
abbrev pub end_of : ℕ → ℕ → ℕ
end_of at ended = max at (min ended latest)

-- the end handed in with the answer at an index, counted from 0
abbrev pub handed_in : List Response → ℕ → ℕ
handed_in responses j = slice_index (map (λ t. t.ended) responses) j

-- the time of the attempt that comes after the first j answers: the start, and after that the end of the attempt before and a wait
abbrev pub attempt_at : ℕ → List Response → ℕ → ℕ
attempt_at start responses zero = start
attempt_at start responses (suc j) = end_of (attempt_at start responses j) (handed_in responses j) + wait_of j

-- the end of the attempts after the first j answers: that of the last one, or the start
abbrev pub end_at : ℕ → List Response → ℕ → ℕ
end_at start responses zero = start
end_at start responses (suc j) = end_of (attempt_at start responses j) (handed_in responses j)

-- the time of the attempt that comes after all the answers
abbrev pub attempt_after : ℕ → List Response → ℕ
attempt_after start responses = attempt_at start responses (length responses)

-- the end of the attempts after all the answers
abbrev pub end_after : ℕ → List Response → ℕ
end_after start responses = end_at start responses (length responses)

-- an attempt that was made: its number, from 1, its time, its answer and the end that was handed in
pub record Try : Type 0 where
  pub attempt : ℕ
  pub at : ℕ
  pub answer : Answer
  pub ended : ℕ

-- the attempt that an answer of the list is for, by the answer's index, counted from 0
abbrev pub try_of : ℕ → List Response → ℕ × Response → Try
try_of start responses p = record { attempt = p.0 + 1; at = attempt_at start responses p.0; answer = p.1.answer; ended = p.1.ended }

-- the attempts of a list of answers, in order
abbrev pub tries_of : ℕ → List Response → List Try
tries_of start responses = map (try_of start responses) (enumerate_from 0 responses)
