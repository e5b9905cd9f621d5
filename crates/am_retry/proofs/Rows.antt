-- Waits grow by half: the definitions, run on worked rows.
use Rattle.std.proofs.Common.{◌≡◌, ℕ, false, List, [], ◌∷◌, map, refl}
use Rattle.am_retry.specs.declared.outcome.Answer.TheVariants.{Done, Again}
use Rattle.am_retry.specs.declared.outcome.Outcome.TheVariants.{Delivered, Expired, Starved}
use Rattle.am_retry.specs.Attempts.{Response, wait_of, attempt_after, end_after}
use Rattle.am_retry.specs.Outcome.{has_outcome, HasOutcome}

abbrev again : ℕ → Response
again ended = record { answer = Again; ended = ended }

waits : map wait_of (0 ∷ 1 ∷ 2 ∷ 3 ∷ 4 ∷ 12 ∷ 20 ∷ []) ≡ 500 ∷ 750 ∷ 1125 ∷ 1687 ∷ 2530 ∷ 60_000 ∷ 60_000 ∷ []
waits = refl

abbrev two_agains : List Response
two_agains = again 0 ∷ again 500 ∷ []

third_attempt : attempt_after 0 two_agains ≡ 1_250
third_attempt = refl

delivered : HasOutcome 0 300_000 (again 0 ∷ again 500 ∷ record { answer = Done; ended = 1_250 } ∷ []) Delivered
delivered = refl

expired : HasOutcome 0 1_250 two_agains Expired
expired = refl

not_yet : has_outcome 0 1_251 two_agains Expired ≡ false
not_yet = refl

continues : HasOutcome 0 1_251 two_agains Starved
continues = refl

from_the_end : attempt_after 0 (again 200 ∷ []) ≡ 700
from_the_end = refl

not_before_the_attempt : end_after 100 (again 3 ∷ []) ≡ 100
not_before_the_attempt = refl

too_late_to_begin : HasOutcome 7 7 [] Expired
too_late_to_begin = refl

-- answers after the end have no outcome
nothing_follows : has_outcome 0 10 (record { answer = Done; ended = 4 } ∷ again 5 ∷ []) Delivered ≡ false
nothing_follows = refl
