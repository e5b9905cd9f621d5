-- Sixty-five groups: due together, they are taken in the order of their names.
use Rattle.std.proofs.Common.{◌≡◌, ℕ, zero, suc, ◌+◌, ◌/◌, ◌%◌, Some, List, [], ◌∷◌, ◌++◌, map, refl}
use Rattle.std.specs.Prelude.{codes, fold, reverse}
use Rattle.am_model.specs.declared.record.Call.TheVariants.{Insert, Begin, Finish}
use Rattle.std.specs.Option.{option_map}
use Rattle.am_model.specs.declared.fault.Fault.TheVariants.{TooManyOpen}
use Rattle.am_model.specs.Begin.{taken}
use Rattle.am_model.specs.Causes.{begin_cause}
use Rattle.am_model.specs.Replay.{after_call}
use Rattle.am_model.specs.State.{State, opening_state}
use Rattle.am_model.proofs.examples.Base.{base, named, fires, group}

-- G00, G01, ..: so many names, the last one first
abbrev last_first : ℕ → List (List ℕ)
last_first zero = []
last_first (suc n) = (codes "G" ++ (48 + n / 10) ∷ (48 + n % 10) ∷ []) ∷ last_first n

-- the state after the insert of each at 0
abbrev all_in : List (List ℕ) → State
all_in names = fold (λ s name. after_call base s (Insert 0 (fires (named name) 0))) opening_state names

-- how many groups are open after so many begins at 30,000
abbrev begun_times : ℕ → State → State
begun_times zero s = s
begun_times (suc n) s = begun_times n (after_call base s (Begin 30_000))

-- sixty-five groups, sixty-four flushes
abbrev sixty_four_open : State
sixty_four_open = begun_times 64 (all_in (last_first 65))

in_order_of_names : map (λ f. f.group) sixty_four_open.flushes ≡ map group (reverse (last_first 64))
in_order_of_names = refl

no_more : begin_cause base 129 sixty_four_open 30_000 ≡ Some TooManyOpen
no_more = refl

-- one finish with nothing recorded, and the last group is taken
abbrev one_finished : State
one_finished = after_call base sixty_four_open (Finish 30_000 1 [])

last_taken : option_map (λ g. g.name) (taken one_finished 30_000) ≡ Some (group (codes "G64"))
last_taken = refl
