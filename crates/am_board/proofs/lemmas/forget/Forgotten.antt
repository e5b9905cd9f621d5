-- Where a forgetting says that no alert went, the same alerts are known.
use Rattle.std.proofs.Common.{◌≡◌, ℕ, ◌+◌, cond, not, true, false, Bool, Some, List, [], ◌∷◌, count_by, refl, ap, ◌∙◌, arith}
use Rattle.std.proofs.lemmas.List.Sums.{sum_by-cons}
use Rattle.am_model.specs.declared.config.Config.{Config}
use Rattle.am_model.specs.declared.record.Call.TheVariants.{Forget}
use Rattle.am_model.specs.declared.record.Forgotten.{Forgotten}
use Rattle.am_model.specs.declared.record.Reply.TheVariants as replies
use Rattle.am_model.specs.Forget.{is_idle, forgotten}
use Rattle.am_model.specs.Lists.{without}
use Rattle.am_model.specs.Records.{entry}
use Rattle.am_model.specs.State.{State, time}
use Rattle.am_board.specs.declared.state.State as kept
use Rattle.am_board.specs.Refinement.{state_of}
use Rattle.am_board.specs.Step.{AppliesCall}

-- where none passes, none is left out
none_go : {X : Type 0} (test : X → Bool) (xs : List X) → count_by test xs ≡ 0 → without test xs ≡ xs
none_go test [] e = refl
none_go {X} test (x ∷ xs) e =
    elim (test x) as (λ b. count_by test (x ∷ xs) ≡ cond b 1 0 + count_by test xs → cond (not b) (x ∷ without test xs) (without test xs) ≡ x ∷ xs) [
      | true ↦ λ c. absurd (omega (arith, c, e))
      | false ↦ λ c. ap (λ ys. x ∷ ys) (none_go test xs (omega (arith, c, e)))
    ] (sum_by-cons (λ (y : X). cond (test y) 1 0) x xs)

module _ (config : Config) (id pass now : ℕ) (old new : kept.State) (x : Forgotten) (accepts : AppliesCall config id (entry pass (Forget now) (replies.Forgotten x)) old new) where
  returned : forgotten (state_of old) (time (state_of old) now) ≡ x
  returned = let said : Some (replies.Forgotten (forgotten (state_of old) (time (state_of old) now))) ≡ Some (replies.Forgotten x) = accepts.returned in cc

  pub same_known : x.alerts ≡ 0 → new.known.items ≡ old.known.items
  same_known none =
      ap (λ (s : State). s.known) accepts.state.rest
      ∙ none_go (is_idle (state_of old).groups (time (state_of old) now)) old.known.items (ap (λ (f : Forgotten). f.alerts) returned ∙ none)
