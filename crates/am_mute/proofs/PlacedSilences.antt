-- The indexes of silences.
use Rattle.std.proofs.Common.{◌≡◌, ℕ, ◌<◌, true, false, eqb, List, length, get_or, refl}
use Rattle.std.specs.Prelude.{All, nat_eq}
use Rattle.std.proofs.lemmas.Bool.{eqb-false}
use Rattle.std.proofs.lemmas.List.Folds.{list_any_at}
use Rattle.am_mute.specs.Silence.{SilenceData}
use Rattle.am_mute.specs.SilenceIndex.{ArePlaced, indexes_at}
use Rattle.am_mute.specs.declared.silence_index.SilenceIndex.{SilenceIndex}

-- a number is itself
same_number : (n : ℕ) → nat_eq n n ≡ true
same_number n =
    elim (eqb n n) as (λ b. eqb n n ≡ b → b ≡ true) [
      | true ↦ λ e. refl
      | false ↦ λ e. absurd (eqb-false n n e refl)
    ] refl

-- the indexes under a key are those of silences
pub are_within : (silences : List SilenceData) (index : SilenceIndex) → ArePlaced silences index → (key : ℕ)
    → All (λ p. p < length silences) (indexes_at index key)
are_within silences index placed key i d less =
    let position = get_or (indexes_at index key) i d in
    placed key position (list_any_at (λ p. nat_eq p position) (indexes_at index key) i d less (same_number position))
