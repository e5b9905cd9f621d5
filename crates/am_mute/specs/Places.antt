-- Where silences are, by their ids.
use Rattle.std.specs.Prelude.{◌≡◌, ℕ, true, ◌==◌, List, nat_eq}
use Rattle.std.specs.HashMap.{get}
use Rattle.std.specs.List.{position}
use Rattle.am_mute.specs.Silence.{SilenceData}
use Rattle.am_mute.specs.declared.places.Places.{Places}

-- places are those of these silences: while they are whole, each id has the place of the first silence that has it
abbrev pub AreNoted : List SilenceData → Places → Type 0
AreNoted silences places = places.whole ≡ true → (id : ℕ) → get nat_eq places.places id ≡ position (λ s. id == s.id) silences
