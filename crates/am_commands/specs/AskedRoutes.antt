-- AskedRoutes: what `routes` prints of a routing tree.
use Rattle.std.specs.Prelude.{◌≡◌, ◌⊎◌, ℕ, Bool, true, List, [], ◌∷◌, Option, None, Some, IsSome}
use Rattle.std.specs.Str.{bytes_eq}
use Rattle.am_alerts.specs.RoutingTree.{RoutingTree}
use Rattle.am_alerts.specs.declared.labels.Label.{Label}
use Rattle.am_commands.specs.LabelWords.{AreLabels, AreNoLabels}
use Rattle.am_commands.specs.Lines.{Adds}
use Rattle.am_commands.specs.RouteLines.{ShowsReached, ShowsTree, receivers_text}

-- whether these receivers are those that are to be verified, if any are
abbrev pub is_verified : Option (List ℕ) → List ℕ → Bool
is_verified None receivers = true
is_verified (Some wanted) receivers = bytes_eq wanted receivers

-- the text is a line for each route that the words' label set reaches; `same` is whether the receivers are those that are to be verified
abbrev pub ShowsLabels : List (List ℕ) → Option (List ℕ) → RoutingTree → Bool → List ℕ → Type 0
ShowsLabels words verify tree same text =
    (labels : List Label) × AreLabels words labels × (same ≡ is_verified verify (receivers_text tree labels))
    × ShowsReached tree labels text

-- the same, or without words the tree
abbrev pub ShowsAsked : List (List ℕ) → Option (List ℕ) → RoutingTree → Bool → List ℕ → Type 0
ShowsAsked [] verify tree same text = (verify ≡ None) × (same ≡ true) × ShowsTree tree text
ShowsAsked (word ∷ words) verify tree same text = ShowsLabels (word ∷ words) verify tree same text

-- what was written since is that text
abbrev pub PrintsAsked : List (List ℕ) → Option (List ℕ) → RoutingTree → Bool → List ℕ → List ℕ → Type 0
PrintsAsked words verify tree same taken_before taken = Adds (ShowsAsked words verify tree same) taken_before taken

-- the words write no label set, or there are none where receivers are to be verified
abbrev pub RejectsAsked : List (List ℕ) → Option (List ℕ) → Type 0
RejectsAsked words verify = AreNoLabels words ⊎ ((words ≡ []) × IsSome verify)
