-- What is asked with words and without.
use Rattle.std.proofs.Common.{◌≡◌, ℕ, Bool, true, List, [], ◌∷◌, Option, None, refl, subst, sym}
use Rattle.am_alerts.specs.RoutingTree.{RoutingTree}
use Rattle.am_commands.specs.AskedRoutes.{PrintsAsked, ShowsAsked, ShowsLabels}
use Rattle.am_commands.specs.Lines.{Adds}
use Rattle.am_commands.specs.RouteLines.{ShowsTree}

-- with words it is what their label set reaches
pub with_words : (words : List (List ℕ)) (verify : Option (List ℕ)) (tree : RoutingTree) (same : Bool) (before after : List ℕ) → (words ≡ [] → ⊥)
    → Adds (ShowsLabels words verify tree same) before after → PrintsAsked words verify tree same before after
with_words [] verify tree same before after some so = absurd (some refl)
with_words (word ∷ words) verify tree same before after some so = so

-- without words it is the tree
pub without_words : (words : List (List ℕ)) (verify : Option (List ℕ)) (tree : RoutingTree) (before after : List ℕ) → words ≡ [] → verify ≡ None
    → Adds (ShowsTree tree) before after → PrintsAsked words verify tree true before after
without_words words verify tree before after none unverified so =
    subst (λ (ws : List (List ℕ)). PrintsAsked ws verify tree true before after) (sym none) (so.0, so.1, (unverified, refl, so.2))
