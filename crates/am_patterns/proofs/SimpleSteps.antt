-- Simple patterns: what is left behind one more character.
use Rattle.std.proofs.Common.{◌≡◌, ℕ, false, List, ◌∷◌, None, Some, sym, ap}
use Rattle.am_patterns.specs.declared.simple.Place.{Place}
use Rattle.am_patterns.specs.Simple.{behind, is_simple_from}

-- no place is behind the character
pub behind_none : (p : Place) (c : ℕ) (cs : List ℕ) → None ≡ behind p c → is_simple_from (Some p) (c ∷ cs) ≡ false
behind_none p c cs none = ap (λ o. is_simple_from o cs) (sym none)

-- a place is behind the character
pub behind_some : (p q : Place) (c : ℕ) (cs : List ℕ) → Some q ≡ behind p c → is_simple_from (Some p) (c ∷ cs) ≡ is_simple_from (Some q) cs
behind_some p q c cs some = ap (λ o. is_simple_from o cs) (sym some)
