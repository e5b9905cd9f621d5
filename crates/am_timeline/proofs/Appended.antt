-- A text to which two more are added, one after the other.
use Rattle.std.proofs.Common.{◌≡◌, ◌∙◌, ◌++◌, List, ℕ, ap, append_assoc}

pub two_added : (start first second third one two : List ℕ) → one ≡ start ++ first → two ≡ one ++ second
    → two ++ third ≡ start ++ (first ++ (second ++ third))
two_added start first second third one two is_one is_two =
    ap (λ (t : List ℕ). t ++ third) (is_two ∙ ap (λ (t : List ℕ). t ++ second) is_one)
    ∙ append_assoc (start ++ first) second third ∙ append_assoc start first (second ++ third)
