-- Label names.
use Rattle.std.proofs.Common.{◌≡◌, ◌≤◌, Bool, true, false, ◌&&◌, List, ℕ, [], ◌∷◌, length, get_or, take, drop, ◌-◌, ap, sym, ◌∙◌, arith}
use Rattle.std.proofs.lemmas.List.{take_all}
use Rattle.std.specs.List.{list_all}
use Rattle.am_alerts.specs.Labels.{is_label_name, begins_name, is_name_byte}

-- a text that begins as a name does is a name if the rest goes on as one
pub is_label_name-begun : (s : List ℕ) → 1 ≤ length s → begins_name (get_or s 0 0) ≡ true
    → is_label_name s ≡ list_all is_name_byte (take (length s - 1) (drop 1 s))
is_label_name-begun [] long begun = absurd (omega arith)
is_label_name-begun (b ∷ bs) long begun = ap (λ (t : Bool). t && list_all is_name_byte bs) begun
    ∙ ap (list_all is_name_byte) (sym (take_all _ bs (omega arith)))

-- a text that doesn't is no name
pub is_label_name-other : (s : List ℕ) → 1 ≤ length s → begins_name (get_or s 0 0) ≡ false → is_label_name s ≡ false
is_label_name-other [] long other = absurd (omega arith)
is_label_name-other (b ∷ bs) long other = ap (λ (t : Bool). t && list_all is_name_byte bs) other
