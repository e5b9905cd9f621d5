-- Items of an array that are read one for one.
use Rattle.std.proofs.Common.{◌≡◌, ◌+◌, ◌<◌, ◌++◌, ◌∷◌, ◌∙◌, ℕ, [], List, ap, get_or, length, subst, sym, take}
use Rattle.std.proofs.lemmas.List.{take_more}
use Rattle.serde_json.specs.Data.{Data}
use Rattle.serde_json.specs.View.{items_view, view}
use Rattle.serde_json.specs.declared.value.Value.{Value}
use Rattle.am_json.specs.Decoding.{DecodeEach}
use Rattle.am_json.proofs.Members.{decode_more}

-- the next value, and what it is read as
pub decode_next : {X : Type 0} (decodes_to : Data → X → Type 0) (values : List Value) (i : ℕ) (value : Value) (x : X) (xs ys : List X)
    → i < length values → value ≡ get_or values i value → DecodeEach decodes_to (items_view (take i values)) xs
    → decodes_to (view value) x → ys ≡ xs ++ x ∷ [] → DecodeEach decodes_to (items_view (take (i + 1) values)) ys
decode_next decodes_to values i value x xs ys here is so_far read pushed =
    let taken : take (i + 1) values ≡ take i values ++ value ∷ [] =
    take_more values i value here ∙ ap (λ (v : Value). take i values ++ v ∷ []) (sym is) in
    subst (λ zs. DecodeEach decodes_to (items_view (take (i + 1) values)) zs) (sym pushed)
    (subst (λ (vs : List Value). DecodeEach decodes_to (items_view vs) (xs ++ x ∷ [])) (sym taken)
    (decode_more decodes_to (take i values) xs value x so_far read))
