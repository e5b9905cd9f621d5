-- Names of labels that are read, and what represents all of them.
use Rattle.std.proofs.Common.{◌≡◌, ◌<◌, ◌≤◌, ◌||◌, ◌∙◌, ℕ, Bool, true, false, List, [], ◌∷◌, Option, Some, None, length, MatchOption, ap, refl, subst, sym, arith}
use Rattle.std.specs.Prelude.{IsTrue}
use Rattle.std.proofs.lemmas.Slice.Eq.{bytes_eq-Decides}
use Rattle.std.specs.List.{list_all, list_any}
use Rattle.std.specs.Str.{bytes_eq}
use Rattle.serde_json.specs.Find.{as_array}
use Rattle.serde_json.specs.Data.{Data, Items, no_items, item, null, boolean, number, string, array, object}
use Rattle.am_alerts.specs.declared.limits.TheConstants.{MAX_LABEL_NAMES}
use Rattle.am_alerts.specs.declared.route.GroupBy.{GroupBy}
use Rattle.am_alerts.specs.declared.route.GroupBy.TheVariants.{All, Names}
use Rattle.am_json.specs.Configured.{IsGroupBy, all_labels}
use Rattle.am_json.specs.Decoding.{IsList, IsText, DecodeEach}
use Rattle.am_json.proofs.Decoding.{all_sure}
use Rattle.am_json.proofs.Once.{one_list, one_text_of}

-- a value that is a text is just that text
pub is_string : (value : Data) (text : List ℕ) → IsText value text → value ≡ string text
is_string null text is = absurd (cc)
is_string (boolean b) text is = absurd (cc)
is_string (number n) text is = absurd (cc)
is_string (string s) text is = cc
is_string (array ds) text is = absurd (cc)
is_string (object ms) text is = absurd (cc)

or_false : (b : Bool) → (b || false) ≡ true → b ≡ true
or_false true is = refl
or_false false is = is

-- one item alone, which represents all labels
only_all : (items : Items) (names : List (List ℕ)) → DecodeEach IsText items names
    → list_any (λ name. bytes_eq name all_labels) names ≡ true → length names ≤ 1 → items ≡ item (string all_labels) no_items
only_all no_items [] decoded all few = absurd (cc)
only_all no_items (n ∷ ns) decoded all few = absurd decoded
only_all (item d ds) [] decoded all few = absurd decoded
only_all (item d no_items) (n ∷ []) decoded all few =
    ap (λ v. item v no_items) (is_string d n decoded.0 ∙ ap string ((bytes_eq-Decides n all_labels).0 (or_false (bytes_eq n all_labels) all)))
only_all (item d (item e es)) (n ∷ []) decoded all few = absurd decoded.1
only_all (item d ds) (n ∷ m ∷ ns) decoded all few = absurd (omega (arith, few))

-- an array of that item alone
pub all_alone : (found : Option Items) (names : List (List ℕ)) → MatchOption found ⊥ (λ items. DecodeEach IsText items names)
    → list_any (λ name. bytes_eq name all_labels) names ≡ true → length names ≤ 1 → found ≡ Some (item (string all_labels) no_items)
all_alone None names decoded all few = absurd decoded
all_alone (Some items) names decoded all few = ap Some (only_all items names decoded all few)

-- one item that represents all labels is a list of one name
listed_alone : (value : Data) → as_array value ≡ Some (item (string all_labels) no_items) → IsList IsText value (all_labels ∷ [])
listed_alone value is = subst (λ (o : Option Items). MatchOption o ⊥ (λ items. DecodeEach IsText items (all_labels ∷ []))) (sym is) (refl, tt)

-- a value that is refused as a list of names says none by which a route groups
pub excluded_names : (value : Data) (g : GroupBy)
    → ((names : List (List ℕ)) → IsList IsText value names × IsTrue (list_all (λ n. true) names) × (length names ≤ MAX_LABEL_NAMES) → ⊥) → IsGroupBy value g → ⊥
excluded_names value All excluded decoded = excluded (all_labels ∷ []) (listed_alone value decoded, refl, omega arith)
excluded_names value (Names names) excluded decoded = excluded names (decoded.0, all_sure names, decoded.2)

-- nor does one that lists all labels, and not alone
pub no_more_names : (value : Data) (g : GroupBy) (names : List (List ℕ)) → IsList IsText value names
    → list_any (λ name. bytes_eq name all_labels) names ≡ true → 1 < length names → IsGroupBy value g → ⊥
no_more_names value All names is all more decoded =
    let same : names ≡ all_labels ∷ [] = one_list IsText one_text_of value names (all_labels ∷ []) is (listed_alone value decoded) in
    absurd (omega (arith, ap length same))
no_more_names value (Names others) names is all more decoded =
    let same : others ≡ names = one_list IsText one_text_of value others names decoded.0 is in
    absurd (cc (ap (λ ns. list_any (λ name. bytes_eq name all_labels) ns) same, decoded.1))
