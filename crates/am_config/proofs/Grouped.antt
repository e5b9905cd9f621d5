-- The labels of `group_by`, one more at a time.
use Rattle.std.proofs.Common.{◌≡◌, ◌==◌, ◌+◌, ◌<◌, ◌&&◌, ◌||◌, ◌++◌, ◌∷◌, ◌∙◌, ℕ, Bool, true, false, List, [], Option, Some, length, take, get_or, ap, refl, subst, sym}
use Rattle.std.proofs.lemmas.List.Folds.{list_any-append}
use Rattle.std.specs.Cmp.Lexicographic.{nat_list_eq_equiv}
use Rattle.std.specs.List.{list_all, list_any}
use Rattle.std.specs.Prelude.{IsSomeAnd, MatchBool}
use Rattle.std.specs.Str.{bytes_eq}
use Rattle.serde_json.specs.Data.{Data, Items}
use Rattle.serde_json.specs.View.{items_view, view}
use Rattle.serde_json.specs.declared.value.Value.{Value}
use Rattle.am_alerts.proofs.LabelSets.{both_false}
use Rattle.am_alerts.specs.Labels.{has_text_twice, occurs_in}
use Rattle.am_alerts.specs.declared.route.GroupBy.{GroupBy}
use Rattle.am_alerts.specs.declared.route.GroupBy.TheVariants.{All, Names}
use Rattle.am_json.specs.Decoding.{DecodeEach}
use Rattle.am_json.specs.declared.faults.Fault.{Fault}
use Rattle.am_config.proofs.Collecting.{each_more}
use Rattle.am_config.specs.Collects.{Collects}
use Rattle.am_config.specs.Routes.{AreLabels, GroupsBy, are_all, is_all}
use Rattle.am_config.specs.Rules.{IsLabelName}

neither : (a b : Bool) → a ≡ false → b ≡ false → (a || b) ≡ false
neither true b p q = absurd (cc)
neither false b p q = q

-- one more name, which isn't among those before it
pub once_more : (names : List (List ℕ)) (name : List ℕ) → has_text_twice names ≡ false → list_any (λ known. bytes_eq known name) names ≡ false
    → has_text_twice (names ++ name ∷ []) ≡ false
once_more [] name once further = refl
once_more (n ∷ ns) name once further =
    let own = both_false (occurs_in n ns) (has_text_twice ns) once in
    let others = both_false (bytes_eq n name) (list_any (λ (known : List ℕ). bytes_eq known name) ns) further in
    neither (occurs_in n (ns ++ name ∷ [])) (has_text_twice (ns ++ name ∷ []))
    (list_any-append (λ (t : List ℕ). bytes_eq t n) ns (name ∷ [])
    ∙ neither (occurs_in n ns) (bytes_eq name n || false) own.0
    (neither (bytes_eq name n) false (nat_list_eq_equiv.symm name n ∙ others.0) refl))
    (once_more ns name own.1 others.1)

-- one more label
pub labels_more : (values : List Value) (i : ℕ) (value : Value) (name : List ℕ) (xs ys : List (List ℕ)) (initial before after : List Fault)
    → i < length values → value ≡ get_or values i value
    → Collects initial before (AreLabels (items_view (take i values)) xs)
    → Collects before after (IsLabelName (view value) name × (list_any (λ known. bytes_eq known name) xs ≡ false)) → ys ≡ xs ++ name ∷ []
    → Collects initial after (AreLabels (items_view (take (i + 1) values)) ys)
labels_more values i value name xs ys initial before after here is so_far more pushed =
    λ none.
    let read = more none in
    let done = so_far read.0 in
    let each =
    each_more IsLabelName values i value name xs ys initial before after here is (λ b. let d = so_far b in (d.0, d.1.0)) (λ a. let m = more a in (m.0, m.1.0)) pushed
    none in (
      each.0,
      (each.1, ap has_text_twice pushed ∙ once_more xs name done.1.1 read.1.1),
    )

-- whether all items mean all labels
pub all_items : (values : List Value) → list_all (λ (v : Value). is_all (view v)) values ≡ are_all (items_view values)
all_items [] = refl
all_items (v ∷ vs) = ap (λ b. is_all (view v) && b) (all_items vs)

-- an array whose items all mean all labels
pub groups_all : (array : Option Items) (values : List Value) → array ≡ Some (items_view values) → (length values == 0) ≡ false
    → list_all (λ (v : Value). is_all (view v)) values ≡ true → IsSomeAnd array (λ items. GroupsBy items (Some All))
groups_all array [] is some all = absurd (cc)
groups_all array (v ∷ vs) is some all =
    let Other = λ (items : Items). (names : List (List ℕ)) × (Some All ≡ Some (Names names)) × AreLabels items names in
    subst (λ (o : Option Items). IsSomeAnd o (λ items. GroupsBy items (Some All))) (sym is)
    (subst (λ (b : Bool). MatchBool b (Some All ≡ Some All) (Other (items_view (v ∷ vs)))) (sym (sym (all_items (v ∷ vs)) ∙ all)) refl)

-- an array of labels
pub groups_names : (array : Option Items) (values : List Value) (names : List (List ℕ)) → array ≡ Some (items_view values) → (length values == 0) ≡ false
    → list_all (λ (v : Value). is_all (view v)) values ≡ false → AreLabels (items_view values) names
    → IsSomeAnd array (λ items. GroupsBy items (Some (Names names)))
groups_names array [] names is some others are = absurd (cc)
groups_names array (v ∷ vs) names is some others are =
    let Other = λ (items : Items). (ns : List (List ℕ)) × (Some (Names names) ≡ Some (Names ns)) × AreLabels items ns in
    subst (λ (o : Option Items). IsSomeAnd o (λ items. GroupsBy items (Some (Names names)))) (sym is)
    (subst (λ (b : Bool). MatchBool b (Some (Names names) ≡ Some All) (Other (items_view (v ∷ vs)))) (sym (sym (all_items (v ∷ vs)) ∙ others))
    (names, refl, are))
