-- A silence that asks for a label mutes only label sets that have it, so it is found by one of their labels.
use Rattle.std.proofs.Common.{◌≡◌, ℕ, suc, ◌<◌, Bool, true, false, true≢false, cond, ◌||◌, List, [], ◌∷◌, length, get_or, take, drop, ◌-◌}
use Rattle.std.proofs.Common.{find, unwrap_or, Option, Some, None, option_map, is_some, inl, inr, ◌⊎◌, refl, sym, ap, ◌∙◌, subst, arith}
use Rattle.std.specs.Prelude.{nat_lt}
use Rattle.std.specs.List.{list_all, list_any}
use Rattle.std.specs.Str.{bytes_eq}
use Rattle.std.specs.Cmp.Lexicographic.{bytes_decides}
use Rattle.std.proofs.lemmas.Bool.{and_parts}
use Rattle.std.proofs.lemmas.List.{take-append-drop, take_rest}
use Rattle.std.proofs.lemmas.List.Folds.{list_all-append, list_all_at, list_any-append, list_any_at}
use Rattle.am_alerts.specs.Labels.{value_in, value_of}
use Rattle.am_alerts.specs.Matcher.{compare_texts, match_all, matches_parts, passes}
use Rattle.am_alerts.specs.declared.labels.Label.{Label}
use Rattle.am_alerts.specs.declared.matcher.MatcherParts.{MatcherParts}
use Rattle.am_alerts.specs.declared.matcher.Operator.{Operator}
use Rattle.am_alerts.specs.declared.matcher.Operator.TheVariants.{Equal, NotEqual, Like, NotLike}
use Rattle.am_mute.specs.Matching.{silences_compare_texts}
use Rattle.am_mute.specs.Silence.{SilenceData, is_active, is_silenced, silence_mutes}
use Rattle.am_mute.specs.SilenceIndex.{AreUnmuted, HasIndex, IsIndexed, requires_label, is_equal, key_by, key_of, label_hash}
use Rattle.am_mute.specs.Sources.{IsAt}
use Rattle.am_mute.specs.declared.silence_index.SilenceIndex.{SilenceIndex}
use Rattle.am_mute.specs.declared.silence_index.TheConstants.{NO_LABEL}
use Rattle.am_mute.proofs.BucketWalk.{none_before, not_true}
use Rattle.am_mute.proofs.Firsts.{is_some-find}

-- ---- the label that a matcher asks for

-- a label set has a label of this name and value
pub record HasLabel (name value : List ℕ) (labels : List Label) : Type 0 where
  pub position : ℕ
  pub label : Label
  pub at : IsAt labels position label
  pub name_is : label.name ≡ name
  pub value_is : label.value ≡ value

has_later : (name value : List ℕ) (x : Label) (labels : List Label) → HasLabel name value labels → HasLabel name value (x ∷ labels)
has_later name value x labels has =
    record {
      position = suc has.position;
      label = has.label;
      at = (omega (arith, has.at.0), has.at.1);
      name_is = has.name_is;
      value_is =
          has.value_is;
    }

its_value : (name value : List ℕ) (labels : List Label) → value_in name labels ≡ Some value → HasLabel name value labels
its_value name value [] e = absurd (cc)
its_value name value (x ∷ labels) e =
    elim (bytes_eq x.name name) as (λ b. bytes_eq x.name name ≡ b
    → option_map (λ (l : Label). l.value) (cond b (Some x) (find (λ (l : Label). bytes_eq l.name name) labels)) ≡ Some value
    → HasLabel name value (x ∷ labels)) [
      | true ↦ λ same there.
          record {
            position = 0;
            label = x;
            at = (omega arith, refl);
            name_is = (bytes_decides x.name name).0 same;
            value_is =
                ap (λ (o : Option (List ℕ)). unwrap_or o []) there;
          }
      | false ↦ λ other there. has_later name value x labels (its_value name value labels there)
    ] refl e

has_value : (o : Option (List ℕ)) (value : List ℕ) → nat_lt 0 (length value) ≡ true → unwrap_or o [] ≡ value → o ≡ Some value
has_value None value long e = absurd (true≢false (sym long ∙ ap (λ (v : List ℕ). nat_lt 0 (length v)) (sym e)))
has_value (Some v) value long e = ap Some e

equal_passes : (op : Operator) (wanted value : List ℕ) → is_equal op ≡ true → passes op wanted value ≡ true → value ≡ wanted
equal_passes Equal wanted value is e = (bytes_decides value wanted).0 e
equal_passes NotEqual wanted value is e = absurd (true≢false (sym is))
equal_passes Like wanted value is e = absurd (true≢false (sym is))
equal_passes NotLike wanted value is e = absurd (true≢false (sym is))

-- a label set that a matcher matches has the label that it asks for
pub holds_required : (m : MatcherParts) (labels : List Label) → requires_label m ≡ true → matches_parts m labels ≡ true → HasLabel m.name m.value labels
holds_required m labels required matches =
    let parts = and_parts (is_equal m.op) (nat_lt 0 (length m.value)) required in
    its_value m.name m.value labels
    (has_value (value_in m.name labels) m.value parts.1 (equal_passes m.op m.value (value_of m.name labels) parts.0 matches))

-- the first that passes a test passes it, and what all pass
found_both : {X : Type 0} (p q : X → Bool) (xs : List X) (x : X) → list_all q xs ≡ true → find p xs ≡ Some x → (p x ≡ true) × (q x ≡ true)
found_both p q [] x all e = absurd (cc)
found_both p q (y ∷ ys) x all e =
    let parts = and_parts (q y) (list_all q ys) all in
    elim (p y) as (λ b. p y ≡ b → cond b (Some y) (find p ys) ≡ Some x → (p x ≡ true) × (q x ≡ true)) [
      | true ↦ λ passes there.
          let same : y ≡ x = ap (λ o. unwrap_or o y) there in
          (ap p (sym same) ∙ passes, ap q (sym same) ∙ parts.0)
      | false ↦ λ fails there. found_both p q ys x parts.1 there
    ] refl e

-- ---- one silence of a list

-- a silence that mutes
pub one_mutes : (silences : List SilenceData) (labels : List Label) (t i : ℕ) (s : SilenceData) → i < length silences
    → s ≡ get_or silences i s → silence_mutes s t labels ≡ true
    → is_silenced labels t silences ≡ true
one_mutes silences labels t i s within here mutes =
    list_any_at (λ (x : SilenceData). silence_mutes x t labels) silences i s within
    (ap (λ (x : SilenceData). silence_mutes x t labels) (sym here) ∙ mutes)

true_of : (b : Bool) → (b ≡ false → ⊥) → b ≡ true
true_of true h = refl
true_of false h = absurd (h refl)

-- its matchers compare texts, if those of all do
pub one_compares : (silences : List SilenceData) (i : ℕ) (s : SilenceData) → i < length silences → s ≡ get_or silences i s
    → silences_compare_texts silences ≡ true
    → compare_texts s.matchers ≡ true
one_compares silences i s within here all =
    true_of (compare_texts s.matchers) (λ fails.
    true≢false (sym all ∙ list_all_at (λ (x : SilenceData). compare_texts x.matchers) silences i s within
    (ap (λ (x : SilenceData). compare_texts x.matchers) (sym here) ∙ fails)))

-- and so do those of the silences from an index on
pub rest_compares : (silences : List SilenceData) (n : ℕ) → silences_compare_texts silences ≡ true
    → silences_compare_texts (take (length silences - n) (drop n silences)) ≡ true
rest_compares silences n all =
    let compare = λ (x : SilenceData). compare_texts x.matchers in
    ap (list_all compare) (take_rest silences n)
    ∙ (and_parts (list_all compare (take n silences)) (list_all compare (drop n silences))
    (sym (list_all-append compare (take n silences) (drop n silences)) ∙ (ap (list_all compare) (take-append-drop n silences) ∙ all))).1

-- ---- where a silence is

-- an index under one of the first n labels
pub record IsUnder (index : SilenceIndex) (labels : List Label) (n position : ℕ) : Type 0 where
  pub label_index : ℕ
  pub label : Label
  pub at : IsAt labels label_index label
  pub less : label_index < n
  pub has : HasIndex index (label_hash index.seed label.name label.value) position

-- a silence that was indexed is under one of the labels that it matches, or asks for none
pub its_index : (silences : List SilenceData) (index : SilenceIndex) → IsIndexed silences index → (labels : List Label)
    → (i : ℕ) (s : SilenceData) → IsAt silences i s → i < index.indexed → match_all s.matchers labels ≡ true
    → IsUnder index labels (length labels) i ⊎ HasIndex index NO_LABEL i
its_index silences index indexed labels i s at less matched =
    elim (find requires_label s.matchers) as (λ o. find requires_label s.matchers ≡ o
    → IsUnder index labels (length labels) i ⊎ HasIndex index NO_LABEL i) [
      | None ↦ λ e. inr (subst (λ k. HasIndex index k i) (ap (key_by index.seed) e) (indexed.found i s at less))
      | Some m ↦ λ e.
          let both = found_both requires_label (λ (x : MatcherParts). matches_parts x labels) s.matchers m matched e in
          let has = holds_required m labels both.0 both.1 in
          let key : key_of index.seed s.matchers ≡ label_hash index.seed has.label.name has.label.value =
          ap (key_by index.seed) e ∙ (λ j. label_hash index.seed (sym has.name_is j) (sym has.value_is j)) in
          inl (record {
            label_index = has.position;
            label = has.label;
            at = has.at;
            less = has.at.0;
            has = subst (λ k. HasIndex index k i) key (indexed.found i s at less);
          })
    ] refl

-- ---- what the look-ups say of all silences

module _ (silences : List SilenceData) (index : SilenceIndex) (indexed : IsIndexed silences index) (labels : List Label) (t : ℕ)
    (by_label : (j : ℕ) (l : Label) → IsAt labels j l → AreUnmuted (HasIndex index (label_hash index.seed l.name l.value)) labels t silences)
    (others : AreUnmuted (HasIndex index NO_LABEL) labels t silences) where
  -- a silence that is found by something isn't muting, if it matches
  found_by : (i : ℕ) (s : SilenceData) → IsAt silences i s → i < index.indexed → match_all s.matchers labels ≡ true
      → silence_mutes s t labels ≡ false
  found_by i s at less matched =
      elim (its_index silences index indexed labels i s at less matched) [
        | inl under ↦ by_label under.label_index under.label under.at i s under.has at
        | inr none ↦ others i s none at
      ]

  none_mutes : (i : ℕ) (s : SilenceData) → IsAt silences i s → i < index.indexed → silence_mutes s t labels ≡ false
  none_mutes i s at less =
      not_true (silence_mutes s t labels) (λ mutes.
      let matched = and_parts (is_active s t) (match_all s.matchers labels) mutes in
      true≢false (sym mutes ∙ found_by i s at less matched.1))

  -- so the others decide
  pub rest_decides : is_silenced labels t (drop index.indexed silences) ≡ is_silenced labels t silences
  rest_decides =
      let mutes = λ (s : SilenceData). silence_mutes s t labels in
      let first : list_any mutes (take index.indexed silences) ≡ false =
      sym (is_some-find mutes (take index.indexed silences)) ∙ ap is_some (none_before mutes silences index.indexed none_mutes) in
      sym (ap (list_any mutes) (sym (take-append-drop index.indexed silences))
      ∙ (list_any-append mutes (take index.indexed silences) (drop index.indexed silences)
      ∙ ap (λ b. b || list_any mutes (drop index.indexed silences)) first))
