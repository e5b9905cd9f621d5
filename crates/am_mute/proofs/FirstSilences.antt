-- The first silence that mutes, by walks over indexes.
use Rattle.std.proofs.Common.{◌≡◌, ℕ, ◌+◌, ◌<◌, ◌≤◌, ◌≢◌, Bool, true, false, true≢false, eqb, eqb-true, ◌||◌, List, [], ◌∷◌, length}
use Rattle.std.proofs.Common.{find, get_or, take, Some, None, inl, inr, ◌⊎◌, refl, sym, ap, ◌∙◌, subst, arith}
use Rattle.std.specs.Prelude.{nat_eq, ⊤}
use Rattle.std.specs.List.{list_any}
use Rattle.std.proofs.lemmas.Bool.{and_parts, cases_lt, eqb-false}
use Rattle.std.proofs.lemmas.List.{get_or_default, take_more}
use Rattle.std.proofs.lemmas.List.Folds.{list_any-append}
use Rattle.am_alerts.specs.Matcher.{match_all}
use Rattle.am_alerts.specs.declared.labels.Label.{Label}
use Rattle.am_alerts.proofs.Finding.{find_here, find_none_all}
use Rattle.am_mute.specs.Mute.{silence_for}
use Rattle.am_mute.specs.Silence.{SilenceData, is_active, silence_mutes}
use Rattle.am_mute.specs.SilenceIndex.{HasIndex, IsFirst, IsIndexed, IsOneOf, label_hash}
use Rattle.am_mute.specs.Sources.{IsAt}
use Rattle.am_mute.specs.declared.silence_index.SilenceIndex.{SilenceIndex}
use Rattle.am_mute.specs.declared.silence_index.TheConstants.{NO_LABEL}
use Rattle.am_mute.proofs.RequiredLabels.{IsUnder, its_index}
use Rattle.am_mute.proofs.BucketWalk.{none_before, not_true}

module _ (labels : List Label) (t : ℕ) (silences : List SilenceData) where
  -- nothing was walked yet
  pub first_none : (bound : ℕ) (Here : ℕ → Type 0) → ((i : ℕ) → Here i → ⊥) → IsFirst Here labels t silences bound bound
  first_none bound Here none =
      record {
        within = omega arith;
        mutes = λ s less at. absurd (omega (arith, less));
        none = λ i s here less at. absurd (none i here);
      }

  -- a walk that goes on from what another found
  pub first_joined : (Here There Both : ℕ → Type 0) (bound middle first : ℕ) → IsFirst Here labels t silences bound middle
      → IsFirst There labels t silences middle first → ((i : ℕ) → Both i → Here i ⊎ There i) → IsFirst Both labels t silences bound first
  first_joined Here There Both bound middle first before after either =
      record {
        within = omega (arith, before.within, after.within);
        mutes = mutes;
        none = none;
      }
    where
      mutes : (s : SilenceData) → first < bound → IsAt silences first s → silence_mutes s t labels ≡ true
      mutes s less at =
          elim (eqb first middle) as (λ b. eqb first middle ≡ b → silence_mutes s t labels ≡ true) [
            | true ↦ λ e.
                let same : first ≡ middle = eqb-true first middle e in
                before.mutes s (omega (arith, less, same)) (subst (λ i. IsAt silences i s) same at)
            | false ↦ λ e.
                let apart : first ≢ middle = eqb-false first middle e in
                after.mutes s (omega (arith, after.within, apart)) at
          ] refl

      none : (i : ℕ) (s : SilenceData) → Both i → i < first → IsAt silences i s → silence_mutes s t labels ≡ false
      none i s both less at =
          elim (either i both) [
            | inl here ↦ before.none i s here (omega (arith, less, after.within)) at
            | inr there ↦ after.none i s there less at
          ]

  -- one silence
  pub first_here : (position bound : ℕ) (s : SilenceData) → position < bound → position < length silences → s ≡ get_or silences position s
      → silence_mutes s t labels ≡ true → IsFirst (λ i. i ≡ position) labels t silences bound position
  first_here position bound s less within here passes =
      record {
        within = omega (arith, less);
        mutes = λ y less_too at.
            ap (λ (x : SilenceData). silence_mutes x t labels) (at.1 ∙ (get_or_default silences position y s within ∙ sym here)) ∙ passes;
        none = λ i y same below at. absurd (omega (arith, same, below));
      }

  pub first_not_here : (position bound : ℕ) (s : SilenceData) → position < length silences → s ≡ get_or silences position s
      → silence_mutes s t labels ≡ false → IsFirst (λ i. i ≡ position) labels t silences bound bound
  first_not_here position bound s within here fails =
      record {
        within = omega arith;
        mutes = λ y less at. absurd (omega (arith, less));
        none = λ i y same below at.
            ap (λ (x : SilenceData). silence_mutes x t labels)
            (at.1 ∙ (ap (λ j. get_or silences j y) same ∙ (get_or_default silences position y s within ∙ sym here))) ∙ fails;
      }

  -- a silence that is behind the bound
  pub first_behind : (position bound : ℕ) → bound ≤ position → IsFirst (λ i. i ≡ position) labels t silences bound bound
  first_behind position bound behind =
      record {
        within = omega arith;
        mutes = λ y less at. absurd (omega (arith, less));
        none = λ i y same below at. absurd (omega (arith, same, below, behind));
      }

-- one of the indexes and one more is one of those or that one
pub one_more : (indexes : List ℕ) (n position : ℕ) → n < length indexes → position ≡ get_or indexes n 0 → (i : ℕ)
    → IsOneOf (take (n + 1) indexes) i → IsOneOf (take n indexes) i ⊎ (i ≡ position)
one_more indexes n position within here i among =
    let split : list_any (λ p. nat_eq p i) (take n indexes) || (nat_eq (get_or indexes n 0) i || false) ≡ true =
    sym (ap (list_any (λ p. nat_eq p i)) (take_more indexes n 0 within)
    ∙ list_any-append (λ p. nat_eq p i) (take n indexes) (get_or indexes n 0 ∷ [])) ∙ among in
    elim (list_any (λ p. nat_eq p i) (take n indexes)) as (λ b. list_any (λ p. nat_eq p i) (take n indexes) ≡ b
    → b || (nat_eq (get_or indexes n 0) i || false) ≡ true → IsOneOf (take n indexes) i ⊎ (i ≡ position)) [
      | true ↦ λ e h. inl e
      | false ↦ λ e h. inr (sym (here ∙ eqb-true (get_or indexes n 0) i (or_false (nat_eq (get_or indexes n 0) i) h)))
    ] refl split
  where
    or_false : (b : Bool) → b || false ≡ true → b ≡ true
    or_false true h = refl
    or_false false h = h

-- under the first n and one more label it is under the first n, or under that one
pub under_more : (index : SilenceIndex) (labels : List Label) (n : ℕ) (x : Label) → n < length labels → x ≡ get_or labels n x → (position : ℕ)
    → IsUnder index labels (n + 1) position → IsUnder index labels n position ⊎ HasIndex index (label_hash index.seed x.name x.value) position
under_more index labels n x within here position under =
    elim (eqb under.label_index n) as (λ b. eqb under.label_index n ≡ b
    → IsUnder index labels n position ⊎ HasIndex index (label_hash index.seed x.name x.value) position) [
      | true ↦ λ e.
          let same : under.label ≡ x =
          under.at.1 ∙ (ap (λ j. get_or labels j under.label) (eqb-true under.label_index n e)
          ∙ (get_or_default labels n under.label x within ∙ sym here)) in
          inr (subst (λ (l : Label). HasIndex index (label_hash index.seed l.name l.value) position) same under.has)
      | false ↦ λ e.
          let apart : under.label_index ≢ n = eqb-false under.label_index n e in
          inl (record {
            label_index = under.label_index;
            label = under.label;
            at = under.at;
            less = omega (arith, under.less, apart);
            has = under.has;
          })
    ] refl

-- an index at which the walks by labels, by none and over the rest come
abbrev IsWalked : SilenceIndex → List Label → ℕ → Type 0
IsWalked index labels i = (IsUnder index labels (length labels) i ⊎ HasIndex index NO_LABEL i) ⊎ (index.indexed ≤ i)

-- what the walks by labels, by none and over the rest found is the first of all
pub first_of_all : (silences : List SilenceData) (index : SilenceIndex) → IsIndexed silences index → (labels : List Label) (t by by_none first : ℕ)
    → IsFirst (λ i. IsUnder index labels (length labels) i) labels t silences (length silences) by
    → IsFirst (HasIndex index NO_LABEL) labels t silences by by_none
    → IsFirst (λ i. index.indexed ≤ i) labels t silences by_none first
    → IsFirst (λ i. ⊤) labels t silences (length silences) first
first_of_all silences index indexed labels t by by_none first labelled others rest =
    record { within = omega (arith, labelled.within, others.within, rest.within); mutes = joined.mutes; none = none }
  where
    joined : IsFirst (IsWalked index labels) labels t silences (length silences) first
    joined =
        first_joined labels t silences (λ i. IsUnder index labels (length labels) i ⊎ HasIndex index NO_LABEL i)
        (λ i. index.indexed ≤ i) (IsWalked index labels) (length silences) by_none first
        (first_joined labels t silences (λ i. IsUnder index labels (length labels) i) (HasIndex index NO_LABEL)
        (λ i. IsUnder index labels (length labels) i ⊎ HasIndex index NO_LABEL i) (length silences) by by_none labelled others (λ i h. h))
        rest (λ i h. h)

    walked : (i : ℕ) (s : SilenceData) → IsAt silences i s → match_all s.matchers labels ≡ true → IsWalked index labels i
    walked i s at matched =
        elim (cases_lt i index.indexed) [
          | inl less ↦ inl (its_index silences index indexed labels i s at less matched)
          | inr behind ↦ inr behind
        ]

    none : (i : ℕ) (s : SilenceData) → ⊤ → i < first → IsAt silences i s → silence_mutes s t labels ≡ false
    none i s here less at =
        not_true (silence_mutes s t labels) (λ mutes.
        true≢false (sym mutes ∙ joined.none i s (walked i s at (and_parts (is_active s t) (match_all s.matchers labels) mutes).1) less at))

-- ---- what that silence is

module _ (labels : List Label) (t : ℕ) (silences : List SilenceData) (first : ℕ)
    (is : IsFirst (λ i. ⊤) labels t silences (length silences) first) where
  before : find (λ (s : SilenceData). silence_mutes s t labels) (take first silences) ≡ None
  before = none_before (λ (s : SilenceData). silence_mutes s t labels) silences first (λ i s at less. is.none i s tt less at)

  -- the silence at the index
  pub silence-here : (s : SilenceData) → first < length silences → s ≡ get_or silences first s → silence_for labels t silences ≡ Some s
  silence-here s less here =
      find_here (λ (s : SilenceData). silence_mutes s t labels) silences first s s less here before (is.mutes s less (less, here))

  -- none, behind the last
  pub silence-none : length silences ≤ first → silence_for labels t silences ≡ None
  silence-none past = find_none_all (λ (s : SilenceData). silence_mutes s t labels) silences first past before
