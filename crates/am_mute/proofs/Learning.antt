-- An index that learns of alerts, by one rule after the other.
use Rattle.std.proofs.Common.{◌≡◌, ◌≢◌, ℕ, ◌+◌, ◌<◌, Bool, true, false, true≢false, not, cond, eqb, eqb-true, inl, inr, List, length, get_or, refl, sym, ap, ◌∙◌, subst}
use Rattle.std.proofs.Common.{arith}
use Rattle.std.specs.Ordering.{is_eq}
use Rattle.std.proofs.lemmas.Bool.{and_parts, cases_lt, eqb-false}
use Rattle.std.proofs.lemmas.List.{get_or_default}
use Rattle.am_alerts.specs.AlertData.{AlertData}
use Rattle.am_alerts.specs.Matcher.{match_all}
use Rattle.am_alerts.specs.declared.labels.Label.{Label}
use Rattle.am_mute.specs.Inhibit.{RuleData}
use Rattle.am_mute.specs.SourceIndex.{SourceIndex}
use Rattle.am_mute.specs.Sources.{AreLearnt, Grows, HasKey, HasKeys, HasKeysFrom, HasSources, IsAt, has_key, key_cmp, key_of}
use Rattle.am_mute.specs.Target.{values_hash}
use Rattle.am_mute.specs.declared.sources.SourceKey.{SourceKey}
use Rattle.am_seed.specs.declared.seed.Seed.{Seed}
use Rattle.am_mute.proofs.SourceKeys.{keeps_keys}

module _ (key : SourceKey) (old : SourceIndex) (all : List SourceKey)
    (updates : (q : SourceKey) → has_key all q ≡ cond (is_eq (key_cmp key q)) true (has_key old.all q)) where
  -- one more key of a source was put in
  pub grows_all : Grows old (record { all = all; one_sided = old.one_sided; learnt = old.learnt; seed = old.seed })
  grows_all = record { learnt = refl; seed = refl; all = keeps_keys key old.all all updates; one_sided = λ k had. had }

  -- and one more of a source that is one-sided
  pub grows_both : (one_sided : List SourceKey)
      → ((q : SourceKey) → has_key one_sided q ≡ cond (is_eq (key_cmp key q)) true (has_key old.one_sided q))
      → Grows old (record { all = all; one_sided = one_sided; learnt = old.learnt; seed = old.seed })
  grows_both one_sided updates_too =
      record {
        learnt = refl;
        seed = refl;
        all = keeps_keys key old.all all updates;
        one_sided = keeps_keys key old.one_sided one_sided updates_too;
      }

-- an index that has grown has the keys that it had
pub keeps : (old new : SourceIndex) → Grows old new → (number : ℕ) (rule : RuleData) (position : ℕ) (labels : List Label)
    → HasKeys number rule position labels old → HasKeys number rule position labels new
keeps old new grows number rule position labels has =
    let key : Seed → SourceKey = λ s. key_of s number rule.equal position labels in
    record {
      all = λ is. subst (λ s. HasKey new.all (key s)) (sym grows.seed) (grows.all (key old.seed) (has.all is));
      one_sided = λ is. subst (λ s. HasKey new.one_sided (key s)) (sym grows.seed) (grows.one_sided (key old.seed) (has.one_sided is));
    }

-- an index that stays as it is
pub grows_none : (index : SourceIndex) → Grows index index
grows_none index = record { learnt = refl; seed = refl; all = λ k had. had; one_sided = λ k had. had }

-- an index grows, and then grows again
pub grows_twice : (old new last : SourceIndex) → Grows old new → Grows new last → Grows old last
grows_twice old new last grows then =
    record {
      learnt = then.learnt ∙ grows.learnt;
      seed = then.seed ∙ grows.seed;
      all = λ k had. then.all k (grows.all k had);
      one_sided = λ k had. then.one_sided k (grows.one_sided k had);
    }

-- an index needs no keys of an alert that isn't a source
pub has_none : (number : ℕ) (rule : RuleData) (position : ℕ) (labels : List Label) (index : SourceIndex) → match_all rule.source labels ≡ false
    → HasKeys number rule position labels index
has_none number rule position labels index none =
    record {
      all = λ is. absurd (true≢false (sym is ∙ none));
      one_sided = λ is. absurd (true≢false (sym (and_parts (match_all rule.source labels) (not (match_all rule.target labels)) is).0 ∙ none));
    }

-- an index that got the key of a source has the keys of that alert
pub has_source : (number : ℕ) (rule : RuleData) (position : ℕ) (labels : List Label) (index : SourceIndex) (hash : ℕ)
    → hash ≡ values_hash index.seed rule.equal labels → HasKey index.all (record { rule = number; hash = hash; index = position })
    → (both : Bool) → both ≡ match_all rule.target labels
    → (not both ≡ true → HasKey index.one_sided (record { rule = number; hash = hash; index = position }))
    → HasKeys number rule position labels index
has_source number rule position labels index hash hashed all both fact one_sided =
    let key : ℕ → SourceKey = λ h. record { rule = number; hash = h; index = position } in
    record {
      all = λ _. subst (λ h. HasKey index.all (key h)) hashed all;
      one_sided = λ is.
          subst (λ h. HasKey index.one_sided (key h)) hashed
          (one_sided (ap not fact ∙ (and_parts (match_all rule.source labels) (not (match_all rule.target labels)) is).1));
    }

-- an index that has grown has the keys of those alerts whose keys it had
pub keeps_from : (old new : SourceIndex) → Grows old new → (number : ℕ) (rule : RuleData) (known : List AlertData) (from to : ℕ)
    → HasKeysFrom number rule known from to old → HasKeysFrom number rule known from to new
keeps_from old new grows number rule known from to has i a is least less =
    keeps old new grows number rule i a.labels (has i a is least less)

-- and of one alert more, if it has that one's
pub has_next : (number : ℕ) (rule : RuleData) (known : List AlertData) (from to : ℕ) (old new : SourceIndex) → Grows old new
    → HasKeysFrom number rule known from to old → to < length known → (alert : AlertData) → alert ≡ get_or known to alert
    → HasKeys number rule to alert.labels new → HasKeysFrom number rule known from (to + 1) new
has_next number rule known from to old new grows has more alert here next i a is least less =
    elim (eqb i to) as (λ b. eqb i to ≡ b → HasKeys number rule i a.labels new) [
      | true ↦ λ e.
          let same : i ≡ to = eqb-true i to e in
          let its : a ≡ alert =
          is.1 ∙ (ap (λ j. get_or known j a) same ∙ (get_or_default known to a alert more ∙ sym here)) in
          subst (λ j. HasKeys number rule j a.labels new) (sym same)
          (subst (λ (x : AlertData). HasKeys number rule to x.labels new) (sym its) next)
      | false ↦ λ e.
          let apart : i ≢ to = eqb-false i to e in
          keeps old new grows number rule i a.labels (has i a is least (omega (arith, apart, less)))
    ] refl

-- and by one rule more, if it has these by that one
pub has_rule : (rules : List RuleData) (known : List AlertData) (from to before : ℕ) (old new : SourceIndex) → Grows old new
    → ((number : ℕ) (rule : RuleData) → IsAt rules number rule → number < before → HasKeysFrom number rule known from to old)
    → before < length rules → (next : RuleData) → next ≡ get_or rules before next → HasKeysFrom before next known from to new
    → (number : ℕ) (rule : RuleData) → IsAt rules number rule → number < before + 1 → HasKeysFrom number rule known from to new
has_rule rules known from to before old new grows has more next here by_next number rule at less =
    elim (eqb number before) as (λ b. eqb number before ≡ b → HasKeysFrom number rule known from to new) [
      | true ↦ λ e.
          let same : number ≡ before = eqb-true number before e in
          let its : rule ≡ next =
          at.1 ∙ (ap (λ j. get_or rules j rule) same ∙ (get_or_default rules before rule next more ∙ sym here)) in
          subst (λ j. HasKeysFrom j rule known from to new) (sym same)
          (subst (λ (r : RuleData). HasKeysFrom before r known from to new) (sym its) by_next)
      | false ↦ λ e.
          let apart : number ≢ before = eqb-false number before e in
          keeps_from old new grows number rule known from to (has number rule at (omega (arith, apart, less)))
    ] refl

-- what was learnt before is still, though no more is
pub learnt_less : (rules : List RuleData) (known : List AlertData) (old new : SourceIndex) → AreLearnt rules known old → Grows old new
    → AreLearnt rules known new
learnt_less rules known old new learnt grows =
    record {
      learnt = omega (arith, learnt.learnt, grows.learnt);
      sources = λ number rule at i a is less.
          keeps old new grows number rule i a.labels (learnt.sources number rule at i a is (omega (arith, less, grows.learnt)));
    }

module _ (rules : List RuleData) (known : List AlertData) (old new : SourceIndex) (learnt : AreLearnt rules known old)
    (grows : Grows old new)
    (has : (number : ℕ) (rule : RuleData) → IsAt rules number rule → HasKeysFrom number rule known old.learnt (length known) new) where
  -- the index, once all alerts count as learnt
  abbrev whole : SourceIndex
  whole = record { all = new.all; one_sided = new.one_sided; learnt = length known; seed = new.seed }

  whole_has : (number : ℕ) (rule : RuleData) (position : ℕ) (labels : List Label)
      → HasKeys number rule position labels new → HasKeys number rule position labels whole
  whole_has number rule position labels has = record { all = has.all; one_sided = has.one_sided }

  sources_all : (number : ℕ) (rule : RuleData) → IsAt rules number rule → HasSources number rule known whole
  sources_all number rule at i a is less =
      whole_has number rule i a.labels (elim (cases_lt i old.learnt) [
        | inl before ↦ keeps old new grows number rule i a.labels (learnt.sources number rule at i a is before)
        | inr from ↦ has number rule at i a is from less
      ])

  pub learnt_all : AreLearnt rules known whole
  learnt_all = record { learnt = omega arith; sources = sources_all }
