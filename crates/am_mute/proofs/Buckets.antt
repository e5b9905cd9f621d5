-- The keys of one bucket of an index: each source for a target has its own among them.
use Rattle.std.proofs.Common.{◌≡◌, ℕ, ◌<◌, Bool, true, false, true≢false, cond, not, ◌&&◌, List, [], ◌∷◌, length, filter, fold, get_or}
use Rattle.std.proofs.Common.{take, unwrap_or, Option, Some, None, refl, sym, ap, ◌∙◌, subst, arith}
use Rattle.std.specs.Prelude.{All, IsTrue}
use Rattle.std.specs.List.Sorted.{IsStrictlySortedBy}
use Rattle.std.specs.BTreeMap.Range.{range_contains, IsInRange}
use Rattle.std.specs.Cmp.Lexicographic.{bytes_decides}
use Rattle.std.specs.Hash.{str}
use Rattle.std.specs.Option.{option_eq}
use Rattle.std.specs.Ordering.{is_gt}
use Rattle.std.specs.Str.{bytes_eq}
use Rattle.std.specs.declared.ops.Bound.{Bound}
use Rattle.std.specs.declared.ops.Bound.TheVariants.{Included, Excluded}
use Rattle.std.proofs.lemmas.Bool.{and_parts}
use Rattle.std.proofs.lemmas.List.{get_or-take, length-take-le}
use Rattle.std.proofs.lemmas.List.Kept.{IsStrictlySortedBy-filter}
use Rattle.am_alerts.specs.AlertData.{AlertData, is_resolved}
use Rattle.am_alerts.specs.Labels.{value_in, value_of}
use Rattle.am_alerts.specs.Matcher.{match_all}
use Rattle.am_alerts.specs.declared.labels.Label.{Label}
use Rattle.am_mute.specs.Inhibit.{RuleData, agrees_on, agrees_on_name, is_inhibited_by, matches_both}
use Rattle.am_mute.specs.SourceIndex.{SourceIndex}
use Rattle.am_mute.specs.Sources.{HasKey, HasKeys, HaveSources, IsAt, IsLearnt, has_key, is_one_sided, key_cmp, key_of}
use Rattle.am_mute.specs.Target.{TargetData, values_hash}
use Rattle.am_mute.specs.declared.sources.SourceKey.{SourceKey}
use Rattle.am_seed.specs.Hashing.{opening, write, finish}
use Rattle.am_seed.specs.declared.hasher.SeededHasher.{SeededHasher}
use Rattle.am_seed.specs.declared.seed.Seed.{Seed}
use Rattle.am_mute.proofs.BucketWalk.{AreLeft, at_index, in_bucket, kept_key, of_bucket, index_below}

-- ---- label sets that agree have one hash

same_value : (v w : Option (List ℕ)) → option_eq bytes_eq v w ≡ true → v ≡ w
same_value None None e = refl
same_value None (Some y) e = absurd (true≢false (sym e))
same_value (Some x) None e = absurd (true≢false (sym e))
same_value (Some x) (Some y) e = ap Some ((bytes_decides x y).0 e)

abbrev writing : List Label → SeededHasher → List ℕ → SeededHasher
writing labels hasher name = fold write hasher (str (value_of name labels))

same_writes : (names : List (List ℕ)) (a b : List Label) (hasher : SeededHasher) → agrees_on names a b ≡ true
    → fold (writing a) hasher names ≡ fold (writing b) hasher names
same_writes [] a b hasher e = refl
same_writes (name ∷ names) a b hasher e =
    let parts = and_parts (agrees_on_name name a b) (agrees_on names a b) e in
    let value : value_of name a ≡ value_of name b =
    ap (λ (v : Option (List ℕ)). unwrap_or v []) (same_value (value_in name a) (value_in name b) parts.0) in
    ap (λ v. fold (writing a) (fold write hasher (str v)) names) value ∙ same_writes names a b (writing b hasher name) parts.1

same_hash : (seed : Seed) (names : List (List ℕ)) (a b : List Label) → agrees_on names a b ≡ true → values_hash seed names a ≡ values_hash seed names b
same_hash seed names a b e = ap finish (same_writes names a b (opening seed) e)

-- ---- the bucket of a target

-- a source for a target, of a rule
module _ (rule : RuleData) (t : ℕ) (labels : List Label) (a : AlertData) (passes : is_inhibited_by rule t labels a ≡ true) where
  parts : (not (is_resolved a t) && match_all rule.source a.labels && agrees_on rule.equal labels a.labels ≡ true)
      × (not (matches_both rule labels && matches_both rule a.labels) ≡ true)
  parts =
      and_parts (not (is_resolved a t) && match_all rule.source a.labels && agrees_on rule.equal labels a.labels)
      (not (matches_both rule labels && matches_both rule a.labels)) passes

  agreed : (not (is_resolved a t) && match_all rule.source a.labels ≡ true) × (agrees_on rule.equal labels a.labels ≡ true)
  agreed = and_parts (not (is_resolved a t) && match_all rule.source a.labels) (agrees_on rule.equal labels a.labels) parts.0

  -- it is matched by the source matchers
  pub source_matches : match_all rule.source a.labels ≡ true
  source_matches = (and_parts (not (is_resolved a t)) (match_all rule.source a.labels) agreed.0).1

  -- it has the hash of the target
  pub source_hash : (seed : Seed) → values_hash seed rule.equal a.labels ≡ values_hash seed rule.equal labels
  source_hash seed = sym (same_hash seed rule.equal labels a.labels agreed.1)

  -- it isn't matched by the target matchers, if the target is matched by both
  pub source_alone : matches_both rule labels ≡ true → is_one_sided rule a.labels ≡ true
  source_alone both =
      alone (match_all rule.source a.labels) (match_all rule.target a.labels) source_matches
      (ap (λ b. not (b && matches_both rule a.labels)) (sym both) ∙ parts.1)
    where
      alone : (s t : Bool) → s ≡ true → not (true && (s && t)) ≡ true → s && not t ≡ true
      alone true t e h = h
      alone false t e h = absurd (true≢false (sym e))

-- what was learnt of known alerts has the keys of each source for a target
pub have_sources : (number : ℕ) (rule : RuleData) (known : List AlertData) (index : SourceIndex) → IsLearnt number rule known index
    → (x : TargetData) → x.rule ≡ rule → match_all rule.target x.labels ≡ true
    → HaveSources index.seed number x (take index.learnt known) (cond (match_all x.rule.source x.labels) index.one_sided index.all)
have_sources number rule known index learnt x ruled targeted i a at passes =
    let n : length (take index.learnt known) ≡ index.learnt = length-take-le index.learnt known learnt.learnt in
    let less : i < index.learnt = omega (arith, at.0, n) in
    let here : IsAt known i a =
    (omega (arith, less, learnt.learnt), at.1 ∙ get_or-take index.learnt known i a less) in
    let has : HasKeys number x.rule i a.labels index =
    subst (λ (r : RuleData). HasKeys number r i a.labels index) (sym ruled) (learnt.sources i a here less) in
    let target : match_all x.rule.target x.labels ≡ true = ap (λ (r : RuleData). match_all r.target x.labels) ruled ∙ targeted in
    elim (match_all x.rule.source x.labels) as (λ b. match_all x.rule.source x.labels ≡ b
    → HasKey (cond b index.one_sided index.all) (key_of index.seed number x.rule.equal i a.labels)) [
      | true ↦ λ both.
          has.one_sided (source_alone x.rule x.t x.labels a passes
          (ap (λ b. b && match_all x.rule.target x.labels) both ∙ target))
      | false ↦ λ e. has.all (source_matches x.rule x.t x.labels a passes)
    ] refl

module _ (seed : Seed) (number : ℕ) (x : TargetData) (alerts : List AlertData) (all : List SourceKey)
    (have : HaveSources seed number x alerts all) (hash : ℕ) (hashed : hash ≡ values_hash seed x.rule.equal x.labels) where
  abbrev first : Bound SourceKey
  first = Included (at_index number hash 0)

  abbrev last : Bound SourceKey
  last = Excluded (at_index number hash (length alerts))

  -- a source has its key in the bucket
  had : (i : ℕ) (a : AlertData) → IsAt alerts i a → is_inhibited_by x.rule x.t x.labels a ≡ true
      → has_key all (at_index number hash i) ≡ true
  had i a at passes =
      let same : values_hash seed x.rule.equal a.labels ≡ hash = source_hash x.rule x.t x.labels a passes seed ∙ sym hashed in
      subst (HasKey all) (λ j. record { rule = number; hash = same j; index = i }) (have i a at passes)

  pub left_first : (keys : List SourceKey) → keys ≡ filter (range_contains key_cmp first last) all
      → All (λ k. IsInRange key_cmp first last k × IsTrue (has_key all k)) keys
      → IsStrictlySortedBy key_cmp all → AreLeft (is_inhibited_by x.rule x.t x.labels) alerts number hash keys
  left_first keys between in_range ordered =
      record {
        sorted = subst (IsStrictlySortedBy key_cmp) (sym between)
            (IsStrictlySortedBy-filter key_cmp (range_contains key_cmp first last) all ordered);
        near = λ j d less.
            let is = in_range j d less in
            let of = of_bucket number hash 0 (length alerts) (get_or keys j d) is.0.0 (ap is_gt is.0.1) in
            (of, index_below number hash (length alerts) (get_or keys j d) of is.0.1);
        ahead = λ i a at passes.
            ap (λ ks. has_key ks (at_index number hash i)) between
            ∙ kept_key (range_contains key_cmp first last) all (at_index number hash i) (in_bucket number hash (length alerts) i at.0)
            (had i a at passes);
      }
