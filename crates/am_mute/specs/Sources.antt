-- Known alerts that can be sources, found by their values under the names of `equal`.
use Rattle.std.specs.Prelude.{◌≡◌, ◌<◌, ◌≤◌, ℕ, Bool, true, not, ◌&&◌, List, length, slice_index_or, IsTrue}
use Rattle.std.specs.List.{list_any}
use Rattle.std.specs.Ordering.{is_eq, ordering_then, nat_cmp}
use Rattle.std.specs.declared.cmp.Ordering.{Ordering}
use Rattle.am_alerts.specs.AlertData.{AlertData}
use Rattle.am_alerts.specs.Matcher.{match_all}
use Rattle.am_alerts.specs.declared.labels.Label.{Label}
use Rattle.am_mute.specs.Inhibit.{RuleData, is_inhibited_by}
use Rattle.am_mute.specs.SourceIndex.{SourceIndex}
use Rattle.am_mute.specs.Target.{TargetData, values_hash}
use Rattle.am_mute.specs.declared.sources.SourceKey.{SourceKey}
use Rattle.am_seed.specs.declared.seed.Seed.{Seed}

-- the order of keys: by rule, then by hash, then by index
abbrev pub key_cmp : SourceKey → SourceKey → Ordering
key_cmp a b = ordering_then (nat_cmp a.rule b.rule) (ordering_then (nat_cmp a.hash b.hash) (nat_cmp a.index b.index))

-- whether a key is among these
abbrev pub has_key : List SourceKey → SourceKey → Bool
has_key keys key = list_any (λ k. is_eq (key_cmp key k)) keys

-- a key is among these
abbrev pub HasKey : List SourceKey → SourceKey → Type 0
HasKey keys key = IsTrue (has_key keys key)

-- the key of the alert of these labels at an index, by the rule at an index, where these are the names of `equal`
abbrev pub key_of : Seed → ℕ → List (List ℕ) → ℕ → List Label → SourceKey
key_of seed number equal position labels = record { rule = number; hash = values_hash seed equal labels; index = position }

-- an element is at an index of a list
abbrev pub IsAt : {X : Type 0} → List X → ℕ → X → Type 0
IsAt xs i x = (i < length xs) × (x ≡ slice_index_or xs i x)

-- whether the source matchers of a rule match a label set, and the target matchers don't
abbrev pub is_one_sided : RuleData → List Label → Bool
is_one_sided r labels = match_all r.source labels && not (match_all r.target labels)

-- an index has the keys of the alert of these labels at an index, by the rule at an index
pub record HasKeys (number : ℕ) (rule : RuleData) (position : ℕ) (labels : List Label) (index : SourceIndex) : Type 0 where
  pub all : match_all rule.source labels ≡ true → HasKey index.all (key_of index.seed number rule.equal position labels)
  pub one_sided : is_one_sided rule labels ≡ true → HasKey index.one_sided (key_of index.seed number rule.equal position labels)

-- an index has the keys of the known alerts from one index up to another, by the rule at an index
abbrev pub HasKeysFrom : ℕ → RuleData → List AlertData → ℕ → ℕ → SourceIndex → Type 0
HasKeysFrom number rule known from to index =
    (i : ℕ) (a : AlertData) → IsAt known i a → from ≤ i → i < to → HasKeys number rule i a.labels index

-- of those alerts that were learnt the index has the keys, by the rule at an index
abbrev pub HasSources : ℕ → RuleData → List AlertData → SourceIndex → Type 0
HasSources number rule known index =
    (i : ℕ) (a : AlertData) → IsAt known i a → i < index.learnt → HasKeys number rule i a.labels index

-- the index holds of these known alerts, for the rule at an index
pub record IsLearnt (number : ℕ) (rule : RuleData) (known : List AlertData) (index : SourceIndex) : Type 0 where
  pub learnt : index.learnt ≤ length known
  pub sources : HasSources number rule known index

-- the index holds of these known alerts, for each of these rules
pub record AreLearnt (rules : List RuleData) (known : List AlertData) (index : SourceIndex) : Type 0 where
  pub learnt : index.learnt ≤ length known
  pub sources : (number : ℕ) (rule : RuleData) → IsAt rules number rule → HasSources number rule known index

-- an index has kept its keys and its seed, and has learnt no more alerts
pub record Grows (old new : SourceIndex) : Type 0 where
  pub learnt : new.learnt ≡ old.learnt
  pub seed : new.seed ≡ old.seed
  pub all : (k : SourceKey) → HasKey old.all k → HasKey new.all k
  pub one_sided : (k : SourceKey) → HasKey old.one_sided k → HasKey new.one_sided k

-- these keys have one of each of these alerts that is a source for a target of the rule at an index
abbrev pub HaveSources : Seed → ℕ → TargetData → List AlertData → List SourceKey → Type 0
HaveSources seed number x alerts keys =
    (i : ℕ) (a : AlertData) → IsAt alerts i a → is_inhibited_by x.rule x.t x.labels a ≡ true
    → HasKey keys (key_of seed number x.rule.equal i a.labels)
