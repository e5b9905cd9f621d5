-- Where silences are, by the labels that they ask for.
use Rattle.std.specs.Prelude.{◌≡◌, ◌<◌, ◌≤◌, ℕ, Bool, true, false, Vec, ◌&&◌, List}
use Rattle.std.specs.Prelude.{[], length, find, Option, Some, None, IsTrue, fold, nat_eq, nat_lt}
use Rattle.std.specs.Global.{Global}
use Rattle.std.specs.Hash.{str}
use Rattle.std.specs.HashMap.{get}
use Rattle.std.specs.List.{list_any}
use Rattle.am_alerts.specs.declared.labels.Label.{Label}
use Rattle.am_alerts.specs.declared.matcher.MatcherParts.{MatcherParts}
use Rattle.am_alerts.specs.declared.matcher.Operator.{Operator}
use Rattle.am_alerts.specs.declared.matcher.Operator.TheVariants.{Equal, NotEqual, Like, NotLike}
use Rattle.am_mute.specs.Silence.{SilenceData, silence_mutes}
use Rattle.am_mute.specs.Sources.{IsAt}
use Rattle.am_mute.specs.declared.silence_index.SilenceIndex.{SilenceIndex}
use Rattle.am_mute.specs.declared.silence_index.TheConstants.{NO_LABEL}
use Rattle.am_seed.specs.Hashing.{opening, write, finish}
use Rattle.am_seed.specs.declared.seed.Seed.{Seed}

-- the hash of a name and a value, from a seed
abbrev pub label_hash : Seed → List ℕ → List ℕ → ℕ
label_hash seed name value = finish (fold write (fold write (opening seed) (str name)) (str value))

-- whether an operator is `=`
abbrev pub is_equal : Operator → Bool
is_equal Equal = true
is_equal NotEqual = false
is_equal Like = false
is_equal NotLike = false

-- whether each label set that a matcher matches has the label of its name and value
abbrev pub requires_label : MatcherParts → Bool
requires_label m = is_equal m.op && nat_lt 0 (length m.value)

-- what a silence is found by, where this is the first of its matchers that asks for a label
abbrev pub key_by : Seed → Option MatcherParts → ℕ
key_by seed None = NO_LABEL
key_by seed (Some m) = label_hash seed m.name m.value

-- what a silence of these matchers is found by
abbrev pub key_of : Seed → List MatcherParts → ℕ
key_of seed matchers = key_by seed (find requires_label matchers)

-- the indexes among these, if there are any
abbrev pub indexes_in : Option (Vec ℕ Global) → List ℕ
indexes_in None = []
indexes_in (Some indexes) = indexes.items

-- the indexes under a key
abbrev pub indexes_at : SilenceIndex → ℕ → List ℕ
indexes_at index key = indexes_in (get nat_eq index.indexes key)

-- an index is one of these
abbrev pub IsOneOf : List ℕ → ℕ → Type 0
IsOneOf indexes position = IsTrue (list_any (λ p. nat_eq p position) indexes)

-- an index is under a key
abbrev pub HasIndex : SilenceIndex → ℕ → ℕ → Type 0
HasIndex index key position = IsOneOf (indexes_at index key) position

-- each index is one of these silences
abbrev pub ArePlaced : List SilenceData → SilenceIndex → Type 0
ArePlaced silences index = (key position : ℕ) → HasIndex index key position → position < length silences

-- the index holds of these silences: each of those that count as indexed has its index under what it is found by
pub record IsIndexed (silences : List SilenceData) (index : SilenceIndex) : Type 0 where
  pub indexed : index.indexed ≤ length silences
  pub placed : ArePlaced silences index
  pub found : (i : ℕ) (s : SilenceData) → IsAt silences i s → i < index.indexed → HasIndex index (key_of index.seed s.matchers) i

-- none of the silences at these indexes mutes a label set at t
abbrev pub AreUnmuted : (ℕ → Type 0) → List Label → ℕ → List SilenceData → Type 0
AreUnmuted Here labels t silences =
    (i : ℕ) (s : SilenceData) → Here i → IsAt silences i s → silence_mutes s t labels ≡ false

-- of the silences before a bound that are at such indexes, the first that mutes a label set at t; the bound, if none does
pub record IsFirst (Here : ℕ → Type 0) (labels : List Label) (t : ℕ) (silences : List SilenceData) (bound first : ℕ) : Type 0 where
  pub within : first ≤ bound
  pub mutes : (s : SilenceData) → first < bound → IsAt silences first s → silence_mutes s t labels ≡ true
  pub none : (i : ℕ) (s : SilenceData) → Here i → i < first → IsAt silences i s → silence_mutes s t labels ≡ false
