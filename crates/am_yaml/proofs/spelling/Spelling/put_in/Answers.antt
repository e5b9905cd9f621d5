use Rattle.std.proofs.Common.{◌≡◌, ◌∙◌, BTreeMap, Bool, Global, List, None, Option, Some, String, false, is_some, option_map, refl, sym, true, ℕ}
use Rattle.serde_json.specs.Data.{Data, Members, no_members, put}
use Rattle.serde_json.specs.Find.{get_member}
use Rattle.serde_json.specs.View.{members_view}
use Rattle.serde_json.specs.declared.value.Value.{Value}
use Rattle.am_yaml.specs.Merges.{Adds, adds_member, merged_with, merges}
use Rattle.am_yaml.proofs.spelling.Spelling.put_in.Goals as goal

new_member : (name : List ℕ) (value : Data) (is_merge : Bool) (own own_now : Members) (merged : Option Members) → is_merge ≡ false
    → get_member name own ≡ None → own_now ≡ put name value own → Adds name value is_merge own merged own_now merged
new_member name value is_merge own own_now merged is new kept = rw (is, kept) (adds_member _ _ new)

first_merge : (name : List ℕ) (value : Data) (is_merge : Bool) (own merged : Members) (before : Option Members) → is_merge ≡ true
    → before ≡ None → merged_with no_members value ≡ Some merged → Adds name value is_merge own before own (Some merged)
first_merge name value is_merge own merged before is none adds = rw (is, none) (merges _ _ adds)

none_merged : (merged : Option (BTreeMap (String Global) Value)) → is_some merged ≡ false
    → option_map (λ m. members_view m.entries) merged ≡ None
none_merged None is = refl
none_merged (Some m) is = cc

pub returns-then-not-is_merge : goal.returns-then-not-is_merge
returns-then-not-is_merge c = new_member _ _ _ _ _ _ c.if-not-is_merge.true c.in_ok-add.ensures.is_new c.in_ok-add.ensures.kept

pub returns : goal.returns
returns c =
    first_merge _ _ _ _ _ _ c.if-not-is_merge.false (none_merged _ (sym c.is_some.ensures ∙ c.if-is_some.false)) c.in_ok-merged.ensures
