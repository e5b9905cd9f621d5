-- DispatcherChange: when a story reloads and restarts the dispatcher. The configurations of reloads are given elsewhere.
use Rattle.std.specs.Prelude.{◌≡◌, ◌==◌, ◌&&◌, ℕ, Bool, true, not, List, [], ◌∷◌, ◌++◌, Option, Some, None, codes, length}
use Rattle.std.specs.Prelude.{nat_le, nat_lt, option_map}
use Rattle.std.specs.Prelude.{IsTrue, MatchOption, if◌then◌else◌}
use Rattle.std.specs.List.{list_any}
use Rattle.std.specs.Option.{option_and_then}
use Rattle.std.specs.Ordering.{nat_cmp}
use Rattle.std.specs.Str.{bytes_eq}
use Rattle.std.specs.declared.cmp.Ordering.{Ordering}
use Rattle.serde_json.specs.Data.{Data, Members}
use Rattle.serde_json.specs.Find.{as_array, as_str}
use Rattle.serde_json.specs.View.{view}
use Rattle.am_json.specs.Decoding.{DecodeEach, Has, HasOr, IsInterval, IsObject}
use Rattle.am_json.specs.Read.{has_only}
use Rattle.am_json.specs.declared.reader.Mode.{Mode}
use Rattle.am_model.specs.Lists.{in_order}
use Rattle.am_plans.specs.declared.dispatcher_change.DispatcherChangeItem.{DispatcherChangeItem}
use Rattle.am_plans.specs.declared.dispatcher_change.Kind.{Kind}
use Rattle.am_plans.specs.declared.dispatcher_change.Kind.TheVariants as kind
use Rattle.am_plans.specs.declared.dispatcher_change.Reload.{Reload}
use Rattle.am_plans.specs.declared.dispatcher_change.TheConstants.{MAX_DISPATCHER_CHANGES}
use Rattle.am_terms.specs.declared.dispatcher_change.Carryover.{Carryover}
use Rattle.am_terms.specs.declared.dispatcher_change.Carryover.TheVariants.{All, Log, Nothing}

-- a reload or a restart: when, what the new dispatcher has of the one before it, and the JSON value of a reload, in which its configuration
-- is
pub record ItemData : Type 0 where
  pub at : ℕ
  pub carryover : Carryover
  pub reload : Option Data

-- the JSON value of a reload
abbrev pub reload_in : Option Reload → Option Data
reload_in reload = option_map (λ r. view r.value.now) reload

abbrev pub item_of : DispatcherChangeItem → ItemData
item_of i = record { at = i.at; carryover = i.carryover; reload = reload_in i.reload }

-- what is kept, by its word
abbrev pub carryover_named : List ℕ → Option Carryover
carryover_named word = if bytes_eq word (codes "log") then Some Log else (if bytes_eq word (codes "nothing") then Some Nothing else None)

abbrev pub carryover_in : Data → Option Carryover
carryover_in value = option_and_then carryover_named (as_str value)

abbrev pub IsCarryover : Data → Carryover → Type 0
IsCarryover value carryover = carryover_in value ≡ Some carryover

-- the fields of an object decode to a reload, without its configuration. Its time isn't the start
pub record HasReload (mode : Mode) (members : Members) (item : ItemData) : Type 0 where
  pub only : IsTrue (has_only mode (codes "at" ∷ codes "config" ∷ codes "alertmanager" ∷ []) members)
  pub at : Has IsInterval (codes "at") members item.at
  pub carryover : item.carryover ≡ All

abbrev pub DecodesToReload : Mode → Data → ItemData → Type 0
DecodesToReload mode value item = IsObject (HasReload mode) value item × (item.reload ≡ Some value)

-- the fields of an object decode to a restart. Its time isn't the start
pub record HasRestart (mode : Mode) (members : Members) (item : ItemData) : Type 0 where
  pub only : IsTrue (has_only mode (codes "at" ∷ codes "keeps" ∷ []) members)
  pub at : Has IsInterval (codes "at") members item.at
  pub carryover : Has IsCarryover (codes "keeps") members item.carryover

abbrev pub DecodesToRestart : Mode → Data → ItemData → Type 0
DecodesToRestart mode value item = IsObject (HasRestart mode) value item × (item.reload ≡ None)

-- an item of one of the two lists decodes to this
abbrev pub DecodesTo : Kind → Mode → Data → ItemData → Type 0
DecodesTo kind.Reload mode value item = DecodesToReload mode value item
DecodesTo kind.Restart mode value item = DecodesToRestart mode value item

-- the name of the member that has the list
abbrev pub name_of : Kind → List ℕ
name_of kind.Reload = codes "reload"
name_of kind.Restart = codes "restart"

-- an array decodes to a list, and any other value to a list of one item
abbrev pub IsListOrOne : {X : Type 0} → (Data → X → Type 0) → Data → List X → Type 0
IsListOrOne {X = X} decodes value xs =
    MatchOption (as_array value) ((x : X) × decodes value x × (xs ≡ x ∷ [])) (λ items. DecodeEach decodes items xs)

-- whether a reload or restart can be at a time, after those that are listed before it: they are fewer than a story can have, the time
-- isn't after the end, and none of them is at the time
abbrev pub may_follow : ℕ → List ItemData → ℕ → Bool
may_follow until before at =
    nat_lt (length before) MAX_DISPATCHER_CHANGES && nat_le at until && not (list_any (λ (b : ItemData). b.at == at) before)

-- the same of the times of these, one after the other
abbrev pub may_all_follow : ℕ → List ItemData → List ItemData → Bool
may_all_follow until before [] = true
may_all_follow until before (item ∷ items) =
    may_follow until before item.at && may_all_follow until (before ++ item ∷ []) items

-- the order of their times
abbrev pub at_cmp : ItemData → ItemData → Ordering
at_cmp a b = nat_cmp a.at b.at

-- the fields of a story decode to these reloads and restarts, in the order of their times; the story ends at `until`
pub record AreItemsIn (mode : Mode) (until : ℕ) (members : Members) (items : List ItemData) : Type 0 where
  pub reloads : List ItemData
  pub restarts : List ItemData
  pub reloads_are : HasOr (IsListOrOne (DecodesToReload mode)) [] (codes "reload") members reloads
  pub restarts_are : HasOr (IsListOrOne (DecodesToRestart mode)) [] (codes "restart") members restarts
  pub may : IsTrue (may_all_follow until [] (reloads ++ restarts))
  pub is : items ≡ in_order at_cmp (reloads ++ restarts)

-- these were added to others, which they may follow
pub record AddsItems (until : ℕ) (before after items : List ItemData) : Type 0 where
  pub may : IsTrue (may_all_follow until before items)
  pub is : after ≡ before ++ items
