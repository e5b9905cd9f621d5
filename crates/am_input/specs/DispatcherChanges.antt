-- DispatcherChanges: the reloads and restarts of a story, with their configurations.
use Rattle.std.specs.Prelude.{⊤, ◌≡◌, ℕ, Bool, true, List, [], ◌∷◌, Option, Some, None, codes, is_none, IsSomeAnd, IsTrue}
use Rattle.std.specs.List.{list_all}
use Rattle.std.specs.Option.{option_map_or, option_or}
use Rattle.serde_json.specs.Data.{Data, Members}
use Rattle.serde_json.specs.Find.{as_object, get_member}
use Rattle.am_json.specs.Configured.{config_compares_texts}
use Rattle.am_json.specs.declared.reader.Mode.{Mode}
use Rattle.am_config.specs.declared.hours.Hours.{Hours}
use Rattle.am_input.specs.Clocks.{AreClocksOf}
use Rattle.am_input.specs.Configured.{IsConfigFor, IsConfigIn, DecodesPlainly}
use Rattle.am_model.specs.declared.config.Config.{Config}
use Rattle.am_plans.specs.DispatcherChange.{AreItemsIn, ItemData}
use Rattle.am_terms.specs.declared.dispatcher_change.DispatcherChange.{DispatcherChange}

-- a reload decodes to a configuration, as a story does
abbrev pub ReloadDecodesTo : (Option Hours → Type 0) → Mode → Data → Config → Type 0
ReloadDecodesTo Clocks mode reload config = IsSomeAnd (as_object reload) (λ fields. IsConfigIn Clocks mode fields config)

-- the configuration from a reload on: the reload's own. Without a reload: the story's, or that of a file in its place
abbrev pub IsConfigAt : (Option Hours → Type 0) → Option Data → Mode → Members → Option Data → Config → Type 0
IsConfigAt Clocks file mode ms None config = IsConfigFor Clocks file mode ms config
IsConfigAt Clocks file mode ms (Some reload) config = ReloadDecodesTo Clocks mode reload config

-- the last reload up to an item: the item itself, if it is one, or else the last before it
abbrev pub last_reload : Option Data → ItemData → Option Data
last_reload before item = option_or item.reload before

-- each item says a change of the dispatcher, one for one: at the item's time, with what the item keeps, and with the configuration of the
-- last reload: a restart has the one that holds then
abbrev pub AreDecodedBy : (Option Data → Config → Type 0) → Option Data → List ItemData → List DispatcherChange → Type 0
AreDecodedBy IsAt before [] [] = ⊤
AreDecodedBy IsAt before [] (h ∷ hs) = ⊥
AreDecodedBy IsAt before (item ∷ items) [] = ⊥
AreDecodedBy IsAt before (item ∷ items) (h ∷ hs) =
    (h.at ≡ item.at) × (h.carryover ≡ item.carryover) × IsAt (last_reload before item) h.config
    × AreDecodedBy IsAt (last_reload before item) items hs

-- the reloads and restarts that the members of a story say, in the order of their times; the story ends at `until`, and `file` is what
-- is in place of its own configuration. All configurations have the story's clocks
pub record AreDispatcherChangesIn (mode : Mode) (file : Option Data) (until : ℕ) (members : Members)
    (dispatcher_changes : List DispatcherChange) : Type 0 where
  pub items : List ItemData
  pub items_are : AreItemsIn mode until members items
  pub are : AreDecodedBy (IsConfigAt (AreClocksOf until members) file mode members) None items dispatcher_changes

-- whether a reload, if there is one, has a configuration of our own
abbrev pub is_ours : Option Data → Bool
is_ours reload =
    option_map_or (λ value. option_map_or (λ fields. is_none (get_member (codes "alertmanager") fields)) (as_object value) true) reload true

-- the same, where each reload has a configuration of our own, and no matcher needs a regex
pub record AreDispatcherChangesWithoutRegexes (mode : Mode) (file : Option Data) (until : ℕ) (members : Members)
    (dispatcher_changes : List DispatcherChange) : Type 0 where
  pub decoded : AreDispatcherChangesIn mode file until members dispatcher_changes
  pub ours : IsTrue (list_all (λ (item : ItemData). is_ours item.reload) decoded.items)
  pub plain : IsTrue (list_all (λ (h : DispatcherChange). config_compares_texts h.config) dispatcher_changes)

-- a configuration of our own without a regex, under a reload: given by `config` of the reload, or of the story
abbrev pub DecodesAt : Mode → Members → Option Data → Config → Type 0
DecodesAt mode ms None config = DecodesPlainly mode ms config
DecodesAt mode ms (Some reload) config = IsSomeAnd (as_object reload) (λ fields. DecodesPlainly mode fields config)
