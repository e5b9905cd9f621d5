-- The tree of routes of an `alertmanager.yml`. Not stated: the names of routes.
use Rattle.std.specs.Prelude.{◌≡◌, ◌≢◌, ◌&&◌, ◌⊎◌, ℕ, Bool, true, false, List, [], ◌∷◌, Option, Some, None, IsSomeAnd, IsTrue, MatchBool}
use Rattle.std.specs.Prelude.{MatchOption, codes}
use Rattle.std.specs.Option.{option_map_or}
use Rattle.std.specs.Str.{bytes_eq}
use Rattle.serde_json.specs.Data.{Data, Items, no_items, item, Members}
use Rattle.serde_json.specs.Find.{as_array, as_object, as_str}
use Rattle.am_alerts.specs.Forest.{Forest, bare, grow}
use Rattle.am_alerts.specs.Labels.{has_text_twice}
use Rattle.am_alerts.specs.Nested.{below_of, nested_of, rule_of, settled_options}
use Rattle.am_alerts.specs.RoutingTree.{RoutingTree}
use Rattle.am_alerts.specs.declared.route.GroupBy.{GroupBy}
use Rattle.am_alerts.specs.declared.route.GroupBy.TheVariants.{All, Names}
use Rattle.am_alerts.specs.declared.route.Route.{Route}
use Rattle.am_alerts.specs.declared.tree.Node.{Node}
use Rattle.am_alerts.specs.declared.tree.Options.{Options}
use Rattle.am_alerts.specs.declared.tree.RouteSpec.{RouteSpec}
use Rattle.am_json.specs.Decoding.{DecodeEach, IsDuration, IsFlag, IsInterval, IsObject}
use Rattle.am_json.specs.Read.{are_named, number_in}
use Rattle.am_config.specs.Matchers.{AreMatchers, MatcherFields}
use Rattle.am_config.specs.Rules.{IsLabelName}
use Rattle.am_config.specs.Said.{IsTextUnlessEmpty, ListsNothing, Says, SaysOr, said}
use Rattle.am_config.specs.Times.{HasMuted, HasTimes, TimesData}
use Rattle.am_config.specs.declared.hours.Hours.{Hours}

-- the fields of a route, the root among them
abbrev pub route_fields : List (List ℕ)
route_fields =
    codes "receiver" ∷ codes "group_by" ∷ codes "group_wait" ∷ codes "group_interval" ∷ codes "repeat_interval" ∷ codes "matchers"
    ∷ codes "match" ∷ codes "match_re" ∷ codes "continue" ∷ codes "mute_time_intervals" ∷ codes "active_time_intervals"
    ∷ codes "routes" ∷ []

-- the fields with a route's matchers
abbrev pub route_matchers : MatcherFields
route_matchers = record { equal = codes "match"; like = codes "match_re"; texts = codes "matchers" }

-- whether an item of `group_by` means all labels
abbrev pub is_all : Data → Bool
is_all value = option_map_or (λ text. bytes_eq text (codes "...")) (as_str value) false

-- whether each item does
abbrev pub are_all : Items → Bool
are_all no_items = true
are_all (item value values) = is_all value && are_all values

-- the items are these names of labels, each once
abbrev pub AreLabels : Items → List (List ℕ) → Type 0
AreLabels items names = DecodeEach IsLabelName items names × (has_text_twice names ≡ false)

-- the items of `group_by`: none say nothing, `...` is all labels, and others are the labels of these names
abbrev pub GroupsBy : Items → Option GroupBy → Type 0
GroupsBy no_items found = found ≡ None
GroupsBy (item value values) found =
    MatchBool (are_all (item value values)) (found ≡ Some All)
    ((names : List (List ℕ)) × (found ≡ Some (Names names)) × AreLabels (item value values) names)

abbrev pub IsGrouping : Data → Option GroupBy → Type 0
IsGrouping value found = IsSomeAnd (as_array value) (λ items. GroupsBy items found)

-- a wait in milliseconds: a duration, or the number 0
abbrev pub IsWait : Data → Option ℕ → Type 0
IsWait value found = IsSomeAnd found (λ wait. ((number_in value ≡ Some 0) × (wait ≡ 0)) ⊎ IsDuration value wait)

-- an interval in milliseconds: a duration that isn't zero
abbrev pub IsPeriod : Data → Option ℕ → Type 0
IsPeriod value found = IsSomeAnd found (IsInterval value)

-- what a route itself says of its options: what it doesn't say it has from the route above it
pub record HasOptions (members : Members) (o : Options) : Type 0 where
  pub receiver : SaysOr IsTextUnlessEmpty None (codes "receiver") members o.receiver
  pub group_by : SaysOr IsGrouping None (codes "group_by") members o.group_by
  pub group_wait : SaysOr IsWait None (codes "group_wait") members o.group_wait
  pub group_interval : SaysOr IsPeriod None (codes "group_interval") members o.group_interval
  pub repeat_interval : SaysOr IsPeriod None (codes "repeat_interval") members o.repeat_interval

-- the fields decode to a route, except for its name
pub record HasRoute (times : TimesData) (members : Members) (r : RouteSpec) : Type 0 where
  pub known : IsTrue (are_named route_fields members)
  pub options : HasOptions members r.options
  pub matchers : AreMatchers route_matchers members r.matchers
  pub continues : SaysOr IsFlag false (codes "continue") members r.continues
  pub muted : HasMuted times members r.muted

-- the items decode to these routes, each with the routes below it
abbrev pub AreRoutes : TimesData → Items → Forest RouteSpec → Type 0
AreRoutes times no_items bare = Unit {0}
AreRoutes times no_items (grow r below after) = ⊥
AreRoutes times (item value values) bare = ⊥
AreRoutes times (item value values) (grow r below after) =
    MatchOption (as_object value) ⊥ (λ members. HasRoute times members r
    × MatchOption (said (codes "routes") members) (below ≡ bare) (λ v. IsSomeAnd (as_array v) (λ items. AreRoutes times items below)))
    × AreRoutes times values after

-- the array's items decode to these routes
abbrev pub IsForest : TimesData → Data → Forest RouteSpec → Type 0
IsForest times value routes = IsSomeAnd (as_array value) (λ items. AreRoutes times items routes)

-- the routes right below the one with these fields, each with those below it
abbrev pub HasBelow : TimesData → Members → Forest RouteSpec → Type 0
HasBelow times members below = SaysOr (IsForest times) bare (codes "routes") members below

-- the fields decode to a route with those below it
abbrev pub HasNode : TimesData → Members → Node → Type 0
HasNode times members n = HasRoute times members (rule_of n) × HasBelow times members (below_of n)

-- the root's options where it doesn't say them (config.DefaultRoute, dispatch.DefaultRouteOpts)
abbrev pub default_route : Route
default_route = record {
  name = codes "root";
  receiver = [];
  group_by = Names [];
  group_wait = 30000;
  group_interval = 300000;
  repeat_interval = 14400000;
}

-- the fields of the root decode to a tree: it names a receiver, has no matchers, no `continue` and no time intervals, and the routes
-- below it inherit its options
pub record HasTree (times : TimesData) (members : Members) (tree : RoutingTree) : Type 0 where
  pub known : IsTrue (are_named route_fields members)
  pub options : Options
  pub says : HasOptions members options
  pub receiver : options.receiver ≢ None
  pub matchers : AreMatchers route_matchers members []
  pub continues : SaysOr IsFlag false (codes "continue") members false
  pub mute : ListsNothing (codes "mute_time_intervals") members
  pub active : ListsNothing (codes "active_time_intervals") members
  pub below : Forest RouteSpec
  pub routes : HasBelow times members below
  pub is : tree ≡ nested_of (settled_options default_route (codes "root") options) below

-- the fields of an `alertmanager.yml` decode to this tree, whose routes are muted by these definitions
abbrev pub HasRoutes : TimesData → Members → RoutingTree → Type 0
HasRoutes times members tree = Says (IsObject (HasTree times)) (codes "route") members tree

-- the fields of an `alertmanager.yml` decode to definitions, and to this tree, whose routes are muted by them
abbrev pub HasTimedRoutes : Option Hours → Members → RoutingTree → Type 0
HasTimedRoutes hours members tree = (times : TimesData) × HasTimes hours members times × HasRoutes times members tree

-- the tree of routes of an `alertmanager.yml`'s value, and when they are muted by these clocks; without clocks none is
abbrev pub TimedRoutesAre : Option Hours → Data → RoutingTree → Type 0
TimedRoutesAre hours value tree = IsObject (HasTimedRoutes hours) value tree

-- the same by some clocks, or without
abbrev pub RoutesAre : Data → RoutingTree → Type 0
RoutesAre value tree = (hours : Option Hours) × TimedRoutesAre hours value tree
