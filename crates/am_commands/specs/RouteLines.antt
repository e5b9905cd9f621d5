-- RouteLines: what `routes` prints of routes.
use Rattle.std.specs.Prelude.{◌≡◌, ℕ, zero, suc, List, [], ◌∷◌, ◌++◌, codes}
use Rattle.std.specs.List.{join_by}
use Rattle.am_alerts.specs.LabelText.{escaped, label_set_text}
use Rattle.am_alerts.specs.Matcher.{operator_text}
use Rattle.am_alerts.specs.Route.{group_labels_of}
use Rattle.am_alerts.specs.RoutingTree.{RoutingTree, children_of, route_at, routes_of}
use Rattle.am_alerts.specs.declared.labels.Label.{Label}
use Rattle.am_alerts.specs.declared.matcher.MatcherParts.{MatcherParts}
use Rattle.am_alerts.specs.declared.route.Child.{Child}
use Rattle.am_alerts.specs.declared.route.Route.{Route}
use Rattle.am_commands.specs.Lines.{AreLines}

-- a matcher as an `alertmanager.yml` writes it
abbrev pub matcher_text : MatcherParts → List ℕ
matcher_text m = m.name ++ operator_text m.op ++ codes "\"" ++ escaped m.value ++ codes "\""

-- matchers in braces
abbrev pub matchers_text : List MatcherParts → List ℕ
matchers_text matchers = codes "{" ++ join_by matcher_text (codes ",") matchers ++ codes "}"

-- the matchers behind a name, if there are any
abbrev pub matched_text : List MatcherParts → List ℕ
matched_text [] = []
matched_text (m ∷ ms) = codes " " ++ matchers_text (m ∷ ms)

-- a route: its name, its matchers and its receiver
abbrev pub route_text : Route → List MatcherParts → List ℕ
route_text route matchers = route.name ++ matched_text matchers ++ codes " -> " ++ route.receiver

-- a route that a label set reaches: its name, its receiver and its group
abbrev pub reached_text : Route → List Label → List ℕ
reached_text route group = route.name ++ codes " -> " ++ route.receiver ++ codes "; group " ++ label_set_text group

-- two blanks for each level
abbrev pub indent : ℕ → List ℕ
indent zero = []
indent (suc n) = indent n ++ codes "  "

-- the line of the root: its name, its receiver and its options
abbrev pub IsRootLine : Route → List ℕ → Type 0
IsRootLine root line = (options : List ℕ) × (line ≡ route_text root [] ++ options ++ codes "\n")

-- the line of a route below the root, behind blanks: its name, its matchers, its receiver and its options
abbrev pub IsChildLine : Child → List ℕ → Type 0
IsChildLine c line =
    (level : ℕ) × (options : List ℕ) × (line ≡ indent level ++ route_text c.route c.matchers ++ options ++ codes "\n")

-- the line of the route at a position, which a label set reaches: its name, its receiver, its group of the label set and its options
abbrev pub IsReachedLine : RoutingTree → List Label → ℕ → List ℕ → Type 0
IsReachedLine tree labels position line =
    (options : List ℕ)
    × (line ≡ reached_text (route_at tree position) (group_labels_of (route_at tree position) labels) ++ options ++ codes "\n")

-- the text is the tree: a line for the root and one for each route below it, in the order of their positions
abbrev pub ShowsTree : RoutingTree → List ℕ → Type 0
ShowsTree tree text =
    (root later : List ℕ) × (text ≡ root ++ later) × IsRootLine tree.root root × AreLines IsChildLine (children_of tree) later

-- the text is a line for each route that a label set reaches
abbrev pub ShowsReached : RoutingTree → List Label → List ℕ → Type 0
ShowsReached tree labels text = AreLines (IsReachedLine tree labels) (routes_of tree labels) text

-- the receivers of the routes that a label set reaches, with commas between them
abbrev pub receivers_text : RoutingTree → List Label → List ℕ
receivers_text tree labels = join_by (λ position. (route_at tree position).receiver) (codes ",") (routes_of tree labels)
