-- The definitions, run on the keys of routes, and on rows that are found again by them.
use Rattle.std.proofs.Common.{◌≡◌, ℕ, true, false, List, [], ◌∷◌, refl}
use Rattle.std.specs.Prelude.{codes}
use Rattle.am_alerts.specs.Forest.{bare, grow}
use Rattle.am_alerts.specs.RoutingTree.{RoutingTree, TreeRoute, plain}
use Rattle.am_alerts.specs.declared.matcher.MatcherParts.{MatcherParts}
use Rattle.am_alerts.specs.declared.matcher.Operator.{Operator}
use Rattle.am_alerts.specs.declared.matcher.Operator.TheVariants.{Equal, NotEqual, Like, NotLike}
use Rattle.am_model.specs.declared.config.Config.{Config}
use Rattle.am_model.specs.declared.views.RowView.{RowView}
use Rattle.am_model.specs.Rekey.{rekeyed}
use Rattle.am_model.specs.RouteKeys.{keys_of, matchers_text}
use Rattle.am_model.proofs.examples.Base.{base, with_mail, with_children, configured, integration, named, child, group_a, critical, route_named, row}

-- ---- keys, as Alertmanager's own tests of its tree of routes have them

abbrev matcher : List ℕ → Operator → List ℕ → MatcherParts
matcher name op value = record { name = name; op = op; value = value }

abbrev route : List MatcherParts → TreeRoute
route matchers = plain (record { route = route_named (codes "r"); matchers = matchers; continues = false })

abbrev tested : RoutingTree
tested =
    record {
      root = route_named (codes "root");
      below =
          grow (route (matcher (codes "owner") Equal (codes "team-A") ∷ matcher (codes "level") NotEqual (codes "critical") ∷ []))
          (grow (route (matcher (codes "env") Equal (codes "testing") ∷ matcher (codes "baz") NotLike (codes ".*quux") ∷ [])) bare
          (grow (route (matcher (codes "env") Equal (codes "production") ∷ [])) bare
          (grow (route (matcher (codes "job") Like (codes ".*") ∷ matcher (codes "env") Like (codes "produ.*") ∷ [])) bare bare)))
          (grow (route (matcher (codes "owner") Like (codes "team-(B|C)") ∷ [])) bare bare);
    }

tested_keys : keys_of tested
    ≡ codes "{}"
    ∷ codes "{}/{level!=\"critical\",owner=\"team-A\"}"
    ∷ codes "{}/{level!=\"critical\",owner=\"team-A\"}/{baz!~\".*quux\",env=\"testing\"}"
    ∷ codes "{}/{level!=\"critical\",owner=\"team-A\"}/{env=\"production\"}"
    ∷ codes "{}/{level!=\"critical\",owner=\"team-A\"}/{env=~\"produ.*\",job=~\".*\"}"
    ∷ codes "{}/{owner=~\"team-(B|C)\"}"
    ∷ []
tested_keys = refl

-- of one name the lesser value comes first, whatever the operator, and of one value the lesser operator; quotes are escaped
by_value : matchers_text (matcher (codes "a") NotEqual (codes "2") ∷ matcher (codes "a") Like (codes "1") ∷ matcher (codes "a") Equal (codes "2") ∷ [])
    ≡ codes "{a=~\"1\",a=\"2\",a!=\"2\"}"
by_value = refl

quoted : matchers_text (matcher (codes "a") Equal (codes "\"") ∷ []) ≡ codes "{a=\"\\\"\"}"
quoted = refl

twice : matchers_text (matcher (codes "a") Equal (codes "1") ∷ matcher (codes "a") Equal (codes "1") ∷ []) ≡ codes "{a=\"1\",a=\"1\"}"
twice = refl

-- ---- rows

-- what a route reported of an alert for the children `db` and `crit`
abbrev sent_by : ℕ → RowView
sent_by at = row (record { route = at; labels = named (codes "A") }) 0 30_000 28_830_000 (critical.labels ∷ []) []

-- children are put in: the root's row stays the root's, although the alert goes to the children
root_stays : rekeyed (record { old = base; new = with_children }) (sent_by 0) ≡ sent_by 0 ∷ []
root_stays = refl

-- they are taken out: their rows go nowhere
nowhere : rekeyed (record { old = with_children; new = base }) (sent_by 2) ≡ []
nowhere = refl

-- `db` and `db2` have one key, so each finds the row of the other too
twins : rekeyed (record { old = with_children; new = with_children }) (sent_by 3) ≡ sent_by 1 ∷ sent_by 3 ∷ []
twins = refl

-- one child alone, and another before it; its matcher's value changes
abbrev crit_alone : Config
crit_alone = configured (child (codes "crit") (codes "severity") (codes "critical") false ∷ []) (integration (codes "hook") true ∷ []) 432_000_000

abbrev pages : Config
pages = configured (child (codes "crit") (codes "severity") (codes "page") false ∷ []) (integration (codes "hook") true ∷ []) 432_000_000

moves : rekeyed (record { old = crit_alone; new = with_children }) (sent_by 1) ≡ sent_by 2 ∷ []
moves = refl

changed : rekeyed (record { old = crit_alone; new = pages }) (sent_by 1) ≡ []
changed = refl

-- `mail/0` and `hook/1`: integrations go by kind and index
abbrev swapped : Config
swapped = configured [] (integration (codes "mail") true ∷ integration (codes "hook") false ∷ []) 432_000_000

abbrev sent_row : ℕ → RowView
sent_row i = row group_a i 30_000 28_830_000 (named (codes "A") ∷ []) []

hook_moves : rekeyed (record { old = with_mail; new = swapped }) (sent_row 0) ≡ sent_row 1 ∷ []
hook_moves = refl

mail_goes : rekeyed (record { old = with_mail; new = base }) (sent_row 1) ≡ []
mail_goes = refl
