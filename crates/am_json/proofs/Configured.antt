-- What a configuration without a fault has, and one whose matchers look for no pattern.
use Rattle.std.proofs.Common.{◌≡◌, ◌<◌, ◌≤◌, ◌∙◌, ◌&&◌, Bool, true, false, not, List, Option, Some, None, ap, length, nat_lt, sym, if◌then◌else◌, arith}
use Rattle.std.specs.List.{list_all}
use Rattle.std.specs.Option.{option_or}
use Rattle.std.specs.Prelude.{nat_le}
use Rattle.std.proofs.lemmas.Bool.Decides.{nat_tests}
use Rattle.am_alerts.specs.Matcher.{compare_texts}
use Rattle.am_alerts.specs.RoutingTree.{are_small, children_of, fault_where, has_good_names, has_route_twice, level_fault, tree_of}
use Rattle.am_alerts.specs.declared.limits.TheConstants.{MAX_CHILDREN}
use Rattle.am_alerts.specs.declared.route.Child.{Child}
use Rattle.am_alerts.specs.declared.route.Route.{Route}
use Rattle.am_alerts.proofs.Kept.{children_of_level, level_fault_is}
use Rattle.am_model.specs.Config.{bounds_fault, config_fault, has_receiver_twice, has_receivers, receivers_fault}
use Rattle.am_model.specs.declared.config.Config.{Config}
use Rattle.am_model.specs.declared.config.TheConstants.{MAX_RECEIVERS}
use Rattle.am_json.specs.Configured.{config_compares_texts, rule_compares_texts}
use Rattle.am_json.proofs.Members.{first, second}

neither : {F : Type 0} (a b : Option F) → option_or a b ≡ None → a ≡ None
neither None b none = cc
neither (Some f) b none = absurd (cc)

third_false : {F : Type 0} (a b c : Bool) (f g h : F) (rest : Option F)
    → (if a then Some f else (if b then Some g else (if c then Some h else rest))) ≡ None → c ≡ false
third_false true b c f g h rest none = absurd (cc)
third_false false true c f g h rest none = absurd (cc)
third_false false false true f g h rest none = absurd (cc)
third_false false false false f g h rest none = cc

-- a configuration without a fault has few receivers
pub few_receivers : (config : Config) → config_fault config ≡ None → length config.receivers ≤ MAX_RECEIVERS
few_receivers config none =
    let within : nat_lt MAX_RECEIVERS (length config.receivers) ≡ false =
    third_false (not (has_receivers config)) (has_receiver_twice config.receivers) (nat_lt MAX_RECEIVERS (length config.receivers)) _ _ _ _
    (neither (receivers_fault config) (bounds_fault config) none) in
    grind (arith, nat_tests)

too_many : (root : Route) (children : List Child) (fits : Bool) → fits ≡ false → fault_where fits root children ≡ None → ⊥
too_many root children fits isnt none =
    by _ _ _ _ (not (has_good_names root children)) (has_route_twice root children) fits (are_small root children) isnt none
  where
    by : {F : Type 0} (f g h : F) (rest : Option F) (a b c d : Bool) → c ≡ false
        → (if a then Some f else (if b then Some g else (if not (c && d) then Some h else rest))) ≡ None → ⊥
    by f g h rest true b c d isnt none = cc
    by f g h rest false true c d isnt none = cc
    by f g h rest false false true d isnt none = cc
    by f g h rest false false false d isnt none = cc

-- more children than a routing tree of one level may have
pub many_children : (root : Route) (children : List Child) → MAX_CHILDREN < length children → level_fault (tree_of root children) ≡ None → ⊥
many_children root children many none =
    let isnt : nat_le (length children) MAX_CHILDREN ≡ false = grind (arith, nat_tests) in
    too_many root children (nat_le (length children) MAX_CHILDREN) isnt (sym (level_fault_is root children) ∙ none)

-- the children of such a configuration look for no pattern
pub plain_children : (config : Config) (children : List Child) → config.routes ≡ tree_of config.routes.root children → config_compares_texts config ≡ true
    → list_all (λ c. compare_texts c.matchers) children ≡ true
plain_children config children tree plain =
    ap (list_all (λ (c : Child). compare_texts c.matchers)) (sym (ap children_of tree ∙ children_of_level config.routes.root children))
    ∙ first (list_all (λ (c : Child). compare_texts c.matchers) (children_of config.routes)) (list_all rule_compares_texts config.rules) plain

-- nor do its rules
pub plain_rules : (config : Config) → config_compares_texts config ≡ true → list_all rule_compares_texts config.rules ≡ true
plain_rules config plain = second (list_all (λ (c : Child). compare_texts c.matchers) (children_of config.routes)) (list_all rule_compares_texts config.rules) plain
