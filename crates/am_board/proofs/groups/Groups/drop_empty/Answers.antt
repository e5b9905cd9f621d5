use Rattle.std.proofs.Common.{◌≡◌, ◌≤◌, not, length, map, filter, ap, ◌∙◌, rules, arith, subst, sym}
use Rattle.std.specs.List.{count_by}
use Rattle.std.specs.Map.{values_of}
use Rattle.indexmap.proofs.CallerLemmas.{filter-RetainsPairs}
use Rattle.std.proofs.lemmas.List.Elements.{All-filter}
use Rattle.am_alerts.specs.RoutingTree.{last_of}
use Rattle.am_board.specs.Due.{AreDue}
use Rattle.am_board.specs.declared.group.Group.{Group}
use Rattle.am_model.specs.declared.group.GroupName.{GroupName}
use Rattle.am_board.specs.Group.{names_of, AreRouted}
use Rattle.am_board.specs.GroupList.{GroupList, name_of}
use Rattle.am_board.specs.Keyed.{AreKeyed}
use Rattle.am_board.specs.Refinement.{group_state}
use Rattle.am_model.specs.Lists.{without}
use Rattle.am_model.specs.State.{same_name}
use Rattle.am_model.specs.Maintenance.{has_no_alerts}
use Rattle.am_board.proofs.lemmas.invariant.DueKeys.{HasKeyOf}
use Rattle.am_board.proofs.lemmas.invariant.Keyed.{values-filter, length-values, AreKeyed-filter}
use Rattle.am_board.proofs.lemmas.maintain.Maintenance.{map-without, length-without, All-map_filter}
use Rattle.am_board.proofs.lemmas.maintain.Empties.{empties, empties-gone}
use Rattle.am_board.proofs.groups.Groups.drop_empty.Goals as goal
use Rattle.am_board.proofs.groups.Groups.drop_empty.Goals.{After-retain}

stay : (c : After-retain) → c.retain.new.self.entries ≡ filter (λ e. not (has_no_alerts (group_state e.1))) c.self.inside.groups.entries
stay c = filter-RetainsPairs _ _ _ (λ k v b w g call. search rules) _ _ c.retain.ensures.filtered

left : (c : After-retain) → values_of c.retain.new.self.entries ≡ filter (λ g. not (has_no_alerts (group_state g))) (values_of c.self.inside.groups.entries)
left c = ap values_of (stay c) ∙ values-filter (λ (g : Group). not (has_no_alerts (group_state g))) c.self.inside.groups.entries

keyed : (c : After-retain) → AreKeyed name_of c.retain.new.self.entries
keyed c =
    subst (AreKeyed name_of) (sym (stay c))
    (AreKeyed-filter same_name name_of (λ e. not (has_no_alerts (group_state e.1))) c.self.inside.groups.entries c.self.invariant.0.keyed)

-- the groups that are left have the keys that they had
pub tidy-requires : goal.tidy-requires
tidy-requires c =
    subst (AreDue c.self.inside.due) (sym (c.as_slice.ensures ∙ (c.values.ensures.rest ∙ left ((goal.at.tidy-requires c).After-retain))))
    (All-filter (λ g. not (has_no_alerts (group_state g))) (HasKeyOf c.self.inside.due) (values_of c.self.inside.groups.entries) c.self.invariant.0.due)

pub invariant_of-self : goal.invariant_of-self
invariant_of-self c = (
  record {
    keyed = keyed ((goal.at.invariant_of-self c).After-retain);
    distinct = c.retain.ensures.unique;
    due = subst (AreDue c.tidy.new.self) (c.as_slice.ensures ∙ c.values.ensures.rest) c.tidy.ensures;
  },
  sym (ap empties (left ((goal.at.invariant_of-self c).After-retain)) ∙ empties-gone (values_of c.self.inside.groups.entries)),
)

pub returns-clause-groups : goal.returns-clause-groups
returns-clause-groups c =
    let es = c.self.inside.groups.entries in
    ap (map group_state) (left ((goal.at.returns-clause-groups c).After-retain)) ∙ map-without has_no_alerts group_state (values_of es) ∙ ap (λ (k : GroupList). without has_no_alerts (map group_state k.items)) c.self.view_is

pub returns-clause-count : goal.returns-clause-count
returns-clause-count c =
    let es = c.self.inside.groups.entries in
    let fewer = ap length (left ((goal.at.returns-clause-count c).After-retain)) in
    let gone = length-without has_no_alerts group_state (values_of es) in
    let fact = ap (λ (k : GroupList). count_by has_no_alerts (map group_state k.items)) c.self.view_is in
    omega (arith, fewer, gone, fact, length-values es, length-values c.retain.new.self.entries, c.len.ensures.len, c.len-before.ensures.len)

pub returns-clause-routed : goal.returns-clause-routed
returns-clause-routed c tree routed =
    let es = c.self.inside.groups.entries in
    let before = subst (λ (k : GroupList). AreRouted tree (names_of k.items)) (sym c.self.view_is) routed in
    subst (λ gs. AreRouted tree (names_of gs)) (sym (left ((goal.at.returns-clause-routed c).After-retain)))
    (All-map_filter (λ (n : GroupName). n.route ≤ last_of tree) (λ g. not (has_no_alerts (group_state g))) (λ (g : Group). g.name) (values_of es) before)

pub returns-clause-kept : goal.returns-clause-kept
returns-clause-kept c =
    left ((goal.at.returns-clause-kept c).After-retain)
    ∙ ap (λ (k : GroupList). filter (λ g. not (has_no_alerts (group_state g))) k.items) c.self.view_is
