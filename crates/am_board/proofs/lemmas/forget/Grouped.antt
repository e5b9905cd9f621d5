-- The label sets of the alerts of groups, as a forgetting gathers them one by one.
use Rattle.std.proofs.Common.{◌≡◌, Bool, true, false, cond, ◌||◌, List, [], ◌∷◌, ◌++◌, refl, sym, ap, ◌∙◌}
use Rattle.std.proofs.Math.Bool.{or-false, or_assoc}
use Rattle.std.proofs.lemmas.List.Folds.{list_any-append}
use Rattle.std.specs.List.{list_any}
use Rattle.indexmap.specs.IndexSet.{insert_key}
use Rattle.am_alerts.specs.AlertData.{AlertData}
use Rattle.am_alerts.specs.Labels.{same_label_set}
use Rattle.am_alerts.specs.LabelOrder.{same_label_set-decides}
use Rattle.am_alerts.specs.declared.labels.Label.{Label}
use Rattle.am_model.specs.Forget.{is_grouped}
use Rattle.am_model.specs.Insert.{same_alert}
use Rattle.am_model.specs.State.{MemberState, GroupState}
use Rattle.am_board.specs.Forgetting.{is_labelled, is_member, AreGrouped, AddsLabelsOf}

-- one more label set
labelled_more : (sets : List (List Label)) (labels : List Label) (a : AlertData) → is_labelled (insert_key same_label_set sets labels) a ≡ (is_labelled sets a || same_label_set a.labels labels)
labelled_more sets labels a =
    elim (list_any (same_label_set labels) sets) as (λ b. list_any (same_label_set labels) sets ≡ b → is_labelled (cond b sets (sets ++ labels ∷ [])) a ≡ (is_labelled sets a || same_label_set a.labels labels)) [
      | true ↦ λ there. absorbed (is_labelled sets a) (same_label_set a.labels labels) (λ own. ap (λ l. list_any (same_label_set l) sets) ((same_label_set-decides a.labels labels).0 own) ∙ there)
      | false ↦ λ _.
          list_any-append (same_label_set a.labels) sets (labels ∷ [])
          ∙ ap (λ b. is_labelled sets a || b) (or-false (same_label_set a.labels labels))
    ] refl
  where
    absorbed : (a b : Bool) → (b ≡ true → a ≡ true) → a ≡ (a || b)
    absorbed true b h = refl
    absorbed false true h = h refl
    absorbed false false h = refl

-- no member's
pub adds_none : (sets : List (List Label)) → AddsLabelsOf [] sets sets
adds_none sets a = sym (or-false (is_labelled sets a))

-- one member's more
pub adds_more : (members : List MemberState) (m : MemberState) (old sets : List (List Label)) → AddsLabelsOf members old sets → AddsLabelsOf (members ++ m ∷ []) old (insert_key same_label_set sets m.alert.labels)
adds_more members m old sets before a =
    labelled_more sets m.alert.labels a
    ∙ ap (λ b. b || same_alert a m.alert) (before a)
    ∙ or_assoc (is_labelled old a) (is_member members a) (same_alert a m.alert)
    ∙ ap (λ b. is_labelled old a || b)
    (sym (list_any-append (λ n. same_alert a n.alert) members (m ∷ []) ∙ ap (λ b. is_member members a || b) (or-false (same_alert a m.alert))))

-- one group's more
pub grouped_more : (groups : List GroupState) (g : GroupState) (old new : List (List Label)) → AreGrouped old groups → AddsLabelsOf g.members old new → AreGrouped new (groups ++ g ∷ [])
grouped_more groups g old new before added a =
    added a
    ∙ ap (λ b. b || is_member g.members a) (before a)
    ∙ sym (list_any-append (λ k. is_member k.members a) groups (g ∷ []) ∙ ap (λ b. is_grouped groups a || b) (or-false (is_member g.members a)))
