use Rattle.std.proofs.Common.{◌≡◌, ℕ, List, Option, Some, ap, sym, subst, ◌∙◌}
use Rattle.std.specs.Prelude.{OnOk}
use Rattle.std.specs.List.{position}
use Rattle.std.specs.Map.{keys_of, values_of}
use Rattle.indexmap.specs.IndexMap.{insert_entry}
use Rattle.am_alerts.specs.AlertData.{AlertData}
use Rattle.am_alerts.specs.Labels.{same_label_set}
use Rattle.am_alerts.specs.LabelOrder.{same_label_set-decides}
use Rattle.am_alerts.specs.declared.labels.Label.{Label}
use Rattle.am_model.specs.Insert.{same_alert}
use Rattle.am_board.specs.Keyed.{AreKeyed}
use Rattle.am_board.specs.Known.{KnownAlerts, labels_of}
use Rattle.am_model.specs.Lists.{upsert}
use Rattle.am_board.proofs.lemmas.invariant.Keyed.{index_of-keys, upsert-entries, set-insert, AreKeyed-insert}
use Rattle.am_board.proofs.known.Known.put.Goals as goal
use Rattle.am_board.proofs.known.Known.put.Goals.{in-Some-1, in-None-1, After-unwrap}

module _ (a : AlertData) (es : List (List Label × AlertData)) (keyed : AreKeyed labels_of es) where
  -- the index among the alerts is that of the labels
  at_key : (items : List AlertData) (index : Option ℕ) (i : ℕ) → values_of es ≡ items → index ≡ position (same_alert a) items → index ≡ Some i → Some i ≡ position (same_label_set a.labels) (keys_of es)
  at_key items index i seen at some =
      sym some ∙ at ∙ ap (position (same_alert a)) (sym seen) ∙ sym (index_of-keys same_label_set labels_of a.labels es keyed)

  keyed_after : AreKeyed labels_of (insert_entry same_label_set es a.labels a)
  keyed_after = AreKeyed-insert same_label_set labels_of (λ k l. (same_label_set-decides k l).0) a es keyed

  put_after : (items : List AlertData) → values_of es ≡ items → values_of (insert_entry same_label_set es a.labels a) ≡ upsert same_alert a items
  put_after items seen = upsert-entries same_label_set labels_of a es keyed ∙ ap (upsert same_alert a) seen

pub invariant_of-self : goal.invariant_of-self
invariant_of-self c =
    let es = c.self.inside.alerts.entries in
    let at = at_key c.args.alert es c.self.invariant c.args.self.now.items c.args.index c.in-Some.i (ap (λ (k : KnownAlerts). k.items) c.self.view_is) c.requires.index c.in-Some.is in
    subst (AreKeyed labels_of) (sym (set-insert same_label_set labels_of c.args.alert es c.in-Some.i c.self.invariant at)) (keyed_after c.args.alert es c.self.invariant)

pub returns-in-Some : goal.returns-in-Some
returns-in-Some c =
    let es = c.self.inside.alerts.entries in
    let seen = ap (λ (k : KnownAlerts). k.items) c.self.view_is in
    let at = at_key c.args.alert es c.self.invariant c.args.self.now.items c.args.index c.in-Some.i seen c.requires.index c.in-Some.is in
    ap values_of (set-insert same_label_set labels_of c.args.alert es c.in-Some.i c.self.invariant at) ∙ put_after c.args.alert es c.self.invariant c.args.self.now.items seen

-- there is capacity, so the entry was made
entered : (c : After-unwrap) → c.insert.new.self.entries ≡ insert_entry same_label_set c.self.inside.alerts.entries c.args.alert.labels c.args.alert
entered c =
    subst (λ r. OnOk r (c.insert.new.self.entries ≡ insert_entry same_label_set c.self.inside.alerts.entries c.args.labels c.args.alert)) c.unwrap.ensures c.insert.ensures.entries
    ∙ ap (λ l. insert_entry same_label_set c.self.inside.alerts.entries l c.args.alert) c.requires.labels

pub invariant_of-self-in-None : goal.invariant_of-self-in-None
invariant_of-self-in-None c =
    let at = (goal.at.invariant_of-self-in-None c).After-unwrap in
    subst (AreKeyed labels_of) (sym (entered at)) (keyed_after c.args.alert c.self.inside.alerts.entries c.self.invariant)

pub invariant_of-self-in-None-2 : goal.invariant_of-self-in-None-2
invariant_of-self-in-None-2 c =
    let at = (goal.at.invariant_of-self-in-None-2 c).After-unwrap in
    subst (AreKeyed labels_of) (sym (entered at)) (keyed_after c.args.alert c.self.inside.alerts.entries c.self.invariant)

pub returns-in-None : goal.returns-in-None
returns-in-None c =
    let at = (goal.at.returns-in-None c).After-unwrap in
    let put = ap values_of (entered at) ∙ put_after c.args.alert c.self.inside.alerts.entries c.self.invariant c.args.self.now.items (ap (λ (k : KnownAlerts). k.items) c.self.view_is) in
    elim c.match-unwrap.branch [
      | in-Some-1 w ↦ ap (λ (k : KnownAlerts). k.items) w.self-is ∙ put
      | in-None-1 w ↦ ap (λ (k : KnownAlerts). k.items) w.self-is ∙ put
    ]
