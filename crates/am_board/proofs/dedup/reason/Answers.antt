use Rattle.std.proofs.Common.{◌≡◌, IsTrue, List, Bor, map, sym, ap, ◌∙◌, subst, if◌then◌else◌}
use Rattle.std.specs.Option.{option_copied}
use Rattle.am_alerts.specs.Labels.{label_set_cmp, same_label_set}
use Rattle.am_alerts.specs.declared.labels.Label.{Label}
use Rattle.am_nflog.specs.Members.{is_ascending}
use Rattle.am_nflog.specs.Needed.{update_reason}
use Rattle.am_model.specs.declared.reason.Reason.{Reason}
use Rattle.am_model.specs.declared.reason.Reason.TheVariants.{NothingLeft}
use Rattle.am_model.specs.look_back.Reasons.{reason_of_update}
use Rattle.am_board.specs.Beginning.{alert_sets_of, lent_labels, copies_of}
use Rattle.am_board.specs.declared.group.Member.{Member}
use Rattle.am_board.proofs.lemmas.begin.Lent.{labels-lent, lent-rise}
use Rattle.am_board.proofs.dedup.reason.Goals as goal

pub update_reason-update-requires-clause-firing_ascending : goal.update_reason-update-requires-clause-firing_ascending
update_reason-update-requires-clause-firing_ascending c =
    subst (λ (l : List (Bor Member)). IsTrue (is_ascending label_set_cmp (map lent_labels l))) (sym c.as_slice-firing.ensures.value)
    (lent-rise c.args.t c.args.unmuted.now.firing.items c.requires.rising.firing)

pub update_reason-update-requires-clause-resolved_ascending : goal.update_reason-update-requires-clause-resolved_ascending
update_reason-update-requires-clause-resolved_ascending c =
    subst (λ (l : List (Bor Member)). IsTrue (is_ascending label_set_cmp (map lent_labels l))) (sym c.as_slice-resolved.ensures.value)
    (lent-rise c.args.t c.args.unmuted.now.resolved.items c.requires.rising.resolved)

pub returns : goal.returns
returns c =
    let t = c.args.t in
    let found = c.args.unmuted.now in
    let sets = alert_sets_of (copies_of t found) in
    let fact : List (List Label) → List (List Label) → Reason = λ fire gone.
    reason_of_update c.args.repeat_interval (update_reason same_label_set (option_copied c.args.logged) fire gone c.args.send_resolved c.args.repeat_interval t) in
    let fire : map lent_labels c.as_slice-firing.result.now ≡ sets.firing = ap (map lent_labels) c.as_slice-firing.ensures.value ∙ labels-lent t found.firing.items in
    let gone : map lent_labels c.as_slice-resolved.result.now ≡ sets.resolved = ap (map lent_labels) c.as_slice-resolved.ensures.value ∙ labels-lent t found.resolved.items in
    c.reason_of_update.ensures
    ∙ ap (reason_of_update c.args.repeat_interval) c.update_reason-update.ensures
    ∙ (λ i. fact (fire i) (gone i))
    ∙ sym (ap (λ b. if b then NothingLeft else fact sets.firing sets.resolved) c.requires.some)
