use Rattle.std.proofs.Common.{◌≡◌, ◌≢◌, false, string_bytes, sym, ap, ◌∙◌}
use Rattle.std.specs.List.{list_any}
use Rattle.std.specs.Ordering.{is_eq}
use Rattle.std.specs.Str.{bytes_eq}
use Rattle.std.proofs.lemmas.Cmp.{is_eq_index}
use Rattle.am_alerts.specs.LabelOrder.{label_set_hash, same_label_set-cmp}
use Rattle.am_alerts.specs.Labels.{same_label_set}
use Rattle.am_alerts.specs.PackedLabels.{labels_at}
use Rattle.am_alerts.specs.Packing.{has_zero, packed, run_hash}
use Rattle.am_alerts.proofs.LabelSets.{unlike_hashes}
use Rattle.am_alerts.proofs.Packing.{packed-same}
use Rattle.am_alerts.proofs.packed_labels.PackedLabels.is_same.Goals as goal

pub returns-then-self-other : goal.returns-then-self-other
returns-then-self-other c =
    let a : c.self.inside.hash ≡ label_set_hash c.args.self.now =
    c.self.invariant.hash_is ∙ ap (λ r. run_hash r) c.self.invariant.run_is ∙ ap (λ ls. label_set_hash ls) c.self.view_is in
    let b : c.other.inside.hash ≡ label_set_hash c.args.other.now =
    c.other.invariant.hash_is ∙ ap (λ r. run_hash r) c.other.invariant.run_is ∙ ap (λ ls. label_set_hash ls) c.other.view_is in
    let unlike : label_set_hash c.args.self.now ≢ label_set_hash c.args.other.now = λ e. c.if-self-other.true (a ∙ e ∙ sym b) in
    sym (unlike_hashes c.args.self.now c.args.other.now unlike)

pub returns-then-self : goal.returns-then-self
returns-then-self c =
    c.eq.ensures ∙ sym (is_eq_index c.cmp_by_label.result) ∙ ap is_eq c.cmp_by_label.ensures
    ∙ sym (same_label_set-cmp c.args.self.now c.args.other.now)

pub returns : goal.returns
returns c =
    let a = labels_at (string_bytes c.self.inside.run) c.self.inside.cuts.items in
    let b = labels_at (string_bytes c.other.inside.run) c.other.inside.cuts.items in
    let plain_a : list_any has_zero a ≡ false = sym c.self.invariant.mark_is ∙ c.if-self.false in
    let plain_b : list_any has_zero b ≡ false = sym c.other.invariant.mark_is ∙ c.if-other.false in
    c.eq-2.ensures
    ∙ ap (λ r. bytes_eq r c.as_str-2.result.now) (c.as_str.ensures.value ∙ c.self.invariant.run_is)
    ∙ ap (λ r. bytes_eq (packed a) r) (c.as_str-2.ensures.value ∙ c.other.invariant.run_is)
    ∙ packed-same a b plain_a plain_b
    ∙ ap (λ ls. same_label_set ls b) c.self.view_is
    ∙ ap (λ ls. same_label_set c.args.self.now ls) c.other.view_is
