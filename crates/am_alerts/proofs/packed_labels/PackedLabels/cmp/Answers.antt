use Rattle.std.proofs.Common.{◌≡◌, false, string_bytes, sym, ap, ◌∙◌}
use Rattle.std.specs.List.{list_any}
use Rattle.am_alerts.specs.Labels.{label_set_cmp, text_cmp}
use Rattle.am_alerts.specs.PackedLabels.{labels_at}
use Rattle.am_alerts.specs.Packing.{has_zero, packed}
use Rattle.am_alerts.proofs.Packing.{packed-cmp}
use Rattle.am_alerts.proofs.packed_labels.PackedLabels.cmp.Goals as goal

pub returns : goal.returns
returns c =
    let a = labels_at (string_bytes c.self.inside.run) c.self.inside.cuts.items in
    let b = labels_at (string_bytes c.other.inside.run) c.other.inside.cuts.items in
    let plain_a : list_any has_zero a ≡ false = sym c.self.invariant.mark_is ∙ c.if-self.false in
    let plain_b : list_any has_zero b ≡ false = sym c.other.invariant.mark_is ∙ c.if-other.false in
    c.cmp.ensures
    ∙ ap (λ r. text_cmp r c.as_str-2.result.now) (c.as_str.ensures.value ∙ c.self.invariant.run_is)
    ∙ ap (λ r. text_cmp (packed a) r) (c.as_str-2.ensures.value ∙ c.other.invariant.run_is)
    ∙ packed-cmp a b plain_a plain_b
    ∙ ap (λ ls. label_set_cmp ls b) c.self.view_is
    ∙ ap (λ ls. label_set_cmp c.args.self.now ls) c.other.view_is
