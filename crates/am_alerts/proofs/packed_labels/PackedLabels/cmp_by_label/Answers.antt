use Rattle.std.proofs.Common.{◌≡◌, ◌≢◌, ◌+◌, ◌<◌, drop, length, sym, ap, ◌∙◌, arith}
use Rattle.std.specs.declared.cmp.Ordering.TheVariants.{Equal}
use Rattle.std.specs.Ordering.{nat_cmp, ordering_then}
use Rattle.am_alerts.specs.declared.labels.Label.{Label}
use Rattle.am_alerts.specs.Labels.{label_cmp, label_in, label_set_cmp}
use Rattle.am_alerts.proofs.Packing.{cmp_at, cmp_all, then_ne, tied_from_ne, untied_from_ne}
use Rattle.am_alerts.proofs.packed_labels.PackedLabels.cmp_by_label.Goals as goal

pub loop-i-preserved : goal.loop-i-preserved
loop-i-preserved c =
    let a = c.args.self.now in
    let b = c.args.other.now in
    let l : Label = label_in c.pair.result in
    let m : Label = label_in c.pair-in-loop-i.result in
    let below_a : c.loop-i.i < length a = omega (arith, c.loop-i-test.true, c.min-i-end.ensures, c.len.ensures, c.len-2.ensures) in
    let below_b : c.loop-i.i < length b = omega (arith, c.loop-i-test.true, c.min-i-end.ensures, c.len.ensures, c.len-2.ensures) in
    let step = cmp_at a b c.loop-i.i l m below_a below_b (c.pair.ensures l) (c.pair-in-loop-i.ensures m) in
    let tied : label_cmp l m ≡ Equal = sym c.label_order-order.ensures ∙ tied_from_ne _ (sym c.ne.ensures ∙ c.if-ne.false) in
    sym (ap (λ o. ordering_then o (label_set_cmp (drop (c.loop-i.i + 1) a) (drop (c.loop-i.i + 1) b))) tied) ∙ sym step ∙ c.loop-i.invariant

pub returns-then-ne : goal.returns-then-ne
returns-then-ne c =
    let a = c.args.self.now in
    let b = c.args.other.now in
    let l : Label = label_in c.pair.result in
    let m : Label = label_in c.pair-in-loop-i.result in
    let below_a : c.loop-i.i < length a = omega (arith, c.loop-i-test.true, c.min-i-end.ensures, c.len.ensures, c.len-2.ensures) in
    let below_b : c.loop-i.i < length b = omega (arith, c.loop-i-test.true, c.min-i-end.ensures, c.len.ensures, c.len-2.ensures) in
    let step = cmp_at a b c.loop-i.i l m below_a below_b (c.pair.ensures l) (c.pair-in-loop-i.ensures m) in
    let untied : label_cmp l m ≢ Equal = λ e. untied_from_ne _ (sym c.ne.ensures ∙ c.if-ne.true) (c.label_order-order.ensures ∙ e) in
    c.label_order-order.ensures ∙ sym (then_ne (label_cmp l m) (label_set_cmp (drop (c.loop-i.i + 1) a) (drop (c.loop-i.i + 1) b)) untied)
    ∙ sym step ∙ c.loop-i.invariant

pub returns : goal.returns
returns c =
    let a = c.args.self.now in
    let b = c.args.other.now in
    c.cmp.ensures ∙ ap (λ n. nat_cmp n c.len-4.result) c.len-3.ensures ∙ ap (λ n. nat_cmp (length a) n) c.len-4.ensures
    ∙ sym (cmp_all a b c.loop-i.i
    (omega (arith, c.min-i-end.ensures, c.len.ensures, c.len-2.ensures, c.loop-i-test.false, c.loop-i.auto.i-end)))
    ∙ c.loop-i.invariant
