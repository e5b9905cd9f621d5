use Rattle.std.proofs.Common.{◌≡◌, ℕ, ◌+◌, ◌-◌, ◌≤◌, ◌&&◌, not, drop, refl, sym, ap, ◌∙◌, arith}
use Rattle.am_alerts.specs.LabelOrder.{label_set_cmp_total}
use Rattle.am_alerts.specs.Labels.{label_set_cmp}
use Rattle.am_nflog.specs.Members.{is_ascending}
use Rattle.am_board.proofs.lemmas.load.Ascending.{ascending-on, ascending-short}
use Rattle.am_board.proofs.load.is_ascending.Goals as goal

pub loop-i-init : goal.loop-i-init
loop-i-init c = refl

pub returns-then-ge : goal.returns-then-ge
returns-then-ge c =
    let some : 1 ≤ c.loop-i.i = omega arith in
    let sets = c.args.sets.now in
    let on = ascending-on label_set_cmp label_set_cmp_total sets c.loop-i.i c.index-sets-i.result c.index-sets-i-in-loop-i.result some c.loop-i-test.true c.index-sets-i.is c.index-sets-i-in-loop-i.is in
    sym (sym c.loop-i.invariant ∙ on ∙ ap (λ b. not b && is_ascending label_set_cmp (drop c.loop-i.i sets)) (sym c.ge.ensures ∙ c.if-ge.true))

pub loop-i-preserved : goal.loop-i-preserved
loop-i-preserved c =
    let some : 1 ≤ c.loop-i.i = omega arith in
    let sets = c.args.sets.now in
    let back : c.loop-i.i + 1 - 1 ≡ c.loop-i.i = omega arith in
    let on = ascending-on label_set_cmp label_set_cmp_total sets c.loop-i.i c.index-sets-i.result c.index-sets-i-in-loop-i.result some c.loop-i-test.true c.index-sets-i.is c.index-sets-i-in-loop-i.is in
    ap (λ (i : ℕ). is_ascending label_set_cmp (drop i sets)) back
    ∙ sym (on ∙ ap (λ b. not b && is_ascending label_set_cmp (drop c.loop-i.i sets)) (sym c.ge.ensures ∙ c.if-ge.false))
    ∙ c.loop-i.invariant

pub returns : goal.returns
returns c = sym (sym c.loop-i.invariant ∙ ascending-short label_set_cmp label_set_cmp_total c.args.sets.now (c.loop-i.i - 1) (omega (arith, c.loop-i-test.false)))
