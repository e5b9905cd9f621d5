use Rattle.std.proofs.Common.{◌≡◌, None, false, Vec, Global, List, ap, subst, sym, ◌∙◌}
use Rattle.am_plans.proofs.Decodings.{denied_on}
use Rattle.am_plans.proofs.Makes.{fails_first, fails_second}
use Rattle.am_plans.proofs.Plans.{adds_begin, adds_span}
use Rattle.am_plans.specs.Planned.{AddsPlans, inserts_in, may_insert, may_insert_in}
use Rattle.am_plans.specs.declared.planned.Planned.{Planned}
use Rattle.am_plans.proofs.planned.add_span.Goals as goal
use Rattle.am_plans.proofs.planned.add_span.Goals.{then-is_some+in_ok-add_insert-2, else-is_some}

pub returns-clause-adds : goal.returns-clause-adds
returns-clause-adds c =
    let before = c.args.planned.now.items in
    let labels = c.args.labels.now in
    let span = c.args.span.now in
    elim c.if-is_some.branch [
      | then-is_some+in_ok-add_insert-2 w ↦
          subst (λ (l : List Planned). AddsPlans before l (inserts_in labels span)) (sym (ap (λ (v : Vec Planned Global). v.items) w.planned-is))
          (adds_span before c.add_insert.new.planned.items w.add_insert-then-is_some.new.planned.items labels span (sym c.is_some.ensures ∙ w.if-is_some.true) c.in_ok-add_insert.ensures.adds w.in_ok-add_insert-2.ensures.adds)
      | else-is_some w ↦
          subst (λ (l : List Planned). AddsPlans before l (inserts_in labels span)) (sym (ap (λ (v : Vec Planned Global). v.items) w.planned-is))
          (adds_begin before c.add_insert.new.planned.items labels span (sym c.is_some.ensures ∙ w.if-is_some.false) c.in_ok-add_insert.ensures.adds)
    ]

pub returns-in_err-add_insert-clause-refused : goal.returns-in_err-add_insert-clause-refused
returns-in_err-add_insert-clause-refused c =
    let labels = c.args.labels.now in
    let span = c.args.span.now in
    denied_on (may_insert_in labels span ≡ false) c.from_residual.result c.in_err-add_insert.field-0.0 c.from_residual.ensures.1
    (λ refusal. fails_first (may_insert labels span.from None) (may_insert labels span.from span.to) (c.in_err-add_insert.ensures.refused refusal))

pub returns-in_err-add_insert-2-clause-refused : goal.returns-in_err-add_insert-2-clause-refused
returns-in_err-add_insert-2-clause-refused c =
    let labels = c.args.labels.now in
    let span = c.args.span.now in
    denied_on (may_insert_in labels span ≡ false) c.from_residual-in_err-add_insert-2.result c.in_err-add_insert-2.field-0.0 c.from_residual-in_err-add_insert-2.ensures.1
    (λ refusal. fails_second (may_insert labels span.from None) (may_insert labels span.from span.to) (c.in_err-add_insert-2.ensures.refused refusal))
