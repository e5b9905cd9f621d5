use Rattle.std.proofs.Common.{rules, ◌≡◌, ◌<◌, [], arith, length, refl, subst, sym, ap, ◌∙◌}
use Rattle.std.proofs.lemmas.List.{nil_from_length}
use Rattle.am_alerts.specs.Layout.{planted}
use Rattle.am_alerts.specs.RouteLayouts.{IsPreorder, paired}
use Rattle.am_alerts.specs.RoutingTree.{matching}
use Rattle.am_alerts.proofs.Layouts.{part_paired}
use Rattle.am_alerts.proofs.Searches.{or_self-none, or_self-some}
use Rattle.am_alerts.proofs.routes.routes_found.Goals as goal
use Rattle.am_alerts.proofs.routes.routes_found.Goals.{then-is_empty+in_ok-push, else-is_empty}

pub push_matching-requires-clause-preorder : goal.push_matching-requires-clause-preorder
push_matching-requires-clause-preorder c =
    subst (λ ts. IsPreorder ts) (sym (part_paired c.args.children.now c.args.layouts.now)) c.requires.preorder

pub returns : goal.returns
returns c =
    let found : c.push_matching.new.found.items ≡ matching 1 (planted (paired c.args.children.now c.args.layouts.now)) c.args.labels.now =
    rw c.new-found.ensures.items at c.in_ok-push_matching.ensures
    ∙ ap (λ ts. matching 1 (planted ts) c.args.labels.now) (part_paired c.args.children.now c.args.layouts.now) in
    rw (← found)
    (elim c.if-is_empty.branch [
      | then-is_empty+in_ok-push w ↦
          let size : length c.push_matching.new.found.items ≡ 0 = search rules in
          let none : c.push_matching.new.found.items ≡ [] = nil_from_length c.push_matching.new.found.items size in
          or_self-none c.push_matching.new.found.items c.if-is_empty.found.items none (rw w.found-is w.in_ok-push.ensures.items)
      | else-is_empty w ↦
          let size : 0 < length c.push_matching.new.found.items = search rules in
          let some : c.push_matching.new.found.items ≡ [] → ⊥ = λ e. let z : length c.push_matching.new.found.items ≡ 0 = ap length e in
          omega arith in
          or_self-some c.push_matching.new.found.items c.if-is_empty.found.items some (rw w.found-is refl)
    ])
