use Rattle.std.proofs.Common.{◌≡◌, ◌∙◌, ◌<◌, ◌≤◌, List, [], ◌∷◌, ◌++◌, ℕ, length, map, sym, ap, subst, arith}
use Rattle.std.specs.Prelude.{All}
use Rattle.std.proofs.lemmas.List.Elements.{All-push}
use Rattle.am_alerts.specs.RoutingTree.{last_of}
use Rattle.am_board.specs.Inserting.{IsFound, IsToPut, name_at, stamped_alert}
use Rattle.am_board.specs.declared.insert.Placement.{Placement}
use Rattle.am_board.specs.declared.insert.Target.{Target}
use Rattle.am_model.specs.State.{MemberState}
use Rattle.am_model.specs.declared.group.GroupName.{GroupName}
use Rattle.am_board.proofs.lemmas.insert.Placing.{names_more}
use Rattle.am_board.proofs.insert.find_routed.Goals as goal

pub find_target-requires : goal.find_target-requires
find_target-requires c =
    let exist : All (λ (p : ℕ). p ≤ last_of c.args.routes.now) c.deref-route-items.result.now =
    subst (All (λ (p : ℕ). p ≤ last_of c.args.routes.now)) (sym c.deref-route-items.ensures.value) c.in_ok-positions.ensures.exist in
    exist c.loop-route.route-index 0 (omega arith)

pub prepare-requires : goal.prepare-requires
prepare-requires c =
    let exist : All (λ (p : ℕ). p ≤ last_of c.args.routes.now) c.deref-route-items.result.now =
    subst (All (λ (p : ℕ). p ≤ last_of c.args.routes.now)) (sym c.deref-route-items.ensures.value) c.in_ok-positions.ensures.exist in
    subst (λ (n : GroupName). n.route ≤ last_of c.args.routes.now) (sym c.in_ok-target.ensures.name) (exist c.loop-route.route-index 0 (omega arith))

pub loop-route-preserved : goal.loop-route-preserved
loop-route-preserved c =
    let before : List Placement = c.loop-route.placements.items in
    let x : Placement = c.in_ok-prepare.field-0 in
    let routes : List ℕ = c.deref-route-items.result.now in
    let i : ℕ = c.loop-route.route-index in
    let m : MemberState = stamped_alert c.args.alert.now c.args.stamp in
    let Is : Placement → Type 0 = IsToPut c.args.routes.now c.args.groups.now.items m in
    let within : i < length routes = omega arith in
    let pushed : c.push.new.self.items ≡ before ++ x ∷ [] = c.in_ok-push.ensures.items in
    let target = c.in_ok-prepare.ensures.target in
    let found = subst (IsFound c.args.groups.now.items) (sym target) c.in_ok-target.ensures.found in
    record {
      names = ap (map (λ (p : Placement). p.name)) pushed ∙ names_more (name_at c.args.routes.now c.labels-labels.result.now) before x routes i within c.loop-route.invariant.names (ap (λ (t : Target). t.name) target ∙ c.in_ok-target.ensures.name);
      found = subst (All Is) (sym pushed) (All-push Is before x c.loop-route.invariant.found (found, c.in_ok-prepare.ensures.ready, c.in_ok-prepare.ensures.placed));
    }
