use Rattle.std.proofs.Common.{◌≤◌, ℕ, sym, subst, arith}
use Rattle.std.specs.Prelude.{All}
use Rattle.am_alerts.specs.RoutingTree.{last_of}
use Rattle.am_board.proofs.status.route_statuses.Goals as goal

pub muted-requires : goal.muted-requires
muted-requires c =
    let exist : All (λ (p : ℕ). p ≤ last_of c.args.config.now.routes) c.deref-position-items.result.now =
    subst (All (λ (p : ℕ). p ≤ last_of c.args.config.now.routes)) (sym c.deref-position-items.ensures.value) c.in_ok-positions.ensures.exist in
    exist c.loop-position.position-index 0 (omega arith)
