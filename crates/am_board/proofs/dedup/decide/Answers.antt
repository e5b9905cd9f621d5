use Rattle.std.proofs.Common.{ℕ, sym, subst, Option, ◌∙◌}
use Rattle.std.proofs.lemmas.Result.{IfOk-weaker}
use Rattle.am_model.specs.Configured.{integrations_of}
use Rattle.am_board.specs.Beginning.{alert_sets_of, copies_of}
use Rattle.am_board.specs.Dedup.{AreDecided, reason_for}
use Rattle.am_board.specs.Look.{state_seen}
use Rattle.am_board.proofs.lemmas.begin.Reasons.{common-none, common-quiet, decided_alike}
use Rattle.am_board.proofs.dedup.decide.Goals as goal

pub decide_alike-requires : goal.decide_alike-requires
decide_alike-requires c =
    let look = c.args.look.now in
    common-quiet c.args.muted_until (alert_sets_of (copies_of look.t c.args.unmuted.now)) c.in-Some.reason (sym c.in-Some.is ∙ c.common_reason.ensures look.t)

pub returns-in-Some : goal.returns-in-Some
returns-in-Some c =
    let look = c.args.look.now in
    let sets = alert_sets_of (copies_of look.t c.args.unmuted.now) in
    IfOk-weaker c.decide_alike.result _ _
    (λ d h. decided_alike look.config.now (state_seen look) c.args.group.now sets look.t c.args.muted_until d look.why c.in-Some.reason (sym c.in-Some.is ∙ c.common_reason.ensures look.t) h)
    c.decide_alike.ensures

pub decide_each-requires-clause-some : goal.decide_each-requires-clause-some
decide_each-requires-clause-some c =
    let look = c.args.look.now in
    (common-none c.args.muted_until (alert_sets_of (copies_of look.t c.args.unmuted.now)) (sym c.in-None.is ∙ c.common_reason.ensures look.t)).1

pub returns-in-None : goal.returns-in-None
returns-in-None c =
    let look = c.args.look.now in
    let sets = alert_sets_of (copies_of look.t c.args.unmuted.now) in
    let until = (common-none c.args.muted_until sets (sym c.in-None.is ∙ c.common_reason.ensures look.t)).0 in
    IfOk-weaker c.decide_each.result _ _
    (λ d h. subst (λ (o : Option ℕ). AreDecided look.why (reason_for look.config.now (state_seen look) c.args.group.now o sets look.t) (integrations_of look.config.now c.args.group.now) d) until h)
    c.decide_each.ensures
