use Rattle.std.proofs.Common.{◌≡◌, ◌+◌, ◌<◌, ◌^◌, List, ◌++◌, ◌∷◌, [], get_or, map, take, refl, ap, ◌∙◌, sym, subst, arith, length, if◌then◌else◌}
use Rattle.std.specs.Prelude.{IfSome}
use Rattle.std.specs.List.{enumerate_from}
use Rattle.std.proofs.lemmas.List.{take_all}
use Rattle.am_alerts.specs.declared.route.Route.{Route}
use Rattle.am_model.specs.declared.config.Integration.{Integration}
use Rattle.am_model.specs.look_back.Reasons.{notifies}
use Rattle.am_board.specs.Beginning.{alert_sets_of, copies_of, update_of}
use Rattle.am_board.specs.LogRows.{log_rows}
use Rattle.am_board.specs.Look.{state_seen}
use Rattle.am_board.specs.Dedup.{AreDecided, reason_among, reason_by_row}
use Rattle.am_board.specs.declared.dedup.Decided.{Decided}
use Rattle.am_board.proofs.lemmas.begin.PlannedFlushes.{repeat-fits}
use Rattle.am_board.proofs.lemmas.begin.Previews.{reasons-more, kept-entry, kept-holds, wanted-more}
use Rattle.am_board.proofs.lemmas.begin.Reasons.{decided_each}
use Rattle.am_board.proofs.lemmas.begin.Updates.{few-of, notified-next}
use Rattle.am_board.proofs.dedup.decide_each.Goals as goal

pub overflow_add-key : goal.overflow_add-key
overflow_add-key c =
    let few = few-of c.args.look.now.config.now c.args.group.now c.integrations_of-integrations.result.now c.requires.look.few c.integrations_of-integrations.ensures in
    omega (arith, few, c.loop-integration.invariant.integration)

pub reason-reason-requires-clause-fits : goal.reason-reason-requires-clause-fits
reason-reason-requires-clause-fits c =
    let inv = c.loop-integration.invariant in
    let log = c.args.look.now.state.now.log in
    let repeat = c.route-route.result.now.repeat_interval in
    subst (λ o. IfSome o (λ row. row.time + repeat + 1 < 2 ^ 64)) (sym c.get-row.ensures.row)
    (kept-holds _ (λ a b. refl) log c.loop-integration.key c.args.group.now c.loop-integration.integration-index c.get-row.ensures.distinct inv.group inv.integration
    (λ n. n + repeat + 1 < 2 ^ 64)
    (λ k d within. repeat-fits c.route-route.result.now (get_or (log_rows log) k d).time c.route-route.ensures.intervals (c.requires.look.times k d within)))

pub loop-integration-preserved : goal.loop-integration-preserved
loop-integration-preserved c =
    let inv = c.loop-integration.invariant in
    let look = c.args.look.now in
    let log = look.state.now.log in
    let i = c.loop-integration.integration-index in
    let one = c.integration-item.result in
    let all = c.integrations_of-integrations.result.now in
    let repeat = c.route-route.result.now.repeat_interval in
    let within : i < length all = omega arith in
    let sets = alert_sets_of (copies_of look.t c.args.unmuted.now) in
    let reason = reason_among (log_rows log) c.args.group.now sets repeat look.t in
    let entry = kept-entry _ (λ a b. refl) log c.loop-integration.key c.args.group.now i c.get-row.ensures.distinct inv.group inv.integration in
    let is : c.reason-reason.result ≡ reason (i, one) =
    c.reason-reason.ensures ∙ ap (λ o. reason_by_row o sets one.send_resolved repeat look.t) (c.get-row.ensures.row ∙ sym entry) in
    let before = map reason (enumerate_from 0 (take i all)) in
    record {
      group = inv.group;
      integration = omega (arith, inv.integration);
      reasons =
          c.in_ok-push_if.ensures
          ∙ (λ j. inv.reasons j ++ (if look.why then is j ∷ [] else []))
          ∙ wanted-more look.why before (map reason (enumerate_from 0 (take (i + 1) all))) (reason (i, one)) (reasons-more reason all i one within c.integration-item.is);
      notified =
          notified-next (λ j. notifies (reason j)) all i one c.loop-integration.notified.items within c.integration-item.is inv.notified
          _ (notifies c.reason-reason.result) (ap notifies is) c.loop-integration.key.integration inv.integration (c.in_ok-push_if-2.ensures ∙ ap (λ b. c.loop-integration.notified.items ++ (if b then update_of (c.loop-integration.key.integration, one) ∷ [] else [])) c.notifies.ensures);
    }

pub returns : goal.returns
returns c =
    let look = c.args.look.now in
    let given = c.integrations_of-integrations.result.now in
    let sets = alert_sets_of (copies_of look.t c.args.unmuted.now) in
    let inv = c.loop-integration.invariant in
    let decided : Decided = record { reasons = c.loop-integration.reasons; notified = c.loop-integration.notified } in
    let whole : take c.loop-integration.integration-index given ≡ given = take_all _ _ (omega arith) in
    let reason = reason_among (log_rows look.state.now.log) c.args.group.now sets c.route-route.result.now.repeat_interval look.t in
    decided_each look.config.now (state_seen look) c.args.group.now sets look.t decided look.why c.route-route.result.now.repeat_interval (ap (λ (r : Route). r.repeat_interval) c.route-route.ensures.route)
    (subst (λ (l : List Integration). AreDecided look.why reason (enumerate_from 0 l) decided) (whole ∙ c.integrations_of-integrations.ensures) (record { reasons = inv.reasons; notified = inv.notified }))
