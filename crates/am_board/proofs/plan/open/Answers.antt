use Rattle.std.proofs.Common.{◌≡◌, ◌∙◌, ◌+◌, ◌*◌, refl, ap, max, min, arith}
use Rattle.am_alerts.specs.declared.route.Route.{Route}
use Rattle.am_model.specs.declared.notice.TheConstants.{MIN_FLUSH_TIMEOUT}
use Rattle.am_model.specs.Begin.{notified_of, deadline_of}
use Rattle.am_board.specs.Look.{state_seen}
use Rattle.am_board.specs.Refinement.{group_state}
use Rattle.am_board.proofs.lemmas.begin.PlannedFlushes.{all-spare, deadline-is, flush-is, kept_for-is, notices-are}
use Rattle.am_board.proofs.plan.open.Goals as goal

pub returns : goal.returns
returns c =
    let look = c.args.look.now in
    let config = look.config.now in
    let s = state_seen look in
    let t = look.t in
    let g = c.args.group.now in
    let notified = notified_of config s t (group_state g) in
    let route = c.route-route.ensures.route in
    let deadline : c.saturating_add-deadline.result ≡ deadline_of config t (group_state g) =
    deadline-is c.route-route.result.now t c.max-interval.result c.saturating_add-deadline.result c.route-route.ensures.intervals c.requires.look.time c.max-interval.ensures c.saturating_add-deadline.ensures
    ∙ ap (λ (r : Route). t + max r.group_interval MIN_FLUSH_TIMEOUT) route in
    let notices = c.in_ok-notices.ensures.items ∙ notices-are config s t g c.args.unmuted.now c.requires.unmuted notified c.args.id c.saturating_add-deadline.result c.args.notified.now c.requires.notified deadline in
    record {
      flush = flush-is config s t g c.args.unmuted.now c.requires.unmuted notified c.min-kept_for.result c.args.notified.now c.requires.notified c.in_ok-flush.field-0 c.in_ok-flush.ensures;
      kept_for = c.in_ok-flush.ensures.kept_for
          ∙ (kept_for-is c.route-route.result.now config.retention c.saturating_mul.result c.min-kept_for.result c.route-route.ensures.intervals c.saturating_mul.ensures c.min-kept_for.ensures
          ∙ ap (λ (r : Route). min config.retention (2 * r.repeat_interval)) route);
      spare = all-spare config s t g c.args.unmuted.now c.requires.unmuted notified c.min-kept_for.result c.args.notified.now c.requires.notified c.in_ok-flush.field-0 c.in_ok-flush.ensures;
      number = refl;
      deadline = deadline;
      group = c.in_ok-copy.ensures;
      recorded_group = c.in_ok-copy-2.ensures;
      notices = notices;
      recorded = c.in_ok-recorded.ensures ∙ ap (λ ns. record { number = s.next_number; deadline = c.saturating_add-deadline.result; notices = ns }) c.as_slice.ensures.value;
      outcomes = c.in_ok-with_capacity.ensures.items;
      none = c.in_ok-with_capacity.ensures.len;
      space = omega (arith, c.in_ok-with_capacity.ensures.capacity, c.len.ensures);
    }
