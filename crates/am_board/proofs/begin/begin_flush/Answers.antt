use Rattle.std.proofs.Common.{◌≡◌, ◌+◌, [], ◌∷◌, ◌++◌, refl, ap, ◌∙◌, arith}
use Rattle.am_model.specs.Records.{entry}
use Rattle.am_model.specs.declared.record.Call.TheVariants.{Begin}
use Rattle.am_model.specs.declared.record.Reply.TheVariants.{Flush}
use Rattle.am_board.proofs.lemmas.begin.Ends.{begun_kept, accepts_flush}
use Rattle.am_model.proofs.tickets.Outcomes.{count_unreported-le-length}
use Rattle.am_board.proofs.begin.begin_flush.Goals as goal
use Rattle.am_board.specs.declared.group.Group.{Group}

pub invariant_of-result : goal.invariant_of-result
invariant_of-result c =
    let few = count_unreported-le-length c.args.planned.outcomes.items c.args.planned.notices.items in
    (omega (arith, few, c.args.planned.notices.ok.0), c.requires.few)

pub returns : goal.returns
returns c config g good takes some planned =
    let old = c.args.state.now in
    let o = c.args.planned in
    let group = c.begin.ensures in
    let begun = begun_kept config c.args.chosen.call.id old c.args.chosen g good takes group.to group.from group.was group.changed in
    let next : c.saturating_add-state.result ≡ old.next_number + 1 = omega (arith, c.saturating_add-state.ensures, good.numbers) in (
      accepts_flush config c.args.chosen.call.id old c.args.chosen g good takes group.to o _ some planned begun (ap (λ (x : Group). x.is_open) group.changed) group.items
          (ap (λ n. record old { clock = c.args.chosen.t; groups = c.begin.new.self; log = c.reserve_rows.new.log; flushes = c.push_back_reserved.new.self; next_number = n; history = c.push_reserved.new.self }) next)
          c.reserve_rows.ensures.rows c.reserve_rows.ensures.known c.in_ok-reserve_rows.ensures.notified
          (c.push_back_reserved.ensures.items ∙ ap (λ fs. fs ++ o.flush ∷ []) c.in_ok-reserve-2.ensures.items)
          (c.push_reserved.ensures.items ∙ ap (λ rs. rs ++ entry c.args.chosen.call.pass (Begin c.args.chosen.call.now) (Flush o.recorded_group o.recorded) ∷ []) c.in_ok-reserve.ensures.items)
          (omega (arith, c.push_reserved.ensures.len, c.in_ok-reserve.ensures.len))
          (omega (arith, c.push_reserved.ensures.len, c.push_reserved.ensures.capacity, c.push_back_reserved.ensures.len, c.in_ok-reserve.ensures.len, c.in_ok-reserve.ensures.ok, c.in_ok-reserve-2.ensures.len, c.len.ensures)),
      (refl, planned.outcomes),
    )
