use Rattle.std.proofs.Common.{sym, ap, ◌∙◌, subst}
use Rattle.am_alerts.specs.AlertData.{AlertData}
use Rattle.am_alerts.specs.declared.route.Route.{Route}
use Rattle.am_model.specs.Insert.{wait_of}
use Rattle.am_model.specs.State.{MemberState}
use Rattle.am_model.specs.declared.config.Config.{Config}
use Rattle.am_board.specs.Again.{HasAt}
use Rattle.am_board.specs.Group.{Changes, Gets}
use Rattle.am_board.specs.GroupList.{GroupList}
use Rattle.am_board.specs.Inserting.{stamped_alert}
use Rattle.am_board.proofs.lemmas.insert.Again.{has_still, is_put, put_one_more}
use Rattle.am_board.proofs.again.+put_in_each.Goals as goal

pub replace-requires-clause-member : goal.replace-requires-clause-member
replace-requires-clause-member t c =
    let old : GroupList = c.args.groups.now in
    let mid : GroupList = c.put_in_each.new.groups in
    let put = is_put c.args.config.now c.args.written.now.t (stamped_alert c.args.written.now.alert.now c.args.written.now.stamp) c.in-Some.names.now old mid c.in_ok-put_in_each.field-0 c.if-not-branch.false c.in_ok-put_in_each.ensures in
    let found = c.in-Some-spot.ensures in
    let same = c.labels.ensures.labels ∙ ap (λ (a : AlertData). a.labels) (sym c.in_ok-copy.ensures) in
    subst (λ ls. HasAt ls c.in-Some-spot.spot mid.items) same
    (has_still c.labels.result.now c.in-Some-spot.spot old.items mid.items put.labels found.within found.member)

pub returns : goal.returns
returns t c =
    let config : Config = c.args.config.now in
    let old : GroupList = c.args.groups.now in
    let mid : GroupList = c.put_in_each.new.groups in
    let new : GroupList = c.replace.new.self in
    let m : MemberState = stamped_alert c.args.written.now.alert.now c.args.written.now.stamp in
    let put = is_put config c.args.written.now.t m c.in-Some.names.now old mid c.in_ok-put_in_each.field-0 c.if-not-branch.false c.in_ok-put_in_each.ensures in
    let group = subst (λ (a : AlertData). Changes (Gets (stamped_alert a c.args.written.now.stamp) c.route.result.now.group_wait c.args.written.now.t) c.in-Some-spot.spot.group mid new) c.in_ok-copy.ensures c.replace.ensures.group in
    put_one_more config c.args.written.now.t m old mid new c.in-Some.names.now c.in-Some.destination.now c.labels.result.now c.in-Some-spot.spot c.route.result.now.group_wait
    put c.in-Some-spot.ensures group c.replace.ensures.labels (ap (λ (r : Route). r.group_wait) c.route.ensures.route ∙ ap (wait_of config) c.name.ensures) c.args.names.now c.in-Some.ensures.cases.0
