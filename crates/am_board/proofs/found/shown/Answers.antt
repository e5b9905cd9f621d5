use Rattle.std.proofs.Common.{◌∙◌, Some, None, List, map, sym, ap, if◌then◌else◌}
use Rattle.std.specs.List.{filter_map}
use Rattle.am_model.specs.look_back.Preview.{preview_on, reason_of}
use Rattle.am_board.specs.Look.{state_seen}
use Rattle.am_board.specs.Members.{labels_of}
use Rattle.am_board.specs.Order.{indexes_in_order}
use Rattle.am_board.specs.Refinement.{group_state}
use Rattle.am_board.specs.Walk.{cause_seen, muted_at, muted_member}
use Rattle.am_board.specs.declared.group.Member.{Member}
use Rattle.am_board.proofs.lemmas.begin.MutedIndexes.{as_muted_alerts}
use Rattle.am_board.proofs.found.shown.Goals as goal

pub returns-then-not-look : goal.returns-then-not-look
returns-then-not-look c =
    let look = c.args.look.now in
    let s = state_seen look in
    sym (ap (λ b. if b then Some (preview_on look.config.now s look.t (reason_of look.config.now s look.t) (group_state c.args.group.now)) else None) c.if-not-look.true)

pub returns : goal.returns
returns c =
    let look = c.args.look.now in
    let s = state_seen look in
    let causes = cause_seen look in
    let same = c.as_slice-members.ensures.value in
    let wanted = c.if-not-look.false in
    let muted =
    c.in_ok-in_group_order.ensures causes (c.requires.muted wanted ∙ ap (λ (l : List Member). filter_map (muted_at causes l) (indexes_in_order (map labels_of l))) (sym same))
    ∙ ap (filter_map (muted_member causes)) same
    ∙ as_muted_alerts look.config.now s look.t c.args.group.now.members.items in
    let reasons = c.from.ensures ∙ c.requires.reasons wanted in
    (λ i. Some (record { time = look.t; group = c.in_ok-copy.ensures i; muted = muted i; reasons = reasons i }))
    ∙ ap (λ b. if b then Some (preview_on look.config.now s look.t (reason_of look.config.now s look.t) (group_state c.args.group.now)) else None) (sym wanted)
