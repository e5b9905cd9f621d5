use Rattle.std.proofs.Common.{◌∙◌, [], map, ap, true≢false, sym, if◌then◌else◌}
use Rattle.std.specs.List.{filter_map}
use Rattle.am_board.specs.Members.{labels_of}
use Rattle.am_board.specs.Order.{indexes_in_order}
use Rattle.am_board.specs.Walk.{cause_seen, muted_at}
use Rattle.am_board.proofs.found.muted_in.Goals as goal

pub returns-then-not-look : goal.returns-then-not-look
returns-then-not-look c wanted = absurd (true≢false (sym wanted ∙ c.if-not-look.true))

pub returns : goal.returns
returns c wanted =
    let ms = c.args.members.now.items in
    c.in_ok-walk.ensures.muted ∙ ap (λ b. if b then filter_map (muted_at (cause_seen c.args.look.now) ms) (indexes_in_order (map labels_of ms)) else []) wanted
