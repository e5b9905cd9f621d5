use Rattle.std.proofs.Common.{◌∙◌, [], map, refl, sym, ap, if◌then◌else◌}
use Rattle.std.specs.Prelude.{is_some}
use Rattle.std.specs.List.{filter_map}
use Rattle.am_model.specs.Configured.{route_muted}
use Rattle.am_board.specs.Beginning.{copies_at, copies_of}
use Rattle.am_board.specs.Look.{state_seen}
use Rattle.am_board.specs.Members.{labels_of}
use Rattle.am_board.specs.Order.{indexes_in_order}
use Rattle.am_board.specs.Refinement.{group_state}
use Rattle.am_board.specs.Walk.{cause_seen, muted_at}
use Rattle.am_board.proofs.lemmas.begin.WhatIsUnmuted.{is_walked, not_muted, nothing_found}
use Rattle.am_board.proofs.found.unmuted_and_muted.Goals as goal

pub returns-then-is_some-clause-unmuted : goal.returns-then-is_some-clause-unmuted
returns-then-is_some-clause-unmuted c =
    let look = c.args.look.now in
    let none = copies_of look.t c.nothing.result in
    nothing_found look.config.now (state_seen look) look.t (group_state c.args.group.now) none.firing none.resolved
    (sym (c.is_some.ensures ∙ ap is_some c.requires.until) ∙ c.if-is_some.true)
    (ap (copies_at look.t) c.nothing.ensures.firing) (ap (copies_at look.t) c.nothing.ensures.resolved)

pub returns-clause-unmuted : goal.returns-clause-unmuted
returns-clause-unmuted c =
    let look = c.args.look.now in
    is_walked look.config.now (state_seen look) look.t c.args.group.now c.requires.apart look.why c.in_ok-walk.walk
    (copies_of look.t (record { firing = c.in_ok-walk.walk.firing; resolved = c.in_ok-walk.walk.resolved }))
    (not_muted (route_muted look.config.now c.args.group.now.name look.t) (sym (c.is_some.ensures ∙ ap is_some c.requires.until) ∙ c.if-is_some.false))
    c.in_ok-walk.ensures refl refl

pub returns-clause-muted : goal.returns-clause-muted
returns-clause-muted c wanted =
    let ms = c.args.group.now.members.items in
    c.in_ok-walk.ensures.muted ∙ ap (λ b. if b then filter_map (muted_at (cause_seen c.args.look.now) ms) (indexes_in_order (map labels_of ms)) else []) wanted
