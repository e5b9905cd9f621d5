use Rattle.std.proofs.Common.{refl}
use Rattle.am_board.specs.Beginning.{alert_sets_of, copies_of}
use Rattle.am_board.specs.Look.{state_seen}
use Rattle.am_board.specs.Refinement.{group_state}
use Rattle.am_board.proofs.lemmas.begin.Reasons.{notified_are, reasons_are}
use Rattle.am_board.proofs.lemmas.begin.WhatIsUnmuted.{unmuted-rises}
use Rattle.am_board.proofs.found.Found.of.Goals as goal

pub decide-requires-clause-rising : goal.decide-requires-clause-rising
decide-requires-clause-rising c =
    let look = c.args.look.now in
    unmuted-rises look.config.now (state_seen look) look.t (group_state c.args.group.now) (copies_of look.t c.in_ok-unmuted.unmuted) c.requires.apart c.in_ok-unmuted.ensures.unmuted

pub shown-requires-clause-reasons : goal.shown-requires-clause-reasons
shown-requires-clause-reasons c =
    let look = c.args.look.now in
    let unmuted = copies_of look.t c.in_ok-unmuted.unmuted in
    reasons_are look.config.now (state_seen look) look.t (group_state c.args.group.now) unmuted c.in_ok-unmuted.ensures.unmuted (alert_sets_of unmuted) refl
    c.route_muted-until.result c.route_muted-until.ensures look.why c.in_ok-decided.decided c.in_ok-decided.ensures

pub returns : goal.returns
returns c =
    let look = c.args.look.now in
    let config = look.config.now in
    let s = state_seen look in
    let g = group_state c.args.group.now in
    let unmuted = copies_of look.t c.in_ok-unmuted.unmuted in
    record {
      unmuted = c.in_ok-unmuted.ensures.unmuted;
      rising = unmuted-rises config s look.t g unmuted c.requires.apart c.in_ok-unmuted.ensures.unmuted;
      notified = notified_are config s look.t g unmuted c.in_ok-unmuted.ensures.unmuted (alert_sets_of unmuted) refl
          c.route_muted-until.result c.route_muted-until.ensures look.why c.in_ok-decided.decided c.in_ok-decided.ensures;
      preview = c.in_ok-preview.ensures;
    }
