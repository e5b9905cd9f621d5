use Rattle.std.proofs.Common.{◌≡◌, ◌∙◌, ◌<◌, arith, Some, is_some, length, map, sym, ap, true≢false}
use Rattle.std.specs.Option.{option_map}
use Rattle.am_model.specs.State.{GroupState, time}
use Rattle.am_model.specs.declared.preview.Preview.{Preview}
use Rattle.am_model.specs.look_back.Preview.{preview_at, preview_on, reason_of}
use Rattle.am_board.specs.Refinement.{flush_state, group_state, state_of}
use Rattle.am_board.specs.declared.group.Group.{Group}
use Rattle.am_board.proofs.lemmas.begin.PlannedFlushes.{members-apart}
use Rattle.am_board.proofs.lemmas.invariant.GroupNames.{routed_at}
use Rattle.am_board.proofs.preview.preview_of.Goals as goal
use Rattle.am_board.proofs.preview.preview_of.Goals.{After-at}

within : (c : After-at) → c.in-Some.index < length c.args.state.now.groups.items
within c = c.in-Some.ensures.within

pub of-requires-clause-look : goal.of-requires-clause-look
of-requires-clause-look c =
    record {
      sources = c.requires.sources;
      few = c.requires.good.few;
      times = c.requires.times;
      time = omega (arith, c.requires.good.consistent.clock, c.time-t.ensures);
    }

pub of-requires-clause-route : goal.of-requires-clause-route
of-requires-clause-route c =
    routed_at c.args.config.now.routes c.args.state.now.groups.items c.in-Some.index c.at.result.now c.requires.good.routed (within c) c.at.ensures

pub of-requires-clause-apart : goal.of-requires-clause-apart
of-requires-clause-apart c =
    members-apart c.args.state.now.groups.items c.in-Some.index c.at.result.now c.requires.good.consistent.members (within c) c.at.ensures

pub returns-in_default-clause-preview : goal.returns-in_default-clause-preview
returns-in_default-clause-preview c =
    let s = state_of c.args.state.now in
    let config = c.args.config.now in
    sym (ap (λ t. preview_at config s t) (sym c.time-t.ensures)
    ∙ ap (option_map (preview_on config s c.time-t.result (reason_of config s c.time-t.result))) (c.in_default.ensures.first (map flush_state c.args.state.now.flushes.items) c.requires.good.marked))

-- the preview of the group that is due
due : (c : After-at) → preview_at c.args.config.now (state_of c.args.state.now) (time (state_of c.args.state.now) c.args.now)
    ≡ Some (preview_on c.args.config.now (state_of c.args.state.now) c.time-t.result (reason_of c.args.config.now (state_of c.args.state.now) c.time-t.result) (group_state c.at.result.now))
due c =
    let s = state_of c.args.state.now in
    let config = c.args.config.now in
    let g : Group = c.at.result.now in
    let on : GroupState → Preview = preview_on config s c.time-t.result (reason_of config s c.time-t.result) in
    ap (λ t. preview_at config s t) (sym c.time-t.ensures)
    ∙ (ap (option_map on) (c.in-Some.ensures.first (map flush_state c.args.state.now.flushes.items) c.requires.good.marked g)
    ∙ ap (λ (x : Group). Some (on (group_state x))) (sym c.at.ensures))

pub returns-in_err-found-clause-answers : goal.returns-in_err-found-clause-answers
returns-in_err-found-clause-answers c none =
    absurd (true≢false (sym (ap is_some (due (goal.at.returns-in_err-found-clause-answers c).After-at)) ∙ ap is_some none))

pub returns-clause-preview : goal.returns-clause-preview
returns-clause-preview c =
    c.in_ok-found.ensures.preview ∙ sym (due (goal.at.returns-clause-preview c).After-at)
