use Rattle.std.proofs.Common.{◌≡◌, None, map, refl, subst}
use Rattle.am_model.specs.Begin.{taken}
use Rattle.am_board.specs.Beginning.{IsChosen}
use Rattle.am_board.specs.Refinement.{flush_state, state_of}
use Rattle.am_board.specs.declared.begin.ChosenGroup.{ChosenGroup}
use Rattle.am_board.proofs.lemmas.begin.Causes.{taken-none, taking_found}
use Rattle.am_board.proofs.lemmas.invariant.GroupNames.{routed_at}
use Rattle.am_board.proofs.begin.choose.Goals as goal

pub due_again-due-requires-clause-route : goal.due_again-due-requires-clause-route
due_again-due-requires-clause-route c =
    routed_at c.args.config.now.routes c.args.state.now.groups.items c.in-Some.index c.at.result.now c.requires.routed c.in-Some.ensures.within c.at.ensures

pub returns-in_default : goal.returns-in_default
returns-in_default c =
    let s = c.args.state.now in
    subst (λ n. taken (state_of s) n ≡ None) c.time-t.ensures
    (taken-none s c.time-t.result s.groups.items s.flushes.items refl refl (c.in_default.ensures.first (map flush_state s.flushes.items) c.requires.marked))

pub returns : goal.returns
returns c =
    let s = c.args.state.now in
    let chosen : ChosenGroup = record { call = c.args.call; t = c.time-t.result; index = c.in-Some.index; due = c.due_again-due.result } in
    let takes : IsChosen c.args.config.now s chosen c.at.result.now =
    taking_found c.args.config.now s chosen c.at.result.now s.groups.items s.flushes.items refl refl
    c.time-t.ensures c.in-Some.ensures.within (c.in-Some.ensures.first (map flush_state s.flushes.items) c.requires.marked c.at.result.now) c.at.ensures c.due_again-due.ensures in
    (refl, record { group = c.at.result.now; chosen = takes })
