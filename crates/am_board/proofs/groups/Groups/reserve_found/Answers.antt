use Rattle.std.proofs.Common.{map, ap, sym, ◌∙◌}
use Rattle.std.proofs.lemmas.Result.{on_ok_weaker}
use Rattle.am_board.specs.Group.{names_of}
use Rattle.am_board.specs.Refinement.{group_state}
use Rattle.am_board.specs.declared.group.Group.{Group}
use Rattle.am_board.proofs.lemmas.invariant.GroupNames.{names_set, states_set}
use Rattle.am_board.proofs.lemmas.invariant.Marks.{marks_set}
use Rattle.am_board.specs.Marks.{marks_of}
use Rattle.am_board.proofs.lemmas.insert.GroupSpace.{space_missing, space_reserved}
use Rattle.am_board.proofs.groups.Groups.reserve_found.Goals as goal

pub returns-in-Some-clause-names : goal.returns-in-Some-clause-names
returns-in-Some-clause-names c =
    let group = c.reserve_at.ensures.kept in
    ap names_of group.items ∙ names_set c.args.self.now.items c.in-Some.i group.to group.from (group.name ∙ ap (λ (g : Group). g.name) group.was)

pub returns-in-Some-clause-marks : goal.returns-in-Some-clause-marks
returns-in-Some-clause-marks c =
    let group = c.reserve_at.ensures.kept in
    ap marks_of group.items ∙ marks_set c.args.self.now.items c.in-Some.i group.to group.from (group.name ∙ ap (λ (g : Group). g.name) group.was) (group.changed.is_open ∙ ap (λ (g : Group). g.is_open) group.was)

pub returns-in-Some-clause-states : goal.returns-in-Some-clause-states
returns-in-Some-clause-states c =
    let group = c.reserve_at.ensures.kept in
    ap (map group_state) group.items ∙ states_set c.args.self.now.items c.in-Some.i group.to group.from (group.changed.state ∙ ap group_state group.was)

pub returns-in-Some-clause-space : goal.returns-in-Some-clause-space
returns-in-Some-clause-space c =
    let group = c.reserve_at.ensures.kept in
    let names = ap names_of group.items ∙ names_set c.args.self.now.items c.in-Some.i group.to group.from (group.name ∙ ap (λ (g : Group). g.name) group.was) in
    on_ok_weaker c.reserve_at.result
    (λ fits name at. space_reserved name c.args.more c.args.self.now.items c.reserve_at.new.self.items c.in-Some.i names c.requires.distinct (sym at ∙ c.in-Some.is) fits)
    c.reserve_at.ensures.space

pub returns-in-None-clause-space : goal.returns-in-None-clause-space
returns-in-None-clause-space c name at = space_missing name c.args.more c.args.self.now.items (sym at ∙ c.in-None.is)
