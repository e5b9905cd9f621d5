use Rattle.std.proofs.Common.{◌≡◌, ◌∙◌, true, Some, None, List, map, length, count_by, sym, ap, subst, not, ◌&&◌, arith}
use Rattle.std.proofs.lemmas.List.{length-map}
use Rattle.std.specs.Prelude.{position}
use Rattle.std.specs.List.{IsDistinct}
use Rattle.am_board.specs.Finishing.{leaves_where, without_leaving}
use Rattle.am_board.specs.Group.{names_of}
use Rattle.am_board.specs.Marks.{is_marked, marks_of}
use Rattle.am_board.specs.Refinement.{group_state}
use Rattle.am_model.specs.Insert.{same_group}
use Rattle.am_model.specs.Lists.{changed_where}
use Rattle.am_model.specs.State.{GroupState, same_name, is_named, members_in}
use Rattle.am_model.specs.declared.group.GroupName.{GroupName}
use Rattle.am_board.specs.declared.group.Group.{Group}
use Rattle.am_board.proofs.lemmas.insert.Found.{names_apart, same_indexes}
use Rattle.am_board.proofs.lemmas.insert.GroupSpace.{named_at}
use Rattle.am_board.proofs.lemmas.invariant.GroupNames.{names_set, states_set}
use Rattle.am_board.proofs.lemmas.invariant.Marks.{marked_close, marked_missing}
use Rattle.am_board.proofs.lemmas.finish.TakenOut.{members-found, members-missing, changed-missing, changed-found, none-leave, groups-stay}
use Rattle.am_board.proofs.finish.take_out.Goals as goal
use Rattle.am_board.proofs.finish.take_out.Goals.{After-close}

-- ---- the group was found, and marked as closed

at : (c : After-close) → position (λ g. same_name c.args.name g.name) c.args.groups.now.items ≡ Some c.in-Some.i
at c = sym c.in-Some.ensures.index

names : (c : After-close) → names_of c.close.new.self.items ≡ names_of c.args.groups.now.items
names c =
    let group = c.close.ensures in
    ap names_of group.items ∙ names_set c.args.groups.now.items c.in-Some.i group.to group.from (group.name ∙ ap (λ (g : Group). g.name) group.was)

states : (c : After-close) → map group_state c.close.new.self.items ≡ map group_state c.args.groups.now.items
states c =
    let group = c.close.ensures in
    ap (map group_state) group.items ∙ states_set c.args.groups.now.items c.in-Some.i group.to group.from (ap group_state group.changed ∙ ap group_state group.was)

marks : (c : After-close) → IsDistinct same_group (map group_state c.args.groups.now.items) → (n : GroupName)
    → is_marked (marks_of c.close.new.self.items) n ≡ (is_marked (marks_of c.args.groups.now.items) n && not (same_name n c.args.name))
marks c distinct n =
    let group = c.close.ensures in
    let gs : List Group = c.args.groups.now.items in
    let of_name : group.to.name ≡ c.args.name = group.name ∙ (ap (λ (g : Group). g.name) group.was ∙ named_at c.args.name gs c.in-Some.i group.from (at c)) in
    ap (λ hs. is_marked (marks_of hs) n) group.items
    ∙ (marked_close gs c.in-Some.i group.to (names_apart gs distinct) c.in-Some.ensures.within (ap (λ (g : Group). g.is_open) group.changed) (of_name ∙ sym (named_at c.args.name gs c.in-Some.i group.to (at c))) n
    ∙ ap (λ m. is_marked (marks_of gs) n && not (same_name n m)) of_name)

pub close-requires-clause-name : goal.close-requires-clause-name
close-requires-clause-name c d = named_at c.args.name c.args.groups.now.items c.in-Some.i d (sym c.in-Some.ensures.index)

-- ---- there is no such group

pub returns-in_default-clause-marks : goal.returns-in_default-clause-marks
returns-in_default-clause-marks c distinct n = marked_missing c.args.groups.now.items c.args.name (sym c.in_default.ensures.index) n

pub returns-in_default-clause-groups : goal.returns-in_default-clause-groups
returns-in_default-clause-groups c distinct =
    let at : position (λ g. same_name c.args.name g.name) c.args.groups.now.items ≡ None = sym c.in_default.ensures.index in
    sym (changed-missing c.args.name c.args.groups.now.items (without_leaving c.args.all_succeeded c.args.leaving.now) at)

pub returns-in_default-clause-count : goal.returns-in_default-clause-count
returns-in_default-clause-count c =
    let at : position (λ g. same_name c.args.name g.name) c.args.groups.now.items ≡ None = sym c.in_default.ensures.index in
    sym (ap (count_by (leaves_where c.args.all_succeeded c.args.leaving.now)) (members-missing c.args.name c.args.groups.now.items at))

-- ---- one integration failed

pub returns-then-not-all_succeeded-clause-names : goal.returns-then-not-all_succeeded-clause-names
returns-then-not-all_succeeded-clause-names c = names ((goal.at.returns-then-not-all_succeeded-clause-names c).After-close)

pub returns-then-not-all_succeeded-clause-marks : goal.returns-then-not-all_succeeded-clause-marks
returns-then-not-all_succeeded-clause-marks c = marks ((goal.at.returns-then-not-all_succeeded-clause-marks c).After-close)

pub returns-then-not-all_succeeded-clause-groups : goal.returns-then-not-all_succeeded-clause-groups
returns-then-not-all_succeeded-clause-groups c distinct =
    states ((goal.at.returns-then-not-all_succeeded-clause-groups c).After-close)
    ∙ sym (ap (λ all. changed_where (is_named c.args.name) (without_leaving all c.args.leaving.now) (map group_state c.args.groups.now.items)) c.if-not-all_succeeded.true
    ∙ groups-stay c.args.leaving.now c.args.name (map group_state c.args.groups.now.items))

pub returns-then-not-all_succeeded-clause-count : goal.returns-then-not-all_succeeded-clause-count
returns-then-not-all_succeeded-clause-count c =
    sym (ap (λ all. count_by (leaves_where all c.args.leaving.now) (members_in (map group_state c.args.groups.now.items) c.args.name)) c.if-not-all_succeeded.true
    ∙ none-leave c.args.leaving.now (members_in (map group_state c.args.groups.now.items) c.args.name))

-- ---- all succeeded

pub take_leaving-requires : goal.take_leaving-requires
take_leaving-requires c =
    let same = states ((goal.at.take_leaving-requires c).After-close) in
    omega (arith, c.in-Some.ensures.within, ap length same, length-map c.close.new.self.items group_state, length-map c.args.groups.now.items group_state)

pub returns-clause-names : goal.returns-clause-names
returns-clause-names c =
    let group = c.take_leaving.ensures.group in
    ap names_of group.items ∙ (names_set c.close.new.self.items c.in-Some.i group.to group.from (group.name ∙ ap (λ (g : Group). g.name) group.was)
    ∙ names ((goal.at.returns-clause-names c).After-close))

pub returns-clause-marks : goal.returns-clause-marks
returns-clause-marks c distinct n =
    ap (λ ms. is_marked ms n) c.take_leaving.ensures.marks ∙ marks ((goal.at.returns-clause-marks c).After-close) distinct n

pub returns-clause-groups : goal.returns-clause-groups
returns-clause-groups c distinct =
    let spot = (goal.at.returns-clause-groups c).After-close in
    let gs = c.close.new.self.items in
    let group = c.take_leaving.ensures.group in
    let here : position (λ g. same_name c.args.name g.name) gs ≡ Some c.in-Some.i = same_indexes c.args.name c.args.groups.now.items gs (names spot) ∙ at spot in
    ap (map group_state) group.items
    ∙ (changed-found c.args.name gs c.in-Some.i group.from (without_leaving c.args.all_succeeded c.args.leaving.now) group.to here (subst (IsDistinct same_group) (sym (states spot)) distinct)
    (group.changed
    ∙ (ap (λ all. without_leaving all c.args.leaving.now (group_state group.from)) (sym c.if-not-all_succeeded.false)
    ∙ ap (λ (g : Group). without_leaving c.args.all_succeeded c.args.leaving.now (group_state g)) group.was))
    ∙ ap (changed_where (is_named c.args.name) (without_leaving c.args.all_succeeded c.args.leaving.now)) (states spot))

pub returns-clause-count : goal.returns-clause-count
returns-clause-count c =
    let spot = (goal.at.returns-clause-count c).After-close in
    let gs = c.close.new.self.items in
    let group = c.take_leaving.ensures.group in
    let here : position (λ g. same_name c.args.name g.name) gs ≡ Some c.in-Some.i = same_indexes c.args.name c.args.groups.now.items gs (names spot) ∙ at spot in
    c.take_leaving.ensures.count group.from
    ∙ (ap (count_by (leaves_where true c.args.leaving.now)) (sym (members-found c.args.name gs c.in-Some.i group.from here))
    ∙ (ap (λ all. count_by (leaves_where all c.args.leaving.now) (members_in (map group_state gs) c.args.name)) (sym c.if-not-all_succeeded.false)
    ∙ ap (λ (ss : List GroupState). count_by (leaves_where c.args.all_succeeded c.args.leaving.now) (members_in ss c.args.name)) (states spot)))
