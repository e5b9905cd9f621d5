use Rattle.std.proofs.Common.{◌≡◌, ◌∙◌, ◌<◌, length, ◌+◌, false, ◌++◌, ◌∷◌, [], List, Some, None, map, get_or, inl, inr, refl, sym, ap, subst, arith, true≢false}
use Rattle.std.specs.Prelude.{◌==◌}
use Rattle.std.proofs.lemmas.Cmp.{nat_eq_equiv}
use Rattle.am_model.specs.declared.group.GroupName.{GroupName}
use Rattle.am_model.specs.Insert.{wait_of, new_group, group_with}
use Rattle.am_board.specs.Refinement.{group_state}
use Rattle.am_board.specs.declared.group.Group.{Group}
use Rattle.am_board.specs.Group.{names_of, HasSpace}
use Rattle.am_board.specs.Inserting.{index_in}
use Rattle.am_board.proofs.lemmas.invariant.GroupNames.{names_set, names-push, space_other, space_push}
use Rattle.std.specs.Prelude.{IfSome}
use Rattle.am_board.proofs.lemmas.insert.Found.{found_within}
use Rattle.am_board.proofs.lemmas.insert.GroupSpace.{named_at}
use Rattle.am_board.proofs.lemmas.insert.Placing.{put_group_at, put_group_new, new_group_is}
use Rattle.am_board.proofs.insert.put_placement.Goals as goal
use Rattle.am_board.proofs.insert.put_placement.Goals.{In-Some}
use Rattle.am_board.specs.Marks.{is_marked, marks_of}
use Rattle.am_board.proofs.lemmas.invariant.Marks.{marks_set, marked_push}

-- the group is at the index that was found
there : (c : In-Some) → index_in c.args.placement.name c.args.groups.now.items ≡ Some c.in-Some.i
there c = sym c.requires.found ∙ c.in-Some.is

inside : (c : In-Some) → c.in-Some.i < length c.args.groups.now.items
inside c = subst (λ o. IfSome o (λ i. i < length c.args.groups.now.items)) c.in-Some.is (found_within c.args.placement.index c.args.placement.name c.args.groups.now.items c.requires.found)

named : (c : In-Some) → (d : Group) → (get_or c.args.groups.now.items c.in-Some.i d).name ≡ c.args.placement.name
named c d = named_at c.args.placement.name c.args.groups.now.items c.in-Some.i d (there c)

pub insert-requires-clause-index : goal.insert-requires-clause-index
insert-requires-clause-index c = inside ((goal.at.insert-requires-clause-index c).In-Some)

pub insert-requires-clause-space : goal.insert-requires-clause-space
insert-requires-clause-space c d = let at = (goal.at.insert-requires-clause-space c).In-Some in c.requires.space c.in-Some.i d (inside at) (named at d)

pub returns-in-Some-clause-spare : goal.returns-in-Some-clause-spare
returns-in-Some-clause-spare c = omega (arith, c.insert.ensures.space)

pub returns-in-Some-clause-names : goal.returns-in-Some-clause-names
returns-in-Some-clause-names c =
    let group = c.insert.ensures in
    inl (ap names_of group.items ∙ names_set c.args.groups.now.items c.in-Some.i group.to group.from (group.name ∙ ap (λ (g : Group). g.name) group.was))

pub returns-in-Some-clause-marks : goal.returns-in-Some-clause-marks
returns-in-Some-clause-marks c name =
    let group = c.insert.ensures in
    ap (λ ms. is_marked ms name)
    (ap marks_of group.items ∙ marks_set c.args.groups.now.items c.in-Some.i group.to group.from (group.name ∙ ap (λ (g : Group). g.name) group.was) (group.changed.is_open ∙ ap (λ (g : Group). g.is_open) group.was))

-- names of different routes differ
differ : (a b : GroupName) → (a.route == b.route) ≡ false → b ≡ a → ⊥
differ a b apart same = true≢false (sym (nat_eq_equiv.refl a.route) ∙ ap (λ (n : GroupName). a.route == n.route) (sym same) ∙ apart)

pub returns-in-Some-clause-others : goal.returns-in-Some-clause-others
returns-in-Some-clause-others c name apart space =
    let group = c.insert.ensures in
    let spot = (goal.at.returns-in-Some-clause-others c).In-Some in
    let of_name : group.to.name ≡ c.args.placement.name = group.name ∙ ap (λ (g : Group). g.name) group.was ∙ named spot group.from in
    subst (HasSpace 1 name) (sym group.items)
    (space_other 1 name c.args.groups.now.items c.in-Some.i group.to (inside spot) (λ same. differ name c.args.placement.name apart (sym of_name ∙ same)) space)

pub returns-in-Some-clause-state : goal.returns-in-Some-clause-state
returns-in-Some-clause-state c config m early is =
    let gs : List Group = c.args.groups.now.items in
    let name : GroupName = c.args.placement.name in
    let group = c.insert.ensures in
    let spot = (goal.at.returns-in-Some-clause-state c).In-Some in
    let at : index_in name gs ≡ Some c.in-Some.i = there spot in
    let of_name : group.from.name ≡ name = ap (λ (g : Group). g.name) group.was ∙ named spot group.from in
    ap (map group_state) group.items
    ∙ put_group_at config c.args.t m gs c.in-Some.i group.from group.to name at (inside spot) group.was of_name
    (group.changed.state config (is.wait ∙ ap (wait_of config) (sym of_name)) ∙ ap (λ n. group_with config c.args.t n (group_state group.from)) is.member)

pub add-requires-clause-name : goal.add-requires-clause-name
add-requires-clause-name c = c.requires.ready.2 ∙ sym c.insert-in-None.ensures.name

pub add-requires-clause-missing : goal.add-requires-clause-missing
add-requires-clause-missing c = ap (λ n. index_in n c.args.groups.now.items) c.requires.ready.2 ∙ (sym c.requires.found ∙ c.in-None.is)

pub returns-in-None-clause-names : goal.returns-in-None-clause-names
returns-in-None-clause-names c =
    inr (ap names_of c.add.ensures.items ∙ (names-push c.args.groups.now.items c.insert-in-None.new.self ∙ ap (λ n. names_of c.args.groups.now.items ++ n ∷ []) c.insert-in-None.ensures.name))

pub returns-in-None-clause-marks : goal.returns-in-None-clause-marks
returns-in-None-clause-marks c name =
    ap (λ gs. is_marked (marks_of gs) name) c.add.ensures.items ∙ marked_push c.args.groups.now.items c.insert-in-None.new.self c.insert-in-None.ensures.opened name

pub returns-in-None-clause-others : goal.returns-in-None-clause-others
returns-in-None-clause-others c name apart space =
    subst (HasSpace 1 name) (sym c.add.ensures.items)
    (space_push 1 name c.args.groups.now.items c.insert-in-None.new.self (λ same. differ name c.args.placement.name apart (sym c.insert-in-None.ensures.name ∙ same)) space)

pub returns-in-None-clause-state : goal.returns-in-None-clause-state
returns-in-None-clause-state c config m early is =
    let gs : List Group = c.args.groups.now.items in
    let name : GroupName = c.args.placement.name in
    let fresh : Group = record { name = name; due = c.saturating_add.result; flushed = false; is_open = false; members = c.args.placement.members } in
    let at : index_in name gs ≡ None = sym c.requires.found ∙ c.in-None.is in
    let due : c.saturating_add.result ≡ c.args.t + c.args.placement.wait = omega (arith, c.saturating_add.ensures, early, is.bounded) in
    let made : group_state fresh ≡ new_group config c.args.t name = new_group_is config c.args.t fresh name refl (due ∙ ap (λ n. c.args.t + n) is.wait) refl (ap length c.requires.ready.0) in
    ap (map group_state) c.add.ensures.items
    ∙ put_group_new config c.args.t m gs c.insert-in-None.new.self name at
    (c.insert-in-None.ensures.state config is.wait ∙ (ap (λ n. group_with config c.args.t n (group_state fresh)) is.member ∙ ap (group_with config c.args.t m) made))
