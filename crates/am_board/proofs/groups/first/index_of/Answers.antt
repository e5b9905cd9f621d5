use Rattle.std.proofs.Common.{◌≡◌, Some, sym, subst, ◌∙◌}
use Rattle.std.specs.List.{position, IsDistinct}
use Rattle.std.specs.Map.{values_of}
use Rattle.am_model.specs.State.{same_name}
use Rattle.am_board.specs.Due.{IsCurrent}
use Rattle.am_board.specs.Group.{names_of}
use Rattle.am_board.specs.GroupList.{name_of}
use Rattle.am_board.specs.declared.group.Group.{Group}
use Rattle.am_board.proofs.lemmas.begin.DueIndexes.{current_none, current_some, current_stale}
use Rattle.am_board.proofs.lemmas.invariant.DueKeys.{names-keys}
use Rattle.am_board.proofs.lemmas.invariant.Keyed.{index_of-keys, value_at}
use Rattle.am_board.proofs.groups.first.index_of.Goals as goal
use Rattle.am_board.proofs.groups.first.index_of.Goals.{After-index}

-- the name was found at this index
found : (c : After-index) → position (λ (g : Group). same_name c.args.key.now.name g.name) (values_of c.args.groups.now.entries) ≡ Some c.in_ok-index.index
found c =
    sym (index_of-keys same_name name_of c.args.key.now.name c.args.groups.now.entries c.requires.keyed)
    ∙ (sym c.get_index_of.ensures.index ∙ c.in_ok-index.was)

distinct : (c : After-index) → IsDistinct same_name (names_of (values_of c.args.groups.now.entries))
distinct c = subst (IsDistinct same_name) (sym (names-keys c.args.groups.now.entries c.requires.keyed)) c.requires.distinct

pub returns-in_err-index : goal.returns-in_err-index
returns-in_err-index c =
    let gs = values_of c.args.groups.now.entries in
    subst (IsCurrent gs c.args.key.now) (sym c.from_residual.ensures)
    (current_none gs c.args.key.now
    (sym (index_of-keys same_name name_of c.args.key.now.name c.args.groups.now.entries c.requires.keyed)
    ∙ (sym c.get_index_of.ensures.index ∙ c.in_err-index.was)))

pub returns-then-index-key : goal.returns-then-index-key
returns-then-index-key c =
    let at = (goal.at.returns-then-index-key c).After-index in
    let gs = values_of c.args.groups.now.entries in
    current_some gs c.args.key.now c.in_ok-index.index c.index.result.now (distinct at) (found at) (value_at gs c.in_ok-index.index c.index.result.now c.index.ensures).0 c.if-index-key.true

pub returns-else-index-key : goal.returns-else-index-key
returns-else-index-key c =
    let at = (goal.at.returns-else-index-key c).After-index in
    let gs = values_of c.args.groups.now.entries in
    current_stale gs c.args.key.now c.in_ok-index.index c.index.result.now (distinct at) (found at) (value_at gs c.in_ok-index.index c.index.result.now c.index.ensures).0 c.if-index-key.false
