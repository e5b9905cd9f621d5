use Rattle.std.proofs.Common.{◌≡◌, List, sym, ap, ◌∙◌}
use Rattle.std.specs.Map.{values_of}
use Rattle.am_model.specs.State.{FlushState, is_flushing}
use Rattle.am_board.specs.Marks.{HaveOpenFlags}
use Rattle.am_board.specs.declared.due.DueKey.{DueKey}
use Rattle.am_board.specs.declared.group.Group.{Group}
use Rattle.am_board.proofs.lemmas.invariant.Keyed.{value_at}
use Rattle.am_board.proofs.groups.first.free_index.Goals as goal
use Rattle.am_board.proofs.groups.first.free_index.Goals.{After-index}

-- the group at the index says whether a flush of the key's group is open
said : (c : After-index) (fs : List FlushState) → HaveOpenFlags fs (values_of c.args.groups.now.entries) → is_flushing fs c.args.key.now.name ≡ c.index.result.now.is_open
said c fs returned =
    let gs = values_of c.args.groups.now.entries in
    let index = c.in_ok-index.index in
    let g : Group = c.index.result.now in
    let there = value_at gs index g c.index.ensures in
    sym (ap (λ (q : DueKey). is_flushing fs q.name) (c.in_ok-index.ensures.1 g))
    ∙ (sym (returned index g there.1) ∙ ap (λ (x : Group). x.is_open) (sym there.0))

pub returns-then-index-clause-free : goal.returns-then-index-clause-free
returns-then-index-clause-free c fs returned k d within is = said ((goal.at.returns-then-index-clause-free c).After-index) fs returned ∙ c.if-index.true

pub returns-else-index-clause-free : goal.returns-else-index-clause-free
returns-else-index-clause-free c fs returned = (c.in_ok-index.ensures, said ((goal.at.returns-else-index-clause-free c).After-index) fs returned ∙ c.if-index.false)

pub returns-else-index-clause-within : goal.returns-else-index-clause-within
returns-else-index-clause-within c = c.in_ok-index.ensures.0
