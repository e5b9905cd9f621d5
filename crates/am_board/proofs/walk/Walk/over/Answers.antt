use Rattle.std.proofs.Common.{ℕ, List, map, sym, ◌∙◌, subst}
use Rattle.std.specs.List.{IsDistinct}
use Rattle.std.proofs.lemmas.Result.{IfOk-weaker}
use Rattle.am_model.specs.Insert.{same_member}
use Rattle.am_board.specs.Members.{labels_of}
use Rattle.am_board.specs.Order.{indexes_in_order}
use Rattle.am_board.specs.Refinement.{member_state}
use Rattle.am_board.specs.Walk.{AreSeen, IsWalk}
use Rattle.am_board.specs.declared.group.Member.{Member}
use Rattle.am_board.proofs.walk.Walk.over.Goals as goal

pub indexes_in_order-requires : goal.indexes_in_order-requires
indexes_in_order-requires c = subst (λ (ms : List Member). IsDistinct same_member (map member_state ms)) (sym c.as_slice-all.ensures.value) c.requires.apart

pub returns-in-Some : goal.returns-in-Some
returns-in-Some c =
    let look = c.args.look.now in
    IfOk-weaker c.walk_indexes.result _ _
    (λ walk h.
    subst (λ (ms : List Member). AreSeen look ms (indexes_in_order (map labels_of c.args.members.now.items)) walk) c.as_slice-all.ensures.value
    (subst (λ (ps : List ℕ). AreSeen look c.as_slice-all.result.now ps walk) c.in-Some.ensures h))
    c.walk_indexes.ensures

pub returns-in_ok-indexes-in-None : goal.returns-in_ok-indexes-in-None
returns-in_ok-indexes-in-None c =
    let look = c.args.look.now in
    IfOk-weaker c.walk_indexes-in-None.result _ _
    (λ walk h.
    subst (λ (ms : List Member). IsWalk look ms walk) c.as_slice-all.ensures.value
    (subst (λ (ps : List ℕ). AreSeen look c.as_slice-all.result.now ps walk) (c.as_slice.ensures.value ∙ c.in_ok-indexes-in-None.ensures) h))
    c.walk_indexes-in-None.ensures
