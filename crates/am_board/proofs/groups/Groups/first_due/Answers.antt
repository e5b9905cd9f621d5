use Rattle.std.proofs.Common.{List, map, sym, subst, ◌∙◌}
use Rattle.std.specs.List.{IsDistinct}
use Rattle.std.specs.Map.{values_of}
use Rattle.am_model.specs.State.{FlushState, same_name}
use Rattle.am_board.specs.Beginning.{first_of, IsFirst}
use Rattle.am_board.specs.Due.{IsTied}
use Rattle.am_board.specs.GroupList.{GroupList}
use Rattle.am_board.specs.Marks.{AreMarked, HaveOpenFlags}
use Rattle.am_board.specs.Refinement.{group_state}
use Rattle.am_board.specs.declared.due.DueSet.{DueSet}
use Rattle.am_board.specs.declared.group.Group.{Group}
use Rattle.am_model.specs.declared.group.GroupName.{GroupName}
use Rattle.am_board.proofs.lemmas.invariant.DueKeys.{names-keys}
use Rattle.am_board.proofs.lemmas.invariant.Marks.{have_open_flags}
use Rattle.am_board.proofs.groups.Groups.first_due.Goals as goal

returned : (due : DueSet) (es : List (GroupName × Group)) → IsTied due es → (fs : List FlushState) → AreMarked fs (values_of es) → HaveOpenFlags fs (values_of es)
returned due es tied fs marked = have_open_flags fs (values_of es) (subst (IsDistinct same_name) (sym (names-keys es tied.keyed)) tied.distinct) marked

pub returns-in-Some-clause-first : goal.returns-in-Some-clause-first
returns-in-Some-clause-first c fs marked =
    subst (λ (k : GroupList). IsFirst k.items c.in-Some.first (first_of fs c.args.t (map group_state k.items))) c.self.view_is
    (c.in-Some.ensures.first fs (returned c.self.inside.due c.self.inside.groups.entries c.self.invariant.0 fs (subst (λ (k : GroupList). AreMarked fs k.items) (sym c.self.view_is) marked)))

pub returns-in-None-clause-first : goal.returns-in-None-clause-first
returns-in-None-clause-first c fs marked =
    let es = c.self.inside.groups.entries in
    let whole = c.as_slice.ensures ∙ c.values.ensures.rest in
    subst (λ (k : GroupList). IsFirst k.items c.first_by_walk.result (first_of fs c.args.t (map group_state k.items))) c.self.view_is
    (subst (λ (gs : List Group). IsFirst gs c.first_by_walk.result (first_of fs c.args.t (map group_state gs))) whole
    (c.first_by_walk.ensures.first fs (subst (HaveOpenFlags fs) (sym whole) (returned c.self.inside.due es c.self.invariant.0 fs (subst (λ (k : GroupList). AreMarked fs k.items) (sym c.self.view_is) marked)))))
