-- The group that is due first: what a walk from the last group to the first has found.
use Rattle.std.proofs.Common.{◌≡◌, ℕ, ◌+◌, ◌<◌, true, false, cond, Option, Some, None, List, ◌∷◌, length, map, filter, get_or, drop, sym, ap, ◌∙◌, add-one}
use Rattle.std.specs.Option.{option_map}
use Rattle.std.proofs.Math.Seq.{drop-cons}
use Rattle.std.proofs.lemmas.List.{get_or_default}
use Rattle.am_model.specs.Begin.{due_cmp}
use Rattle.am_board.specs.Refinement.{group_state}
use Rattle.am_model.specs.Lists.{lesser, least}
use Rattle.am_model.specs.State.{GroupState, FlushState}
use Rattle.am_board.specs.Beginning.{may_take, first_of, IsFirst}
use Rattle.am_board.specs.declared.group.Group.{Group}

-- the groups from an index on, where that one is `r`
later : (flushes : List FlushState) (t : ℕ) (groups : List Group) (i j : ℕ) (d r : Group) → j < length groups → i ≡ j + 1 → r ≡ get_or groups j r
    → first_of flushes t (map group_state (drop j groups)) ≡ least due_cmp (cond (may_take flushes t (group_state r)) (group_state (get_or groups j d) ∷ filter (may_take flushes t) (map group_state (drop i groups))) (filter (may_take flushes t) (map group_state (drop i groups))))
later flushes t groups i j d r within next is =
    let here : r ≡ get_or groups j d = is ∙ get_or_default groups j r d within in
    let parts : drop j groups ≡ get_or groups j d ∷ drop i groups = drop-cons groups j d within ∙ ap (λ n. get_or groups j d ∷ drop n groups) (sym (add-one j) ∙ sym next) in
    ap (λ gs. first_of flushes t (map group_state gs)) parts
    ∙ ap (λ x. least due_cmp (cond (may_take flushes t (group_state x)) (group_state (get_or groups j d) ∷ filter (may_take flushes t) (map group_state (drop i groups))) (filter (may_take flushes t) (map group_state (drop i groups))))) (sym here)

-- of a group that can be taken, and later ones, the lesser of it and the one of those is taken
pub first_of-taken : (flushes : List FlushState) (t : ℕ) (groups : List Group) (i j : ℕ) (d r : Group) → j < length groups → i ≡ j + 1 → r ≡ get_or groups j r
    → may_take flushes t (group_state r) ≡ true
    → first_of flushes t (map group_state (drop j groups)) ≡ Some (lesser due_cmp (group_state (get_or groups j d)) (first_of flushes t (map group_state (drop i groups))))
first_of-taken flushes t groups i j d r within next is may =
    later flushes t groups i j d r within next is
    ∙ ap (λ b. least due_cmp (cond b (group_state (get_or groups j d) ∷ filter (may_take flushes t) (map group_state (drop i groups))) (filter (may_take flushes t) (map group_state (drop i groups))))) may

-- a group that may not be taken changes nothing
pub first_of-passed : (flushes : List FlushState) (t : ℕ) (groups : List Group) (i j : ℕ) (r : Group) → j < length groups → i ≡ j + 1 → r ≡ get_or groups j r
    → may_take flushes t (group_state r) ≡ false
    → first_of flushes t (map group_state (drop j groups)) ≡ first_of flushes t (map group_state (drop i groups))
first_of-passed flushes t groups i j r within next is may =
    later flushes t groups i j r r within next is
    ∙ ap (λ b. least due_cmp (cond b (group_state (get_or groups j r) ∷ filter (may_take flushes t) (map group_state (drop i groups))) (filter (may_take flushes t) (map group_state (drop i groups))))) may

-- the group at the index, if there is one
pub first_seen : (groups : List Group) (o : Option ℕ) (first : Option GroupState) (d : Group) → IsFirst groups o first → option_map (λ i. group_state (get_or groups i d)) o ≡ first
first_seen groups None first d is = sym is
first_seen groups (Some i) first d is = sym (is d)
