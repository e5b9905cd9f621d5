use Rattle.std.proofs.Common.{◌≡◌, ℕ, ◌<◌, Bool, true, false, not, ◌||◌, nat_le, List, ◌++◌, length, get_or, refl, sym, ap, subst, ◌∙◌}
use Rattle.std.specs.Prelude.{IsTrue}
use Rattle.std.specs.List.{IsDistinct}
use Rattle.std.specs.Map.{keys_of, values_of}
use Rattle.std.specs.Ordering.{is_eq}
use Rattle.std.proofs.lemmas.Bool.{and_parts}
use Rattle.std.proofs.lemmas.List.Folds.{list_any-append}
use Rattle.am_model.specs.State.{FlushState, is_flushing, same_name}
use Rattle.am_model.specs.declared.group.GroupName.{GroupName}
use Rattle.am_board.specs.Beginning.{may_take, IsFirstOfKeys}
use Rattle.am_board.specs.Due.{AreDue, key_of}
use Rattle.am_board.specs.DueOrder.{has_key, key_cmp}
use Rattle.am_board.specs.Group.{names_of}
use Rattle.am_board.specs.GroupList.{name_of}
use Rattle.am_board.specs.Keyed.{AreKeyed}
use Rattle.am_board.specs.Marks.{HaveOpenFlags}
use Rattle.am_board.specs.Refinement.{group_state}
use Rattle.am_board.specs.declared.due.DueKey.{DueKey}
use Rattle.am_board.specs.declared.due.DueSet.{DueSet}
use Rattle.am_board.specs.declared.group.Group.{Group}
use Rattle.am_board.proofs.lemmas.begin.DueWalk.{first_of_all}
use Rattle.am_board.proofs.lemmas.invariant.DueKeys.{names-keys}
use Rattle.am_board.proofs.groups.first.first_by_keys.Goals as goal

distinct : (es : List (GroupName × Group)) → AreKeyed name_of es → IsDistinct same_name (keys_of es) → IsDistinct same_name (names_of (values_of es))
distinct es keyed apart = subst (IsDistinct same_name) (sym (names-keys es keyed)) apart

-- the three lists as one
abbrev all_keys : DueSet → List DueKey
all_keys set = (set.ring ++ set.tree.keys) ++ set.heap

-- each group that can be taken has its key there
all_have : (set : DueSet) (gs : List Group) (fs : List FlushState) (t : ℕ) → IsTrue set.whole → AreDue set gs → HaveOpenFlags fs gs
    → (j : ℕ) (d : Group) → j < length gs → may_take fs t (group_state (get_or gs j d)) ≡ true → has_key (all_keys set) (key_of (get_or gs j d)) ≡ true
all_have set gs fs t whole due marked j d within may =
    let g : Group = get_or gs j d in
    let q : DueKey = key_of g in
    let same : DueKey → Bool = λ k. is_eq (key_cmp q k) in
    let closed : g.is_open ≡ false = marked j d within ∙ off (is_flushing fs g.name) (and_parts (nat_le g.due t) (not (is_flushing fs g.name)) may).1 in
    list_any-append same (set.ring ++ set.tree.keys) set.heap
    ∙ (ap (λ b. b || has_key set.heap q) (list_any-append same set.ring set.tree.keys)
    ∙ (assoc (has_key set.ring q) (has_key set.tree.keys q) (has_key set.heap q)
    ∙ due j d within closed whole))
  where
    off : (b : Bool) → not b ≡ true → b ≡ false
    off true h = sym h
    off false h = refl

    assoc : (a b c : Bool) → ((a || b) || c) ≡ (a || (b || c))
    assoc true b c = refl
    assoc false b c = refl

pub returns-clause-first : goal.returns-clause-first
returns-clause-first c fs marked =
    let gs : List Group = values_of c.args.groups.now.entries in
    let set : DueSet = c.args.due.now in
    let t = c.args.t in
    let is = c.as_slice-groups.ensures ∙ c.values.ensures.rest in
    let in_ring : IsFirstOfKeys fs t gs set.ring c.in_ok-in_ring.in_ring = c.in_ok-in_ring.ensures.first fs set.ring marked c.front.ensures in
    let in_tree : IsFirstOfKeys fs t gs set.tree.keys c.in_ok-in_tree.in_tree = c.in_ok-in_tree.ensures.first fs set.tree.keys marked c.tree_front.ensures in
    let in_heap : IsFirstOfKeys fs t gs set.heap c.in_ok-in_heap.in_heap = c.in_ok-in_heap.ensures.first fs set.heap marked c.front-2.ensures in
    let in_both : IsFirstOfKeys fs t gs (set.ring ++ set.tree.keys) c.first_of_two-in_both.result =
    subst (λ (xs : List Group). IsFirstOfKeys fs t xs set.ring c.in_ok-in_ring.in_ring → IsFirstOfKeys fs t xs set.tree.keys c.in_ok-in_tree.in_tree → IsFirstOfKeys fs t xs (set.ring ++ set.tree.keys) c.first_of_two-in_both.result)
    is (c.first_of_two-in_both.ensures.first fs t set.ring set.tree.keys) in_ring in_tree in
    let in_all : IsFirstOfKeys fs t gs (all_keys set) c.first_of_two.result =
    subst (λ (xs : List Group). IsFirstOfKeys fs t xs (set.ring ++ set.tree.keys) c.first_of_two-in_both.result → IsFirstOfKeys fs t xs set.heap c.in_ok-in_heap.in_heap → IsFirstOfKeys fs t xs (all_keys set) c.first_of_two.result)
    is (c.first_of_two.ensures.first fs t (set.ring ++ set.tree.keys) set.heap) in_both in_heap in
    first_of_all fs t gs (all_keys set) (distinct c.args.groups.now.entries c.requires.keyed c.requires.distinct) (all_have set gs fs t c.if-not-due.false c.requires.keys marked) c.first_of_two.result in_all
