-- The keys in front of lists: what they say of all groups.
use Rattle.std.proofs.Common.{◌≡◌, ℕ, zero, suc, ◌<◌, ◌≤◌, Bool, true, false, true≢false, cond, not, ◌&&◌, ◌||◌, nat_le, Option, Some, None, List, [], ◌∷◌, ◌++◌, length, map, filter, get_or, refl, sym, inl, inr, ap, ◌∙◌, subst, arith}
use Rattle.std.specs.BinaryHeap.{IsHeap, IsUpperBound}
use Rattle.std.specs.Borrow.{Bor}
use Rattle.std.specs.Prelude.{◌⊎◌, IfSome, IsSome, IsTrue}
use Rattle.std.specs.Slice.{IsItemAt}
use Rattle.std.specs.List.{AllByRecursion, IsDistinct}
use Rattle.std.specs.Option.{option_map}
use Rattle.std.specs.List.Sorted.{IsStrictlySortedBy}
use Rattle.std.specs.Ordering.{is_eq, is_gt, is_lt, ordering_reverse}
use Rattle.std.specs.declared.cmp.Ordering.{Ordering}
use Rattle.std.specs.declared.cmp.Ordering.TheVariants.{Less, Equal, Greater}
use Rattle.std.proofs.lemmas.Bool.{le-leb}
use Rattle.std.proofs.lemmas.List.{get_or-map, get_or_default, length-map}
use Rattle.std.proofs.lemmas.List.Folds.{list_any-append}
use Rattle.am_model.specs.Begin.{due_cmp}
use Rattle.am_model.specs.Lists.{least, lesser}
use Rattle.am_model.specs.State.{FlushState, GroupState, is_flushing, same_name}
use Rattle.am_model.proofs.lists.Distinct.{all_to}
use Rattle.am_model.proofs.states.Alike.{same_name_equiv}
use Rattle.am_board.specs.Beginning.{may_take, first_of, IsFirst, IsFirstOfKeys}
use Rattle.am_board.specs.Due.{key_of, IsCurrent, IsFree}
use Rattle.am_board.specs.DueOrder.{has_key, key_at, key_cmp, key_cmp_total, AreRising, IsFront, IsKeyBehind}
use Rattle.am_board.specs.Group.{names_of}
use Rattle.am_board.specs.Refinement.{group_state}
use Rattle.am_board.specs.declared.due.DueKey.{DueKey}
use Rattle.am_board.specs.declared.group.Group.{Group}
use Rattle.am_board.proofs.lemmas.invariant.DueKeys.{key-is, only_index}

-- ---- the least of those that pass, where each of them is one element or behind it

module _ {X : Type 0} (cmp : X → X → Ordering) (test : X → Bool) (x : X) where
  -- an element is x, or behind it
  abbrev pub IsBehind : X → Type 0
  IsBehind y = (y ≡ x) ⊎ ((is_gt (cmp y x) ≡ true) × (is_gt (cmp x y) ≡ false))

  abbrev Behind : Option X → Type 0
  Behind None = Unit
  Behind (Some y) = IsBehind y

  before : (o : Option X) → Behind o → lesser cmp x o ≡ x
  before None h = refl
  before (Some y) h =
      elim h [
        | inl e ↦ elim (is_gt (cmp x y)) as (λ b. cond b y x ≡ x) [ true ↦ e | false ↦ refl ]
        | inr e ↦ ap (λ b. cond b y x) e.1
      ]

  after : (y : X) → IsBehind y → lesser cmp y (Some x) ≡ x
  after y h =
      elim h [
        | inl e ↦ elim (is_gt (cmp y x)) as (λ b. cond b x y ≡ x) [ true ↦ refl | false ↦ e ]
        | inr e ↦ ap (λ b. cond b x y) e.0
      ]

  lesser_behind : (y : X) (o : Option X) → IsBehind y → Behind o → IsBehind (lesser cmp y o)
  lesser_behind y None h g = h
  lesser_behind y (Some z) h g = elim (is_gt (cmp y z)) as (λ b. IsBehind (cond b z y)) [ true ↦ g | false ↦ h ]

  behind : (ys : List X) → AllByRecursion (λ y. test y ≡ true → IsBehind y) ys → Behind (least cmp (filter test ys))
  behind [] h = tt
  behind (y ∷ ys) h =
      elim (test y) as (λ b. test y ≡ b → Behind (least cmp (cond b (y ∷ filter test ys) (filter test ys)))) [
        | true ↦ λ e. lesser_behind y (least cmp (filter test ys)) (h.0 e) (behind ys h.1)
        | false ↦ λ e. behind ys h.1
      ] refl

  pub least_is : (ys : List X) (i : ℕ) → i < length ys → get_or ys i x ≡ x → test x ≡ true → AllByRecursion (λ y. test y ≡ true → IsBehind y) ys
      → least cmp (filter test ys) ≡ Some x
  least_is [] i within at may h = absurd (omega (arith, within))
  least_is (y ∷ ys) zero within at may h =
      ap (λ b. least cmp (cond b (y ∷ filter test ys) (filter test ys))) (ap test at ∙ may)
      ∙ ap (λ z. Some (lesser cmp z (least cmp (filter test ys)))) at
      ∙ ap (λ z. Some z) (before (least cmp (filter test ys)) (behind ys h.1))
  least_is (y ∷ ys) (suc i) within at may h =
      let rest : least cmp (filter test ys) ≡ Some x = least_is ys i (omega (arith, within)) at may h.1 in
      elim (test y) as (λ b. test y ≡ b → least cmp (cond b (y ∷ filter test ys) (filter test ys)) ≡ Some x) [
        | true ↦ λ e. ap (λ o. Some (lesser cmp y o)) rest ∙ ap (λ z. Some z) (after y (h.0 e))
        | false ↦ λ e. rest
      ] refl

-- where none passes there is no least one
none_passes : {X : Type 0} (test : X → Bool) (ys : List X) → AllByRecursion (λ y. test y ≡ false) ys → filter test ys ≡ []
none_passes test [] h = refl
none_passes test (y ∷ ys) h = ap (λ b. cond b (y ∷ filter test ys) (filter test ys)) h.0 ∙ none_passes test ys h.1

all_states : (P : GroupState → Type 0) (gs : List Group) → AllByRecursion (λ g. P (group_state g)) gs → AllByRecursion P (map group_state gs)
all_states P [] h = tt
all_states P (g ∷ gs) h = (h.0, all_states P gs h.1)

-- ---- keys in order

-- what is behind a key behind another is behind that one
behind_trans : (k q r : DueKey) → IsKeyBehind k q → IsKeyBehind q r → IsKeyBehind k r
behind_trans k q r first second =
    elim first [
      | inl e ↦ subst (λ x. IsKeyBehind x r) e second
      | inr less ↦ elim second [
        | inl e ↦ inr (ap (λ x. key_cmp x k) e ∙ less)
        | inr further ↦ inr (key_cmp_total.trans r q k further less)
      ]
    ]

-- ---- the key in front of a list

not_true : (b : Bool) → (b ≡ true → ⊥) → b ≡ false
not_true true h = absurd (h refl)
not_true false h = refl

-- the order of two keys of which one isn't after the other
not_after : (k q : DueKey) → is_gt (key_cmp q k) ≡ false → IsKeyBehind k q
not_after k q h =
    elim (key_cmp q k) as (λ o. key_cmp q k ≡ o → is_gt o ≡ false → IsKeyBehind k q) [
      | Less ↦ λ e none. inr e
      | Equal ↦ λ e none. inl (key-is q k (ap is_eq e))
      | Greater ↦ λ e none. absurd (true≢false none)
    ] refl h

-- a key that is less than none of a list is due before all of them
pub not_less : (k q : DueKey) → is_lt (key_cmp k q) ≡ false → IsKeyBehind k q
not_less k q h = not_after k q (ap is_gt (key_cmp_total.antisymm q k) ∙ reversed (key_cmp k q) h)
  where
    reversed : (o : Ordering) → is_lt o ≡ false → is_gt (ordering_reverse o) ≡ false
    reversed Less none = absurd (true≢false none)
    reversed Equal none = refl
    reversed Greater none = refl

pub front_of_all : (k : DueKey) (keys : List DueKey) → AllByRecursion (λ y. is_lt (key_cmp k y) ≡ false) keys → (q : DueKey) → has_key keys q ≡ true → IsKeyBehind k q
front_of_all k [] all q h = absurd (true≢false (sym h))
front_of_all k (y ∷ ys) all q h =
    elim (is_eq (key_cmp q y)) as (λ b. is_eq (key_cmp q y) ≡ b → (b || has_key ys q) ≡ true → IsKeyBehind k q) [
      | true ↦ λ tied there. subst (IsKeyBehind k) (sym (key-is q y tied)) (not_less k y all.0)
      | false ↦ λ tied there. front_of_all k ys all.1 q there
    ] refl h

has_behind : (k : DueKey) (keys : List DueKey) → AllByRecursion (λ z. key_cmp z k ≡ Less) keys → (q : DueKey) → has_key keys q ≡ true → IsKeyBehind k q
has_behind k [] all q h = absurd (true≢false (sym h))
has_behind k (y ∷ ys) all q h =
    elim (is_eq (key_cmp q y)) as (λ b. is_eq (key_cmp q y) ≡ b → (b || has_key ys q) ≡ true → IsKeyBehind k q) [
      | true ↦ λ tied there. inr (ap (λ x. key_cmp x k) (key-is q y tied) ∙ all.0)
      | false ↦ λ tied there. has_behind k ys all.1 q there
    ] refl h

-- where keys rise, each is the first one or behind it
pub behind_first : (k : DueKey) (keys : List DueKey) → AreRising keys → 0 < length keys → k ≡ get_or keys 0 k → (q : DueKey) → has_key keys q ≡ true → IsKeyBehind k q
unfolding IsStrictlySortedBy
behind_first k [] rising some at q h = absurd (true≢false (sym h))
behind_first k (y ∷ ys) rising some at q h =
    elim (is_eq (key_cmp q y)) as (λ b. is_eq (key_cmp q y) ≡ b → (b || has_key ys q) ≡ true → IsKeyBehind k q) [
      | true ↦ λ tied there. inl (key-is q y tied ∙ sym at)
      | false ↦ λ tied there. subst (λ x. IsKeyBehind x q) (sym at) (has_behind y ys rising.0 q there)
    ] refl h

none_left : (keys : List DueKey) → length keys ≤ 0 → keys ≡ []
none_left [] none = refl
none_left (y ∷ ys) none = absurd (omega (arith, none))

-- what is in front of keys that rise
pub front_rising : (keys : List DueKey) (o : Option (Bor DueKey)) → AreRising keys → IsItemAt keys 0 o → IsFront keys o
front_rising keys None rising at = none_left keys at.3
front_rising keys (Some k) rising at = behind_first k.now keys rising at.3.0 at.1

-- the top of a heap
pub front_among : (keys : List DueKey) (o : Option (Bor DueKey)) → IsHeap key_cmp keys → IsItemAt keys 0 o
    → IfSome o (λ k. IsHeap key_cmp keys → IsUpperBound key_cmp k.now keys) → IsFront keys o
front_among keys None heap at top = none_left keys at.3
front_among keys (Some k) heap at top = front_of_all k.now keys (top heap)

-- a key that is less than no other
pub front_greatest : (keys : List DueKey) (o : Option (Bor DueKey)) → (0 < length keys → IsSome o)
    → IfSome o (λ k. (q : DueKey) → IsTrue (has_key keys q) → is_lt (key_cmp k.now q) ≡ false) → IsFront keys o
front_greatest [] None some greatest = refl
front_greatest (y ∷ ys) None some greatest = absurd (true≢false (sym (some (omega arith))))
front_greatest keys (Some k) some greatest = λ q has. not_less k.now q (greatest q has)

module _ (fs : List FlushState) (t : ℕ) (gs : List Group) (keys : List DueKey) where
  module _ (k : DueKey) (front : (q : DueKey) → has_key keys q ≡ true → IsKeyBehind k q) where
    -- the group of the key in front is the first
    pub front_taken : (i : ℕ) → IsFree fs gs k (Some i) → k.due ≤ t → IsFirstOfKeys fs t gs keys (Some i)
    front_taken i free due =
        let current : IsCurrent gs k (Some i) = free.0 in
        let closed : is_flushing fs k.name ≡ false = free.1 in (
          current.0,
          λ d. ap (λ (q : DueKey). nat_le q.due t && not (is_flushing fs q.name)) (current.1 d) ∙ (λ j. le-leb k.due t due j && not (closed j)),
          λ d j e within may has. subst (λ x. IsKeyBehind x (key_of (get_or gs j e))) (sym (current.1 d)) (front (key_of (get_or gs j e)) has),
        )

-- ---- the first of all groups

module _ (fs : List FlushState) (t : ℕ) (gs : List Group) where
  -- all groups that can be taken are behind a key
  abbrev AreBehind : DueKey → Type 0
  AreBehind k = (j : ℕ) (e : Group) → j < length gs → may_take fs t (group_state (get_or gs j e)) ≡ true → IsKeyBehind k (key_of (get_or gs j e))

  -- no group can be taken
  nobody : ((j : ℕ) (d : Group) → j < length gs → may_take fs t (group_state (get_or gs j d)) ≡ false) → first_of fs t (map group_state gs) ≡ None
  nobody h =
      ap (least due_cmp) (none_passes (may_take fs t) (map group_state gs) (all_states (λ g. may_take fs t g ≡ false) gs (all_to (λ g. may_take fs t (group_state g) ≡ false) gs (λ j d within. h j d within))))

  -- the group that no other can be taken before
  first_at : (i : ℕ) (d : Group) → IsDistinct same_name (names_of gs) → i < length gs → may_take fs t (group_state (get_or gs i d)) ≡ true
      → AreBehind (key_of (get_or gs i d)) → first_of fs t (map group_state gs) ≡ Some (group_state (get_or gs i d))
  first_at i d distinct here may ahead =
      let g : Group = get_or gs i d in
      let all : (j : ℕ) (e : Group) → j < length gs → may_take fs t (group_state (get_or gs j e)) ≡ true → IsBehind due_cmp (may_take fs t) (group_state g) (group_state (get_or gs j e)) =
      λ j e within may_too.
      elim (ahead j e within may_too) [
        | inl same ↦
            let named : same_name g.name (get_or gs j e).name ≡ true = ap (λ (q : DueKey). same_name g.name q.name) same ∙ same_name_equiv.refl g.name in
            inl (ap (λ n. group_state (get_or gs n e)) (only_index gs i j d e distinct here within named) ∙ ap group_state (get_or_default gs i e d here))
        | inr less ↦
            inr (ap is_gt (key_cmp_total.antisymm (key_of g) (key_of (get_or gs j e)) ∙ ap ordering_reverse less), ap is_gt less)
      ] in
      let holds : get_or (map group_state gs) i (group_state g) ≡ group_state g = get_or-map group_state gs i d (group_state g) here in
      least_is due_cmp (may_take fs t) (group_state g) (map group_state gs) i (omega (arith, here, length-map gs group_state)) holds may
      (all_states (λ x. may_take fs t x ≡ true → IsBehind due_cmp (may_take fs t) (group_state g) x) gs (all_to (λ x. may_take fs t (group_state x) ≡ true → IsBehind due_cmp (may_take fs t) (group_state g) (group_state x)) gs all))

  -- ---- two lists of keys

  either : (a b : Bool) → (a || b) ≡ true → (a ≡ true) ⊎ (b ≡ true)
  either true b h = inl refl
  either false b h = inr h

  neither : (a b : Bool) → a ≡ false → b ≡ false → (a || b) ≡ false
  neither true b f g = absurd (true≢false f)
  neither false b f g = g

  module _ (keys more : List DueKey) where
    -- a key of both lists is in one
    in_one : (q : DueKey) → has_key (keys ++ more) q ≡ true → (has_key keys q ≡ true) ⊎ (has_key more q ≡ true)
    in_one q h = either (has_key keys q) (has_key more q) (sym (list_any-append (λ k. is_eq (key_cmp q k)) keys more) ∙ h)

    -- the first list has none
    pub first_of_other : (o : Option ℕ) → IsFirstOfKeys fs t gs keys None → IsFirstOfKeys fs t gs more o → IsFirstOfKeys fs t gs (keys ++ more) o
    first_of_other None none found =
        λ j d within may.
        let q : DueKey = key_of (get_or gs j d) in
        list_any-append (λ k. is_eq (key_cmp q k)) keys more
        ∙ neither (has_key keys q) (has_key more q) (none j d within may) (found j d within may)
    first_of_other (Some i) none found = (
      found.0,
      found.1,
      λ d j e within may has. elim (in_one (key_of (get_or gs j e)) has) [
        | inl mine ↦ absurd (true≢false (sym mine ∙ none j e within may))
        | inr other ↦ found.2 d j e within may other
      ],
    )

    after_it : (k q : DueKey) → is_gt (key_cmp q k) ≡ true → IsKeyBehind q k
    after_it k q h =
        elim (key_cmp q k) as (λ o. key_cmp q k ≡ o → is_gt o ≡ true → IsKeyBehind q k) [
          | Less ↦ λ e gt. absurd (true≢false (sym gt))
          | Equal ↦ λ e gt. absurd (true≢false (sym gt))
          | Greater ↦ λ e gt. inr (key_cmp_total.antisymm k q ∙ ap ordering_reverse e)
        ] refl h

    -- all groups that can be taken and have their key in one of the lists are behind this key
    abbrev IsBefore : DueKey → Type 0
    IsBefore k = (j : ℕ) (e : Group) → j < length gs → may_take fs t (group_state (get_or gs j e)) ≡ true → IsTrue (has_key (keys ++ more) (key_of (get_or gs j e)))
        → IsKeyBehind k (key_of (get_or gs j e))

    -- a group as its state shows it can be taken, and is before those
    abbrev IsThen : GroupState → Type 0
    IsThen g = (may_take fs t g ≡ true) × IsBefore (key_at g.name g.due)

    -- the first of one list, or the one of the other if it is earlier
    then_is : (i : ℕ) (o : Option ℕ) (d : Group) → IsFirstOfKeys fs t gs keys (Some i) → IsFirstOfKeys fs t gs more o
        → IsThen (lesser due_cmp (group_state (get_or gs i d)) (option_map (λ j. group_state (get_or gs j d)) o))
    then_is i None d mine none = (
      mine.1 d,
      λ j e within may has. elim (in_one (key_of (get_or gs j e)) has) [
        | inl here ↦ mine.2 d j e within may here
        | inr there ↦ absurd (true≢false (sym there ∙ none j e within may))
      ],
    )
    then_is i (Some n) d mine other =
        let k : DueKey = key_of (get_or gs i d) in
        let q : DueKey = key_of (get_or gs n d) in
        elim (is_gt (key_cmp q k)) as (λ b. is_gt (key_cmp q k) ≡ b → IsThen (cond b (group_state (get_or gs n d)) (group_state (get_or gs i d)))) [
          | true ↦ λ gt. (
            other.1 d,
            λ j e within may has. elim (in_one (key_of (get_or gs j e)) has) [
              | inl here ↦ behind_trans q k (key_of (get_or gs j e)) (after_it k q gt) (mine.2 d j e within may here)
              | inr there ↦ other.2 d j e within may there
            ],
          )
          | false ↦ λ gt. (
            mine.1 d,
            λ j e within may has. elim (in_one (key_of (get_or gs j e)) has) [
              | inl here ↦ mine.2 d j e within may here
              | inr there ↦ behind_trans k q (key_of (get_or gs j e)) (not_after k q gt) (other.2 d j e within may there)
            ],
          )
        ] refl

    pub first_of_both : (i : ℕ) (o : Option ℕ) (r : ℕ) → r < length gs
        → ((d : Group) → group_state (get_or gs r d) ≡ lesser due_cmp (group_state (get_or gs i d)) (option_map (λ j. group_state (get_or gs j d)) o))
        → IsFirstOfKeys fs t gs keys (Some i) → IsFirstOfKeys fs t gs more o → IsFirstOfKeys fs t gs (keys ++ more) (Some r)
    first_of_both i o r within is mine other =
        let both : (d : Group) → IsThen (group_state (get_or gs r d)) = λ d. subst IsThen (sym (is d)) (then_is i o d mine other) in
        (within, λ d. (both d).0, λ d. (both d).1)

  -- ---- a list that has the keys of all groups that can be taken

  pub first_of_all : (keys : List DueKey) → IsDistinct same_name (names_of gs)
      → ((j : ℕ) (d : Group) → j < length gs → may_take fs t (group_state (get_or gs j d)) ≡ true → has_key keys (key_of (get_or gs j d)) ≡ true)
      → (o : Option ℕ) → IsFirstOfKeys fs t gs keys o → IsFirst gs o (first_of fs t (map group_state gs))
  first_of_all keys distinct all None none =
      nobody (λ j d within. not_true (may_take fs t (group_state (get_or gs j d))) (λ may. true≢false (sym (all j d within may) ∙ none j d within may)))
  first_of_all keys distinct all (Some i) found =
      λ d. first_at i d distinct found.0 (found.1 d) (λ j e within may. found.2 d j e within may (all j e within may))
