-- Keys of groups: their order, and what the set of them has after a change.
use Rattle.std.proofs.Common.{◌≡◌, ◌≢◌, ℕ, zero, suc, ◌+◌, ◌-◌, ◌<◌, Bool, true, false, true≢false, cond, eqb, Option, Some, None, List, [], ◌∷◌, ◌++◌, length, get_or, set, slice_get, refl, sym, ap, ◌∙◌, subst, arith, eqb-true, get_or-set_same, get_or-set_other}
use Rattle.std.specs.Cmp.{unsigned_ties}
use Rattle.std.specs.Prelude.{◌||◌, IfNone, IfSome, unwrap_or}
use Rattle.std.specs.List.{AllByRecursion, IsDistinct}
use Rattle.std.specs.Map.{keys_of, values_of}
use Rattle.std.specs.Ordering.{is_eq, ordering_then, nat_cmp}
use Rattle.std.specs.declared.cmp.Ordering.{Ordering}
use Rattle.std.specs.declared.cmp.Ordering.TheVariants.{Less, Equal, Greater}
use Rattle.std.proofs.Math.ListN.{length-set}
use Rattle.std.proofs.Math.Seq.{get_or-append_seam}
use Rattle.std.proofs.lemmas.Bool.{eqb-false}
use Rattle.std.proofs.lemmas.List.{get_or-map, get_or_default, length-append, length-map}
use Rattle.std.proofs.lemmas.List.Folds.{list_any-append}
use Rattle.std.proofs.lemmas.Option.{slice_get-get_or}
use Rattle.std.proofs.lemmas.List.Elements.{All-append, All-cons, All-nil, All-weaker, All-head, All-tail}
use Rattle.indexmap.specs.Layout.{set_value_at}
use Rattle.am_model.specs.State.{name_cmp, same_name}
use Rattle.am_model.specs.declared.group.GroupName.{GroupName}
use Rattle.am_model.proofs.lists.Alone.{IsAlone, alone-distinct}
use Rattle.am_model.proofs.states.Alike.{same_name_equiv, same_name-is}
use Rattle.am_model.proofs.states.InOrder.{same_name-ties}
use Rattle.am_board.specs.declared.due.DueKey.{DueKey}
use Rattle.am_board.specs.declared.due.DueSet.{DueSet}
use Rattle.am_board.specs.declared.group.Group.{Group}
use Rattle.am_board.specs.Due.{key_of, HasKey, AreDue, IsTied}
use Rattle.am_board.specs.DueOrder.{has_key, key_at, key_cmp}
use Rattle.am_board.specs.Group.{names_of}
use Rattle.am_board.specs.GroupList.{name_of}
use Rattle.am_board.specs.Keyed.{AreKeyed}
use Rattle.am_board.proofs.lemmas.invariant.Keyed.{value_at, values-set, AreKeyed-set}

-- ---- the order of keys

-- one order after another ties only where the second one does
then_apart : (o p : Ordering) → is_eq p ≡ false → is_eq (ordering_then o p) ≡ false
then_apart Less p h = refl
then_apart Equal p h = h
then_apart Greater p h = refl

-- keys of different names differ
pub other_key : (key : DueKey) (name : GroupName) (due : ℕ) → same_name key.name name ≡ false → is_eq (key_cmp (key_at name due) key) ≡ false
other_key key name due apart =
    then_apart (nat_cmp key.due due) (name_cmp key.name name) (sym (same_name-ties key.name name) ∙ apart)

pub unlike_key : (key : DueKey) (name : GroupName) (due : ℕ) → same_name key.name name ≡ false → is_eq (key_cmp key (key_at name due)) ≡ false
unlike_key key name due apart =
    then_apart (nat_cmp due key.due) (name_cmp name key.name)
    (sym (same_name-ties name key.name) ∙ (same_name_equiv.symm name key.name ∙ apart))

-- both orders tie where one after the other does
tied_both : (o p : Ordering) → is_eq (ordering_then o p) ≡ true → (is_eq o ≡ true) × (is_eq p ≡ true)
tied_both Less p h = absurd (true≢false (sym h))
tied_both Equal p h = (refl, h)
tied_both Greater p h = absurd (true≢false (sym h))

-- keys that tie are one
pub key-is : (a b : DueKey) → is_eq (key_cmp a b) ≡ true → a ≡ b
key-is a b tied =
    let parts = tied_both (nat_cmp b.due a.due) (name_cmp b.name a.name) tied in
    let due : b.due ≡ a.due = eqb-true b.due a.due (unsigned_ties b.due a.due ∙ parts.0) in
    let name : b.name ≡ a.name = same_name-is b.name a.name (same_name-ties b.name a.name ∙ parts.1) in
    λ i. record { due = sym due i; name = sym name i }

or_nothing : (b : Bool) → (b || false) ≡ b
or_nothing true = refl
or_nothing false = refl

-- what was there is there, with one more
pub had_or : (b had : Bool) → had ≡ true → cond b true had ≡ true
had_or true had h = refl
had_or false had h = h

-- ---- the last key goes

-- the last of a list to which one was appended
last_is : (keys : List DueKey) (k : DueKey) → slice_get (keys ++ k ∷ []) (length (keys ++ k ∷ []) - 1) ≡ Some k
last_is keys k =
    let count = length-append keys (k ∷ []) in
    let index : length (keys ++ k ∷ []) - 1 ≡ length keys = omega (arith, count) in
    ap (slice_get (keys ++ k ∷ [])) index
    ∙ slice_get-get_or (keys ++ k ∷ []) (length keys) k (omega (arith, count))
    ∙ ap (λ x. Some x) (get_or-append_seam keys k [] k)

-- the key that goes is the one that was last
pub popped_is : (o : Option DueKey) (old new : List DueKey) (key : DueKey) → slice_get old (length old - 1) ≡ Some key
    → IfSome o (λ k. old ≡ new ++ k ∷ []) → IfSome o (λ k. k ≡ key)
popped_is None old new key at removal = tt
popped_is (Some k) old new key at removal =
    let last : slice_get old (length old - 1) ≡ Some k = ap (λ (ks : List DueKey). slice_get ks (length ks - 1)) removal ∙ last_is new k in
    ap (λ (o : Option DueKey). unwrap_or o k) (sym last ∙ at)

-- and other keys stay
pub popped_keeps : (o : Option DueKey) (old new : List DueKey) (key other : DueKey) → slice_get old (length old - 1) ≡ Some key
    → IfSome o (λ k. old ≡ new ++ k ∷ []) → IfNone o (new ≡ old) → is_eq (key_cmp other key) ≡ false → has_key new other ≡ has_key old other
popped_keeps None old new key other at removal same apart = ap (λ (ks : List DueKey). has_key ks other) same
popped_keeps (Some k) old new key other at removal same apart =
    let same : k ≡ key = popped_is (Some k) old new key at removal in
    let is : is_eq (key_cmp other k) ≡ false = ap (λ (x : DueKey). is_eq (key_cmp other x)) same ∙ apart in
    sym
    (ap (λ (ks : List DueKey). has_key ks other) removal
    ∙ list_any-append (λ x. is_eq (key_cmp other x)) new (k ∷ [])
    ∙ ap (λ b. has_key new other || (b || false)) is
    ∙ or_nothing (has_key new other))

-- ---- the keys of the first groups

-- the set has the key of a group, unless a flush of it is open
abbrev pub HasKeyOf : DueSet → Group → Type 0
HasKeyOf set g = g.is_open ≡ false → HasKey set (key_of g)

-- the set has the keys of the groups below an index
abbrev pub HasBelow : DueSet → List Group → ℕ → Type 0
HasBelow new groups n = (k : ℕ) (d : Group) → k < n → HasKeyOf new (get_or groups k d)

-- and of the one at it, once its key was put in
pub has_next : (old new : DueSet) (groups : List Group) (n : ℕ) (g : Group) → n < length groups → g ≡ get_or groups n g
    → HasBelow old groups n → HasKeyOf new g → ((key : DueKey) → HasKey old key → HasKey new key) → HasBelow new groups (n + 1)
has_next old new groups n g within is below has keeps k d less =
    elim (eqb k n) as (λ b. eqb k n ≡ b → HasKeyOf new (get_or groups k d)) [
      | true ↦ λ e.
          let here : get_or groups k d ≡ g = ap (λ j. get_or groups j d) (eqb-true k n e) ∙ (get_or_default groups n d g within ∙ sym is) in
          subst (HasKeyOf new) (sym here) has
      | false ↦ λ e closed.
          let apart : k ≢ n = eqb-false k n e in
          keeps (key_of (get_or groups k d)) (below k d (omega (arith, less, apart)) closed)
    ] refl

-- ---- each group has its name alone

-- where none passes, the one at an index doesn't
pub fails_at : {X : Type 0} (test : X → Bool) (xs : List X) (k : ℕ) (d : X) → k < length xs → AllByRecursion (λ y. test y ≡ false) xs → test (get_or xs k d) ≡ false
fails_at test [] k d less all = absurd (omega (arith, less))
fails_at test (x ∷ xs) zero d less all = all.0
fails_at test (x ∷ xs) (suc k) d less all = fails_at test xs k d (omega (arith, less)) all.1

-- an element that alone passes is at its index
alone_index : {X : Type 0} (test : X → Bool) (xs : List X) (i j : ℕ) (d : X) → IsAlone test xs i → j < length xs → test (get_or xs j d) ≡ true → j ≡ i
alone_index test [] i j d alone within h = absurd alone
alone_index test (x ∷ xs) zero zero d alone within h = refl
alone_index test (x ∷ xs) zero (suc j) d alone within h = absurd (true≢false (sym h ∙ fails_at test xs j d (omega (arith, within)) alone.1))
alone_index test (x ∷ xs) (suc i) zero d alone within h = absurd (true≢false (sym h ∙ alone.0))
alone_index test (x ∷ xs) (suc i) (suc j) d alone within h = ap suc (alone_index test xs i j d alone.1 (omega (arith, within)) h)

-- two indexes of one name are one
pub only_index : (gs : List Group) (i j : ℕ) (d e : Group) → IsDistinct same_name (names_of gs) → i < length gs → j < length gs
    → same_name (get_or gs i d).name (get_or gs j e).name ≡ true → j ≡ i
only_index gs i j d e distinct here there same =
    let name : GroupName = (get_or gs i d).name in
    let at_i : get_or (names_of gs) i name ≡ name = get_or-map (λ (g : Group). g.name) gs i d name here in
    let at_j : get_or (names_of gs) j e.name ≡ (get_or gs j e).name = get_or-map (λ (g : Group). g.name) gs j e e.name there in
    let count = length-map gs (λ (g : Group). g.name) in
    let alone : IsAlone (same_name name) (names_of gs) i = alone-distinct same_name same_name_equiv (same_name name) (names_of gs) i name (omega (arith, here, count)) distinct (λ y. ap (λ n. same_name n y) (sym at_i)) in
    alone_index (same_name name) (names_of gs) i j e.name alone (omega (arith, there, count)) (ap (same_name name) at_j ∙ same)

-- the names of groups are what they are under
pub names-keys : (es : List (GroupName × Group)) → AreKeyed name_of es → names_of (values_of es) ≡ keys_of es
names-keys [] h = refl
names-keys (e ∷ es) h =
    λ i. sym (All-head (λ (x : GroupName × Group). x.0 ≡ name_of x.1) e es h) i ∷ names-keys es (All-tail (λ (x : GroupName × Group). x.0 ≡ name_of x.1) e es h) i

-- ---- the groups and the set of their keys

-- a value is written, and the keys stay
pub keys_set : {K X : Type 0} (es : List (K × X)) (i : ℕ) (x : X) → keys_of (set_value_at es i x) ≡ keys_of es
keys_set [] i x = refl
keys_set (e ∷ es) zero x = refl
keys_set (e ∷ es) (suc i) x = ap (λ ks. e.0 ∷ ks) (keys_set es i x)

-- the group at an index was changed, and maybe its key
due_set : (old new : DueSet) (gs : List Group) (i : ℕ) (from to : Group) → IsDistinct same_name (names_of gs) → from ≡ get_or gs i from → i < length gs
    → HasKeyOf new to → ((key : DueKey) → same_name key.name from.name ≡ false → HasKey old key → HasKey new key)
    → AreDue old gs → AreDue new (set gs i to)
due_set old new gs i from to distinct at within has keeps due k d less =
    let there : k < length gs = omega (arith, less, length-set gs i to) in
    elim (eqb k i) as (λ b. eqb k i ≡ b → HasKeyOf new (get_or (set gs i to) k d)) [
      | true ↦ λ e.
          let is : get_or (set gs i to) k d ≡ to = ap (λ j. get_or (set gs i to) j d) (eqb-true k i e) ∙ get_or-set_same gs i to d within in
          subst (HasKeyOf new) (sym is) has
      | false ↦ λ e.
          let apart : k ≢ i = eqb-false k i e in
          let is : get_or (set gs i to) k d ≡ get_or gs k d = get_or-set_other gs i k to d apart in
          let other : same_name (get_or gs k d).name from.name ≡ false =
          elim (same_name (get_or gs k d).name from.name) as (λ b. same_name (get_or gs k d).name from.name ≡ b → b ≡ false) [
            | true ↦ λ same. absurd (apart (sym (only_index gs k i d from distinct there within (ap (λ (x : Group). same_name (get_or gs k d).name x.name) (sym at) ∙ same))))
            | false ↦ λ same. refl
          ] refl in
          subst (HasKeyOf new) (sym is) (λ closed. keeps (key_of (get_or gs k d)) other (due k d there closed))
    ] refl

-- the key of a group that is there
pub had_at : (due : DueSet) (es : List (GroupName × Group)) (i : ℕ) (from : Group) (name : GroupName) → IsTied due es → slice_get (values_of es) i ≡ Some from → name ≡ from.name
    → from.is_open ≡ false → HasKey due (key_at name from.due)
had_at due es i from name tied at named closed =
    let there = value_at (values_of es) i from at in
    let key : key_of (get_or (values_of es) i from) ≡ key_at name from.due = ap key_of (sym there.0) ∙ (λ j. key_at (sym named j) from.due) in
    subst (HasKey due) key (tied.due i from there.1 (ap (λ (g : Group). g.is_open) (sym there.0) ∙ closed))

-- a group was changed, and its key from one time to another
pub tied_change : (old new : DueSet) (es : List (GroupName × Group)) (i : ℕ) (from to : Group) (name : GroupName) (due : ℕ) → IsTied old es → slice_get (values_of es) i ≡ Some from
    → name ≡ from.name → to.name ≡ from.name → to.due ≡ due
    → (to.is_open ≡ false → HasKey new (key_at name due)) → ((key : DueKey) → same_name key.name name ≡ false → HasKey old key → HasKey new key)
    → IsTied new (set_value_at es i to)
tied_change old new es i from to name due tied at called named time has keeps =
    let there = value_at (values_of es) i from at in
    let key : key_at name due ≡ key_of to = λ j. key_at ((called ∙ sym named) j) (sym time j) in
    record {
      keyed = AreKeyed-set same_name name_of es i from to tied.keyed at named;
      distinct = subst (IsDistinct same_name) (sym (keys_set es i to)) tied.distinct;
      due = subst (AreDue new) (sym (values-set es i to))
          (due_set old new (values_of es) i from to (subst (IsDistinct same_name) (sym (names-keys es tied.keyed)) tied.distinct) there.0 there.1
          (λ closed. subst (HasKey new) key (has closed)) (λ k apart. keeps k (ap (same_name k.name) called ∙ apart)) tied.due);
    }

-- a group was changed, but not its key
pub tied_same : (due : DueSet) (es : List (GroupName × Group)) (i : ℕ) (from to : Group) → IsTied due es → slice_get (values_of es) i ≡ Some from → to.name ≡ from.name
    → to.due ≡ from.due → to.is_open ≡ from.is_open → IsTied due (set_value_at es i to)
tied_same due es i from to tied at named same marked =
    tied_change due due es i from to from.name from.due tied at refl named same
    (λ closed. had_at due es i from from.name tied at refl (sym marked ∙ closed)) (λ k apart has. has)

-- a group was added, and its key
pub due_push : (old new : DueSet) (gs : List Group) (g : Group) → AreDue old gs → HasKey new (key_of g) → ((key : DueKey) → HasKey old key → HasKey new key) → AreDue new (gs ++ g ∷ [])
due_push old new gs g due has keeps =
    let Has : Group → Type 0 = HasKeyOf new in
    All-append Has gs (g ∷ []) (All-weaker (HasKeyOf old) Has (λ x h closed. keeps (key_of x) (h closed)) gs due) (All-cons Has g [] (λ closed. has) (All-nil Has))
