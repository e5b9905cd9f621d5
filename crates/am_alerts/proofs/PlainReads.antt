-- What the syntax of `regex` reads in plain texts with bars between them.
use Rattle.std.proofs.Common.{◌≡◌, ℕ, ◌+◌, ◌*◌, ◌-◌, ◌<◌, ◌≤◌, Bool, true, false, ◌==◌, List, [], ◌∷◌, ◌++◌, map, length, Some, None}
use Rattle.std.proofs.Common.{if◌then◌else◌, nat_lt, max, refl, sym, ap, ◌∙◌, arith, append_assoc, append-nil, length-append, ne_eqb}
use Rattle.std.proofs.lemmas.Bool.{both_ways, and_parts, cond_both, or_right}
use Rattle.std.proofs.lemmas.Bool.Decides.{nat_tests}
use Rattle.std.specs.List.{list_all, join_with_byte}
use Rattle.regex_hir.specs.declared.look.Look.TheVariants.{Start, End}
use Rattle.regex_hir.specs.Meaning.{cat_all, alt_all}
use Rattle.regex_hir.specs.Re.{Re, look}
use Rattle.regex_syntax.proofs.BranchLemmas.{ends_branch, Read, repetitions_end, join_after, branch_ends, branch_goes, more_parts}
use Rattle.regex_syntax.proofs.BranchLemmas.{group_inside, join_parts_is, branches_go, more_branches, join_ends}
use Rattle.regex_syntax.proofs.EscapeLemmas.{itself}
use Rattle.regex_syntax.proofs.ReadingLemmas.{skip-false}
use Rattle.regex_syntax.specs.Brackets.{Nested, flat, join, deepest}
use Rattle.regex_syntax.specs.Escapes.{is_verbose}
use Rattle.regex_syntax.specs.Grammar.{Names, Place, opens, opening, set_flags, atom, char_meaning, item, with_repetitions, items}
use Rattle.regex_syntax.specs.Grammar.{branches, join_parts, read, names_below, group_count}
use Rattle.regex_syntax.specs.Reading.{Text, ◌>>=◌, ◌∈◌, is_at, first, skip}
use Rattle.regex_syntax.specs.Sets.{verbatim}
use Rattle.regex_syntax.specs.Verdict.{default_config}
use Rattle.am_alerts.specs.Pattern.{anchored}
use Rattle.am_alerts.specs.Plain.{is_plain}

-- an index in a pattern without named groups, under the default options
abbrev pub at_text : Text → Place
at_text t = record { config = default_config; names = None ∷ []; text = t }

no_skip : (t : Text) → t ≡ skip (is_verbose default_config) t
no_skip t = sym (skip-false t)

differs : (c d : ℕ) → is_plain c ≡ true → is_plain d ≡ false → (c == d) ≡ false
differs c d plain special = ne_eqb c d (λ e. both_ways _ special (sym (ap is_plain e) ∙ plain))

atom_plain : (c : ℕ) (rest : Text) → is_plain c ≡ true → atom default_config (c ∷ rest) ≡ Some (itself c, rest)
unfolding atom first char_meaning verbatim
atom_plain c rest plain =
    rw (
      atom,
      char_meaning,
      differs c 63 plain refl,
      differs c 42 plain refl,
      differs c 43 plain refl,
      differs c 123 plain refl,
      differs c 91 plain refl,
      differs c 92 plain refl,
      differs c 46 plain refl,
      differs c 94 plain refl,
      differs c 36 plain refl,
    )

-- what begins with a plain character begins no group, ends no branch, and repeats nothing
begins_plainly : (c : ℕ) (rest : Text) → is_plain c ≡ true →
    (is_at "(" (c ∷ rest) ≡ false) × (ends_branch (c ∷ rest) ≡ false) × (is_at "?*+{" (c ∷ rest) ≡ false)
unfolding first
begins_plainly c rest plain = (
  differs c 40 plain refl,
  rw (differs c 124 plain refl, differs c 41 plain refl) (grind (arith, nat_tests)),
  rw (differs c 63 plain refl, differs c 42 plain refl, differs c 43 plain refl, differs c 123 plain refl) refl,
)

-- an atom that no operator of repetition follows is an item
item_of_atom : (inner : Place → Read (Nested Re)) (t rest : Text) (part : Nested Re) → is_at "(" t ≡ false →
    atom default_config t ≡ Some (part, rest) → is_at "?*+{" rest ≡ false → item inner (at_text t) ≡ Some (part, at_text rest)
unfolding item with_repetitions
item_of_atom inner t rest part no_group read_atom h =
    rw (
      item,
      no_group,
      read_atom,
      with_repetitions,
      repetitions_end default_config (length rest + 1) (length rest) part rest rest (omega arith) (no_skip rest) h,
    )

-- an item is read, and the branch goes on after it
branch_passes : (n m : ℕ) (earlier : List (Nested Re)) (t rest : Text) (part : Nested Re) → n ≡ m + 1 → ends_branch t ≡ false →
    item (group_inside m) (at_text t) ≡ Some (part, at_text rest) →
    join_after cat_all earlier (items n (at_text t)) ≡ join_after cat_all (earlier ++ part ∷ []) (items m (at_text rest))
branch_passes n m earlier t rest part e begins is =
    branch_goes n m earlier (at_text t) t (omega arith) (no_skip t) begins ∙ ap (λ o. o >>= more_parts m earlier) is

-- ---- plain texts with bars between them

abbrev pub are_plain : List Text → Bool
are_plain ws = list_all (list_all is_plain) ws

abbrev pub bars : List Text → Text
bars ws = join_with_byte 0x7C ws

repeats_nothing : (w : Text) (d : ℕ) (r : Text) → list_all is_plain w ≡ true → (d ∈ "|)") ≡ true → is_at "?*+{" (w ++ d ∷ r) ≡ false
unfolding first
repeats_nothing [] d r plain ends = grind (arith, nat_tests)
repeats_nothing (c ∷ w) d r plain ends = (begins_plainly c (w ++ d ∷ r) (and_parts (is_plain c) _ plain).0).2

-- a branch of plain characters, up to a bar or a parenthesis
word_is_read : (w : Text) (d : ℕ) (r : Text) (n : ℕ) (earlier : List (Nested Re)) → list_all is_plain w ≡ true → (d ∈ "|)") ≡ true →
    length w < n →
    join_after cat_all earlier (items n (at_text (w ++ d ∷ r))) ≡ Some (join cat_all (earlier ++ map itself w), at_text (d ∷ r))
unfolding first
word_is_read [] d r n earlier plain ends h =
    branch_ends n (n - 1) earlier (at_text (d ∷ r)) (d ∷ r) (omega arith) (no_skip (d ∷ r)) (or_right _ _ ends)
    ∙ ap (λ all. Some (join cat_all all, at_text (d ∷ r))) (sym (append-nil earlier))
word_is_read (c ∷ w) d r n earlier plain ends h =
    let parts = and_parts (is_plain c) (list_all is_plain w) plain in
    let more = w ++ d ∷ r in
    let begins = begins_plainly c more parts.0 in
    branch_passes n (n - 1) earlier (c ∷ more) more (itself c) (omega arith) begins.1
    (item_of_atom (group_inside (n - 1)) (c ∷ more) more (itself c) begins.0 (atom_plain c more parts.0)
    (repeats_nothing w d r parts.1 ends))
    ∙ word_is_read w d r (n - 1) (earlier ++ itself c ∷ []) parts.1 ends (omega arith)
    ∙ ap (λ all. Some (join cat_all all, at_text (d ∷ r))) (append_assoc earlier (itself c ∷ []) (map itself w))

abbrev pub word : Text → Nested Re
word w = join cat_all (map itself w)

-- such branches, up to a parenthesis
branches_are_read : (w : Text) (ws : List Text) (r : Text) (n : ℕ) (earlier : List (Nested Re)) → are_plain (w ∷ ws) ≡ true →
    length (bars (w ∷ ws)) + 1 < n → join_after alt_all earlier (branches n (at_text (bars (w ∷ ws) ++ 0x29 ∷ r)))
    ≡ Some (join alt_all (earlier ++ map word (w ∷ ws)), at_text (0x29 ∷ r))
unfolding first
branches_are_read w [] r n earlier plain h =
    branches_go n (n - 1) earlier (at_text (w ++ 0x29 ∷ r)) (omega arith)
    ∙ ap (λ o. o >>= more_branches (n - 1) earlier)
    (join_parts_is cat_all (items (n - 1) (at_text (w ++ 0x29 ∷ r)))
    ∙ word_is_read w 0x29 r (n - 1) [] (and_parts (list_all is_plain w) _ plain).0 refl (omega arith))
    ∙ join_ends alt_all (earlier ++ word w ∷ []) (at_text (0x29 ∷ r))
branches_are_read w (v ∷ vs) r n earlier plain h =
    let later = bars (v ∷ vs) in
    let rest = later ++ 0x29 ∷ r in
    let parts = and_parts (list_all is_plain w) (are_plain (v ∷ vs)) plain in
    let long = length-append w (0x7C ∷ later) in
    ap (λ t. join_after alt_all earlier (branches n (at_text t))) (append_assoc w (0x7C ∷ later) (0x29 ∷ r))
    ∙ branches_go n (n - 1) earlier (at_text (w ++ 0x7C ∷ rest)) (omega (arith, long))
    ∙ ap (λ o. o >>= more_branches (n - 1) earlier)
    (join_parts_is cat_all (items (n - 1) (at_text (w ++ 0x7C ∷ rest)))
    ∙ word_is_read w 0x7C rest (n - 1) [] parts.0 refl (omega (arith, long)))
    ∙ branches_are_read v vs r (n - 1) (earlier ++ word w ∷ []) parts.1 (omega (arith, long))
    ∙ ap (λ all. Some (join alt_all all, at_text (0x29 ∷ r))) (append_assoc earlier (word w ∷ []) (map word (v ∷ vs)))

group_opens : (t : Text) → opening (at_text (0x28 ∷ 0x3F ∷ 0x3A ∷ t)) ≡ Some (opens (λ re. re), at_text t)
unfolding opening set_flags first skip
group_opens t = refl

abbrev pub grouped : Nested Re → Nested Re
grouped sub = record { value = sub.value; depth = sub.depth + 1 }

-- a group that the end of the line follows
group_is_read : (inner : Place → Read (Nested Re)) (t : Text) (sub : Nested Re) →
    inner (at_text t) ≡ Some (sub, at_text (0x29 ∷ 0x24 ∷ [])) →
    item inner (at_text (0x28 ∷ 0x3F ∷ 0x3A ∷ t)) ≡ Some (grouped sub, at_text (0x24 ∷ []))
unfolding item with_repetitions first
group_is_read inner t sub e =
    rw (
      item,
      group_opens t,
      e,
      with_repetitions,
      repetitions_end default_config 2 1 (grouped sub) (0x24 ∷ []) (0x24 ∷ []) refl (no_skip (0x24 ∷ [])) refl,
    )

abbrev pub words_tree : List Text → Nested Re
words_tree ws = join alt_all (map word ws)

abbrev pub first_line : Nested Re
first_line = flat (look Start)

abbrev pub last_line : Nested Re
last_line = flat (look End)

abbrev pub line_tree : List Text → Nested Re
line_tree ws = join cat_all (first_line ∷ grouped (words_tree ws) ∷ last_line ∷ [])

abbrev pub whole_tree : List Text → Nested Re
whole_tree ws = join alt_all (line_tree ws ∷ [])

line_is_read : (w : Text) (ws : List Text) (n : ℕ) → are_plain (w ∷ ws) ≡ true → length (bars (w ∷ ws)) + 5 < n →
    join_after cat_all [] (items n (at_text (anchored (bars (w ∷ ws))))) ≡ Some (line_tree (w ∷ ws), at_text [])
unfolding first atom char_meaning
line_is_read w ws n plain h =
    let inside = bars (w ∷ ws) ++ 0x29 ∷ 0x24 ∷ [] in
    let group = 0x28 ∷ 0x3F ∷ 0x3A ∷ inside in
    let tree = words_tree (w ∷ ws) in
    branch_passes n (n - 1) [] (0x5E ∷ group) group first_line (omega arith) (grind (arith, nat_tests))
    (item_of_atom (group_inside (n - 1)) (0x5E ∷ group) group first_line refl refl refl)
    ∙ branch_passes (n - 1) (n - 2) (first_line ∷ []) group (0x24 ∷ []) (grouped tree) (omega arith) (grind (arith, nat_tests))
    (group_is_read (group_inside (n - 2)) inside tree (join_parts_is alt_all (branches (n - 2) (at_text inside))
    ∙ branches_are_read w ws (0x24 ∷ []) (n - 2) [] plain (omega arith)))
    ∙ branch_passes (n - 2) (n - 3) (first_line ∷ grouped tree ∷ []) (0x24 ∷ []) [] last_line (omega arith) refl
    (item_of_atom (group_inside (n - 3)) (0x24 ∷ []) [] last_line refl refl refl)
    ∙ branch_ends (n - 3) (n - 4) (first_line ∷ grouped tree ∷ last_line ∷ []) (at_text []) [] (omega arith) (no_skip []) refl

-- a pattern of one branch
one_branch : (t : Text) (branch : Nested Re) → join_after cat_all [] (items (2 * length t + 1) (at_text t)) ≡ Some (branch, at_text []) →
    join_parts alt_all (branches (2 * length t + 2) (at_text t)) ≡ Some (join alt_all (branch ∷ []), at_text [])
unfolding first
one_branch t branch h =
    join_parts_is alt_all _ ∙ branches_go _ (2 * length t + 1) [] _ (omega arith)
    ∙ ap (λ o. o >>= more_branches (2 * length t + 1) []) (join_parts_is cat_all _ ∙ h) ∙ join_ends alt_all (branch ∷ []) _

abbrev pub names_read : List Text → Names
names_read ws = names_below (whole_tree ws).value (None ∷ []) (max 1 (group_count (whole_tree ws).value))

-- the whole pattern
pub pattern_is_read : (w : Text) (ws : List Text) → are_plain (w ∷ ws) ≡ true →
    read default_config (anchored (bars (w ∷ ws))) ≡ Some (whole_tree (w ∷ ws), names_read (w ∷ ws))
unfolding read
pattern_is_read w ws plain =
    let t = anchored (bars (w ∷ ws)) in
    let long = length-append (bars (w ∷ ws)) (0x29 ∷ 0x24 ∷ []) in
    let read_all = one_branch t (line_tree (w ∷ ws))
    (line_is_read w ws (2 * length t + 1) plain (omega (arith, long))) in
    rw (read, read_all) refl

flat_depth : (w : Text) → deepest (map itself w) ≡ 0
flat_depth [] = refl
flat_depth (c ∷ w) = omega (arith, flat_depth w)

level : {A : Type 0} (xs : List A) → (if nat_lt 1 (length xs) then 1 else 0) ≤ 1
level xs = cond_both (nat_lt 1 (length xs)) 1 0 (λ n. n ≤ 1) (λ _. omega arith) (λ _. omega arith)

words_depth : (ws : List Text) → deepest (map word ws) ≤ 1
words_depth [] = omega arith
words_depth (w ∷ ws) = omega (arith, flat_depth w, level (map itself w), words_depth ws)

pub whole_depth : (ws : List Text) → (whole_tree ws).depth ≤ 4
whole_depth ws = omega (arith, words_depth ws, level (map word ws))
