-- Bytes up to a line feed, and the lines of an input.
use Rattle.std.proofs.Common.{◌≡◌, ◌∙◌, ◌<◌, ◌≤◌, ◌+◌, ◌-◌, ◌++◌, ◌∷◌, [], ℕ, List, Bool, true, false, IsTrue, Some, None, cond, if◌then◌else◌, add-one, append_assoc, ap, arith, drop, get_or, length, length-drop, nat_eq, nat_lt, refl, subst, suc, sym, take, zero}
use Rattle.std.specs.List.{position, position_or_len}
use Rattle.std.proofs.Math.Seq.{drop-cons, take-length}
use Rattle.std.proofs.lemmas.Bool.{eqb-true, ltb-false}
use Rattle.std.proofs.lemmas.List.{append-nil, take-append-drop}
use Rattle.std.proofs.lemmas.List.Quantifiers.{position-Some}
use Rattle.std.proofs.lemmas.List.Sums.{fails_before_first}
use Rattle.am_protocol.specs.Lines.{is_plain, last_line, lines_from, lines_of, whole_lines, whole_lines_from}

plain_cons : (x : ℕ) (xs : List ℕ) → nat_eq x 10 ≡ false → IsTrue (is_plain xs) → IsTrue (is_plain (x ∷ xs))
plain_cons x xs e h = rw e h

-- no line feed before this pointer
plain_upto : (xs : List ℕ) (n : ℕ) → n ≤ length xs → ((k : ℕ) → k < n → nat_eq (get_or xs k 0) 10 ≡ false) → IsTrue (is_plain (take n xs))
plain_upto xs zero within none = refl
plain_upto [] (suc n) within none = absurd (omega arith)
plain_upto (x ∷ xs) (suc n) within none =
    plain_cons x (take n xs) (none 0 (omega arith)) (plain_upto xs n (omega arith) (λ k below. none (suc k) (omega arith)))

-- what is before the first line feed
pub plain_before : (xs : List ℕ) (n : ℕ) → Some n ≡ position (λ b. nat_eq b 10) xs → IsTrue (is_plain (take n xs))
plain_before xs n first =
    let at = position-Some (λ b. nat_eq b 10) xs n 0 (sym first) in plain_upto xs n (omega (arith, at.0)) at.2

-- the line feed, and what is behind it
pub feed_there : (xs : List ℕ) (n : ℕ) → Some n ≡ position (λ b. nat_eq b 10) xs → xs ≡ take n xs ++ 10 ∷ drop (n + 1) xs
feed_there xs n first =
    let at = position-Some (λ b. nat_eq b 10) xs n 0 (sym first) in
    let is : get_or xs n 0 ≡ 10 = eqb-true (get_or xs n 0) 10 at.1 in
    let behind : drop n xs ≡ 10 ∷ drop (n + 1) xs =
    drop-cons xs n 0 at.0 ∙ rw (is, add-one) refl in
    sym (take-append-drop n xs) ∙ ap (λ (ys : List ℕ). take n xs ++ ys) behind

none_under : (b : Bool) (n : ℕ) → None ≡ cond b (Some n) None → b ≡ false
none_under true n e = absurd cc
none_under false n e = refl

-- where there is no line feed
pub plain_all : (xs : List ℕ) → None ≡ position (λ b. nat_eq b 10) xs → IsTrue (is_plain xs)
plain_all xs none =
    let first = position_or_len (λ b. nat_eq b 10) xs in
    let far : length xs ≤ first = ltb-false first (length xs) (none_under (nat_lt first (length xs)) first none) in
    subst (λ (ys : List ℕ). IsTrue (is_plain ys)) (take-length xs)
    (plain_upto xs (length xs) (omega arith) (λ k below. fails_before_first (λ b. nat_eq b 10) xs k 0 (omega arith)))

-- what is behind the first bytes, as a slice to the end
pub to_end : (n : ℕ) (xs : List ℕ) → drop n xs ≡ take (length xs - n) (drop n xs)
to_end n xs = sym (take-length (drop n xs)) ∙ ap (λ (k : ℕ). take k (drop n xs)) (length-drop n xs)

pub plain_join : (xs ys : List ℕ) → IsTrue (is_plain xs) → IsTrue (is_plain ys) → IsTrue (is_plain (xs ++ ys))
plain_join [] ys h k = k
plain_join (x ∷ xs) ys h k = elim (nat_eq x 10) as (λ b. IsTrue (if b then false else is_plain xs) → IsTrue (if b then false else is_plain (xs ++ ys))) [
  | true ↦ λ e. absurd cc
  | false ↦ λ e. plain_join xs ys e k
] h

-- a line that goes on with bytes among which is no line feed
lines_on : (text line rest : List ℕ) → IsTrue (is_plain text) → lines_from line (text ++ rest) ≡ lines_from (line ++ text) rest
lines_on [] line rest h = ap (λ (l : List ℕ). lines_from l rest) (sym (append-nil line))
lines_on (x ∷ text) line rest h = elim (nat_eq x 10) as (λ b. IsTrue (if b then false else is_plain text)
    → (if b then line ∷ lines_from [] (text ++ rest) else lines_from (line ++ x ∷ []) (text ++ rest)) ≡ lines_from (line ++ x ∷ text) rest) [
      | true ↦ λ e. absurd cc
      | false ↦ λ e. lines_on text (line ++ x ∷ []) rest e ∙ ap (λ (l : List ℕ). lines_from l rest) (append_assoc line (x ∷ []) text)
    ] h

-- the first line, which has its line feed
pub fed_line : (text rest : List ℕ) → IsTrue (is_plain text) → lines_of (text ++ 10 ∷ rest) ≡ text ∷ lines_of rest
fed_line text rest plain = lines_on text [] (10 ∷ rest) plain

some_line : (text : List ℕ) → 0 < length text → last_line text ≡ text ∷ []
some_line [] long = absurd (omega arith)
some_line (x ∷ text) long = refl

-- the last line, without one
pub unfed_line : (text : List ℕ) → IsTrue (is_plain text) → 0 < length text → lines_of text ≡ text ∷ []
unfed_line text plain long =
    ap lines_of (sym (append-nil text)) ∙ (lines_on text [] [] plain ∙ some_line text long)

-- a line that goes on: it isn't whole before its line feed
whole_on : (text line rest : List ℕ) → IsTrue (is_plain text) → whole_lines_from line (text ++ rest) ≡ whole_lines_from (line ++ text) rest
whole_on [] line rest h = ap (λ (l : List ℕ). whole_lines_from l rest) (sym (append-nil line))
whole_on (x ∷ text) line rest h = elim (nat_eq x 10) as (λ b. IsTrue (if b then false else is_plain text)
    → (if b then line ∷ whole_lines_from [] (text ++ rest) else whole_lines_from (line ++ x ∷ []) (text ++ rest)) ≡ whole_lines_from (line ++ x ∷ text) rest) [
      | true ↦ λ e. absurd cc
      | false ↦ λ e. whole_on text (line ++ x ∷ []) rest e ∙ ap (λ (l : List ℕ). whole_lines_from l rest) (append_assoc line (x ∷ []) text)
    ] h

-- the first whole line
pub whole_line : (text rest : List ℕ) → IsTrue (is_plain text) → whole_lines (text ++ 10 ∷ rest) ≡ text ∷ whole_lines rest
whole_line text rest plain = whole_on text [] (10 ∷ rest) plain

-- no line is whole
pub none_whole : (text : List ℕ) → IsTrue (is_plain text) → whole_lines text ≡ []
none_whole text plain = ap whole_lines (sym (append-nil text)) ∙ whole_on text [] [] plain
