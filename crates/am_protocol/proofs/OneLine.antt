-- The text of an answer has no line feed: strings have theirs escaped, and numbers have none.
use Rattle.std.proofs.Common.{◌≡◌, ◌∙◌, ◌+◌, ◌==◌, ◌&&◌, ◌||◌, ◌/◌, ◌%◌, ℕ, suc, Bool, true, false, cond, arith, List, [], ◌∷◌, ◌++◌, Option, Some, None, ap, drop, if◌then◌else◌, refl, sym}
use Rattle.std.proofs.lemmas.Bool.{eqb-true, false≢true}
use Rattle.std.proofs.lemmas.Bool.Decides.{nat_tests}
use Rattle.std.specs.Char.{digit_char, is_ascii_digit}
use Rattle.std.specs.List.{prefix_len}
use Rattle.std.specs.Prelude.{nat_lt, option_and_then}
use Rattle.json.specs.Print.{ArePrintableOrBad, IsNumber, IsPrintableOrBad, begins, ends, escape, escape_byte, escape_letter, print, print_from, quoted, separator, token_text}
use Rattle.json.specs.Token.{Token, begin_object, end_object, begin_array, end_array, key, string, number, boolean, null, bad}
use Rattle.json.specs.Word.{after_digits, after_exponent, after_fraction, after_minus, after_number, after_sign, after_whole, head}
use Rattle.am_protocol.proofs.Splitting.{plain_join}
use Rattle.am_protocol.specs.Lines.{is_plain}

-- ---- one byte

other : (x : ℕ) → (x ≡ 10 → ⊥) → (x == 10) ≡ false
other x differs = grind (arith, nat_tests)

one_plain : (x : ℕ) (xs : List ℕ) → (x == 10) ≡ false → is_plain xs ≡ true → is_plain (x ∷ xs) ≡ true
one_plain x xs differs rest = ap (λ b. if b then false else is_plain xs) differs ∙ rest

-- a byte that is 34 or 92
quote_plain : (x : ℕ) (p q : Bool) → (x == 34) ≡ p → (x == 92) ≡ q → (p || q) ≡ true → (x == 10) ≡ false
quote_plain x true q is also either = ap (λ y. y == 10) (eqb-true x 34 is)
quote_plain x false true is also either = ap (λ y. y == 10) (eqb-true x 92 also)
quote_plain x false false is also either = absurd (cc)

letter_of : (a b c d e f : Bool) (x : ℕ) → (a ≡ true → (x == 10) ≡ false)
    → (cond a x (cond b 98 (cond c 102 (cond d 110 (cond e 114 (cond f 116 0))))) == 10) ≡ false
letter_of true b c d e f x h = h refl
letter_of false true c d e f x h = refl
letter_of false false true d e f x h = refl
letter_of false false false true e f x h = refl
letter_of false false false false true f x h = refl
letter_of false false false false false true x h = refl
letter_of false false false false false false x h = refl

letter_plain : (x : ℕ) → (escape_letter x == 10) ≡ false
letter_plain x =
    letter_of ((x == 34) || (x == 92)) (x == 8) (x == 12) (x == 10) (x == 13) (x == 9) x
    (λ either. quote_plain x (x == 34) (x == 92) refl refl either)

digit_plain : (d : ℕ) → (digit_char d == 10) ≡ false
digit_plain d = by (nat_lt d 10)
  where
    by : (b : Bool) → (cond b (48 + d) (87 + d) == 10) ≡ false
    by true = other (48 + d) (λ e. absurd (omega (arith, e)))
    by false = other (87 + d) (λ e. absurd (omega (arith, e)))

byte_plain : (x : ℕ) → is_plain (escape_byte x) ≡ true
unfolding escape_byte
byte_plain x = by (nat_lt 0 (escape_letter x)) (nat_lt x 32) refl
  where
    by : (a b : Bool) → nat_lt x 32 ≡ b
        → is_plain (cond a (92 ∷ escape_letter x ∷ []) (cond b (92 ∷ 117 ∷ 48 ∷ 48 ∷ digit_char (x / 16) ∷ digit_char (x % 16) ∷ []) (x ∷ []))) ≡ true
    by true b is = one_plain (escape_letter x) [] (letter_plain x) refl
    by false true is =
        one_plain (digit_char (x / 16)) (digit_char (x % 16) ∷ []) (digit_plain (x / 16)) (one_plain (digit_char (x % 16)) [] (digit_plain (x % 16)) refl)
    by false false is = one_plain x [] (grind (arith, nat_tests)) refl

escape_plain : (s : List ℕ) → is_plain (escape s) ≡ true
escape_plain [] = refl
escape_plain (x ∷ s) = plain_join (escape_byte x) (escape s) (byte_plain x) (escape_plain s)

quoted_plain : (s : List ℕ) → is_plain (quoted s) ≡ true
quoted_plain s = plain_join (escape s) (34 ∷ []) (escape_plain s) refl

-- ---- a number

one_more : (n : ℕ) → 1 + n ≡ suc n
one_more n = omega arith

digits_plain : (t : List ℕ) → is_plain (drop (prefix_len is_ascii_digit t) t) ≡ true → is_plain t ≡ true
digits_plain [] rest = refl
digits_plain (x ∷ xs) rest = by (is_ascii_digit x) refl (λ left. digits_plain xs left) rest
  where
    by : (b : Bool) → is_ascii_digit x ≡ b → (is_plain (drop (prefix_len is_ascii_digit xs) xs) ≡ true → is_plain xs ≡ true)
        → is_plain (drop (cond b (1 + prefix_len is_ascii_digit xs) 0) (x ∷ xs)) ≡ true → is_plain (x ∷ xs) ≡ true
    by true is further rest =
        one_plain x xs (other x (λ feed. absurd (false≢true (sym (ap is_ascii_digit feed) ∙ is))))
        (further (sym (ap (λ n. is_plain (drop n (x ∷ xs))) (one_more (prefix_len is_ascii_digit xs))) ∙ rest))
    by false is further rest = rest

after_digits_plain : (t r : List ℕ) → after_digits t ≡ Some r → is_plain r ≡ true → is_plain t ≡ true
after_digits_plain t r after rest = by (prefix_len is_ascii_digit t == 0) after
  where
    by : (b : Bool) → cond b None (Some (drop (prefix_len is_ascii_digit t) t)) ≡ Some r → is_plain t ≡ true
    by true after = absurd (cc)
    by false after =
        let same : r ≡ drop (prefix_len is_ascii_digit t) t = cc in
        digits_plain t (ap is_plain (sym same) ∙ rest)

-- the first byte is one that is no line feed
head_plain : (t : List ℕ) (c : ℕ) → (head t == c) ≡ true → (c == 10) ≡ false → is_plain (drop 1 t) ≡ true → is_plain t ≡ true
head_plain [] c is differs rest = refl
head_plain (x ∷ xs) c is differs rest = one_plain x xs (ap (λ y. y == 10) (eqb-true x c is) ∙ differs) rest

minus_plain : (t : List ℕ) → is_plain (after_minus t) ≡ true → is_plain t ≡ true
minus_plain t rest = by (head t == 45) refl rest
  where
    by : (b : Bool) → (head t == 45) ≡ b → is_plain (cond b (drop 1 t) t) ≡ true → is_plain t ≡ true
    by true is rest = head_plain t 45 is refl rest
    by false is rest = rest

sign_plain : (t : List ℕ) → is_plain (after_sign t) ≡ true → is_plain t ≡ true
sign_plain t rest = by (head t == 45) (head t == 43) refl refl rest
  where
    by : (a b : Bool) → (head t == 45) ≡ a → (head t == 43) ≡ b → is_plain (cond (a || b) (drop 1 t) t) ≡ true → is_plain t ≡ true
    by true b is also rest = head_plain t 45 is refl rest
    by false true is also rest = head_plain t 43 also refl rest
    by false false is also rest = rest

whole_plain : (t r : List ℕ) → after_whole t ≡ Some r → is_plain r ≡ true → is_plain t ≡ true
whole_plain t r after rest = by (head t == 48) refl after
  where
    by : (b : Bool) → (head t == 48) ≡ b → cond b (Some (drop 1 t)) (after_digits t) ≡ Some r → is_plain t ≡ true
    by true is after = let same : r ≡ drop 1 t = cc in head_plain t 48 is refl (ap is_plain (sym same) ∙ rest)
    by false is after = after_digits_plain t r after rest

fraction_plain : (t r : List ℕ) → after_fraction t ≡ Some r → is_plain r ≡ true → is_plain t ≡ true
fraction_plain t r after rest = by (head t == 46) refl after
  where
    by : (b : Bool) → (head t == 46) ≡ b → cond b (after_digits (drop 1 t)) (Some t) ≡ Some r → is_plain t ≡ true
    by true is after = head_plain t 46 is refl (after_digits_plain (drop 1 t) r after rest)
    by false is after = let same : r ≡ t = cc in ap is_plain (sym same) ∙ rest

exponent_plain : (t r : List ℕ) → after_exponent t ≡ Some r → is_plain r ≡ true → is_plain t ≡ true
exponent_plain t r after rest = by (head t == 101) (head t == 69) refl refl after
  where
    by : (a b : Bool) → (head t == 101) ≡ a → (head t == 69) ≡ b → cond (a || b) (after_digits (after_sign (drop 1 t))) (Some t) ≡ Some r → is_plain t ≡ true
    by true b is also after = head_plain t 101 is refl (sign_plain (drop 1 t) (after_digits_plain (after_sign (drop 1 t)) r after rest))
    by false true is also after = head_plain t 69 also refl (sign_plain (drop 1 t) (after_digits_plain (after_sign (drop 1 t)) r after rest))
    by false false is also after = let same : r ≡ t = cc in ap is_plain (sym same) ∙ rest

-- what two steps leave
two_steps : (first : List ℕ → Option (List ℕ)) (o : Option (List ℕ)) (r : List ℕ) → option_and_then first o ≡ Some r
    → (t : List ℕ) × (o ≡ Some t) × (first t ≡ Some r)
two_steps first None r after = absurd (cc)
two_steps first (Some t) r after = (t, refl, after)

number_plain : (s : List ℕ) → IsNumber s → is_plain s ≡ true
unfolding after_number
number_plain s after =
    let last = two_steps after_exponent (option_and_then after_fraction (after_whole (after_minus s))) [] after in
    let mid = two_steps after_fraction (after_whole (after_minus s)) last.0 last.1 in
    minus_plain s (whole_plain (after_minus s) mid.0 mid.1 (fraction_plain mid.0 last.0 mid.2 (exponent_plain last.0 [] last.2 refl)))

-- ---- tokens

token_plain : (t : Token) → IsPrintableOrBad t → is_plain (token_text t) ≡ true
token_plain begin_object h = refl
token_plain end_object h = refl
token_plain begin_array h = refl
token_plain end_array h = refl
token_plain (key s) h = plain_join (quoted s) (58 ∷ []) (quoted_plain s) refl
token_plain (string s) h = quoted_plain s
token_plain (number s) h = number_plain s h
token_plain (boolean true) h = refl
token_plain (boolean false) h = refl
token_plain null h = refl
token_plain bad h = refl

comma_plain : (b : Bool) → is_plain (cond b (44 ∷ []) []) ≡ true
comma_plain true = refl
comma_plain false = refl

print_from_plain : (b : Bool) (ts : List Token) → ArePrintableOrBad ts → is_plain (print_from b ts) ≡ true
unfolding print_from
print_from_plain b [] h = refl
print_from_plain b (t ∷ ts) h =
    plain_join (separator b t) (token_text t ++ print_from (ends t) ts) (comma_plain (b && begins t))
    (plain_join (token_text t) (print_from (ends t) ts) (token_plain t h.0) (print_from_plain (ends t) ts h.1))

-- the text of tokens that can be written is one line
pub print_plain : (ts : List Token) → ArePrintableOrBad ts → is_plain (print ts) ≡ true
print_plain ts h = print_from_plain false ts h
