-- Texts of matchers: what is written plainly, with a quote or with an escape.
use Rattle.std.proofs.Common.{◌≡◌, ◌≢◌, ◌<◌, ◌==◌, ◌||◌, ℕ, zero, suc, Bool, true, false, List, [], ◌∷◌, ◌++◌, Option, Some, None, Bor, MatchOption, cond, if◌then◌else◌, drop, length, get_or, option_map, ◌⊎◌, inl, inr, refl, sym, ap, subst, append_assoc, ◌∙◌, arith}
use Rattle.std.specs.Str.Pattern.{FindsTextPrefix, StripsPrefix}
use Rattle.std.proofs.lemmas.Bool.{eqb-true, false≢true, ne_eqb}
use Rattle.std.proofs.lemmas.List.{append-nil, append_cancel_right}
use Rattle.std.proofs.lemmas.Str.Ascii.{trim_ascii_is}
use Rattle.std.specs.List.{position}
use Rattle.std.specs.Str.{IsTrimAscii}
use Rattle.am_alerts.specs.declared.matcher.MatcherParts.{MatcherParts}
use Rattle.am_alerts.specs.declared.matcher.Operator.{Operator}
use Rattle.am_alerts.specs.declared.matcher.Operator.TheVariants.{Equal, NotEqual, Like, NotLike}
use Rattle.am_alerts.specs.Matcher.{operator_text}
use Rattle.am_json.specs.MatcherText.{IsMatcherText, IsUnquoted, Lacks, begins_operator, unescaped}

fuse : (f g : List ℕ → List ℕ) (o : Option (List ℕ)) → option_map f (option_map g o) ≡ option_map (λ r. f (g r)) o
fuse f g None = refl
fuse f g (Some r) = refl

lacks_tail : (c x : ℕ) (xs : List ℕ) → Lacks c (x ∷ xs) → Lacks c xs
lacks_tail c x xs lacks k h e = lacks (suc k) (omega arith) e

-- a text with no backslash and no quote represents itself
pub unescaped_plain : (plain rest : List ℕ) → Lacks 92 plain → Lacks 34 plain
    → unescaped false (plain ++ rest) ≡ option_map (λ r. plain ++ r) (unescaped false rest)
unescaped_plain [] rest slash quote = same (unescaped false rest)
  where
    same : (o : Option (List ℕ)) → o ≡ option_map (λ r. r) o
    same None = refl
    same (Some r) = refl
unescaped_plain (x ∷ xs) rest slash quote =
    rw (ne_eqb x 92 (slash 0 (omega arith)), ne_eqb x 34 (quote 0 (omega arith)))
    (ap (option_map (λ r. x ∷ r)) (unescaped_plain xs rest (lacks_tail 92 x xs slash) (lacks_tail 34 x xs quote))
    ∙ fuse (λ r. x ∷ r) (λ r. xs ++ r) (unescaped false rest))

-- one with a quote and no backslash before it represents nothing
pub unescaped_quote : (plain rest : List ℕ) (k : ℕ) → Lacks 92 plain → k < length plain → get_or plain k 0 ≡ 34 → unescaped false (plain ++ rest) ≡ None
unescaped_quote [] rest k slash h is = absurd (omega arith)
unescaped_quote (x ∷ xs) rest zero slash h is = rw is refl
unescaped_quote (x ∷ xs) rest (suc k) slash h is =
    rw (ne_eqb x 92 (slash 0 (omega arith)))
    (by (x == 34) (unescaped_quote xs rest k (lacks_tail 92 x xs slash) (omega arith) is))
  where
    by : (b : Bool) → unescaped false (xs ++ rest) ≡ None → cond b None (option_map (λ r. x ∷ r) (unescaped false (xs ++ rest))) ≡ None
    by true none = refl
    by false none = ap (option_map (λ r. x ∷ r)) none

-- before anything is read nothing is before the text
pub unescaped_first : (value : List ℕ) (o : Option (List ℕ)) → value ≡ [] → o ≡ option_map (λ r. value ++ r) o
unescaped_first value None e = refl
unescaped_first value (Some r) e = ap (λ v. Some (v ++ r)) (sym e)

-- nothing represents a text whose last backslash has nothing behind it
pub unescaped_end : (plain behind : List ℕ) → length behind ≡ 0 → Lacks 92 plain → Lacks 34 plain → unescaped false (plain ++ 92 ∷ behind) ≡ None
unescaped_end plain [] none slash quote = unescaped_plain plain (92 ∷ []) slash quote
unescaped_end plain (b ∷ bs) none slash quote = absurd (omega arith)

-- a text with no backslash and no quote at the end
pub unescaped_last : (value rest : List ℕ) → Lacks 92 rest → Lacks 34 rest → option_map (λ r. value ++ r) (unescaped false rest) ≡ Some (value ++ rest)
unescaped_last value rest slash quote =
    ap (λ l. option_map (λ r. value ++ r) (unescaped false l)) (sym (append-nil rest))
    ∙ ap (option_map (λ r. value ++ r)) (unescaped_plain rest [] slash quote)
    ∙ ap (λ l. Some (value ++ l)) (append-nil rest)

-- one backslash, what is before it and what it represents
pub unescaped_step : (value plain added rest behind left : List ℕ) → rest ≡ plain ++ 92 ∷ behind → Lacks 92 plain → Lacks 34 plain
    → unescaped true behind ≡ option_map (λ r. added ++ r) (unescaped false left)
    → option_map (λ r. value ++ r) (unescaped false rest) ≡ option_map (λ r. ((value ++ plain) ++ added) ++ r) (unescaped false left)
unescaped_step value plain added rest behind left is slash quote holds =
    ap (λ l. option_map (λ r. value ++ r) (unescaped false l)) is
    ∙ ap (option_map (λ r. value ++ r)) (unescaped_plain plain (92 ∷ behind) slash quote ∙ ap (option_map (λ r. plain ++ r)) holds)
    ∙ join (unescaped false left)
  where
    join : (o : Option (List ℕ)) → option_map (λ r. value ++ r) (option_map (λ r. plain ++ r) (option_map (λ r. added ++ r) o)) ≡ option_map (λ r. ((value ++ plain) ++ added) ++ r) o
    join None = refl
    join (Some r) = ap Some (sym (append_assoc (value ++ plain) added r ∙ append_assoc value plain (added ++ r)))

-- a backslash before this text, which begins with nothing that is escaped, represents itself
pub unescaped_other : (behind : List ℕ) → 0 < length behind → ((rest : List ℕ) → behind ≢ 110 ∷ rest) → ((rest : List ℕ) → behind ≢ 34 ∷ rest)
    → ((rest : List ℕ) → behind ≢ 92 ∷ rest) → unescaped true behind ≡ option_map (λ r. 92 ∷ r) (unescaped false behind)
unescaped_other [] some line quote slash = absurd (omega arith)
unescaped_other (b ∷ bs) some line quote slash =
    let no_line = ne_eqb b 110 (λ e. line bs (ap (λ c. c ∷ bs) e)) in
    let no_quote = ne_eqb b 34 (λ e. quote bs (ap (λ c. c ∷ bs) e)) in
    let no_slash = ne_eqb b 92 (λ e. slash bs (ap (λ c. c ∷ bs) e)) in
    rw (no_line, no_quote, no_slash) (sym (fuse (λ r. 92 ∷ r) (λ r. b ∷ r) (unescaped false bs)))

-- ---- the parts

-- what begins an operator is ASCII
pub operator_ascii : (b : ℕ) → begins_operator b ≡ true → b < 128
operator_ascii b is = by (b == 61) refl is
  where
    by : (t : Bool) → (b == 61) ≡ t → (t || b == 33) ≡ true → b < 128
    by true equals is = omega (arith, eqb-true b 61 equals)
    by false equals is = omega (arith, eqb-true b 33 is)

pub stripped : (front text rest : List ℕ) → StripsPrefix (FindsTextPrefix front) text rest → text ≡ front ++ rest
stripped front text rest h = h.1.1 ∙ ap (λ r. front ++ r) (sym h.2)

-- behind `=` alone there is no tilde
pub no_tilde : (text value : List ℕ) → text ≡ 61 ∷ value → ((rest : List ℕ) → text ≢ 61 ∷ 126 ∷ rest) → get_or value 0 0 ≢ 126
no_tilde text [] is lacks e = absurd (omega arith)
no_tilde text (v ∷ vs) is lacks e = lacks vs (is ∙ ap (λ b. 61 ∷ b ∷ vs) e)

-- a text that begins with a quote doesn't lack one
pub quote_first : (text rest : List ℕ) → text ≡ 34 ∷ rest → Lacks 34 text → ⊥
quote_first text rest is lacks = lacks 0 (subst (λ (l : List ℕ). 0 < length l) (sym is) (omega arith)) (ap (λ l. get_or l 0 0) is)

-- what a text begins with that begins with no operator
pub none_begins : (text : List ℕ) → ((rest : List ℕ) → text ≢ 61 ∷ 126 ∷ rest) → ((rest : List ℕ) → text ≢ 33 ∷ 126 ∷ rest)
    → ((rest : List ℕ) → text ≢ 33 ∷ 61 ∷ rest) → ((rest : List ℕ) → text ≢ 61 ∷ rest) → (value : List ℕ) (op : Operator) → text ≢ operator_text op ++ value
none_begins text like not_like not_equal equal value Equal is = equal value is
none_begins text like not_like not_equal equal value NotEqual is = not_equal value is
none_begins text like not_like not_equal equal value Like is = like value is
none_begins text like not_like not_equal equal value NotLike is = not_like value is

-- a text from which a quote was taken at its front, and one at its end if there is one
pub quoted_in : (written quoted : List ℕ) (r : Option (Bor (List ℕ))) → written ≡ 34 ∷ quoted
    → MatchOption r ((front : List ℕ) → quoted ≢ front ++ 34 ∷ []) (λ x. quoted ≡ x.now ++ 34 ∷ [])
    → MatchOption r ((inner : List ℕ) → IsUnquoted written inner → ⊥) (λ x. IsUnquoted written x.now)
quoted_in written quoted None is ends = unquoted
  where
    unquoted : (inner : List ℕ) → IsUnquoted written inner → ⊥
    unquoted inner (inl quotes) = ends inner (cc)
    unquoted inner (inr plain) = quote_first written quoted is plain.1
quoted_in written quoted (Some x) is ends = inl (is ∙ ap (λ l. 34 ∷ l) ends)

-- a text without a quote at its front, which has one, or a comma, is no value
pub none_unquoted : (written inner : List ℕ) (byte k : ℕ) → ((rest : List ℕ) → written ≢ 34 ∷ rest) → (byte ≡ 34) ⊎ (byte ≡ 44)
    → k < length written → get_or written k 0 ≡ byte → IsUnquoted written inner → ⊥
none_unquoted written inner byte k plain which here is (inl quotes) = plain (inner ++ 34 ∷ []) quotes
none_unquoted written inner byte k plain (inl quote) here is (inr lacks) = lacks.1 k here (is ∙ quote)
none_unquoted written inner byte k plain (inr comma) here is (inr lacks) = lacks.2 k here (is ∙ comma)

-- a text in which a byte isn't found has none
pub lacks_from : (byte : ℕ) (text : List ℕ) (found : Bool) → ((k : ℕ) → k < length text → get_or text k 0 ≡ byte → found ≡ true) → found ≡ false → Lacks byte text
lacks_from byte text found finds none k h e = false≢true (sym none ∙ finds k h e)

-- ---- a text is that of one matcher at most

-- two fronts of one length are one
pub front_is : (a b c d : List ℕ) → a ++ b ≡ c ++ d → length a ≡ length c → (a ≡ c) × (b ≡ d)
front_is [] b [] d is len = (refl, is)
front_is [] b (y ∷ c) d is len = absurd (omega (arith, len))
front_is (x ∷ a) b [] d is len = absurd (omega (arith, len))
front_is (x ∷ a) b (y ∷ c) d is len =
    let rest = front_is a b c d (cc) (omega (arith, len)) in
    let same : x ≡ y = cc in
    ((λ i. same i ∷ rest.0 i), rest.1)

-- the operator with which a text begins, if it begins with one
abbrev beginning : List ℕ → Operator
beginning text =
    if get_or text 1 0 == 126 then (if get_or text 0 0 == 61 then Like else NotLike) else (if get_or text 0 0 == 61 then Equal else NotEqual)

begins_so : (o : Operator) (v : List ℕ) → (o ≡ Equal → get_or v 0 0 ≢ 126) → beginning (operator_text o ++ v) ≡ o
begins_so Equal v longest = ap (λ (b : Bool). if b then Like else Equal) (ne_eqb (get_or v 0 0) 126 (longest refl))
begins_so NotEqual v longest = refl
begins_so Like v longest = refl
begins_so NotLike v longest = refl

-- what is behind an operator
abbrev behind : Operator → List ℕ → List ℕ
behind Equal text = drop 1 text
behind NotEqual text = drop 2 text
behind Like text = drop 2 text
behind NotLike text = drop 2 text

is_behind : (o : Operator) (v : List ℕ) → behind o (operator_text o ++ v) ≡ v
is_behind Equal v = refl
is_behind NotEqual v = refl
is_behind Like v = refl
is_behind NotLike v = refl

-- a text begins with one operator that is as long as it can be
one_operator : (o p : Operator) (v w : List ℕ) → operator_text o ++ v ≡ operator_text p ++ w
    → (o ≡ Equal → get_or v 0 0 ≢ 126) → (p ≡ Equal → get_or w 0 0 ≢ 126) → (o ≡ p) × (v ≡ w)
one_operator o p v w is longest other =
    let same : o ≡ p = sym (begins_so o v longest) ∙ ap beginning is ∙ begins_so p w other in
    (same, sym (is_behind o v) ∙ (λ i. behind (same i) (is i)) ∙ is_behind p w)

-- each operator has a text of its own
pub one_op : (o p : Operator) → operator_text o ≡ operator_text p → o ≡ p
one_op o p is = (one_operator o p [] [] (ap (λ text. text ++ []) is) (λ e zero. absurd (omega arith)) (λ e zero. absurd (omega arith))).0

-- a text is cut in one way: at the first byte that begins an operator
pub one_cut : (text n m v w : List ℕ) (o p : Operator) → text ≡ n ++ (operator_text o ++ v) → text ≡ m ++ (operator_text p ++ w)
    → position begins_operator text ≡ Some (length n) → position begins_operator text ≡ Some (length m)
    → (o ≡ Equal → get_or v 0 0 ≢ 126) → (p ≡ Equal → get_or w 0 0 ≢ 126) → (n ≡ m) × (o ≡ p) × (v ≡ w)
one_cut text n m v w o p is also begins first longest other =
    let cut = front_is n (operator_text o ++ v) m (operator_text p ++ w) (sym is ∙ also) (cc) in
    let rest = one_operator o p v w cut.1 longest other in
    (cut.0, rest.0, rest.1)

-- a text is trimmed in one way
pub one_trimmed : (s r q : List ℕ) → IsTrimAscii s r → IsTrimAscii s q → r ≡ q
one_trimmed s r q is also = trim_ascii_is s r _ refl is ∙ sym (trim_ascii_is s q _ refl also)

-- there is one value in a text's quotes
pub one_unquoted : (written i j : List ℕ) → IsUnquoted written i → IsUnquoted written j → i ≡ j
one_unquoted written i j (inl a) (inl b) = append_cancel_right i j (34 ∷ []) (cc)
one_unquoted written i j (inl a) (inr b) = absurd (quote_first written (i ++ 34 ∷ []) a b.1)
one_unquoted written i j (inr a) (inl b) = absurd (quote_first written (j ++ 34 ∷ []) b a.1)
one_unquoted written i j (inr a) (inr b) = a.0 ∙ sym b.0

-- what is behind the operator of a text is that of each matcher that it writes
pub value_of_text : (text : List ℕ) (m : MatcherParts) (is : IsMatcherText text m) (n v : List ℕ) (o : Operator) → text ≡ n ++ (operator_text o ++ v)
    → position begins_operator text ≡ Some (length n) → (o ≡ Equal → get_or v 0 0 ≢ 126) → (is.name ≡ n) × (m.op ≡ o) × (is.value ≡ v)
value_of_text text m is n v o cut begins longest =
    one_cut text is.name n is.value v m.op o is.is cut is.begins begins is.longest longest

-- a text is that of one matcher
pub one_text : (text : List ℕ) (m n : MatcherParts) → IsMatcherText text m → IsMatcherText text n → m ≡ n
one_text text m n a b =
    let cut = one_cut text a.name b.name a.value b.value m.op n.op a.is b.is a.begins b.begins a.longest b.longest in
    let name : m.name ≡ n.name =
    one_trimmed a.name m.name n.name a.named (subst (λ (l : List ℕ). IsTrimAscii l n.name) (sym cut.0) b.named) in
    let written : a.written ≡ b.written =
    one_trimmed a.value a.written b.written a.trimmed (subst (λ (l : List ℕ). IsTrimAscii l b.written) (sym cut.2) b.trimmed) in
    let inner : a.inner ≡ b.inner =
    one_unquoted a.written a.inner b.inner a.unquoted (subst (λ (l : List ℕ). IsUnquoted l b.inner) (sym written) b.unquoted) in
    let value : Some m.value ≡ Some n.value = sym a.holds ∙ ap (unescaped false) inner ∙ b.holds in
    let same : m.value ≡ n.value = cc in
    λ i. record { name = name i; op = cut.1 i; value = same i }
