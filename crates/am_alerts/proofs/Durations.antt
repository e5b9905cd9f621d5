-- Durations' texts: reading from the front gives the value.
use Rattle.std.proofs.Common.{◌≡◌, ◌≢◌, ℕ, suc, ◌+◌, ◌*◌, ◌^◌, ◌<◌, ◌≤◌, Bool, true, false, cond, ◌&&◌, not, List, [], ◌∷◌, length, drop}
use Rattle.std.proofs.Common.{Option, Some, None, refl, sym, ap, subst, ◌∙◌, arith, bytes_eq}
use Rattle.std.specs.Prelude.{option_and_then, ◌==◌}
use Rattle.std.specs.Char.{is_ascii_digit, digit_value}
use Rattle.std.specs.List.{prefix_len}
use Rattle.std.specs.Option.{option_map, option_or}
use Rattle.std.specs.Str.Parse.{AllDigits, digits_value}
use Rattle.std.proofs.lemmas.Bool.{eqb-true}
use Rattle.std.proofs.lemmas.Grind.{common_steps}
use Rattle.std.proofs.lemmas.List.Sums.{take_while-cons}
use Rattle.std.proofs.lemmas.Option.{some_pair_parts}
use Rattle.std.proofs.lemmas.Slice.Eq.{bytes_eq-Decides}
use Rattle.am_alerts.specs.declared.duration.TimeUnit.{TimeUnit}
use Rattle.am_alerts.specs.declared.duration.TimeUnit.TheVariants.{Year, Week, Day, Hour, Minute, Second, Millisecond}
use Rattle.am_alerts.specs.Duration.{time_units, symbol_of, millis_of, front_digits, behind_digits, behind_symbol, value_with, value_in}
use Rattle.am_alerts.specs.Duration.{value_of_counts, capped, before_digit, from_digit, IsFirstPart, unit_named}

-- dropping those of the front that pass
drop-cond : (q : Bool) (n b : ℕ) (bs : List ℕ) → drop (cond q (1 + n) 0) (b ∷ bs) ≡ cond q (drop n bs) (b ∷ bs)
drop-cond true n b bs = grind (arith, common_steps)
drop-cond false n b bs = refl

-- what is behind the digits is the rest of the text behind as many bytes
pub behind_digits-drop : (text : List ℕ) → drop (prefix_len is_ascii_digit text) text ≡ behind_digits text
behind_digits-drop [] = refl
behind_digits-drop (b ∷ bs) =
    drop-cond (is_ascii_digit b) (prefix_len is_ascii_digit bs) b bs ∙ ap (λ t. cond (is_ascii_digit b) t (b ∷ bs)) (behind_digits-drop bs)

cond-not : (q : Bool) (x y : List ℕ) → cond (not q) x y ≡ cond q y x
cond-not true x y = refl
cond-not false x y = refl

from_digit-drop : (text : List ℕ) → drop (prefix_len (λ b. not (is_ascii_digit b)) text) text ≡ from_digit text
from_digit-drop [] = refl
from_digit-drop (b ∷ bs) =
    drop-cond (not (is_ascii_digit b)) (prefix_len (λ b. not (is_ascii_digit b)) bs) b bs
    ∙ cond-not (is_ascii_digit b) (drop (prefix_len (λ b. not (is_ascii_digit b)) bs) bs) (b ∷ bs)
    ∙ ap (λ t. cond (is_ascii_digit b) (b ∷ bs) t) (from_digit-drop bs)

pub cut_digits : (n : ℕ) (text : List ℕ) → n ≡ prefix_len is_ascii_digit text → drop n text ≡ behind_digits text
cut_digits n text e = ap (λ k. drop k text) e ∙ behind_digits-drop text

pub cut_symbol : (n : ℕ) (text : List ℕ) → n ≡ prefix_len (λ b. not (is_ascii_digit b)) text → drop n text ≡ from_digit text
cut_symbol n text e = ap (λ k. drop k text) e ∙ from_digit-drop text

digit_value-digit : (b : ℕ) → is_ascii_digit b ≡ true → digit_value b < 10
digit_value-digit b digit = grind (arith, common_steps)

AllDigits-cond : (q : Bool) (b : ℕ) (ds : List ℕ) → (q ≡ true → digit_value b < 10) → AllDigits 10 ds → AllDigits 10 (cond q (b ∷ ds) [])
AllDigits-cond true b ds digit all = (digit refl, all)
AllDigits-cond false b ds digit all = tt

-- the digits at the front of a text are digits
pub AllDigits-front_digits : (text : List ℕ) → AllDigits 10 (front_digits text)
AllDigits-front_digits [] = tt
AllDigits-front_digits (b ∷ bs) =
    subst (AllDigits 10) (sym (take_while-cons is_ascii_digit b bs))
    (AllDigits-cond (is_ascii_digit b) b (front_digits bs) (digit_value-digit b) (AllDigits-front_digits bs))

pub all_digits : (ds text : List ℕ) → ds ≡ front_digits text → AllDigits 10 ds
all_digits ds text e = subst (AllDigits 10) (sym e) (AllDigits-front_digits text)

-- capped sums and products
capped-times : (a m : ℕ) → 0 < m → capped (capped a * m) ≡ capped (a * m)
capped-times a m some =
    let least : 18446744073709551615 ≤ 18446744073709551615 * m = omega arith in
    grind (arith, least)

pub capped-part : (sum count millis v : ℕ) → 0 < millis
    → capped (capped (sum + capped (capped count * millis)) + v) ≡ capped (sum + (count * millis + v))
capped-part sum count millis v some =
    let product : capped (capped count * millis) ≡ capped (count * millis) = capped-times count millis some in
    omega (arith, product)

-- each unit has at least a millisecond
pub millis_of-positive : (unit : TimeUnit) → 0 < millis_of unit
millis_of-positive Year = omega arith
millis_of-positive Week = omega arith
millis_of-positive Day = omega arith
millis_of-positive Hour = omega arith
millis_of-positive Minute = omega arith
millis_of-positive Second = omega arith
millis_of-positive Millisecond = omega arith

-- no two of the units have one symbol
abbrev pub IsDistinct : List TimeUnit → Type 0
IsDistinct [] = Unit {0}
IsDistinct (unit ∷ units) = (unit_named (symbol_of unit) units ≡ None) × IsDistinct units

pub time_units-distinct : IsDistinct time_units
time_units-distinct = (refl, (refl, (refl, (refl, (refl, (refl, (refl, tt)))))))

-- an empty text has the value 0, whichever units are allowed
pub value_in-empty : (units : List TimeUnit) → value_in units [] ≡ Some 0
value_in-empty [] = refl
value_in-empty (unit ∷ units) = value_in-empty units

-- where a text begins with no digit, no unit's count is at its front
value_with-uncounted : (unit : TimeUnit) (f : List ℕ → Option ℕ) (text : List ℕ) → front_digits text ≡ [] → value_with unit f text ≡ None
value_with-uncounted unit f text uncounted =
    ap (λ ds. cond (length ds == 0) None
    (option_map (λ v. digits_value 10 (front_digits text) * millis_of unit + v)
    (option_and_then f (behind_symbol (symbol_of unit) (behind_digits text))))) uncounted

-- a text that begins with no digit has no value, unless it is empty
pub value_in-uncounted : (units : List TimeUnit) (b : ℕ) (bs : List ℕ) → front_digits (b ∷ bs) ≡ [] → value_in units (b ∷ bs) ≡ None
value_in-uncounted [] b bs uncounted = refl
value_in-uncounted (unit ∷ units) b bs uncounted =
    ap (λ o. option_or o (value_in units (b ∷ bs))) (value_with-uncounted unit (value_in units) (b ∷ bs) uncounted)
    ∙ value_in-uncounted units b bs uncounted

pub front_digits-no_digit : (b : ℕ) (bs : List ℕ) → is_ascii_digit b ≡ false → front_digits (b ∷ bs) ≡ []
front_digits-no_digit b bs no_digit = take_while-cons is_ascii_digit b bs ∙ ap (λ q. cond q (b ∷ front_digits bs) []) no_digit

-- none of the bytes is a digit
abbrev pub NoDigits : List ℕ → Type 0
NoDigits [] = Unit {0}
NoDigits (c ∷ cs) = (is_ascii_digit c ≡ false) × NoDigits cs

pub symbol_of-no_digits : (unit : TimeUnit) → NoDigits (symbol_of unit)
symbol_of-no_digits Year = (refl, tt)
symbol_of-no_digits Week = (refl, tt)
symbol_of-no_digits Day = (refl, tt)
symbol_of-no_digits Hour = (refl, tt)
symbol_of-no_digits Minute = (refl, tt)
symbol_of-no_digits Second = (refl, tt)
symbol_of-no_digits Millisecond = (refl, (refl, tt))

pub before_digit-cons : (b : ℕ) (bs : List ℕ) → before_digit (b ∷ bs) ≡ cond (not (is_ascii_digit b)) (b ∷ before_digit bs) []
before_digit-cons b bs = take_while-cons (λ b. not (is_ascii_digit b)) b bs

-- how a symbol compares with the bytes up to the first digit
equal-nil : (q : Bool) (b : ℕ) (bs : List ℕ) → bytes_eq [] (cond (not q) (b ∷ bs) []) ≡ q
equal-nil true b bs = refl
equal-nil false b bs = refl

equal-cons : (q : Bool) (c b : ℕ) (cs bs : List ℕ)
    → bytes_eq (c ∷ cs) (cond (not q) (b ∷ bs) []) ≡ cond q false ((c == b) && bytes_eq cs bs)
equal-cons true c b cs bs = refl
equal-cons false c b cs bs = refl

nil_before-digit : (b : ℕ) (bs : List ℕ) → bytes_eq [] (before_digit (b ∷ bs)) ≡ is_ascii_digit b
nil_before-digit b bs = ap (bytes_eq []) (before_digit-cons b bs) ∙ equal-nil (is_ascii_digit b) b (before_digit bs)

cons_before-digit : (c b : ℕ) (cs bs : List ℕ)
    → bytes_eq (c ∷ cs) (before_digit (b ∷ bs)) ≡ cond (is_ascii_digit b) false ((c == b) && bytes_eq cs (before_digit bs))
cons_before-digit c b cs bs = ap (bytes_eq (c ∷ cs)) (before_digit-cons b bs) ∙ equal-cons (is_ascii_digit b) c b cs (before_digit bs)

nil_found : (q : Bool) (bs cs : List ℕ) → q ≡ true → bs ≡ cond q bs cs
nil_found true bs cs e = refl
nil_found false bs cs e = cc

cons_found : (q e m : Bool) (o : Option (List ℕ)) (bs cs : List ℕ) → (m ≡ true → o ≡ Some cs) → cond q false (e && m) ≡ true
    → cond e o None ≡ Some (cond q bs cs)
cons_found true e m o bs cs same h = cc
cons_found false true m o bs cs same h = same h
cons_found false false m o bs cs same h = cc

-- where the bytes up to the first digit are the symbol, the text from that digit is behind it
behind_symbol-found : (symbol text : List ℕ) → bytes_eq symbol (before_digit text) ≡ true
    → behind_symbol symbol text ≡ Some (from_digit text)
behind_symbol-found [] [] same = refl
behind_symbol-found [] (b ∷ bs) same = ap Some (nil_found (is_ascii_digit b) (b ∷ bs) (from_digit bs) (sym (nil_before-digit b bs) ∙ same))
behind_symbol-found (c ∷ cs) [] same = cc
behind_symbol-found (c ∷ cs) (b ∷ bs) same =
    cons_found (is_ascii_digit b) (c == b) (bytes_eq cs (before_digit bs)) (behind_symbol cs bs) (b ∷ bs) (from_digit bs)
    (behind_symbol-found cs bs) (sym (cons_before-digit c b cs bs) ∙ same)

cons_missed : (f : List ℕ → Option ℕ) (q e m : Bool) (o : Option (List ℕ)) → (e ≡ true → q ≡ false)
    → (m ≡ false → option_and_then f o ≡ None) → cond q false (e && m) ≡ false → option_and_then f (cond e o None) ≡ None
cons_missed f q false m o apart missed h = refl
cons_missed f true true m o apart missed h = let e = apart refl in cc
cons_missed f false true m o apart missed h = missed h

-- where they are not, nothing behind the symbol has a value: no digit is there
behind_symbol-missed : (f : List ℕ → Option ℕ) → ((b : ℕ) (bs : List ℕ) → is_ascii_digit b ≡ false → f (b ∷ bs) ≡ None)
    → (symbol text : List ℕ) → NoDigits symbol → bytes_eq symbol (before_digit text) ≡ false
    → option_and_then f (behind_symbol symbol text) ≡ None
behind_symbol-missed f none [] [] no_digits other = cc
behind_symbol-missed f none [] (b ∷ bs) no_digits other = none b bs (sym (nil_before-digit b bs) ∙ other)
behind_symbol-missed f none (c ∷ cs) [] no_digits other = refl
behind_symbol-missed f none (c ∷ cs) (b ∷ bs) no_digits other =
    cons_missed f (is_ascii_digit b) (c == b) (bytes_eq cs (before_digit bs)) (behind_symbol cs bs)
    (λ same. let is_b : c ≡ b = eqb-true c b same in ap is_ascii_digit (sym is_b) ∙ no_digits.0)
    (behind_symbol-missed f none cs bs no_digits.1) (sym (cons_before-digit c b cs bs) ∙ other)

-- the text begins with a count
abbrev pub IsCounted : List ℕ → Type 0
IsCounted text = (length (front_digits text) == 0) ≡ false

-- what a part's symbol can be, and what is behind it
abbrev pub symbol_in : List ℕ → List ℕ
symbol_in text = before_digit (behind_digits text)

abbrev pub rest_of : List ℕ → List ℕ
rest_of text = from_digit (behind_digits text)

value_with-found : (unit : TimeUnit) (f : List ℕ → Option ℕ) (text : List ℕ) → IsCounted text
    → bytes_eq (symbol_of unit) (symbol_in text) ≡ true
    → value_with unit f text ≡ option_map (λ v. digits_value 10 (front_digits text) * millis_of unit + v) (f (rest_of text))
value_with-found unit f text counted same =
    ap (λ q. cond q None (option_map (λ v. digits_value 10 (front_digits text) * millis_of unit + v)
    (option_and_then f (behind_symbol (symbol_of unit) (behind_digits text))))) counted
    ∙ ap (λ o. option_map (λ v. digits_value 10 (front_digits text) * millis_of unit + v) (option_and_then f o))
    (behind_symbol-found (symbol_of unit) (behind_digits text) same)

value_with-missed : (unit : TimeUnit) (units : List TimeUnit) (text : List ℕ) → IsCounted text
    → bytes_eq (symbol_of unit) (symbol_in text) ≡ false → value_with unit (value_in units) text ≡ None
value_with-missed unit units text counted other =
    ap (λ q. cond q None (option_map (λ v. digits_value 10 (front_digits text) * millis_of unit + v)
    (option_and_then (value_in units) (behind_symbol (symbol_of unit) (behind_digits text))))) counted
    ∙ ap (option_map (λ v. digits_value 10 (front_digits text) * millis_of unit + v))
    (behind_symbol-missed (value_in units) (λ b bs no_digit. value_in-uncounted units b bs (front_digits-no_digit b bs no_digit))
    (symbol_of unit) (behind_digits text) (symbol_of-no_digits unit) other)

-- the value of a text whose first part has this unit, with these behind it
abbrev pub value_from : List ℕ → TimeUnit × List TimeUnit → Option ℕ
value_from text found = option_map (λ v. digits_value 10 (front_digits text) * millis_of found.0 + v) (value_in found.1 (rest_of text))

option_or-none : (o : Option ℕ) → option_or o None ≡ o
option_or-none None = refl
option_or-none (Some v) = refl

value_in-first : (e : Bool) (unit : TimeUnit) (units : List TimeUnit) (text : List ℕ) → bytes_eq (symbol_of unit) (symbol_in text) ≡ e
    → unit_named (symbol_of unit) units ≡ None → IsCounted text
    → value_in units text ≡ option_and_then (value_from text) (unit_named (symbol_in text) units)
    → value_in (unit ∷ units) text ≡ option_and_then (value_from text) (cond e (Some (unit, units)) (unit_named (symbol_in text) units))
value_in-first true unit units text same apart counted later =
    let symbol_is : symbol_of unit ≡ symbol_in text = (bytes_eq-Decides (symbol_of unit) (symbol_in text)).0 same in
    let none : value_in units text ≡ None = later ∙ ap (λ s. option_and_then (value_from text) (unit_named s units)) (sym symbol_is)
    ∙ ap (option_and_then (value_from text)) apart in
    ap (option_or (value_with unit (value_in units) text)) none ∙ option_or-none (value_with unit (value_in units) text)
    ∙ value_with-found unit (value_in units) text counted same
value_in-first false unit units text same apart counted later =
    ap (λ o. option_or o (value_in units text)) (value_with-missed unit units text counted same) ∙ later

-- a text that begins with a count has the value of its first part and of what is behind it, where its unit is allowed
pub value_in-counted : (units : List TimeUnit) (text : List ℕ) → IsDistinct units → IsCounted text
    → value_in units text ≡ option_and_then (value_from text) (unit_named (symbol_in text) units)
value_in-counted [] [] distinct counted = cc
value_in-counted [] (b ∷ bs) distinct counted = refl
value_in-counted (unit ∷ units) text distinct counted =
    value_in-first (bytes_eq (symbol_of unit) (symbol_in text)) unit units text refl distinct.0 counted
    (value_in-counted units text distinct.1 counted)

-- a text whose digits are none, or are some
pub IsCounted-from : (ds : List ℕ) → ds ≢ [] → (length ds == 0) ≡ false
IsCounted-from [] some = absurd (some refl)
IsCounted-from (d ∷ ds) some = grind (arith, common_steps)

IsDistinct-cond : (e : Bool) (u : TimeUnit) (us : List TimeUnit) (unit : TimeUnit) (later : List TimeUnit)
    (found : Option (TimeUnit × List TimeUnit)) → IsDistinct us → (found ≡ Some (unit, later) → IsDistinct later)
    → cond e (Some (u, us)) found ≡ Some (unit, later) → IsDistinct later
IsDistinct-cond true u us unit later found distinct inner h = subst IsDistinct (some_pair_parts u unit us later h).1 distinct
IsDistinct-cond false u us unit later found distinct inner h = inner h

-- the units behind one are distinct too
pub IsDistinct-named : (units : List TimeUnit) (symbol : List ℕ) (unit : TimeUnit) (later : List TimeUnit) → IsDistinct units
    → unit_named symbol units ≡ Some (unit, later) → IsDistinct later
IsDistinct-named [] symbol unit later distinct named = cc
IsDistinct-named (u ∷ us) symbol unit later distinct named =
    IsDistinct-cond (bytes_eq (symbol_of u) symbol) u us unit later (unit_named symbol us) distinct.1
    (IsDistinct-named us symbol unit later distinct.1) named

-- where no unit that is allowed has the symbol, the text has no value
pub value_in-unnamed : (units : List TimeUnit) (text : List ℕ) (count : ℕ) (symbol rest : List ℕ) → IsDistinct units
    → IsFirstPart text count symbol rest → unit_named symbol units ≡ None → value_in units text ≡ None
value_in-unnamed units text count symbol rest distinct first unnamed =
    value_in-counted units text distinct (IsCounted-from (front_digits text) first.is_counted)
    ∙ ap (λ s. option_and_then (value_from text) (unit_named s units)) (sym first.named)
    ∙ ap (option_and_then (value_from text)) unnamed

option_map-same : (f g : ℕ → ℕ) → ((v : ℕ) → f v ≡ g v) → (o : Option ℕ) → option_map f o ≡ option_map g o
option_map-same f g same None = refl
option_map-same f g same (Some v) = ap Some (same v)

option_map-twice : (f g : ℕ → ℕ) (o : Option ℕ) → option_map f (option_map g o) ≡ option_map (λ v. f (g v)) o
option_map-twice f g None = refl
option_map-twice f g (Some v) = refl

-- the first part goes into the sum, and what is behind it is left
pub value_in-part : (units : List TimeUnit) (text : List ℕ) (count : ℕ) (symbol rest : List ℕ) (unit : TimeUnit) (later : List TimeUnit)
    (sum more : ℕ) → IsDistinct units → IsFirstPart text count symbol rest → unit_named symbol units ≡ Some (unit, later)
    → more ≡ capped (sum + capped (count * millis_of unit))
    → option_map (λ v. capped (sum + v)) (value_in units text) ≡ option_map (λ v. capped (more + v)) (value_in later rest)
value_in-part units text count symbol rest unit later sum more distinct first named is_more =
    let number = digits_value 10 (front_digits text) in
    let value : value_in units text ≡ option_map (λ v. number * millis_of unit + v) (value_in later rest) =
    value_in-counted units text distinct (IsCounted-from (front_digits text) first.is_counted)
    ∙ ap (λ s. option_and_then (value_from text) (unit_named s units)) (sym first.named)
    ∙ ap (option_and_then (value_from text)) named
    ∙ ap (λ r. option_map (λ v. number * millis_of unit + v) (value_in later r)) (sym first.left) in
    let same : (v : ℕ) → capped (sum + (number * millis_of unit + v)) ≡ capped (more + v) = λ v.
    sym (capped-part sum number (millis_of unit) v (millis_of-positive unit))
    ∙ ap (λ n. capped (capped (sum + capped (n * millis_of unit)) + v)) (sym first.counted)
    ∙ ap (λ n. capped (n + v)) (sym is_more) in
    ap (option_map (λ v. capped (sum + v))) value
    ∙ option_map-twice (λ v. capped (sum + v)) (λ v. number * millis_of unit + v) (value_in later rest)
    ∙ option_map-same (λ v. capped (sum + (number * millis_of unit + v))) (λ v. capped (more + v)) same (value_in later rest)

-- before the first part the sum is 0
pub value_of_counts-start : (text : List ℕ)
    → option_map capped (value_of_counts text) ≡ option_map (λ v. capped (0 + v)) (value_in time_units text)
unfolding value_of_counts
value_of_counts-start text = option_map-same capped (λ v. capped (0 + v)) (λ v. omega arith) (value_in time_units text)

-- a text that isn't empty and begins with no digit has no value
pub value_in-none : (units : List TimeUnit) (text : List ℕ) → (length text == 0) ≡ false → front_digits text ≡ []
    → value_in units text ≡ None
value_in-none units [] some uncounted = cc
value_in-none units (b ∷ bs) some uncounted = value_in-uncounted units b bs uncounted

behind_digits-le : (text : List ℕ) → length (behind_digits text) ≤ length text
behind_digits-le [] = omega arith
behind_digits-le (b ∷ bs) = by (is_ascii_digit b) (behind_digits-le bs)
  where
    by : (q : Bool) → length (behind_digits bs) ≤ length bs → length (cond q (behind_digits bs) (b ∷ bs)) ≤ length (b ∷ bs)
    by true h = omega arith
    by false h = omega arith

from_digit-le : (text : List ℕ) → length (from_digit text) ≤ length text
from_digit-le [] = omega arith
from_digit-le (b ∷ bs) = by (is_ascii_digit b) (from_digit-le bs)
  where
    by : (q : Bool) → length (from_digit bs) ≤ length bs → length (cond q (b ∷ bs) (from_digit bs)) ≤ length (b ∷ bs)
    by true h = omega arith
    by false h = omega arith

behind_digits-lt : (text : List ℕ) → front_digits text ≢ [] → length (behind_digits text) < length text
behind_digits-lt [] some = absurd (some refl)
behind_digits-lt (b ∷ bs) some = by (is_ascii_digit b) (λ no_digit. some (front_digits-no_digit b bs no_digit)) (behind_digits-le bs)
  where
    by : (q : Bool) → (q ≡ false → ⊥) → length (behind_digits bs) ≤ length bs
        → length (cond q (behind_digits bs) (b ∷ bs)) < length (b ∷ bs)
    by true digit h = omega arith
    by false digit h = absurd (digit refl)

-- what is behind the first part is shorter than the text
pub first_part-shorter : (text : List ℕ) (count : ℕ) (symbol rest : List ℕ) → IsFirstPart text count symbol rest → length rest < length text
first_part-shorter text count symbol rest first =
    let behind = behind_digits-lt text first.is_counted in
    let left = from_digit-le (behind_digits text) in
    omega (arith, ap length first.left)

-- at the end the sum is the value
pub sum-end : (units : List TimeUnit) (text : List ℕ) (sum : ℕ) → sum < 2 ^ 64 → (length text == 0) ≡ true
    → option_map (λ v. capped (sum + v)) (value_in units text) ≡ Some sum
sum-end units [] sum small empty =
    ap (option_map (λ v. capped (sum + v))) (value_in-empty units) ∙ ap Some (omega arith)
sum-end units (b ∷ bs) sum small empty = absurd (by (length bs) empty)
  where
    by : (n : ℕ) → (suc n == 0) ≡ true → ⊥
    by n h = grind (arith, common_steps)
