-- The texts that are durations are `0` and the sums of parts.
use Rattle.std.proofs.Common.{⊎_elim, length-append, ◌≡◌, ℕ, ◌+◌, ◌*◌, ◌<◌, Bool, true, false, not, cond, List, [], ◌∷◌, ◌++◌, length}
use Rattle.std.proofs.Common.{Option, Some, None, refl, sym, ap, subst, ◌∙◌, inl, inr, arith, bytes_eq, append_assoc}
use Rattle.std.specs.Prelude.{option_and_then, ◌⊎◌, ◌==◌, map, sum_by, codes}
use Rattle.std.specs.Char.{is_ascii_digit, digit_value}
use Rattle.std.specs.List.{AllByRecursion, flat_map}
use Rattle.std.specs.Option.{option_map, option_or}
use Rattle.std.specs.Str.Parse.{AllDigits, IsNumeral, digits_value}
use Rattle.std.proofs.lemmas.Bool.{eqb-true}
use Rattle.std.proofs.lemmas.Grind.{common_steps}
use Rattle.std.proofs.lemmas.Option.{same_Some, none-some}
use Rattle.std.proofs.lemmas.List.{take-append-drop}
use Rattle.std.proofs.lemmas.List.Sums.{take_while-cons, sum_by-cons}
use Rattle.std.proofs.lemmas.Slice.Eq.{bytes_eq-Decides}
use Rattle.std.proofs.lemmas.Str.Parse.{digit_from_value}
use Rattle.am_alerts.specs.declared.duration.TimeUnit.{TimeUnit}
use Rattle.am_alerts.specs.declared.duration.TimeUnit.TheVariants.{Year, Week, Day, Hour, Minute, Second, Millisecond}
use Rattle.am_alerts.specs.Duration.{time_units, symbol_of, millis_of, front_digits, behind_digits, behind_symbol, value_with, value_in}
use Rattle.am_alerts.specs.Duration.{value_of_counts, duration_of, DurationPart, part_text, part_millis, AreSomeOf, IsSumOfParts}
use Rattle.am_alerts.specs.Duration.{HasDuration, DurationsAreSums, before_digit, from_digit, unit_named}
use Rattle.am_alerts.proofs.Durations.{behind_digits-drop, NoDigits, symbol_of-no_digits, before_digit-cons, IsCounted, IsCounted-from}
use Rattle.am_alerts.proofs.Durations.{IsDistinct, time_units-distinct, value_in-empty, value_in-counted, value_from, symbol_in, rest_of}
use Rattle.am_alerts.proofs.Durations.{AllDigits-front_digits}

-- what a value comes from
cond_some : {A : Type 0} (q : Bool) (o : Option A) (x : A) → cond q o None ≡ Some x → (q ≡ true) × (o ≡ Some x)
cond_some true o x e = (refl, e)
cond_some false o x e = cc

cond_none : {A : Type 0} (q : Bool) (o : Option A) (x : A) → cond q None o ≡ Some x → (q ≡ false) × (o ≡ Some x)
cond_none true o x e = cc
cond_none false o x e = (refl, e)

map_some : (g : ℕ → ℕ) (o : Option ℕ) (v : ℕ) → option_map g o ≡ Some v → (w : ℕ) × (o ≡ Some w) × (v ≡ g w)
map_some g None v e = cc
map_some g (Some w) v e = (w, refl, sym (same_Some (g w) v e))

then_some : (f : List ℕ → Option ℕ) (o : Option (List ℕ)) (v : ℕ) → option_and_then f o ≡ Some v → (rest : List ℕ) × (o ≡ Some rest)
    × (f rest ≡ Some v)
then_some f None v e = cc
then_some f (Some rest) v e = (rest, refl, e)

positive : (ds : List ℕ) → (length ds == 0) ≡ false → 0 < length ds
positive [] some = cc
positive (d ∷ ds) some = omega arith

option_or-some : (o p : Option ℕ) (v : ℕ) → option_or o p ≡ Some v → (o ≡ Some v) ⊎ (p ≡ Some v)
option_or-some None p v e = inr e
option_or-some (Some w) p v e = inl e

behind_symbol-some : (symbol text rest : List ℕ) → behind_symbol symbol text ≡ Some rest → text ≡ symbol ++ rest
behind_symbol-some [] text rest e = cc
behind_symbol-some (c ∷ cs) [] rest e = cc
behind_symbol-some (c ∷ cs) (b ∷ bs) rest e =
    let parts = cond_some (c == b) (behind_symbol cs bs) rest e in
    let same : c ≡ b = eqb-true c b parts.0 in
    let more : bs ≡ cs ++ rest = behind_symbol-some cs bs rest parts.1 in
    cc

front-behind : (text : List ℕ) → text ≡ front_digits text ++ behind_digits text
front-behind text = sym (take-append-drop _ text) ∙ ap (λ t. front_digits text ++ t) (behind_digits-drop text)

-- what a value of a first part and of the rest comes from
record HasFirst (unit : TimeUnit) (f : List ℕ → Option ℕ) (text : List ℕ) (v : ℕ) : Type 0 where
  rest : List ℕ
  more : ℕ
  counted : 0 < length (front_digits text)
  behind : behind_symbol (symbol_of unit) (behind_digits text) ≡ Some rest
  value : f rest ≡ Some more
  summed : v ≡ digits_value 10 (front_digits text) * millis_of unit + more

HasFirst-from : (unit : TimeUnit) (f : List ℕ → Option ℕ) (text : List ℕ) (v : ℕ) → value_with unit f text ≡ Some v → HasFirst unit f text v
HasFirst-from unit f text v e =
    let some = cond_none (length (front_digits text) == 0)
    (option_map (λ v. digits_value 10 (front_digits text) * millis_of unit + v)
    (option_and_then f (behind_symbol (symbol_of unit) (behind_digits text)))) v e in
    let whole = map_some (λ v. digits_value 10 (front_digits text) * millis_of unit + v)
    (option_and_then f (behind_symbol (symbol_of unit) (behind_digits text))) v some.1 in
    let found = then_some f (behind_symbol (symbol_of unit) (behind_digits text)) whole.0 whole.1 in
    record {
      rest = found.0;
      more = whole.0;
      counted = positive (front_digits text) some.0;
      behind = found.1;
      value = found.2;
      summed = whole.2;
    }

AreSomeOf-more : (first : TimeUnit) (all units : List TimeUnit) → AreSomeOf all units → AreSomeOf (first ∷ all) units
AreSomeOf-more first all [] some = tt
AreSomeOf-more first all (unit ∷ units) some = inr some

-- the part that a text begins with
abbrev first_part : TimeUnit → List ℕ → DurationPart
first_part unit text = record { digits = front_digits text; unit = unit }

first_more : (unit : TimeUnit) (units : List TimeUnit) (text : List ℕ) (v : ℕ) (first : HasFirst unit (value_in units) text v)
    (parts : List DurationPart) → IsSumOfParts units parts first.rest first.more
    → IsSumOfParts (unit ∷ units) (first_part unit text ∷ parts) text v
first_more unit units text v first parts more =
    let part = first_part unit text in
    record {
      counted = ((first.counted, AllDigits-front_digits text), more.counted);
      in_order = inl (refl, more.in_order);
      written =
          front-behind text
          ∙ ap (λ t. front_digits text ++ t) (behind_symbol-some (symbol_of unit) (behind_digits text) first.rest first.behind)
          ∙ ap (λ t. front_digits text ++ (symbol_of unit ++ t)) more.written
          ∙ sym (append_assoc (front_digits text) (symbol_of unit) (flat_map part_text parts));
      summed = first.summed ∙ ap (λ n. part_millis part + n) more.summed ∙ sym (sum_by-cons part_millis part parts);
    }

later_more : (unit : TimeUnit) (units : List TimeUnit) (text : List ℕ) (v : ℕ) (parts : List DurationPart) → IsSumOfParts units parts text v
    → IsSumOfParts (unit ∷ units) parts text v
later_more unit units text v parts sum = record {
  counted = sum.counted;
  in_order = AreSomeOf-more unit units (map (λ part. part.unit) parts) sum.in_order;
  written = sum.written;
  summed = sum.summed;
}

-- a value is a sum of parts
parts-from : (units : List TimeUnit) (text : List ℕ) (v : ℕ) → value_in units text ≡ Some v → (parts : List DurationPart)
    × IsSumOfParts units parts text v
parts-from [] [] v e = ([], record { counted = tt; in_order = tt; written = refl; summed = cc })
parts-from [] (b ∷ bs) v e = cc
parts-from (unit ∷ units) text v e =
    ⊎_elim
    (λ with.
    let first = HasFirst-from unit (value_in units) text v with in
    let more = parts-from units first.rest first.more first.value in
    (first_part unit text ∷ more.0, first_more unit units text v first more.0 more.1))
    (λ later. let parts = parts-from units text v later in (parts.0, later_more unit units text v parts.0 parts.1))
    (option_or-some (value_with unit (value_in units) text) (value_in units text) v e)

-- the other way: a text of parts has their sum as its value

digit_value-is : (c : ℕ) → digit_value c < 10 → is_ascii_digit c ≡ true
digit_value-is c small = let range = digit_from_value c small in grind (arith, common_steps)

digits-append : (ds text : List ℕ) → AllDigits 10 ds → front_digits text ≡ [] → front_digits (ds ++ text) ≡ ds
digits-append [] text all none = none
digits-append (d ∷ ds) text all none =
    take_while-cons is_ascii_digit d (ds ++ text)
    ∙ ap (λ q. cond q (d ∷ front_digits (ds ++ text)) []) (digit_value-is d all.0)
    ∙ ap (λ t. d ∷ t) (digits-append ds text all.1 none)

behind-append : (ds text : List ℕ) → AllDigits 10 ds → behind_digits text ≡ text → behind_digits (ds ++ text) ≡ text
behind-append [] text all none = none
behind-append (d ∷ ds) text all none =
    ap (λ q. cond q (behind_digits (ds ++ text)) (d ∷ (ds ++ text))) (digit_value-is d all.0) ∙ behind-append ds text all.1 none

-- the text is empty or begins with a digit
abbrev IsAtDigit : List ℕ → Type 0
IsAtDigit [] = Unit {0}
IsAtDigit (b ∷ bs) = is_ascii_digit b ≡ true

before-append : (symbol text : List ℕ) → NoDigits symbol → IsAtDigit text → before_digit (symbol ++ text) ≡ symbol
before-append [] [] none at = refl
before-append [] (b ∷ bs) none at = before_digit-cons b bs ∙ ap (λ q. cond (not q) (b ∷ before_digit bs) []) at
before-append (c ∷ cs) text none at =
    before_digit-cons c (cs ++ text)
    ∙ ap (λ q. cond (not q) (c ∷ before_digit (cs ++ text)) []) none.0
    ∙ ap (λ t. c ∷ t) (before-append cs text none.1 at)

from-append : (symbol text : List ℕ) → NoDigits symbol → IsAtDigit text → from_digit (symbol ++ text) ≡ text
from-append [] [] none at = refl
from-append [] (b ∷ bs) none at = ap (λ q. cond q (b ∷ bs) (from_digit bs)) at
from-append (c ∷ cs) text none at =
    ap (λ q. cond q (c ∷ (cs ++ text)) (from_digit (cs ++ text))) none.0 ∙ from-append cs text none.1 at

-- no digit is at the front of a symbol
symbol-no_front : (unit : TimeUnit) (text : List ℕ) → front_digits (symbol_of unit ++ text) ≡ []
symbol-no_front Year text = refl
symbol-no_front Week text = refl
symbol-no_front Day text = refl
symbol-no_front Hour text = refl
symbol-no_front Minute text = refl
symbol-no_front Second text = refl
symbol-no_front Millisecond text = refl

symbol-behind : (unit : TimeUnit) (text : List ℕ) → behind_digits (symbol_of unit ++ text) ≡ symbol_of unit ++ text
symbol-behind Year text = refl
symbol-behind Week text = refl
symbol-behind Day text = refl
symbol-behind Hour text = refl
symbol-behind Minute text = refl
symbol-behind Second text = refl
symbol-behind Millisecond text = refl

at_digit-numeral : (ds symbol text : List ℕ) → IsNumeral 10 ds → IsAtDigit ((ds ++ symbol) ++ text)
at_digit-numeral [] symbol text numeral = absurd (omega (arith, numeral.0))
at_digit-numeral (d ∷ ds) symbol text numeral = digit_value-is d numeral.1.0

at_digit-parts : (parts : List DurationPart) → AllByRecursion (λ part. IsNumeral 10 part.digits) parts
    → IsAtDigit (flat_map part_text parts)
at_digit-parts [] counted = tt
at_digit-parts (part ∷ parts) counted = at_digit-numeral part.digits (symbol_of part.unit) (flat_map part_text parts) counted.0

-- where a unit comes next in a list, it is found there, and the others are behind it
record IsNext (unit : TimeUnit) (units : List TimeUnit) (all : List TimeUnit) : Type 0 where
  later : List TimeUnit
  found : unit_named (symbol_of unit) all ≡ Some (unit, later)
  some : AreSomeOf later units
  distinct : IsDistinct later

apart : (q : Bool) (first unit : TimeUnit) (all later : List TimeUnit) → bytes_eq (symbol_of first) (symbol_of unit) ≡ q
    → unit_named (symbol_of first) all ≡ None → unit_named (symbol_of unit) all ≡ Some (unit, later) → q ≡ false
apart true first unit all later same none found =
    let same_symbol : symbol_of first ≡ symbol_of unit = (bytes_eq-Decides (symbol_of first) (symbol_of unit)).0 same in
    absurd (none-some (unit, later) (sym none ∙ ap (λ s. unit_named s all) same_symbol ∙ found))
apart false first unit all later same none found = refl

IsNext-from : (unit : TimeUnit) (units all : List TimeUnit) → AreSomeOf all (unit ∷ units) → IsDistinct all → IsNext unit units all
IsNext-from unit units [] some distinct = absurd some
IsNext-from unit units (first ∷ all) some distinct =
    ⊎_elim
    (λ here. record {
      later = all;
      found =
          ap (λ q. cond q (Some (first, all)) (unit_named (symbol_of unit) all))
          ((bytes_eq-Decides (symbol_of first) (symbol_of unit)).1 (ap symbol_of (sym here.0)))
          ∙ ap (λ u. Some (u, all)) (sym here.0);
      some = here.1;
      distinct = distinct.1;
    })
    (λ behind. let next = IsNext-from unit units all behind distinct.1 in record {
      later = next.later;
      found =
          ap (λ q. cond q (Some (first, all)) (unit_named (symbol_of unit) all))
          (apart _ first unit all next.later refl distinct.0 next.found)
          ∙ next.found;
      some = next.some;
      distinct = next.distinct;
    })
    some

value-parts : (parts : List DurationPart) (units : List TimeUnit) → IsDistinct units
    → AllByRecursion (λ part. IsNumeral 10 part.digits) parts → AreSomeOf units (map (λ part. part.unit) parts)
    → value_in units (flat_map part_text parts) ≡ Some (sum_by part_millis parts)
value-parts [] units distinct counted some = value_in-empty units
value-parts (part ∷ parts) units distinct counted some =
    let unit = part.unit in
    let rest = flat_map part_text parts in
    let text = part_text part ++ rest in
    let sum = sum_by part_millis parts in
    let regrouped : text ≡ part.digits ++ (symbol_of unit ++ rest) = append_assoc part.digits (symbol_of unit) rest in
    let front : front_digits text ≡ part.digits =
    ap front_digits regrouped ∙ digits-append part.digits (symbol_of unit ++ rest) counted.0.1 (symbol-no_front unit rest) in
    let behind : behind_digits text ≡ symbol_of unit ++ rest =
    ap behind_digits regrouped ∙ behind-append part.digits (symbol_of unit ++ rest) counted.0.1 (symbol-behind unit rest) in
    let at = at_digit-parts parts counted.1 in
    let symbol : symbol_in text ≡ symbol_of unit =
    ap before_digit behind ∙ before-append (symbol_of unit) rest (symbol_of-no_digits unit) at in
    let left : rest_of text ≡ rest = ap from_digit behind ∙ from-append (symbol_of unit) rest (symbol_of-no_digits unit) at in
    let is_counted : IsCounted text =
    IsCounted-from (front_digits text) (λ none. let none_there = ap length (sym front ∙ none) in
    omega (arith, none_there, counted.0.0)) in
    let next = IsNext-from unit (map (λ part. part.unit) parts) units some distinct in
    value_in-counted units text distinct is_counted
    ∙ ap (λ s. option_and_then (value_from text) (unit_named s units)) symbol
    ∙ ap (option_and_then (value_from text)) next.found
    ∙ ap (λ t. option_map (λ v. digits_value 10 (front_digits text) * millis_of unit + v) (value_in next.later t)) left
    ∙ ap (option_map (λ v. digits_value 10 (front_digits text) * millis_of unit + v))
    (value-parts parts next.later next.distinct counted.1 next.some)
    ∙ ap (λ ds. Some (digits_value 10 ds * millis_of unit + sum)) front
    ∙ ap Some (sym (sum_by-cons part_millis part parts))

-- the law itself

not_empty : (parts : List DurationPart) (b : ℕ) (bs : List ℕ) → b ∷ bs ≡ flat_map part_text parts → 0 < length parts
not_empty [] b bs e = cc
not_empty (part ∷ parts) b bs e = omega arith

zero_or_parts : (q : Bool) (b : ℕ) (bs : List ℕ) (v : ℕ) → bytes_eq (b ∷ bs) (codes "0") ≡ q
    → cond q (Some 0) (value_of_counts (b ∷ bs)) ≡ Some v → HasDuration (b ∷ bs) v
unfolding value_of_counts
zero_or_parts true b bs v same e = inl ((bytes_eq-Decides (b ∷ bs) (codes "0")).0 same, sym (same_Some 0 v e))
zero_or_parts false b bs v same e =
    let parts = parts-from time_units (b ∷ bs) v e in inr (parts.0, not_empty parts.0 b bs parts.1.written, parts.1)

HasDuration-from : (text : List ℕ) (v : ℕ) → duration_of text ≡ Some v → HasDuration text v
HasDuration-from [] v e = cc
HasDuration-from (b ∷ bs) v e = zero_or_parts (bytes_eq (b ∷ bs) (codes "0")) b bs v refl e

-- a text that isn't `0` has the value of its parts
zero_or_value : (q : Bool) (text : List ℕ) (v : ℕ) → bytes_eq text (codes "0") ≡ q → value_of_counts text ≡ Some v
    → cond q (Some 0) (value_of_counts text) ≡ Some v
unfolding value_of_counts
zero_or_value true text v same e =
    absurd (none-some v (ap (value_in time_units) (sym ((bytes_eq-Decides text (codes "0")).0 same)) ∙ e))
zero_or_value false text v same e = e

duration_of-parts : (text : List ℕ) (v : ℕ) → 0 < length text → value_of_counts text ≡ Some v → duration_of text ≡ Some v
duration_of-parts [] v some e = absurd (omega arith)
duration_of-parts (b ∷ bs) v some e = zero_or_value (bytes_eq (b ∷ bs) (codes "0")) (b ∷ bs) v refl e

text-not_empty : (parts : List DurationPart) → 0 < length parts → AllByRecursion (λ part. IsNumeral 10 part.digits) parts
    → 0 < length (flat_map part_text parts)
text-not_empty [] some counted = absurd (omega arith)
text-not_empty (part ∷ parts) some counted =
    omega (arith, length-append part.digits (symbol_of part.unit), length-append (part_text part) (flat_map part_text parts), counted.0.0)

duration_of-sum : (parts : List DurationPart) (text : List ℕ) (v : ℕ) → 0 < length parts → IsSumOfParts time_units parts text v
    → duration_of text ≡ Some v
unfolding value_of_counts
duration_of-sum parts text v some sum =
    duration_of-parts text v (subst (λ t. 0 < length t) (sym sum.written) (text-not_empty parts some sum.counted))
    (ap (value_in time_units) sum.written ∙ value-parts parts time_units time_units-distinct sum.counted sum.in_order
    ∙ ap Some (sym sum.summed))

duration_of-has : (text : List ℕ) (v : ℕ) → HasDuration text v → duration_of text ≡ Some v
duration_of-has text v (inl zero) = ap duration_of zero.0 ∙ ap Some (sym zero.1)
duration_of-has text v (inr sum) = duration_of-sum sum.0 text v sum.1 sum.2

pub durations-are-sums : DurationsAreSums
durations-are-sums text v = (HasDuration-from text v, duration_of-has text v)
