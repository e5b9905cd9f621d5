-- Members that are read, and lists of what is made of what was read.
use Rattle.std.proofs.Common.{◌≡◌, ◌<◌, ◌≤◌, ℕ, arith, Bool, true, Result, Ok, Err, List, [], ◌∷◌, map, Option, Some, None, false, is_some, option_map, MatchOption, refl, subst, sym, ap, ◌∙◌}
use Rattle.std.specs.Prelude.{IfErr, IfSome, IsSomeAnd, IsTrue}
use Rattle.std.specs.Result.{IsErrAnd}
use Rattle.serde_json.specs.Data.{Data, Items, no_items, item}
use Rattle.serde_json.specs.Find.{as_array, as_bool}
use Rattle.am_json.specs.Decoding.{DecodeEach, IsList}
use Rattle.am_json.specs.Read.{duration_in, is_refusal}
use Rattle.am_json.specs.declared.fault.InputFault.{InputFault}
use Rattle.am_json.specs.declared.fault.InputFault.TheVariants.{NoMemory}
use Rattle.am_plans.specs.Expected.{member_if, member_or}

-- what a member is read as, if it is there
pub found_if : {X : Type 0} (reading : Data → Option X) (found : Option Data) (x : Option X) → member_if reading found ≡ Some x
    → MatchOption found (x ≡ None) (λ value. IsSomeAnd x (λ n. reading value ≡ Some n))
found_if reading None x is = cc
found_if {X} reading (Some value) x is = by (reading value) is refl
  where
    by : (o : Option X) → option_map Some o ≡ Some x → reading value ≡ o → IsSomeAnd x (λ n. reading value ≡ Some n)
    by None made read = absurd (cc)
    by (Some n) made read = let same : Some n ≡ x = cc in subst (λ y. IsSomeAnd y (λ m. reading value ≡ Some m)) same read

-- a member that can be missing, and isn't
pub found_some : {X : Type 0} (decodes_to : Data → X → Type 0) (found : Option Data) (o : Option X) (x : X) → o ≡ Some x
    → MatchOption found (o ≡ None) (λ value. IsSomeAnd o (decodes_to value)) → MatchOption found ⊥ (λ value. decodes_to value x)
found_some decodes_to None o x is none = absurd (cc)
found_some decodes_to (Some value) o x is decoded = subst (λ p. IsSomeAnd p (decodes_to value)) is decoded

-- what the items of an array say of something made of each
each_made : {X Y : Type 0} (decodes_to : Data → Y → Type 0) (made : X → Y) (items : Items) (xs : List X)
    → DecodeEach (λ value x. decodes_to value (made x)) items xs → DecodeEach decodes_to items (map made xs)
each_made decodes_to made no_items [] decoded = tt
each_made decodes_to made no_items (x ∷ xs) decoded = absurd decoded
each_made decodes_to made (item value values) [] decoded = absurd decoded
each_made decodes_to made (item value values) (x ∷ xs) decoded = (decoded.0, each_made decodes_to made values xs decoded.1)

array_made : {X Y : Type 0} (decodes_to : Data → Y → Type 0) (made : X → Y) (array : Option Items) (xs : List X)
    → MatchOption array ⊥ (λ items. DecodeEach (λ value x. decodes_to value (made x)) items xs)
    → MatchOption array ⊥ (λ items. DecodeEach decodes_to items (map made xs))
array_made decodes_to made None xs decoded = absurd decoded
array_made decodes_to made (Some items) xs decoded = each_made decodes_to made items xs decoded

pub list_made : {X Y : Type 0} (decodes_to : Data → Y → Type 0) (made : X → Y) (found : Option Data) (xs : List X)
    → MatchOption found (xs ≡ []) (λ value. IsList (λ v x. decodes_to v (made x)) value xs)
    → MatchOption found (map made xs ≡ []) (λ value. IsList decodes_to value (map made xs))
list_made decodes_to made None xs none = ap (map made) none
list_made decodes_to made (Some value) xs decoded = array_made decodes_to made (as_array value) xs decoded

-- what is said of a member that isn't there
pub at_none : {A : Type 0} (found : Option A) (P : Type 0) (Q : A → Type 0) → None ≡ found → P → MatchOption found P Q
at_none found P Q none p = subst (λ o. MatchOption o P Q) none p

-- what is said of one that is there
pub at_some : {A : Type 0} (found : Option A) (a : A) (P : Type 0) (Q : A → Type 0) → Some a ≡ found → Q a → MatchOption found P Q
at_some found a P Q some q = subst (λ o. MatchOption o P Q) some q

-- where nothing was found there is nothing
pub none_found : {A : Type 0} (f : A → Data) (o : Option A) (found : Option Data) → is_some o ≡ false → option_map f o ≡ found → found ≡ None
none_found f None found missing is = sym is
none_found f (Some a) found missing is = absurd (cc)

-- something was found where what it represents was
pub some_found : {A B : Type 0} (f : A → B) (o : Option A) (found : Option B) → option_map f o ≡ found → is_some o ≡ is_some found
some_found {A} f o found is = by o ∙ ap is_some is
  where
    by : (p : Option A) → is_some p ≡ is_some (option_map f p)
    by None = refl
    by (Some a) = refl

-- what is said where nothing was found
pub found_none : {A : Type 0} (P : Type 0) (Q : A → Type 0) (found : Option A) → None ≡ found → MatchOption found P Q → P
found_none {A = A} P Q found none decoded = subst (λ (o : Option A). MatchOption o P Q) (sym none) decoded

-- nothing is read of a member that isn't read
pub none_if : {X : Type 0} (reading : Data → Option X) (value : Data) (x : Option X) → None ≡ reading value → IsSomeAnd x (λ n. reading value ≡ Some n) → ⊥
none_if reading value None none decoded = decoded
none_if reading value (Some n) none decoded = cc

-- an end that isn't later
pub ends_early : (value : Data) (from to : ℕ) (x : Option ℕ) → Some to ≡ duration_in value → to ≤ from → IsSomeAnd x (λ n. duration_in value ≡ Some n)
    → IfSome x (λ t. from < t) → ⊥
ends_early value from to None is early decoded later = decoded
ends_early value from to (Some t) is early decoded later = let same : to ≡ t = cc in absurd (omega arith)

-- the same, of what is read
pub if_found : {X : Type 0} (reading : Data → Option X) (found : Option Data) (x : Option X)
    → MatchOption found (x ≡ None) (λ value. IsSomeAnd x (λ n. reading value ≡ Some n)) → member_if reading found ≡ Some x
if_found reading None x decoded = ap Some (sym decoded)
if_found reading (Some value) None decoded = absurd decoded
if_found reading (Some value) (Some n) decoded = ap (option_map Some) decoded

-- nothing is read, and something
pub none_read : {A : Type 0} (o : Option A) (x : A) → o ≡ None → o ≡ Some x → ⊥
none_read o x none some = cc

pub same_some : {A : Type 0} {o : Option A} {x y : A} → o ≡ Some x → o ≡ Some y → x ≡ y
same_some is also = cc

pub true_false : {a b : Bool} → a ≡ b → a ≡ true → b ≡ false → ⊥
true_false same is isnt = cc

-- a flag that was read is the one that is given
pub one_flag : (found : Option Data) (decoded read : Bool) → MatchOption found (decoded ≡ false) (λ value. as_bool value ≡ Some decoded)
    → MatchOption found (◌≡◌ {A = Result Bool InputFault} (Ok read) (Ok false)) (λ value. Some read ≡ as_bool value) → decoded ≡ read
one_flag None decoded read is also = cc
one_flag (Some value) decoded read is also = cc

-- lack of memory denies nothing
pub starved_of : {T : Type 0} (P : Type 0) (result : Result T InputFault) → IsErrAnd result (λ f. f ≡ NoMemory) → IfErr result (λ f. IsTrue (is_refusal f) → P)
starved_of P (Ok x) is = absurd is
starved_of P (Err f) is = λ refusal. absurd (cc (ap is_refusal is))

-- a fault that is handed on denies what it denied
pub denied_on : {T : Type 0} (P : Type 0) (result : Result T InputFault) (fault : InputFault) → IsErrAnd result (λ f. f ≡ fault)
    → (IsTrue (is_refusal fault) → P) → IfErr result (λ f. IsTrue (is_refusal f) → P)
denied_on P (Ok x) fault is denied = absurd is
denied_on P (Err f) fault is denied = subst (λ (g : InputFault). IsTrue (is_refusal g) → P) (sym is) denied

-- what a fault says that denies it in any case
pub denied_by : {T : Type 0} (P : Type 0) (result : Result T InputFault) → P → IfErr result (λ f. IsTrue (is_refusal f) → P)
denied_by P (Ok x) p = tt
denied_by P (Err f) p = λ refusal. p

pub fails_denied : {T : Type 0} (P Q : Type 0) → (P → Q) → (result : Result T InputFault) → IfErr result (λ f. P) → IfErr result (λ f. IsTrue (is_refusal f) → Q)
fails_denied P Q more (Ok x) p = tt
fails_denied P Q more (Err f) p = λ refusal. more p

-- what holds in any case holds where there is a fault
pub failed : {T : Type 0} (P : Type 0) (result : Result T InputFault) → P → IfErr result (λ f. P)
failed P (Ok x) p = tt
failed P (Err f) p = p

-- a member that is there is read, whatever represents one that isn't
pub or_found : {X : Type 0} (reading : Data → Option X) (absent : Option X) (value : Data) (found : Option Data) → Some value ≡ found
    → member_or reading absent found ≡ reading value
or_found reading absent value found is = sym (ap (member_or reading absent) is)

pub or_absent : {X : Type 0} (reading : Data → Option X) (absent : Option X) (found : Option Data) → None ≡ found → member_or reading absent found ≡ absent
or_absent reading absent found none = sym (ap (member_or reading absent) none)

pub fails_less : {T : Type 0} (P Q : Type 0) → (P → Q) → (result : Result T InputFault) → IfErr result (λ f. P) → IfErr result (λ f. Q)
fails_less P Q more (Ok x) p = tt
fails_less P Q more (Err f) p = more p

-- what holds of what is there, and must be
pub some_and : {A : Type 0} (P : A → Type 0) (a : A) (o : Option A) → Some a ≡ o → IsSomeAnd o P → P a
some_and {A = A} P a o is decoded = subst (λ (p : Option A). IsSomeAnd p P) (sym is) decoded

pub none_and : {A : Type 0} (P : A → Type 0) (o : Option A) → None ≡ o → IsSomeAnd o P → ⊥
none_and {A = A} P o none decoded = subst (λ (p : Option A). IsSomeAnd p P) (sym none) decoded

pub is_there : {A : Type 0} (P : A → Type 0) (o : Option A) → IsSomeAnd o P → is_some o ≡ true
is_there P None decoded = absurd decoded
is_there P (Some a) decoded = refl

-- a reading of a member that isn't one
pub if_there : {X : Type 0} (reading : Data → Option X) (value : Data) (found : Option Data) → Some value ≡ found → None ≡ reading value → member_if reading found ≡ None
if_there reading value found is none = sym (ap (member_if reading) is) ∙ sym (ap (option_map Some) none)

-- lack of memory alone
pub starved_by : {T : Type 0} (P : Type 0) (result : Result T InputFault) → IfErr result (λ f. f ≡ NoMemory) → IfErr result (λ f. IsTrue (is_refusal f) → P)
starved_by P (Ok x) is = tt
starved_by P (Err f) is = λ refusal. absurd (cc (ap is_refusal is))

pub is_fault : {T : Type 0} (result : Result T InputFault) → IsErrAnd result (λ f. f ≡ NoMemory) → IfErr result (λ f. f ≡ NoMemory)
is_fault (Ok x) is = tt
is_fault (Err f) is = is
