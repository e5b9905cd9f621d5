-- Members that are read, and what represents one that isn't there.
use Rattle.std.proofs.Common.{◌≡◌, ℕ, Bool, true, false, refl, List, [], ◌∷◌, Option, Some, None, Result, Ok, Err, MatchOption, subst, sym}
use Rattle.std.specs.List.{list_all}
use Rattle.std.specs.Prelude.{IfErr, IsTrue}
use Rattle.std.specs.Result.{IsErrAnd}
use Rattle.serde_json.specs.Data.{Data, Members}
use Rattle.serde_json.specs.Find.{as_object, as_str}
use Rattle.am_json.specs.Decoding.{IsList, IsObject}
use Rattle.am_json.specs.Read.{Excludes}
use Rattle.am_json.specs.declared.fault.InputFault.{InputFault}
use Rattle.am_json.specs.declared.fault.InputFault.TheVariants.{NoMemory}
use Rattle.am_json.specs.declared.reader.Mode.{Mode}

-- what was read of a member, or what represents it
pub decoded_or : {X : Type 0} (reading : Data → Option X) (absent x : X) (found : Option Data)
    → MatchOption found (◌≡◌ {A = Result X InputFault} (Ok x) (Ok absent)) (λ value. Some x ≡ reading value)
    → MatchOption found (x ≡ absent) (λ value. reading value ≡ Some x)
decoded_or reading absent x None is = cc
decoded_or reading absent x (Some value) is = sym is

-- nothing is read of a member that is refused
pub refused_or : {X : Type 0} (reading : Data → Option X) (absent x : X) (found : Option Data) (fault : InputFault)
    → MatchOption found (◌≡◌ {A = Result X InputFault} (Err fault) (Ok absent)) (λ value. None ≡ reading value)
    → MatchOption found (x ≡ absent) (λ value. reading value ≡ Some x) → ⊥
refused_or reading absent x None fault is decoded = cc
refused_or reading absent x (Some value) fault is decoded = cc

-- a member that is there, and what it says
pub decoded_by : {X : Type 0} (decodes_to : Data → X → Type 0) (found : Option Data) (value : Data) (x : X)
    → Some value ≡ found → decodes_to value x → MatchOption found ⊥ (λ v. decodes_to v x)
decoded_by decodes_to found value x is decoded = subst (λ (o : Option Data). MatchOption o ⊥ (λ v. decodes_to v x)) is decoded

-- what holds of what is there
pub found : {A : Type 0} (Absent : Type 0) (P : A → Type 0) (a : A) (o : Option A) → Some a ≡ o → MatchOption o Absent P → P a
found {A = A} Absent P a o is decoded = subst (λ (p : Option A). MatchOption p Absent P) (sym is) decoded

-- what must be there, and isn't
pub missing : {A : Type 0} (P : A → Type 0) (o : Option A) → None ≡ o → MatchOption o ⊥ P → ⊥
missing {A = A} P o is decoded = subst (λ (p : Option A). MatchOption p ⊥ P) (sym is) decoded

-- what the members of an object say that was read
pub in_object : {X : Type 0} (has : Mode → Members → X → Type 0) (d e : Mode) (members : Members) (value : Data) (x : X)
    → Some members ≡ as_object value → e ≡ d → IsObject (has d) value x → has e members x
in_object has d e members value x is same decoded =
    subst (λ (m : Mode). has m members x) (sym same) (found ⊥ (λ ms. has d ms x) members (as_object value) is decoded)

-- an object whose members say it was read
pub as_decoded : {X : Type 0} (has : Mode → Members → X → Type 0) (d e : Mode) (members : Members) (value : Data) (x : X)
    → Some members ≡ as_object value → e ≡ d → has e members x → IsObject (has d) value x
as_decoded has d e members value x is same decoded =
    subst (λ (o : Option Members). MatchOption o ⊥ (λ ms. has d ms x)) is (subst (λ (m : Mode). has m members x) same decoded)

-- what a member says, which is read with its own reader
pub decoded_in : {X : Type 0} (decodes_to : Mode → Data → X → Type 0) (d e : Mode) (value : Data) (o : Option Data) (x : X)
    → Some value ≡ o → e ≡ d → MatchOption o ⊥ (λ v. decodes_to d v x) → decodes_to e value x
decoded_in decodes_to d e value o x is same decoded =
    subst (λ (m : Mode). decodes_to m value x) (sym same) (found ⊥ (λ v. decodes_to d v x) value o is decoded)

pub as_decoded_in : {X : Type 0} (decodes_to : Mode → Data → X → Type 0) (d e : Mode) (value : Data) (o : Option Data) (x : X)
    → Some value ≡ o → e ≡ d → decodes_to e value x → MatchOption o ⊥ (λ v. decodes_to d v x)
as_decoded_in decodes_to d e value o x is same decoded =
    decoded_by (decodes_to d) o value x is (subst (λ (m : Mode). decodes_to m value x) same decoded)

-- a list that a member says, which is read with its own reader
pub listed_in : {X : Type 0} (decodes_to : Mode → Data → X → Type 0) (d e : Mode) (value : Data) (o : Option Data) (xs : List X)
    → Some value ≡ o → e ≡ d → MatchOption o ⊥ (λ v. IsList (decodes_to d) v xs) → IsList (decodes_to e) value xs
listed_in decodes_to d e value o xs is same decoded =
    subst (λ (m : Mode). IsList (decodes_to m) value xs) (sym same) (found ⊥ (λ v. IsList (decodes_to d) v xs) value o is decoded)

pub as_listed : {X : Type 0} (decodes_to : Mode → Data → X → Type 0) (d e : Mode) (value : Data) (o : Option Data) (xs : List X)
    → Some value ≡ o → e ≡ d → IsList (decodes_to e) value xs → MatchOption o ⊥ (λ v. IsList (decodes_to d) v xs)
as_listed decodes_to d e value o xs is same decoded =
    decoded_by (IsList (decodes_to d)) o value xs is (subst (λ (m : Mode). IsList (decodes_to m) value xs) same decoded)

-- a fault that is handed on excludes what it excluded
pub handed_on : {T X : Type 0} (Decodes : X → Type 0) (result : Result T InputFault) (fault : InputFault) → IsErrAnd result (λ f. f ≡ fault)
    → Excludes Decodes fault → IfErr result (Excludes Decodes)
handed_on Decodes (Ok x) fault is excluded = absurd is
handed_on Decodes (Err f) fault is excluded = subst (Excludes Decodes) (sym is) excluded

-- lack of memory excludes nothing
pub starved : {T X : Type 0} (Decodes : X → Type 0) (result : Result T InputFault) → IsErrAnd result (λ f. f ≡ NoMemory) → IfErr result (Excludes Decodes)
starved Decodes result is = handed_on Decodes result NoMemory is (λ refusal x decoded. absurd (cc))

-- a fault excludes what says less
pub narrowed : {T X : Type 0} (Decodes Less : X → Type 0) → ((x : X) → Less x → Decodes x) → (result : Result T InputFault)
    → IfErr result (Excludes Decodes) → IfErr result (Excludes Less)
narrowed Decodes Less more (Ok x) excluded = tt
narrowed Decodes Less more (Err fault) excluded = λ refusal x decoded. excluded refusal x (more x decoded)

pub no_text : (value : Data) (text : List ℕ) → None ≡ as_str value → as_str value ≡ Some text → ⊥
no_text value text none is = cc

-- a member of a name that isn't known
pub unknown : (b : Bool) → false ≡ b → b ≡ true → ⊥
unknown b isnt is = cc

-- what is always so
pub sure : IsTrue true
sure = refl

pub all_sure : {X : Type 0} (xs : List X) → list_all (λ x. true) xs ≡ true
all_sure [] = refl
all_sure (x ∷ xs) = all_sure xs
