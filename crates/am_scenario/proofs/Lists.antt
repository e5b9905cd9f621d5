-- Lists that are taken out of the values that hold them, and what was read of a value that was in another.
use Rattle.std.proofs.Common.{◌≡◌, ℕ, List, Option, Some, Result, Ok, Err, MatchOption, subst, sym}
use Rattle.std.specs.Prelude.{IfErr, IfOk, IsErrAnd, IsTrue}
use Rattle.std.specs.Result.{result_ok}
use Rattle.serde_json.specs.Data.{Data, Items, Members, null, boolean, number, string, array, object}
use Rattle.serde_json.specs.Find.{as_array, as_object, get, get_member}
use Rattle.am_json.proofs.Decoding.{found}
use Rattle.am_json.specs.Decoding.{DecodeEach, IsList}
use Rattle.am_json.specs.Read.{Excludes, is_refusal}
use Rattle.am_json.specs.declared.fault.InputFault.{InputFault}

-- the items of an array say a list
pub as_list : {X : Type 0} (decodes_to : Data → X → Type 0) (value : Data) (items : Items) (xs : List X) → Some items ≡ as_array value
    → DecodeEach decodes_to items xs → IsList decodes_to value xs
as_list decodes_to value items xs is decoded = subst (λ (o : Option Items). MatchOption o ⊥ (λ ds. DecodeEach decodes_to ds xs)) is decoded

pub of_list : {X : Type 0} (decodes_to : Data → X → Type 0) (value : Data) (items : Items) (xs : List X) → Some items ≡ as_array value
    → IsList decodes_to value xs → DecodeEach decodes_to items xs
of_list decodes_to value items xs is decoded = found ⊥ (λ ds. DecodeEach decodes_to ds xs) items (as_array value) is decoded

-- a member that is there says a list
pub listed : {X : Type 0} (Absent : Type 0) (decodes_to : Data → X → Type 0) (value : Data) (o : Option Data) (xs : List X)
    → Some value ≡ o → IsList decodes_to value xs → MatchOption o Absent (λ v. IsList decodes_to v xs)
listed Absent decodes_to value o xs is decoded = subst (λ (p : Option Data). MatchOption p Absent (λ v. IsList decodes_to v xs)) is decoded

-- a member of a value is one of the members that it has
same_member : (name : List ℕ) (value : Data) (ms : Members) → Some ms ≡ as_object value → get name value ≡ get_member name ms
same_member name null ms is = absurd (cc)
same_member name (boolean b) ms is = absurd (cc)
same_member name (number n) ms is = absurd (cc)
same_member name (string s) ms is = absurd (cc)
same_member name (array ds) ms is = absurd (cc)
same_member name (object os) ms is = let same : os ≡ ms = cc in λ i. get_member name (same i)

pub among_members : {X : Type 0} (Absent : Type 0) (decodes_to : Data → X → Type 0) (name : List ℕ) (value : Data) (members : Members)
    (xs : List X) → Some members ≡ as_object value → MatchOption (get name value) Absent (λ v. IsList decodes_to v xs)
    → MatchOption (get_member name members) Absent (λ v. IsList decodes_to v xs)
among_members Absent decodes_to name value members xs is decoded =
    subst (λ (o : Option Data). MatchOption o Absent (λ v. IsList decodes_to v xs)) (same_member name value members is) decoded

pub out_of_members : {X : Type 0} (Absent : Type 0) (decodes_to : Data → X → Type 0) (name : List ℕ) (value : Data) (members : Members)
    (xs : List X) → Some members ≡ as_object value → MatchOption (get_member name members) Absent (λ v. IsList decodes_to v xs)
    → MatchOption (get name value) Absent (λ v. IsList decodes_to v xs)
out_of_members Absent decodes_to name value members xs is decoded =
    subst (λ (o : Option Data). MatchOption o Absent (λ v. IsList decodes_to v xs)) (sym (same_member name value members is)) decoded

-- what was read is the same, wherever its fault is given
pub decoded_under : {X : Type 0} (P : X → Type 0) (read result : Result X InputFault) → result_ok result ≡ result_ok read → IfOk read P → IfOk result P
decoded_under P (Ok x) (Ok y) same decoded = let is : x ≡ y = cc in subst P is decoded
decoded_under P (Ok x) (Err f) same decoded = tt
decoded_under P (Err e) (Ok y) same decoded = absurd (cc)
decoded_under P (Err e) (Err f) same decoded = tt

-- and so is what its fault excludes
pub refused_under : {X Y : Type 0} (Decodes : Y → Type 0) (read result : Result X InputFault)
    → IfErr result (λ fault. IsErrAnd read (λ below. IsTrue (is_refusal fault) → IsTrue (is_refusal below)))
    → IfErr read (Excludes Decodes) → IfErr result (Excludes Decodes)
refused_under Decodes read (Ok y) same excluded = tt
refused_under Decodes (Ok x) (Err f) same excluded = absurd same
refused_under Decodes (Err e) (Err f) same excluded = λ refusal x decoded. excluded (same refusal) x decoded
