-- The members of a line.
use Rattle.std.proofs.Common.{◌≡◌, ◌∙◌, ◌<◌, ◌≤◌, ℕ, zero, suc, List, [], ◌∷◌, Option, None, Some, String, length, ap, arith, refl, slice_get, string_bytes, subst, sym}
use Rattle.std.proofs.lemmas.Bool.{false≢true}
use Rattle.std.specs.Prelude.{IsSome, IsSomeAnd, is_some}
use Rattle.std.specs.declared.alloc.Global.{Global}
use Rattle.serde_json.specs.Data.{Members, member, no_members}
use Rattle.serde_json.specs.View.{members_view, view}
use Rattle.serde_json.specs.declared.value.Value.{Value}
use Rattle.am_json.specs.Read.{IsRefusedBy}
use Rattle.am_json.specs.declared.fault.FaultKind.TheVariants.{BadValue, Missing}
use Rattle.am_json.specs.declared.fault.InputFault.{InputFault}
use Rattle.am_protocol.specs.Call.{count_fault}

one_is : (ms : List (String Global × Value)) (e : String Global × Value) → slice_get ms 0 ≡ Some e → length ms ≤ 1 → members_view ms ≡ member (string_bytes e.0) (view e.1) no_members
one_is [] e is few = absurd (cc)
one_is (m ∷ []) e is few = let same : m ≡ e = cc in ap (λ (x : String Global × Value). member (string_bytes x.0) (view x.1) no_members) same
one_is (m ∷ n ∷ ms) e is few = absurd (omega (arith, few))

-- one entry is one member
pub one_member : (entries ms : List (String Global × Value)) (e : String Global × Value) (name : List ℕ) → entries ≡ ms → slice_get entries 0 ≡ Some e → length entries ≤ 1
    → name ≡ string_bytes e.0 → members_view ms ≡ member name (view e.1) no_members
one_member entries ms e name are is few named =
    sym (ap members_view are) ∙ one_is entries e is few ∙ ap (λ (n : List ℕ). member n (view e.1) no_members) (sym named)

many_there : (ms : List (String Global × Value)) (f : InputFault) → 1 < length ms → IsRefusedBy BadValue f → IsSomeAnd (count_fault (members_view ms)) (λ kind. IsRefusedBy kind f)
many_there [] f many by = absurd (omega (arith, many))
many_there (m ∷ []) f many by = absurd (omega (arith, many))
many_there (m ∷ n ∷ ms) f many by = by

-- more entries are more members
pub many_members : (entries ms : List (String Global × Value)) (f : InputFault) → entries ≡ ms → 1 < length entries → IsRefusedBy BadValue f
    → IsSomeAnd (count_fault (members_view ms)) (λ kind. IsRefusedBy kind f)
many_members entries ms f are many by =
    subst (λ (es : List (String Global × Value)). IsSomeAnd (count_fault (members_view es)) (λ kind. IsRefusedBy kind f)) are (many_there entries f many by)

-- where no first one is found there is none
pub none_found : {A : Type 0} (o : Option A) (n : ℕ) → o ≡ None → (0 < n → IsSome o) → n ≡ 0
none_found o zero none some = refl
none_found o (suc n) none some = absurd (false≢true (sym (ap is_some none) ∙ some (omega arith)))

-- none is none
pub no_members_count : (ms : List (String Global × Value)) (f : InputFault) → members_view ms ≡ no_members → IsRefusedBy Missing f
    → IsSomeAnd (count_fault (members_view ms)) (λ kind. IsRefusedBy kind f)
no_members_count ms f none by = subst (λ (m : Members). IsSomeAnd (count_fault m) (λ kind. IsRefusedBy kind f)) (sym none) by

none_there : (ms : List (String Global × Value)) → length ms ≡ 0 → members_view ms ≡ no_members
none_there [] is = refl
none_there (m ∷ ms) is = absurd (omega (arith, is))

-- no entry is no member
pub no_member : (entries ms : List (String Global × Value)) → entries ≡ ms → length entries ≡ 0 → members_view ms ≡ no_members
no_member entries ms are none = none_there ms (omega (arith, none, ap length are))
