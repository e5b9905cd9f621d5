-- Faults that compose, and what was read without one.
use Rattle.std.proofs.Common.{◌≡◌, ◌+◌, ◌<◌, ◌≤◌, ◌&&◌, ◌++◌, ◌∷◌, ◌∙◌, ℕ, Bool, true, false, Bor, List, map, string_bytes, [], Option, Some, None, Result, Ok, Err, MatchOption, length, take, get_or, ap, refl, subst, sym, arith}
use Rattle.std.proofs.lemmas.List.{take_all, take_more}
use Rattle.std.proofs.lemmas.List.Folds.{list_all-append}
use Rattle.std.specs.List.{list_all}
use Rattle.std.specs.Result.{result_ok}
use Rattle.std.specs.Prelude.{IfOk, IsSomeAnd}
use Rattle.serde_json.specs.Data.{Data, Items, Members}
use Rattle.serde_json.specs.Find.{as_array, as_object}
use Rattle.serde_json.specs.View.{items_view, members_view, view}
use Rattle.serde_json.proofs.Views.{Entry}
use Rattle.serde_json.specs.declared.value.Value.{Value}
use Rattle.am_json.proofs.Members.{decode_more, named_in}
use Rattle.am_json.specs.Decoding.{DecodeEach, IsList, IsObject}
use Rattle.am_json.specs.Read.{are_named, is_one_of}
use Rattle.am_json.specs.declared.faults.Fault.{Fault}
use Rattle.am_config.specs.Collects.{Collects, Grows}

-- where there is a fault nothing is promised
pub filled : {P : Type 0} (after : List Fault) → 0 < length after → after ≡ [] → P
filled [] some none = absurd (omega (arith, some))
filled (x ∷ xs) some none = absurd (cc)

-- one more value that was read, and what it is
pub each_more : {X : Type 0} (decodes_to : Data → X → Type 0) (values : List Value) (i : ℕ) (value : Value) (x : X) (xs ys : List X)
    (initial before after : List Fault) → i < length values → value ≡ get_or values i value
    → Collects initial before (DecodeEach decodes_to (items_view (take i values)) xs)
    → Collects before after (decodes_to (view value) x) → ys ≡ xs ++ x ∷ []
    → Collects initial after (DecodeEach decodes_to (items_view (take (i + 1) values)) ys)
each_more decodes_to values i value x xs ys initial before after here is so_far more pushed =
    λ none.
    let read = more none in
    let done = so_far read.0 in
    let taken : take (i + 1) values ≡ take i values ++ value ∷ [] =
    take_more values i value here ∙ ap (λ (v : Value). take i values ++ v ∷ []) (sym is) in (
      done.0,
      subst (λ zs. DecodeEach decodes_to (items_view (take (i + 1) values)) zs) (sym pushed)
          (subst (λ (vs : List Value). DecodeEach decodes_to (items_view vs) (xs ++ x ∷ [])) (sym taken)
          (decode_more decodes_to (take i values) xs value x done.1 read.1)),
    )

-- one more member with a known name
pub named_more : (names : List (Bor (List ℕ))) (done : List Entry) (e : Entry) (before after : List Fault)
    → Collects before after (list_all (λ (m : Entry). is_one_of names (string_bytes m.0)) done ≡ true) → is_one_of names (string_bytes e.0) ≡ true
    → Collects before after (list_all (λ (m : Entry). is_one_of names (string_bytes m.0)) (done ++ e ∷ []) ≡ true)
named_more names done e before after so_far named =
    λ none.
    let all = so_far none in
    let test = λ (m : Entry). is_one_of names (string_bytes m.0) in (
      all.0,
      list_all-append test done (e ∷ []) ∙ both_true (list_all test done) (is_one_of names (string_bytes e.0)) all.1 named,
    )
  where
    both_true : (a b : Bool) → a ≡ true → b ≡ true → (a && (b && true)) ≡ true
    both_true true true p q = refl
    both_true true false p q = absurd (cc)
    both_true false b p q = absurd (cc)

-- all members have known names
pub all_named : (names : List (Bor (List ℕ))) (done members : List Entry) (before after : List Fault) → members ≡ done
    → Collects before after (list_all (λ (m : Entry). is_one_of names (string_bytes m.0)) done ≡ true)
    → Collects before after (are_named (map (λ (n : Bor (List ℕ)). n.now) names) (members_view members) ≡ true)
all_named names done members before after is so_far =
    λ none.
    let all = so_far none in (
      all.0,
      ap (λ (ms : List Entry). are_named (map (λ (n : Bor (List ℕ)). n.now) names) (members_view ms)) is ∙ sym (named_in names done) ∙ all.1,
    )

-- what was read where something was
pub some_read : {X : Type 0} (P : X → Type 0) (read : Option X) (x : X) → read ≡ Some x → IsSomeAnd read P → P x
some_read P read x is holds = subst (λ o. IsSomeAnd o P) is holds

-- what a reader promises of what was kept
pub ok_kept : {X E : Type 0} (P : X → Type 0) (r : Result X E) (x : X) → Some x ≡ result_ok r → IfOk r P → P x
ok_kept P (Ok y) x is holds = let same : y ≡ x = cc in subst P same holds
ok_kept P (Err e) x is holds = absurd (cc)
