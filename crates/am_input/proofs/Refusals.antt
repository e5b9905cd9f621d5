-- Refusals that are handed on.
use Rattle.std.proofs.Common.{◌≡◌, Result, Ok, Err, ap, subst, sym}
use Rattle.std.specs.Prelude.{IfErr}
use Rattle.std.specs.Result.{IsErrAnd}
use Rattle.am_json.specs.Read.{Excludes, is_refusal}
use Rattle.am_json.specs.declared.fault.InputFault.{InputFault}
use Rattle.am_json.specs.declared.fault.InputFault.TheVariants.{NoMemory}
use Rattle.am_json.specs.declared.faults.Refusal.{Refusal}
use Rattle.am_json.specs.declared.faults.Refusal.TheVariants.{One, All}
use Rattle.am_input.specs.Request.{RefusesAll}

-- one that is handed on excludes what it excluded, of what says no less
pub passed_on : {T X Y : Type 0} (Decodes : X → Type 0) (Less : Y → Type 0) (of : Y → X) (result : Result T Refusal) (refusal : Refusal)
    → IsErrAnd result (λ f. f ≡ refusal) → ((y : Y) → Less y → RefusesAll Decodes refusal × Decodes (of y)) → IfErr result (RefusesAll Less)
passed_on Decodes Less of (Ok x) refusal is more = absurd is
passed_on {Y = Y} Decodes Less of (Err f) refusal is more =
    by f (subst (λ (g : Refusal). (y : Y) → Less y → RefusesAll Decodes g × Decodes (of y)) (sym is) more)
  where
    by : (g : Refusal) → ((y : Y) → Less y → RefusesAll Decodes g × Decodes (of y)) → RefusesAll Less g
    by (One fault) all = λ refused y decoded. (all y decoded).0 refused (of y) (all y decoded).1
    by (All faults) all = λ y decoded. (all y decoded).0 (of y) (all y decoded).1

-- one fault that is handed on
pub one_on : {T X : Type 0} (Decodes : X → Type 0) (result : Result T Refusal) (fault : InputFault) → IsErrAnd result (λ f. f ≡ One fault)
    → Excludes Decodes fault → IfErr result (RefusesAll Decodes)
one_on Decodes (Ok x) fault is excluded = absurd is
one_on Decodes (Err f) fault is excluded = subst (RefusesAll Decodes) (sym is) excluded

-- what nothing says is excluded by each fault
pub never_on : {T X : Type 0} (Decodes : X → Type 0) (result : Result T Refusal) → ((x : X) → Decodes x → ⊥) → IfErr result (RefusesAll Decodes)
never_on Decodes (Ok x) none = tt
never_on Decodes (Err (One fault)) none = λ refused x decoded. none x decoded
never_on Decodes (Err (All faults)) none = λ x decoded. none x decoded

-- the same, where what it excluded hangs on what is given
pub passed_by : {T X Y : Type 0} (Decodes : X → Type 0) (Also : Y → Type 0) (result : Result T Refusal) (refusal : Refusal) → IsErrAnd result (λ f. f ≡ refusal)
    → ((y : Y) → Also y → (x : X) × RefusesAll Decodes refusal × Decodes x) → IfErr result (RefusesAll Also)
passed_by Decodes Also (Ok x) refusal is more = absurd is
passed_by {X = X} {Y = Y} Decodes Also (Err f) refusal is more =
    by f (subst (λ (g : Refusal). (y : Y) → Also y → (x : X) × RefusesAll Decodes g × Decodes x) (sym is) more)
  where
    by : (g : Refusal) → ((y : Y) → Also y → (x : X) × RefusesAll Decodes g × Decodes x) → RefusesAll Also g
    by (One fault) all = λ refused y decoded. let so = all y decoded in so.1 refused so.0 so.2
    by (All faults) all = λ y decoded. let so = all y decoded in so.1 so.0 so.2

-- lack of memory excludes nothing
pub starved_on : {T X : Type 0} (Decodes : X → Type 0) (result : Result T Refusal) (fault : InputFault) → IsErrAnd result (λ f. f ≡ One fault)
    → fault ≡ NoMemory → IfErr result (RefusesAll Decodes)
starved_on Decodes result fault is starved = one_on Decodes result fault is (λ refusal x decoded. absurd (cc (ap is_refusal starved)))
