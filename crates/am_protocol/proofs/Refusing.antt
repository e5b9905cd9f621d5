-- What a member that is read says, and what a refused one excludes.
use Rattle.std.proofs.Common.{◌≡◌, ◌<◌, ℕ, arith, List, [], ◌∷◌, Option, Some, None, Result, Ok, Err, String, MatchOption, ap, length, sym, subst}
use Rattle.std.specs.Prelude.{IfErr, IfOk, IsSomeAnd, IsTrue}
use Rattle.std.specs.Result.{result_ok}
use Rattle.std.specs.declared.alloc.Global.{Global}
use Rattle.serde_json.specs.Data.{Data, no_members}
use Rattle.serde_json.specs.Find.{as_str}
use Rattle.serde_json.specs.View.{members_view}
use Rattle.serde_json.specs.declared.value.Value.{Value}
use Rattle.am_json.proofs.Decoding.{decoded_by, found, narrowed}
use Rattle.am_json.specs.Decoding.{IsText}
use Rattle.am_json.specs.Read.{Excludes, IsRefusedBy, is_refusal, number_in}
use Rattle.am_json.specs.declared.fault.FaultKind.TheVariants.{BadValue, WrongType}
use Rattle.am_json.specs.declared.fault.InputFault.{InputFault}
use Rattle.am_retry.specs.declared.outcome.Outcome.{Outcome}
use Rattle.am_protocol.specs.Request.{IsOutcome, IsPosition, outcome_word}

-- ---- a member that must be there

pub there_ok : {X E : Type 0} (P : Data → X → Type 0) (r : Result X E) (o : Option Data) (value : Data)
    → Some value ≡ o → IfOk r (P value) → IfOk r (λ x. MatchOption o ⊥ (λ v. P v x))
there_ok P (Ok x) o value is read = decoded_by P o value x is read
there_ok P (Err f) o value is read = tt

pub there_err : {T X : Type 0} (P : Data → X → Type 0) (r : Result T InputFault) (o : Option Data) (value : Data)
    → Some value ≡ o → IfErr r (Excludes (P value)) → IfErr r (Excludes (λ x. MatchOption o ⊥ (λ v. P v x)))
there_err P r o value is =
    narrowed (P value) (λ x. MatchOption o ⊥ (λ v. P v x)) (λ x decoded. found ⊥ (λ v. P v x) value o is decoded) r

-- ---- one that needn't

pub or_ok : {X E : Type 0} (P : Data → X → Type 0) (absent : X) (r : Result X E) (o : Option Data) (value : Data)
    → Some value ≡ o → IfOk r (P value) → IfOk r (λ x. MatchOption o (x ≡ absent) (λ v. P v x))
or_ok P absent (Ok x) o value is read = subst (λ (p : Option Data). MatchOption p (x ≡ absent) (λ v. P v x)) is read
or_ok P absent (Err f) o value is read = tt

pub or_err : {T X : Type 0} (P : Data → X → Type 0) (absent : X) (r : Result T InputFault) (o : Option Data) (value : Data)
    → Some value ≡ o → IfErr r (Excludes (P value)) → IfErr r (Excludes (λ x. MatchOption o (x ≡ absent) (λ v. P v x)))
or_err P absent r o value is =
    narrowed (P value) (λ x. MatchOption o (x ≡ absent) (λ v. P v x)) (λ x decoded. found (x ≡ absent) (λ v. P v x) value o is decoded) r

pub if_refused : (o : Option Data) (value : Data) (name : Option (List ℕ)) → Some value ≡ o → ((text : List ℕ) → IsText value text → ⊥)
    → MatchOption o (name ≡ None) (λ v. IsSomeAnd name (IsText v)) → ⊥
if_refused o value None is none decoded = absurd (found (◌≡◌ {A = Option (List ℕ)} None None) (λ v. ⊥) value o is decoded)
if_refused o value (Some text) is none decoded = none text (found (Some text ≡ None) (λ v. IsText v text) value o is decoded)

-- ---- what a function of the value reads

pub read_ok : {X : Type 0} (reading : Data → Option X) (r : Result X InputFault) (value : Data) → result_ok r ≡ reading value → IfOk r (λ x. reading value ≡ Some x)
read_ok reading (Ok x) value is = sym is
read_ok reading (Err f) value is = tt

pub read_err : {X : Type 0} (reading : Data → Option X) (r : Result X InputFault) (value : Data) → result_ok r ≡ reading value → IfErr r (Excludes (λ x. reading value ≡ Some x))
read_err reading (Ok x) value is = tt
read_err reading (Err f) value is = λ refusal x decoded. absurd (cc)

-- ---- positions, ends, outcomes, and objects without members

pub no_position : (value : Data) (o : Option ℕ) (most x : ℕ) (fault : InputFault) → number_in value ≡ o → most ≡ 4294967295
    → MatchOption o (IsRefusedBy WrongType fault) (λ n. (most < n) × IsRefusedBy BadValue fault) → IsPosition value x → ⊥
no_position value None most x fault is same refused decoded = absurd (cc (is, decoded.0))
no_position value (Some n) most x fault is same refused decoded =
    let equal : n ≡ x = cc (is, decoded.0) in
    absurd (omega (arith, equal, same, refused.0, decoded.1))

pub no_outcome : (value : Data) (text : List ℕ) (x : Outcome) → as_str value ≡ Some text → ((o : Outcome) → outcome_word o ≡ text → ⊥) → IsOutcome value x → ⊥
no_outcome value text x is other decoded = let same : outcome_word x ≡ text = cc in other x same

some_entry : (ms : List (String Global × Value)) → 0 < length ms → members_view ms ≡ no_members → ⊥
some_entry [] more none = absurd (omega (arith, more))
some_entry (m ∷ ms) more none = absurd (cc)

pub some_members : (entries ms : List (String Global × Value)) → entries ≡ ms → 0 < length entries → members_view ms ≡ no_members → ⊥
some_members entries ms are more = some_entry ms (omega (arith, more, ap length are))

-- what is refused for its arguments asks nothing
pub unasked : {T X : Type 0} (Asks : X → Type 0) (r : Result T InputFault) (HasArguments : Type 0) → ((x : X) → Asks x → HasArguments)
    → IfErr r (λ fault. IsTrue (is_refusal fault) → HasArguments → ⊥) → IfErr r (Excludes Asks)
unasked Asks (Ok t) HasArguments has refused = tt
unasked Asks (Err fault) HasArguments has refused = λ refusal x asks. refused refusal (has x asks)
