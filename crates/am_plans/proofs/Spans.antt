-- A JSON value says one span at most.
use Rattle.std.proofs.Common.{◌≡◌, Option, Some, None, MatchOption, codes}
use Rattle.std.specs.Prelude.{IsSomeAnd}
use Rattle.serde_json.specs.Data.{Data, Members}
use Rattle.serde_json.specs.Find.{get_member}
use Rattle.am_json.proofs.Once.{IsOne, one_object, one_or, one_read}
use Rattle.am_json.specs.Decoding.{IsDuration}
use Rattle.am_json.specs.Read.{duration_in}
use Rattle.am_json.specs.declared.reader.Mode.{Mode}
use Rattle.am_plans.specs.Decoding.{DecodesToSpan, HasSpan, IsSpan}
use Rattle.am_plans.specs.declared.span.Span.{Span}

pub one_if : {X : Type 0} (reading : Data → Option X) (found : Option Data) (x y : Option X) → MatchOption found (x ≡ None) (λ v. IsSomeAnd x (λ n. reading v ≡ Some n))
    → MatchOption found (y ≡ None) (λ v. IsSomeAnd y (λ n. reading v ≡ Some n)) → x ≡ y
one_if reading None x y is also = cc
one_if reading (Some v) None y is also = absurd is
one_if reading (Some v) (Some n) None is also = absurd also
one_if reading (Some v) (Some n) (Some m) is also = cc

pub one_span_of : (members : Members) (s t : Span) → DecodesToSpan members s → DecodesToSpan members t → s ≡ t
one_span_of members s t is also =
    let from = one_or IsDuration (one_read duration_in) 0 (get_member (codes "from") members) s.from t.from is.from also.from in
    let to = one_if duration_in (get_member (codes "to") members) s.to t.to is.to also.to in
    λ i. record { from = from i; to = to i }

has_one : (mode : Mode) (members : Members) (s t : Span) → HasSpan mode members s → HasSpan mode members t → s ≡ t
has_one mode members s t is also = one_span_of members s t is.decoded also.decoded

pub one_span : (mode : Mode) → IsOne (IsSpan mode)
one_span mode = one_object (HasSpan mode) (has_one mode)
