-- A JSON value says one outage at most.
use Rattle.std.proofs.Common.{◌≡◌, ℕ, List, [], ◌∷◌, Option, Some, None, MatchOption, arith, codes, get_or, refl, ap}
use Rattle.serde_json.specs.Data.{Data, Items, no_items, item, Members}
use Rattle.serde_json.specs.Find.{as_array, get_member}
use Rattle.am_json.proofs.Once.{IsOne, one_object, one_or, one_read, one_text_of, one_there}
use Rattle.am_json.specs.Decoding.{DecodeEach, IsAnswer, IsDuration, IsList, IsText, answer_text}
use Rattle.am_json.specs.Read.{duration_in, number_in}
use Rattle.am_json.specs.declared.reader.Mode.{Mode}
use Rattle.am_plans.proofs.Decodings.{same_some}
use Rattle.am_plans.proofs.Spans.{one_if, one_span_of}
use Rattle.am_plans.specs.Decoding.{DecodesToOutage, HasOutage}
use Rattle.am_plans.specs.declared.outage.OutageItem.{OutageItem}
use Rattle.am_retry.specs.declared.outcome.Answer.{Answer}
use Rattle.am_retry.specs.declared.outcome.Answer.TheVariants.{Done, Again, Never}
use Rattle.am_terms.specs.declared.rehearsal.Outage.{Outage}

one_word : (a b : Answer) → answer_text a ≡ answer_text b → a ≡ b
one_word Done Done is = refl
one_word Done Again is = absurd (omega (arith, ap (λ (t : List ℕ). get_or t 0 0) is))
one_word Done Never is = absurd (omega (arith, ap (λ (t : List ℕ). get_or t 0 0) is))
one_word Again Done is = absurd (omega (arith, ap (λ (t : List ℕ). get_or t 0 0) is))
one_word Again Again is = refl
one_word Again Never is = absurd (omega (arith, ap (λ (t : List ℕ). get_or t 0 0) is))
one_word Never Done is = absurd (omega (arith, ap (λ (t : List ℕ). get_or t 0 0) is))
one_word Never Again is = absurd (omega (arith, ap (λ (t : List ℕ). get_or t 0 0) is))
one_word Never Never is = refl

one_answer : IsOne IsAnswer
one_answer value a b is also = one_word a b (same_some is also)

one_outage_of : (mode : Mode) (members : Members) (o p : Outage) → HasOutage mode members o → HasOutage mode members p → o ≡ p
one_outage_of mode members o p is also =
    let receiver = one_there IsText one_text_of (get_member (codes "receiver") members) o.receiver p.receiver is.receiver also.receiver in
    let integration = one_if number_in (get_member (codes "integration") members) o.integration p.integration is.integration also.integration in
    let span = one_span_of members (record { from = o.from; to = o.to }) (record { from = p.from; to = p.to }) is.span also.span in
    let answer = one_or IsAnswer one_answer Again (get_member (codes "answer") members) o.answer p.answer is.answer also.answer in
    let takes = one_or IsDuration (one_read duration_in) 0 (get_member (codes "takes") members) o.takes p.takes is.takes also.takes in
    λ i. record { receiver = receiver i; integration = integration i; from = (span i).from; to = (span i).to; answer = answer i; takes = takes i }

pub one_outage : (mode : Mode) → IsOne (DecodesToOutage mode)
one_outage mode = one_object (HasOutage mode) (one_outage_of mode)

-- outages that are given as what is read of each
each_item : (mode : Mode) (items : Items) (os : List Outage) → DecodeEach (DecodesToOutage mode) items os
    → (is : List OutageItem) × DecodeEach (λ v (i : OutageItem). DecodesToOutage mode v i.outage) items is
each_item mode no_items [] decoded = ([], tt)
each_item mode no_items (o ∷ os) decoded = absurd decoded
each_item mode (item v vs) [] decoded = absurd decoded
each_item mode (item v vs) (o ∷ os) decoded =
    let rest = each_item mode vs os decoded.1 in
    (record { outage = o } ∷ rest.0, (decoded.0, rest.1))

in_array : (mode : Mode) (array : Option Items) (os : List Outage) → MatchOption array ⊥ (λ items. DecodeEach (DecodesToOutage mode) items os)
    → (is : List OutageItem) × MatchOption array ⊥ (λ items. DecodeEach (λ v (i : OutageItem). DecodesToOutage mode v i.outage) items is)
in_array mode None os decoded = absurd decoded
in_array mode (Some items) os decoded = each_item mode items os decoded

pub as_items : (mode : Mode) (found : Option Data) (os : List Outage) → MatchOption found (os ≡ []) (λ value. IsList (DecodesToOutage mode) value os)
    → (is : List OutageItem) × MatchOption found (is ≡ []) (λ value. IsList (λ v (i : OutageItem). DecodesToOutage mode v i.outage) value is)
as_items mode None os decoded = ([], refl)
as_items mode (Some value) os decoded = in_array mode (as_array value) os decoded
