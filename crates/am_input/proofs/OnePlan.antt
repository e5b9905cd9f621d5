-- Members say one list of planned actions at most.
use Rattle.std.proofs.Common.{◌≡◌, ◌∙◌, ◌+◌, ◌++◌, ℕ, Bool, true, List, [], ◌∷◌, Option, Some, None, MatchOption, codes, refl, sym, ap, subst}
use Rattle.std.proofs.lemmas.Bool.{and_parts}
use Rattle.std.specs.List.{flat_map, list_all}
use Rattle.serde_json.specs.Data.{Data, Items, no_items, item, Members}
use Rattle.serde_json.specs.Find.{as_array, as_object, get_member}
use Rattle.am_alerts.specs.Matcher.{compare_texts}
use Rattle.am_json.proofs.Once.{one_list, one_matcher_list, one_or, one_read, one_there, one_there_with}
use Rattle.am_json.specs.Configured.{DecodesToLabels, DecodesToMatcher}
use Rattle.am_json.specs.Decoding.{DecodeEach, HasOr, IsDuration, IsList}
use Rattle.am_json.specs.Read.{duration_in}
use Rattle.am_json.specs.declared.reader.Mode.{Mode}
use Rattle.am_model.specs.Lists.{in_order}
use Rattle.am_plans.proofs.LabelSets.{one_labels}
use Rattle.am_plans.proofs.Spans.{one_span, one_span_of}
use Rattle.am_plans.specs.Decoding.{DecodesToAlert, DecodesToSilence, DecodesToSpan, HasAlert, HasSilence, IsSpan, follow}
use Rattle.am_plans.specs.Planned.{ArePlannedIn, ArePlannedWithoutRegexes, inserts_in, inserts_of, set_of, sets_from, time_cmp}
use Rattle.am_plans.specs.declared.alert.AlertItem.{AlertItem}
use Rattle.am_plans.specs.declared.silence.SilenceItem.{SilenceItem}
use Rattle.am_plans.specs.declared.span.Span.{Span}
use Rattle.am_terms.specs.declared.rehearsal.Action.TheVariants.{Silence}
use Rattle.am_terms.specs.declared.rehearsal.TimedAction.{TimedAction}

-- what is made of what a list says, where a value says what makes one thing
same_each : {X : Type 0} (decodes : Data → X → Type 0) (made : X → List TimedAction) → ((v : Data) (x y : X) → decodes v x → decodes v y → made x ≡ made y)
    → (items : Items) (xs ys : List X) → DecodeEach decodes items xs → DecodeEach decodes items ys → flat_map made xs ≡ flat_map made ys
same_each decodes made one no_items [] [] is also = refl
same_each decodes made one no_items [] (y ∷ ys) is also = absurd also
same_each decodes made one no_items (x ∷ xs) ys is also = absurd is
same_each decodes made one (item v vs) [] ys is also = absurd is
same_each decodes made one (item v vs) (x ∷ xs) [] is also = absurd also
same_each decodes made one (item v vs) (x ∷ xs) (y ∷ ys) is also =
    let head = one v x y is.0 also.0 in
    let rest = same_each decodes made one vs xs ys is.1 also.1 in
    λ i. head i ++ rest i

-- ---- alerts

same_spans : (mode : Mode) (members : Members) (found : Option Data) (ss ts : List Span)
    → MatchOption found ((span : Span) × DecodesToSpan members span × (ss ≡ span ∷ []))
    (λ v. IsList (IsSpan mode) v ss × (get_member (codes "from") members ≡ None) × (get_member (codes "to") members ≡ None) × (follow (Some 0) ss ≡ true))
    → MatchOption found ((span : Span) × DecodesToSpan members span × (ts ≡ span ∷ []))
    (λ v. IsList (IsSpan mode) v ts × (get_member (codes "from") members ≡ None) × (get_member (codes "to") members ≡ None) × (follow (Some 0) ts ≡ true))
    → ss ≡ ts
same_spans mode ms None ss ts is also = is.2 ∙ ap (λ (s : Span). s ∷ []) (one_span_of ms is.0 also.0 is.1 also.1) ∙ sym also.2
same_spans mode ms (Some v) ss ts is also = one_list (IsSpan mode) (one_span mode) v ss ts is.0 also.0

same_inserts_of : (mode : Mode) (members : Members) (a b : AlertItem) → HasAlert mode members a → HasAlert mode members b → inserts_of a ≡ inserts_of b
same_inserts_of mode members a b is also =
    let labels = one_there (DecodesToLabels mode) (one_labels mode) (get_member (codes "labels") members) a.labels b.labels is.labels also.labels in
    let spans = same_spans mode members (get_member (codes "spans") members) a.spans.items b.spans.items is.spans also.spans in
    λ i. flat_map (inserts_in (labels i)) (spans i)

same_inserts : (mode : Mode) (value : Data) (a b : AlertItem) → DecodesToAlert mode value a → DecodesToAlert mode value b → inserts_of a ≡ inserts_of b
same_inserts mode value a b is also = by (as_object value) is also
  where
    by : (o : Option Members) → MatchOption o ⊥ (λ ms. HasAlert mode ms a) → MatchOption o ⊥ (λ ms. HasAlert mode ms b) → inserts_of a ≡ inserts_of b
    by None is also = absurd is
    by (Some ms) is also = same_inserts_of mode ms a b is also

in_array : (mode : Mode) (array : Option Items) (xs ys : List AlertItem) → MatchOption array ⊥ (λ items. DecodeEach (DecodesToAlert mode) items xs)
    → MatchOption array ⊥ (λ items. DecodeEach (DecodesToAlert mode) items ys) → flat_map inserts_of xs ≡ flat_map inserts_of ys
in_array mode None xs ys is also = absurd is
in_array mode (Some items) xs ys is also = same_each (DecodesToAlert mode) inserts_of (same_inserts mode) items xs ys is also

same_alerts : (mode : Mode) (found : Option Data) (xs ys : List AlertItem) → MatchOption found (xs ≡ []) (λ v. IsList (DecodesToAlert mode) v xs)
    → MatchOption found (ys ≡ []) (λ v. IsList (DecodesToAlert mode) v ys) → flat_map inserts_of xs ≡ flat_map inserts_of ys
same_alerts mode None xs ys is also = ap (flat_map inserts_of) (is ∙ sym also)
same_alerts mode (Some v) xs ys is also = in_array mode (as_array v) xs ys is also

-- ---- silences

-- whether no matcher of a silence needs a regex
abbrev compares : SilenceItem → Bool
compares silence = compare_texts silence.matchers.items

same_set_of : (mode : Mode) (members : Members) (id : ℕ) (a b : SilenceItem) → compares a ≡ true → HasSilence mode members a → HasSilence mode members b
    → set_of id a ≡ set_of id b
same_set_of mode members id a b plain is also =
    let matchers = one_there_with compare_texts (IsList (DecodesToMatcher mode)) (one_matcher_list mode) (get_member (codes "matchers") members)
    a.matchers.items b.matchers.items plain is.matchers also.matchers in
    let from = one_or IsDuration (one_read duration_in) 0 (get_member (codes "from") members) a.from b.from is.from also.from in
    let to = one_there IsDuration (one_read duration_in) (get_member (codes "to") members) a.to b.to is.to also.to in
    let decoded : HasOr IsDuration b.from (codes "set") members a.set = subst (λ (f : ℕ). HasOr IsDuration f (codes "set") members a.set) from is.set in
    let set = one_or IsDuration (one_read duration_in) b.from (get_member (codes "set") members) a.set b.set decoded also.set in
    λ i. record { at = set i; act = Silence (record { id = id; matchers = matchers i; start = from i; end = to i }) }

same_set : (mode : Mode) (id : ℕ) (value : Data) (a b : SilenceItem) → compares a ≡ true → DecodesToSilence mode value a → DecodesToSilence mode value b
    → set_of id a ≡ set_of id b
same_set mode id value a b plain is also = by (as_object value) is also
  where
    by : (o : Option Members) → MatchOption o ⊥ (λ ms. HasSilence mode ms a) → MatchOption o ⊥ (λ ms. HasSilence mode ms b) → set_of id a ≡ set_of id b
    by None is also = absurd is
    by (Some ms) is also = same_set_of mode ms id a b plain is also

same_sets_from : (mode : Mode) (id : ℕ) (items : Items) (xs ys : List SilenceItem) → list_all compares xs ≡ true
    → DecodeEach (DecodesToSilence mode) items xs → DecodeEach (DecodesToSilence mode) items ys → sets_from id xs ≡ sets_from id ys
same_sets_from mode id no_items [] [] plain is also = refl
same_sets_from mode id no_items [] (b ∷ ys) plain is also = absurd also
same_sets_from mode id no_items (a ∷ xs) ys plain is also = absurd is
same_sets_from mode id (item v vs) [] ys plain is also = absurd is
same_sets_from mode id (item v vs) (a ∷ xs) [] plain is also = absurd also
same_sets_from mode id (item v vs) (a ∷ xs) (b ∷ ys) plain is also =
    let parts = and_parts (compares a) (list_all compares xs) plain in
    let head = same_set mode id v a b parts.0 is.0 also.0 in
    let rest = same_sets_from mode (id + 1) vs xs ys parts.1 is.1 also.1 in
    λ i. head i ∷ rest i

sets_in : (mode : Mode) (array : Option Items) (xs ys : List SilenceItem) → list_all compares xs ≡ true
    → MatchOption array ⊥ (λ items. DecodeEach (DecodesToSilence mode) items xs)
    → MatchOption array ⊥ (λ items. DecodeEach (DecodesToSilence mode) items ys) → sets_from 1 xs ≡ sets_from 1 ys
sets_in mode None xs ys plain is also = absurd is
sets_in mode (Some items) xs ys plain is also = same_sets_from mode 1 items xs ys plain is also

same_silences : (mode : Mode) (found : Option Data) (xs ys : List SilenceItem) → list_all compares xs ≡ true
    → MatchOption found (xs ≡ []) (λ v. IsList (DecodesToSilence mode) v xs)
    → MatchOption found (ys ≡ []) (λ v. IsList (DecodesToSilence mode) v ys) → sets_from 1 xs ≡ sets_from 1 ys
same_silences mode None xs ys plain is also = ap (sets_from 1) (is ∙ sym also)
same_silences mode (Some v) xs ys plain is also = sets_in mode (as_array v) xs ys plain is also

-- ---- plans

pub one_plan : (mode : Mode) (members : Members) (ps qs : List TimedAction) → ArePlannedWithoutRegexes mode members ps → ArePlannedIn mode members qs → ps ≡ qs
one_plan mode members ps qs without also =
    let is = without.0 in
    let alerts = same_alerts mode (get_member (codes "alerts") members) is.alerts also.alerts is.alerts_are also.alerts_are in
    let silences = same_silences mode (get_member (codes "silences") members) is.silences also.silences without.1 is.silences_are also.silences_are in
    is.is ∙ (λ i. in_order time_cmp (alerts i ++ silences i)) ∙ sym also.is
