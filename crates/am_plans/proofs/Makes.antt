-- What is given of alerts and silences can be planned.
use Rattle.std.proofs.Common.{◌≡◌, ◌∙◌, ◌<◌, ◌≤◌, ◌&&◌, ◌==◌, ◌||◌, ℕ, Bool, true, false, List, [], ◌∷◌, Option, Some, None, Ok, Err, MatchOption, codes, get_or, is_none, length, refl, sym, ap, subst, arith, if◌then◌else◌}
use Rattle.std.specs.List.{list_all}
use Rattle.std.specs.Option.{option_and_then}
use Rattle.std.specs.Prelude.{IfSome, IsSomeAnd, nat_le, nat_lt}
use Rattle.std.specs.Result.{result_ok}
use Rattle.std.proofs.lemmas.Bool.{and_from}
use Rattle.std.proofs.lemmas.Bool.Decides.{nat_tests}
use Rattle.std.proofs.lemmas.List.Folds.{list_all_at}
use Rattle.std.proofs.lemmas.List.Sorted.{length_permutation}
use Rattle.serde_json.specs.Data.{Data, Items, no_items, item, Members}
use Rattle.serde_json.specs.Find.{as_array, as_object, as_str, get_member}
use Rattle.am_alerts.specs.Duration.{duration_of, within_limit}
use Rattle.am_alerts.specs.Fault.{first_fault, ok_unless}
use Rattle.am_alerts.specs.Labels.{labels_in, pair_fault, set_fault, with_values}
use Rattle.am_alerts.specs.declared.labels.Label.{Label}
use Rattle.am_alerts.specs.declared.alert.AlertFault.TheVariants.{BadTime, EndBeforeStart, NoLabels}
use Rattle.am_alerts.specs.declared.duration.DurationFault.TheVariants.{TooLong}
use Rattle.am_alerts.specs.declared.limits.TheConstants.{MAX_DURATION, MAX_MATCHERS, MAX_TIME}
use Rattle.am_alerts.proofs.Faults.{none_of_both}
use Rattle.am_json.specs.Configured.{DecodesToLabels}
use Rattle.am_json.specs.Decoding.{DecodeEach, IsList}
use Rattle.am_json.specs.Read.{duration_in}
use Rattle.am_json.specs.declared.reader.Mode.{Mode}
use Rattle.am_mute.specs.declared.silence.SilenceFault.TheVariants.{BadTimes, NoMatchers, TooManyMatchers}
use Rattle.am_plans.specs.Decoding.{DecodesToAlert, DecodesToSilence, DecodesToSpan, HasAlert, HasSilence, HasSpan, IsSpan, follow}
use Rattle.am_plans.specs.Planned.{may_insert, may_insert_all, may_insert_in, may_set}
use Rattle.am_plans.specs.declared.alert.AlertItem.{AlertItem}
use Rattle.am_plans.specs.declared.silence.SilenceItem.{SilenceItem}
use Rattle.am_plans.specs.declared.span.Span.{Span}

-- ---- lists

each_decoded : {X : Type 0} (decodes : Data → X → Type 0) (test : X → Bool) → ((value : Data) (x : X) → decodes value x → test x ≡ true)
    → (items : Items) (xs : List X) → DecodeEach decodes items xs → list_all test xs ≡ true
each_decoded decodes test so no_items [] decoded = refl
each_decoded decodes test so no_items (x ∷ xs) decoded = absurd decoded
each_decoded decodes test so (item v vs) [] decoded = absurd decoded
each_decoded decodes test so (item v vs) (x ∷ xs) decoded = and_from (test x) (list_all test xs) (so v x decoded.0) (each_decoded decodes test so vs xs decoded.1)

-- each item of a list passes a test that all pass which a value says
pub all_decoded : {X : Type 0} (decodes : Data → X → Type 0) (test : X → Bool) → ((value : Data) (x : X) → decodes value x → test x ≡ true)
    → (found : Option Items) (xs : List X) → MatchOption found ⊥ (λ items. DecodeEach decodes items xs) → list_all test xs ≡ true
all_decoded decodes test so None xs decoded = absurd decoded
all_decoded decodes test so (Some items) xs decoded = each_decoded decodes test so items xs decoded

pub all_decoded_or : {X : Type 0} (decodes : Data → X → Type 0) (test : X → Bool) → ((value : Data) (x : X) → decodes value x → test x ≡ true)
    → (found : Option Data) (xs : List X) → MatchOption found (xs ≡ []) (λ value. IsList decodes value xs) → list_all test xs ≡ true
all_decoded_or decodes test so None xs decoded = ap (list_all test) decoded
all_decoded_or decodes test so (Some value) xs decoded = all_decoded decodes test so (as_array value) xs decoded

-- ---- durations

limited : (found : Option ℕ) (n : ℕ) → result_ok (within_limit found) ≡ Some n → n ≤ MAX_DURATION
limited None n is = absurd (cc)
limited (Some v) n is = by (nat_le v MAX_DURATION) refl is
  where
    by : (b : Bool) → nat_le v MAX_DURATION ≡ b → result_ok (if b then Ok v else Err TooLong) ≡ Some n → n ≤ MAX_DURATION
    by true small read = let same : v ≡ n = cc in subst (λ m. m ≤ MAX_DURATION) same (grind (arith, nat_tests))
    by false small read = absurd (cc)

pub duration_within : (value : Data) (n : ℕ) → duration_in value ≡ Some n → n ≤ MAX_DURATION
duration_within value n is = by (as_str value) is
  where
    by : (o : Option (List ℕ)) → option_and_then (λ text. result_ok (within_limit (duration_of text))) o ≡ Some n → n ≤ MAX_DURATION
    by None read = absurd (cc)
    by (Some text) read = limited (duration_of text) n read

duration_or_within : (absent : ℕ) (found : Option Data) (n : ℕ) → absent ≤ MAX_DURATION
    → MatchOption found (n ≡ absent) (λ value. duration_in value ≡ Some n) → n ≤ MAX_DURATION
duration_or_within absent None n small decoded = subst (λ m. m ≤ MAX_DURATION) (sym decoded) small
duration_or_within absent (Some value) n small decoded = duration_within value n decoded

duration_if_within : (found : Option Data) (n : Option ℕ) → MatchOption found (n ≡ None) (λ value. IsSomeAnd n (λ d. duration_in value ≡ Some d))
    → IfSome n (λ d. d ≤ MAX_DURATION)
duration_if_within found None decoded = tt
duration_if_within None (Some d) decoded = absurd (cc)
duration_if_within (Some value) (Some d) decoded = duration_within value d decoded

duration_there : (found : Option Data) (n : ℕ) → MatchOption found ⊥ (λ value. duration_in value ≡ Some n) → n ≤ MAX_DURATION
duration_there None n decoded = absurd decoded
duration_there (Some value) n decoded = duration_within value n decoded

-- ---- alerts

some_set : (ls : List Label) → set_fault ls ≡ None → 0 < length ls
some_set [] none = absurd (cc)
some_set (l ∷ ls) none = omega arith

-- a label set that was read has labels
some_labels : (mode : Mode) (value : Data) (ls : List Label) → DecodesToLabels mode value ls → 0 < length ls
some_labels mode value ls decoded =
    let ps = labels_in decoded.pairs in
    let both = none_of_both (first_fault pair_fault ps) (set_fault (with_values ps)) decoded.sound in
    omega (arith, some_set (with_values ps) both.1, length_permutation (with_values ps) ls decoded.read.pairs_moved)

labels_there : (mode : Mode) (found : Option Data) (ls : List Label) → MatchOption found ⊥ (λ value. DecodesToLabels mode value ls) → 0 < length ls
labels_there mode None ls decoded = absurd decoded
labels_there mode (Some value) ls decoded = some_labels mode value ls decoded

no_alert_fault : (a b c : Bool) → a ≡ false → b ≡ false → c ≡ false
    → is_none (if a then Some NoLabels else (if b then Some BadTime else (if c then Some EndBeforeStart else None))) ≡ true
no_alert_fault true b c none_a none_b none_c = absurd (cc)
no_alert_fault false true c none_a none_b none_c = absurd (cc)
no_alert_fault false false true none_a none_b none_c = absurd (cc)
no_alert_fault false false false none_a none_b none_c = refl

inserted : (ls : List Label) (starts : ℕ) (ends : Option ℕ) → 0 < length ls → starts ≤ MAX_DURATION → IfSome ends (λ e. e ≤ MAX_DURATION)
    → IfSome ends (λ e. starts < e) → may_insert ls starts ends ≡ true
inserted ls starts None some low few later =
    let labelled : (length ls == 0) ≡ false = grind (arith, nat_tests) in
    let early : nat_lt MAX_TIME starts ≡ false = grind (arith, nat_tests) in
    no_alert_fault (length ls == 0) (nat_lt MAX_TIME starts || false) false labelled (ap (λ b. b || false) early) refl
inserted ls starts (Some e) some low few later =
    let labelled : (length ls == 0) ≡ false = grind (arith, nat_tests) in
    let early : nat_lt MAX_TIME starts ≡ false = grind (arith, nat_tests) in
    let ended : nat_lt MAX_TIME e ≡ false = grind (arith, nat_tests) in
    let ordered : nat_lt e starts ≡ false = grind (arith, nat_tests) in
    no_alert_fault (length ls == 0) (nat_lt MAX_TIME starts || nat_lt MAX_TIME e) (nat_lt e starts) labelled (λ i. early i || ended i) ordered

span_inserted : (ls : List Label) → 0 < length ls → (members : Members) (span : Span) → DecodesToSpan members span → may_insert_in ls span ≡ true
span_inserted ls some members span decoded =
    let low = duration_or_within 0 (get_member (codes "from") members) span.from (omega arith) decoded.from in
    let few = duration_if_within (get_member (codes "to") members) span.to decoded.to in
    and_from (may_insert ls span.from None) (may_insert ls span.from span.to) (inserted ls span.from None some low tt tt)
    (inserted ls span.from span.to some low few decoded.later)

span_of_inserted : (ls : List Label) → 0 < length ls → (mode : Mode) (value : Data) (span : Span) → IsSpan mode value span → may_insert_in ls span ≡ true
span_of_inserted ls some mode value span decoded = by (as_object value) decoded
  where
    by : (o : Option Members) → MatchOption o ⊥ (λ ms. HasSpan mode ms span) → may_insert_in ls span ≡ true
    by None decoded = absurd decoded
    by (Some members) decoded = span_inserted ls some members span decoded.decoded

spans_inserted : (ls : List Label) → 0 < length ls → (mode : Mode) (members : Members) (found : Option Data) (spans : List Span)
    → MatchOption found ((span : Span) × DecodesToSpan members span × (spans ≡ span ∷ []))
    (λ value. IsList (IsSpan mode) value spans × (get_member (codes "from") members ≡ None) × (get_member (codes "to") members ≡ None) × (follow (Some 0) spans ≡ true))
    → list_all (may_insert_in ls) spans ≡ true
spans_inserted ls some mode ms None spans decoded =
    ap (list_all (may_insert_in ls)) decoded.2 ∙ and_from (may_insert_in ls decoded.0) true (span_inserted ls some ms decoded.0 decoded.1) refl
spans_inserted ls some mode ms (Some value) spans decoded =
    all_decoded (IsSpan mode) (may_insert_in ls) (λ v span is. span_of_inserted ls some mode v span is) (as_array value) spans decoded.0

-- what is given of an alert can be inserted
pub alert_inserted : (mode : Mode) (value : Data) (alert : AlertItem) → DecodesToAlert mode value alert → may_insert_all alert ≡ true
alert_inserted mode value alert decoded = by (as_object value) decoded
  where
    by : (o : Option Members) → MatchOption o ⊥ (λ ms. HasAlert mode ms alert) → may_insert_all alert ≡ true
    by None decoded = absurd decoded
    by (Some members) decoded =
        spans_inserted alert.labels (labels_there mode (get_member (codes "labels") members) alert.labels decoded.labels) mode members
        (get_member (codes "spans") members) alert.spans.items decoded.spans

-- ---- silences

no_silence_fault : (a b c d e : Bool) → a ≡ false → b ≡ false → c ≡ false → d ≡ false → e ≡ false
    → is_none (if a then Some NoMatchers else (if b then Some TooManyMatchers else (if c || d || e then Some BadTimes else None))) ≡ true
no_silence_fault true b c d e none_a none_b none_c none_d none_e = absurd (cc)
no_silence_fault false true c d e none_a none_b none_c none_d none_e = absurd (cc)
no_silence_fault false false true d e none_a none_b none_c none_d none_e = absurd (cc)
no_silence_fault false false false true e none_a none_b none_c none_d none_e = absurd (cc)
no_silence_fault false false false false true none_a none_b none_c none_d none_e = absurd (cc)
no_silence_fault false false false false false none_a none_b none_c none_d none_e = refl

silence_may : (mode : Mode) (members : Members) (s : SilenceItem) → HasSilence mode members s → may_set s ≡ true
silence_may mode members s decoded =
    let low = duration_or_within 0 (get_member (codes "from") members) s.from (omega arith) decoded.from in
    let few = duration_there (get_member (codes "to") members) s.to decoded.to in
    let some : (length s.matchers.items == 0) ≡ false = grind (arith, nat_tests, decoded.some) in
    let listed : nat_lt MAX_MATCHERS (length s.matchers.items) ≡ false = grind (arith, nat_tests, decoded.few) in
    let ordered : nat_lt s.to s.from ≡ false = grind (arith, nat_tests, decoded.later) in
    let early : nat_lt MAX_TIME s.from ≡ false = grind (arith, nat_tests) in
    let ended : nat_lt MAX_TIME s.to ≡ false = grind (arith, nat_tests) in
    no_silence_fault (length s.matchers.items == 0) (nat_lt MAX_MATCHERS (length s.matchers.items)) (nat_lt s.to s.from) (nat_lt MAX_TIME s.from)
    (nat_lt MAX_TIME s.to) some listed ordered early ended

-- what is given of a silence can be set
pub silence_set : (mode : Mode) (value : Data) (s : SilenceItem) → DecodesToSilence mode value s → may_set s ≡ true
silence_set mode value s decoded = by (as_object value) decoded
  where
    by : (o : Option Members) → MatchOption o ⊥ (λ ms. HasSilence mode ms s) → may_set s ≡ true
    by None decoded = absurd decoded
    by (Some members) decoded = silence_may mode members s decoded

-- ---- what isn't made

pub not_made : {F T : Type 0} (fault : Option F) (value : T) (f : F) → Err f ≡ ok_unless fault value → is_none fault ≡ false
not_made None value f is = absurd (cc)
not_made (Some g) value f is = refl

pub fails_first : (a b : Bool) → a ≡ false → (a && b) ≡ false
fails_first true b is = absurd (cc)
fails_first false b is = refl

pub fails_second : (a b : Bool) → b ≡ false → (a && b) ≡ false
fails_second true b is = is
fails_second false b is = refl

-- one that fails is one of all
pub fails_at : {X : Type 0} (test : X → Bool) (xs : List X) (i : ℕ) (x : X) → i < length xs → x ≡ get_or xs i x → test x ≡ false → list_all test xs ≡ false
fails_at test xs i x here is isnt = list_all_at test xs i x here (ap test (sym is) ∙ isnt)
