-- The alert and the silence of a call, of which a JSON value says one at most.
use Rattle.std.proofs.Common.{◌≡◌, ◌∙◌, ◌==◌, ◌||◌, ℕ, true, List, Option, Some, None, MatchOption, codes, length, refl, sym, ap, if◌then◌else◌}
use Rattle.std.specs.Prelude.{IfSome, IsSomeAnd, IsTrue, nat_lt}
use Rattle.std.proofs.lemmas.List.Sorted.{length_permutation}
use Rattle.serde_json.specs.Data.{Data, Members, null, boolean, number, string, array, object}
use Rattle.serde_json.specs.Find.{as_null, get_member}
use Rattle.am_alerts.specs.AlertData.{AlertData, alert_fault, is_before, is_late}
use Rattle.am_alerts.specs.Labels.{labels_in, with_values}
use Rattle.am_alerts.specs.Matcher.{compare_texts}
use Rattle.am_alerts.specs.declared.alert.AlertFault.TheVariants.{BadTime, EndBeforeStart, NoLabels}
use Rattle.am_alerts.specs.declared.labels.Label.{Label}
use Rattle.am_alerts.specs.declared.limits.TheConstants.{MAX_TIME}
use Rattle.am_json.proofs.Once.{IsOne, one_matcher_list, one_or, one_pairs, one_read, one_there, one_there_with}
use Rattle.am_json.specs.Configured.{DecodesToLabels, DecodesToMatcher}
use Rattle.am_json.specs.Decoding.{Has, HasIf, HasOr, IsList, IsNumber}
use Rattle.am_json.specs.Read.{number_in}
use Rattle.am_json.specs.declared.reader.Mode.{Mode}
use Rattle.am_mute.specs.Silence.{SilenceData}
use Rattle.am_scenario.specs.Decoding.{DecodesToAlert, DecodesToSilence, HasCall, HasSilence, IsEnd, call_compares_texts}
use Rattle.am_scenario.specs.declared.scenario.call.LaneCall.{LaneCall}
use Rattle.am_scenario.specs.declared.scenario.call.LaneCall.TheVariants.{Insert, Silence, Maintain}

-- ---- alerts

no_number : (value : Data) (n : ℕ) → as_null value ≡ Some tt → number_in value ≡ Some n → ⊥
no_number null n is read = cc
no_number (boolean b) n is read = cc
no_number (number m) n is read = cc
no_number (string s) n is read = cc
no_number (array ds) n is read = cc
no_number (object ms) n is read = cc

one_end : IsOne IsEnd
one_end value None None is also = refl
one_end value None (Some e) is also = absurd (no_number value e is also)
one_end value (Some e) None is also = absurd (no_number value e also is)
one_end value (Some e) (Some f) is also = cc

-- the label sets that a value says have as many labels
as_many : (mode : Mode) (value : Data) (ls ms : List Label) → DecodesToLabels mode value ls → DecodesToLabels mode value ms → length ls ≡ length ms
as_many mode value ls ms is also =
    length_permutation (with_values (labels_in is.pairs)) ls is.read.pairs_moved
    ∙ ap (λ (ps : List Label). length (with_values ps)) (one_pairs mode value is.pairs also.pairs is.written also.written)
    ∙ sym (length_permutation (with_values (labels_in also.pairs)) ms also.read.pairs_moved)

as_many_there : (mode : Mode) (found : Option Data) (ls ms : List Label) → MatchOption found ⊥ (λ v. DecodesToLabels mode v ls)
    → MatchOption found ⊥ (λ v. DecodesToLabels mode v ms) → length ls ≡ length ms
as_many_there mode None ls ms is also = absurd is
as_many_there mode (Some value) ls ms is also = as_many mode value ls ms is also

-- the alerts that members say have the same fault
pub same_fault : (mode : Mode) (members : Members) (a b : AlertData) → Has (DecodesToLabels mode) (codes "labels") members a.labels
    → Has (DecodesToLabels mode) (codes "labels") members b.labels → Has IsNumber (codes "starts") members a.starts
    → Has IsNumber (codes "starts") members b.starts → HasOr IsEnd None (codes "ends") members a.ends → HasOr IsEnd None (codes "ends") members b.ends
    → alert_fault a ≡ alert_fault b
same_fault mode members a b labels also starts starts_too ends ends_too =
    let count = as_many_there mode (get_member (codes "labels") members) a.labels b.labels labels also in
    let start = one_there IsNumber (one_read number_in) (get_member (codes "starts") members) a.starts b.starts starts starts_too in
    let end = one_or IsEnd one_end None (get_member (codes "ends") members) a.ends b.ends ends ends_too in
    λ i. if count i == 0 then Some NoLabels
    else (if nat_lt MAX_TIME (start i) || is_late (end i) then Some BadTime
    else (if is_before (end i) (start i) then Some EndBeforeStart else None))

-- ---- silences

-- members say one silence at most
pub one_silence : (mode : Mode) (members : Members) (s t : SilenceData) → compare_texts s.matchers ≡ true → HasSilence mode members s
    → Has IsNumber (codes "id") members t.id → Has (IsList (DecodesToMatcher mode)) (codes "matchers") members t.matchers
    → Has IsNumber (codes "start") members t.start → Has IsNumber (codes "end") members t.end → s ≡ t
one_silence mode members s t plain is id matchers start end =
    let same_id = one_there IsNumber (one_read number_in) (get_member (codes "id") members) s.id t.id is.id id in
    let same_matchers = one_there_with compare_texts (IsList (DecodesToMatcher mode)) (one_matcher_list mode) (get_member (codes "matchers") members)
    s.matchers t.matchers plain is.matchers matchers in
    let same_start = one_there IsNumber (one_read number_in) (get_member (codes "start") members) s.start t.start is.start start in
    let same_end = one_there IsNumber (one_read number_in) (get_member (codes "end") members) s.end t.end is.end end in
    λ i. record { id = same_id i; matchers = same_matchers i; start = same_start i; end = same_end i }

-- ---- calls

there : {X : Type 0} (decodes : Data → X → Type 0) (found : Option Data) (x : X) → MatchOption found ⊥ (λ v. decodes v x)
    → MatchOption found (Some x ≡ None) (λ v. IsSomeAnd (Some x) (decodes v))
there decodes None x decoded = absurd decoded
there decodes (Some v) x decoded = decoded

absent : {X : Type 0} (decodes : Data → X → Type 0) (found : Option Data) → found ≡ None → MatchOption found (◌≡◌ {A = Option X} None None) (λ v. IsSomeAnd None (decodes v))
absent decodes None none = refl
absent decodes (Some v) none = absurd (cc)

-- the alert that a call inserts, if it inserts one
pub inserted_by : (mode : Mode) (members : Members) (call : LaneCall) → HasCall mode members call
    → (insert : Option AlertData) × HasIf (DecodesToAlert mode) (codes "insert") members insert
inserted_by mode members (Insert alert) decoded = (Some alert, there (DecodesToAlert mode) (get_member (codes "insert") members) alert decoded.0)
inserted_by mode members (Silence silence) decoded = (None, absent (DecodesToAlert mode) (get_member (codes "insert") members) decoded.1)
inserted_by mode members Maintain decoded = (None, absent (DecodesToAlert mode) (get_member (codes "insert") members) decoded.0)

-- the silence that it sets, if it sets one, which looks for a pattern only where the call does
pub set_by : (mode : Mode) (members : Members) (call : LaneCall) → HasCall mode members call → call_compares_texts call ≡ true
    → (silence : Option SilenceData) × HasIf (DecodesToSilence mode) (codes "silence") members silence × IfSome silence (λ s. IsTrue (compare_texts s.matchers))
set_by mode members (Insert alert) decoded without = (None, absent (DecodesToSilence mode) (get_member (codes "silence") members) decoded.1, tt)
set_by mode members (Silence silence) decoded without = (Some silence, there (DecodesToSilence mode) (get_member (codes "silence") members) silence decoded.0, without)
set_by mode members Maintain decoded without = (None, absent (DecodesToSilence mode) (get_member (codes "silence") members) decoded.1, tt)
