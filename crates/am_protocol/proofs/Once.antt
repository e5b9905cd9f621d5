-- What a value of a line says is one time, one end, and labels of one number.
use Rattle.std.proofs.Common.{◌≡◌, ◌≤◌, ◌==◌, ◌||◌, ◌∙◌, ℕ, Bool, true, false, List, Option, Some, None, MatchOption, ap, arith, if◌then◌else◌, length, nat_lt, refl, sym}
use Rattle.std.proofs.lemmas.Bool.{ltb-false}
use Rattle.std.proofs.lemmas.List.Sorted.{length_permutation}
use Rattle.serde_json.specs.Data.{Data, null, boolean, number, string, array, object}
use Rattle.am_alerts.specs.AlertData.{alert_fault, alert_of, is_before, is_late}
use Rattle.am_alerts.specs.Labels.{labels_in, with_values}
use Rattle.am_alerts.specs.declared.alert.AlertFault.{AlertFault}
use Rattle.am_alerts.specs.declared.alert.AlertFault.TheVariants.{BadTime, EndBeforeStart, NoLabels}
use Rattle.am_alerts.specs.declared.labels.Label.{Label}
use Rattle.am_alerts.specs.declared.limits.TheConstants.{MAX_MATCHERS, MAX_TIME}
use Rattle.am_mute.specs.Silence.{SilenceData, silence_fault}
use Rattle.am_mute.specs.declared.silence.SilenceFault.TheVariants.{BadTimes, NoMatchers, TooManyMatchers}
use Rattle.am_json.proofs.Once.{IsOne, one_pairs, one_read}
use Rattle.am_json.specs.Configured.{DecodesToLabels}
use Rattle.am_json.specs.declared.reader.Mode.{Mode}
use Rattle.am_protocol.specs.Time.{IsEnd, IsNow, time_in}

pub one_now : IsOne IsNow
one_now value x y is also = one_read time_in value x y is.0 also.0

pub one_end : IsOne IsEnd
one_end value None None is also = refl
one_end value (Some x) (Some y) is also = ap Some (one_read time_in value x y is also)
one_end null None (Some y) is also = absurd (cc)
one_end (boolean b) None (Some y) is also = absurd (cc)
one_end (number n) None (Some y) is also = absurd (cc)
one_end (string s) None (Some y) is also = absurd (cc)
one_end (array xs) None (Some y) is also = absurd (cc)
one_end (object ms) None (Some y) is also = absurd (cc)
one_end null (Some x) None is also = absurd (cc)
one_end (boolean b) (Some x) None is also = absurd (cc)
one_end (number n) (Some x) None is also = absurd (cc)
one_end (string s) (Some x) None is also = absurd (cc)
one_end (array xs) (Some x) None is also = absurd (cc)
one_end (object ms) (Some x) None is also = absurd (cc)

-- what holds of two values that are there
pub both_there : {X : Type 0} (decodes_to : Data → X → Type 0) (R : X → X → Type 0) → ((value : Data) (x y : X) → decodes_to value x → decodes_to value y → R x y)
    → (found : Option Data) (x y : X) → MatchOption found ⊥ (λ v. decodes_to v x) → MatchOption found ⊥ (λ v. decodes_to v y) → R x y
both_there decodes_to R related None x y is also = absurd is
both_there decodes_to R related (Some value) x y is also = related value x y is also

-- label sets that a value says have as many labels
pub one_length : (mode : Mode) (value : Data) (ls ms : List Label) → DecodesToLabels mode value ls → DecodesToLabels mode value ms → length ls ≡ length ms
one_length mode value ls ms is also =
    length_permutation (with_values (labels_in is.pairs)) ls is.read.pairs_moved
    ∙ ap (λ (ps : List Label). length (with_values ps)) (one_pairs mode value is.pairs also.pairs is.written also.written)
    ∙ sym (length_permutation (with_values (labels_in also.pairs)) ms also.read.pairs_moved)

-- why so many labels and times make no alert
abbrev fault_of : ℕ → ℕ → Option ℕ → Option AlertFault
fault_of count starts ends =
    if count == 0 then Some NoLabels
    else (if nat_lt MAX_TIME starts || is_late ends then Some BadTime else (if is_before ends starts then Some EndBeforeStart else None))

pub same_fault : (ls ms : List Label) (starts starts2 : ℕ) (ends ends2 : Option ℕ) → length ls ≡ length ms → starts ≡ starts2 → ends ≡ ends2
    → alert_fault (alert_of ls starts ends) ≡ alert_fault (alert_of ms starts2 ends2)
same_fault ls ms starts starts2 ends ends2 count start end = λ i. fault_of (count i) (start i) (end i)

-- a silence without a fault has few matchers
pub few_matchers : (s : SilenceData) → silence_fault s ≡ None → length s.matchers ≤ MAX_MATCHERS
few_matchers s sound = by (length s.matchers == 0) (nat_lt MAX_MATCHERS (length s.matchers)) refl sound
  where
    by : (a b : Bool) → nat_lt MAX_MATCHERS (length s.matchers) ≡ b
        → (if a then Some NoMatchers else (if b then Some TooManyMatchers
        else (if nat_lt s.end s.start || nat_lt MAX_TIME s.start || nat_lt MAX_TIME s.end then Some BadTimes else None))) ≡ None
        → length s.matchers ≤ MAX_MATCHERS
    by true b is none = absurd (cc)
    by false true is none = absurd (cc)
    by false false is none = omega (arith, ltb-false MAX_MATCHERS (length s.matchers) is)
