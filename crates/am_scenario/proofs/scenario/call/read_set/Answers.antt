use Rattle.std.proofs.Common.{◌≡◌, ◌∙◌, ◌≤◌, List, Some, ap, arith, codes, length, subst, sym}
use Rattle.std.specs.Prelude.{IsTrue}
use Rattle.serde_json.specs.Data.{Data}
use Rattle.serde_json.specs.Find.{as_object, get_member}
use Rattle.serde_json.specs.View.{members_view, view}
use Rattle.am_alerts.specs.Matcher.{compare_texts}
use Rattle.am_alerts.specs.declared.matcher.MatcherParts.{MatcherParts}
use Rattle.am_json.proofs.Decoding.{as_listed, as_decoded, decoded_by, handed_on, in_object, listed_in}
use Rattle.am_json.proofs.Made.{made_is, made_well, unmade}
use Rattle.am_json.specs.Configured.{DecodesToMatcher, most_matchers}
use Rattle.am_json.specs.Decoding.{IsNumber}
use Rattle.am_json.specs.Read.{ObjectData}
use Rattle.am_json.specs.declared.reader.Mode.{Mode}
use Rattle.am_mute.specs.Silence.{SilenceData, silence_of, silence_fault}
use Rattle.am_scenario.proofs.Calls.{one_silence}
use Rattle.am_scenario.specs.Decoding.{DecodesToSilence, HasSilence}
use Rattle.am_scenario.proofs.scenario.call.read_set.Goals as goal

-- what isn't refused
abbrev Decodes : Mode → Data → SilenceData → Type 0
Decodes mode value silence = DecodesToSilence mode value silence × IsTrue (compare_texts silence.matchers)

inside : (mode : Mode) (value : Data) (o : ObjectData) (silence : SilenceData) → Some (members_view o.members) ≡ as_object value → o.mode ≡ mode
    → Decodes mode value silence → HasSilence o.mode (members_view o.members) silence
inside mode value o silence is same decoded = in_object HasSilence mode o.mode (members_view o.members) value silence is same decoded.0

pub returns-in-Ok-clause-decoded : goal.returns-in-Ok-clause-decoded
returns-in-Ok-clause-decoded c =
    let o = c.in_ok-silence.silence in
    let members = members_view o.members in
    let matchers : List MatcherParts = c.in_ok-matchers.matchers.items in
    let set : SilenceData = silence_of c.in_ok-id.id matchers c.in_ok-start.start c.in_ok-end.end in
    let made : c.in-Ok.silence ≡ set = made_is (silence_fault set) set c.in-Ok.silence c.in-Ok.ensures in
    let most_is : c.most_matchers-most.result ≡ most_matchers o.mode = c.most_matchers-most.ensures ∙ ap most_matchers c.mode.ensures in
    let has : HasSilence o.mode members set = record {
      id = decoded_by IsNumber (get_member (codes "id") members) (view c.in_ok-required.field-0.value) set.id
          c.in_ok-required.ensures.value (sym c.in_ok-id.ensures.number);
      matchers = as_listed DecodesToMatcher o.mode c.in_ok-required-2.field-0.mode (view c.in_ok-required-2.field-0.value) (get_member (codes "matchers") members)
          matchers c.in_ok-required-2.ensures.value c.in_ok-required-2.ensures.mode c.in_ok-matchers.ensures.decoded;
      start = decoded_by IsNumber (get_member (codes "start") members) (view c.in_ok-required-3.field-0.value) set.start
          c.in_ok-required-3.ensures.value (sym c.in_ok-start.ensures.number);
      end = decoded_by IsNumber (get_member (codes "end") members) (view c.in_ok-required-4.field-0.value) set.end
          c.in_ok-required-4.ensures.value (sym c.in_ok-end.ensures.number);
      few = omega (arith, most_is);
      sound = made_well (silence_fault set) set c.in-Ok.silence c.in-Ok.ensures;
    } in
    subst (λ (s : SilenceData). DecodesToSilence c.args.reader.now.mode (view c.args.reader.now.value) s) (sym made)
    (as_decoded HasSilence c.args.reader.now.mode o.mode members (view c.args.reader.now.value) set c.in_ok-silence.ensures.members
    c.in_ok-silence.ensures.mode has)

pub returns-in_err-matchers-clause-refused : goal.returns-in_err-matchers-clause-refused
returns-in_err-matchers-clause-refused c =
    let d = c.args.reader.now.mode in
    let value = view c.args.reader.now.value in
    let o = c.in_ok-silence.silence in
    handed_on (Decodes d value) c.from_residual-in_err-matchers.result c.in_err-matchers.field-0.0 c.from_residual-in_err-matchers.ensures.1
    (λ refusal x decoded. c.in_err-matchers.ensures.refused refusal x.matchers (
      listed_in DecodesToMatcher o.mode c.in_ok-required-2.field-0.mode (view c.in_ok-required-2.field-0.value) (get_member (codes "matchers") (members_view o.members)) x.matchers
          c.in_ok-required-2.ensures.value c.in_ok-required-2.ensures.mode (inside d value o x c.in_ok-silence.ensures.members c.in_ok-silence.ensures.mode decoded).matchers,
      decoded.1,
    ))

-- a silence with too many matchers
pub returns-then-len-most-clause-refused : goal.returns-then-len-most-clause-refused
returns-then-len-most-clause-refused c refusal x decoded =
    let o = c.in_ok-silence.silence in
    let members = members_view o.members in
    let matchers : List MatcherParts = c.in_ok-matchers.matchers.items in
    let set : SilenceData = silence_of c.in_ok-id.id matchers c.in_ok-start.start c.in_ok-end.end in
    let is = inside c.args.reader.now.mode (view c.args.reader.now.value) o x c.in_ok-silence.ensures.members c.in_ok-silence.ensures.mode decoded in
    let same : x ≡ set = one_silence o.mode members x set decoded.1 is
    (decoded_by IsNumber (get_member (codes "id") members) (view c.in_ok-required.field-0.value) set.id c.in_ok-required.ensures.value (sym c.in_ok-id.ensures.number))
    (as_listed DecodesToMatcher o.mode c.in_ok-required-2.field-0.mode (view c.in_ok-required-2.field-0.value) (get_member (codes "matchers") members)
    matchers c.in_ok-required-2.ensures.value c.in_ok-required-2.ensures.mode c.in_ok-matchers.ensures.decoded)
    (decoded_by IsNumber (get_member (codes "start") members) (view c.in_ok-required-3.field-0.value) set.start c.in_ok-required-3.ensures.value (sym c.in_ok-start.ensures.number))
    (decoded_by IsNumber (get_member (codes "end") members) (view c.in_ok-required-4.field-0.value) set.end c.in_ok-required-4.ensures.value (sym c.in_ok-end.ensures.number)) in
    let most_is : c.most_matchers-most.result ≡ most_matchers o.mode = c.most_matchers-most.ensures ∙ ap most_matchers c.mode.ensures in
    let few : length matchers ≤ most_matchers o.mode = subst (λ (s : SilenceData). length s.matchers ≤ most_matchers o.mode) same is.few in
    absurd (omega (arith, most_is, few))

-- matchers and times that are no silence
pub returns-in-Err-clause-refused : goal.returns-in-Err-clause-refused
returns-in-Err-clause-refused c refusal x decoded =
    let o = c.in_ok-silence.silence in
    let members = members_view o.members in
    let matchers : List MatcherParts = c.in_ok-matchers.matchers.items in
    let set : SilenceData = silence_of c.in_ok-id.id matchers c.in_ok-start.start c.in_ok-end.end in
    let is = inside c.args.reader.now.mode (view c.args.reader.now.value) o x c.in_ok-silence.ensures.members c.in_ok-silence.ensures.mode decoded in
    let same : x ≡ set = one_silence o.mode members x set decoded.1 is
    (decoded_by IsNumber (get_member (codes "id") members) (view c.in_ok-required.field-0.value) set.id c.in_ok-required.ensures.value (sym c.in_ok-id.ensures.number))
    (as_listed DecodesToMatcher o.mode c.in_ok-required-2.field-0.mode (view c.in_ok-required-2.field-0.value) (get_member (codes "matchers") members)
    matchers c.in_ok-required-2.ensures.value c.in_ok-required-2.ensures.mode c.in_ok-matchers.ensures.decoded)
    (decoded_by IsNumber (get_member (codes "start") members) (view c.in_ok-required-3.field-0.value) set.start c.in_ok-required-3.ensures.value (sym c.in_ok-start.ensures.number))
    (decoded_by IsNumber (get_member (codes "end") members) (view c.in_ok-required-4.field-0.value) set.end c.in_ok-required-4.ensures.value (sym c.in_ok-end.ensures.number)) in
    unmade (silence_fault set) set _ c.in-Err.ensures (ap silence_fault (sym same) ∙ is.sound)
