use Rattle.std.proofs.Common.{◌≡◌, ◌∙◌, ℕ, List, ap, codes, subst, sym}
use Rattle.std.specs.Prelude.{IsTrue}
use Rattle.serde_json.specs.Data.{Data}
use Rattle.serde_json.specs.Find.{as_object, get_member}
use Rattle.serde_json.specs.View.{members_view, view}
use Rattle.am_json.proofs.Decoding.{as_decoded, handed_on, in_object, missing, unknown}
use Rattle.am_json.specs.declared.reader.Mode.{Mode}
use Rattle.am_alerts.specs.Matcher.{compare_texts}
use Rattle.am_alerts.specs.declared.matcher.MatcherParts.{MatcherParts}
use Rattle.am_mute.specs.Silence.{SilenceData, silence_fault, silence_of}
use Rattle.am_json.proofs.Once.{one_matcher_list, one_or, one_read, one_there, one_there_with}
use Rattle.am_json.specs.Configured.{DecodesToMatcher}
use Rattle.am_json.specs.Decoding.{Has, HasOr, IsList, IsNumber}
use Rattle.am_json.specs.Read.{number_in}
use Rattle.am_protocol.specs.Time.{IsNow, IsTime, time_in}
use Rattle.am_protocol.proofs.Once.{few_matchers, one_now}
use Rattle.am_protocol.specs.Request.{DecodesToSilencing, HasSilencing}
use Rattle.am_protocol.specs.declared.request.Silencing.{Silencing}
use Rattle.am_protocol.proofs.request.SilencingFromJson.read.Goals as goal

-- what is never refused
abbrev Decodes : Mode → Data → Silencing → Type 0
Decodes mode value x = DecodesToSilencing mode value x × IsTrue (compare_texts x.silence.matchers)

pub returns-clause-decoded : goal.returns-clause-decoded
returns-clause-decoded c =
    let o = c.in_ok-call.call in
    let members = members_view o.members in
    let silence : SilenceData = c.in_ok-silence.silence in
    let matchers : List MatcherParts = c.in_ok-matchers.matchers.items in
    let is : silence_of c.in_ok-id.id matchers c.in_ok-starts.starts c.in_ok-ends.ends ≡ silence = sym c.in_ok-silence.ensures.silence in
    let x : Silencing = record { now = c.in_ok-now.now; silence = silence } in
    let has : HasSilencing o.mode members x = record {
      only = sym c.in_ok-only.ensures.known;
      now = c.in_ok-now.ensures.decoded;
      id = subst (λ (s : SilenceData). Has IsNumber (codes "id") members s.id) is c.in_ok-id.ensures.decoded;
      matchers = subst (λ (s : SilenceData). Has (IsList (DecodesToMatcher o.mode)) (codes "matchers") members s.matchers) is c.in_ok-matchers.ensures.decoded;
      starts = subst (λ (s : SilenceData). HasOr IsTime c.in_ok-now.now (codes "starts") members s.start) is c.in_ok-starts.ensures.decoded;
      ends = subst (λ (s : SilenceData). Has IsTime (codes "ends") members s.end) is c.in_ok-ends.ensures.decoded;
      sound = c.in_ok-silence.ensures.sound;
    } in
    as_decoded HasSilencing c.args.reader.now.mode o.mode members (view c.args.reader.now.value) x c.in_ok-call.ensures.members c.in_ok-call.ensures.mode has

pub returns-in_err-call-clause-refused : goal.returns-in_err-call-clause-refused
returns-in_err-call-clause-refused c =
    handed_on (Decodes c.args.reader.now.mode (view c.args.reader.now.value)) c.from_residual.result c.in_err-call.field-0.0 c.from_residual.ensures.1
    (λ refusal x decoded. missing (λ ms. HasSilencing c.args.reader.now.mode ms x) (as_object (view c.args.reader.now.value)) c.in_err-call.ensures.members decoded.0)

pub returns-in_err-only-clause-refused : goal.returns-in_err-only-clause-refused
returns-in_err-only-clause-refused c =
    handed_on (Decodes c.args.reader.now.mode (view c.args.reader.now.value)) c.from_residual-in_err-only.result c.in_err-only.field-0.0 c.from_residual-in_err-only.ensures.1
    (λ refusal x decoded. unknown _ c.in_err-only.ensures.known (in_object HasSilencing c.args.reader.now.mode c.in_ok-call.call.mode (members_view c.in_ok-call.call.members) (view c.args.reader.now.value) x c.in_ok-call.ensures.members c.in_ok-call.ensures.mode decoded.0).only)

pub returns-in_err-now-clause-refused : goal.returns-in_err-now-clause-refused
returns-in_err-now-clause-refused c =
    handed_on (Decodes c.args.reader.now.mode (view c.args.reader.now.value)) c.from_residual-in_err-now.result c.in_err-now.field-0.0 c.from_residual-in_err-now.ensures.1
    (λ refusal x decoded. c.in_err-now.ensures.refused refusal x.now (in_object HasSilencing c.args.reader.now.mode c.in_ok-call.call.mode (members_view c.in_ok-call.call.members) (view c.args.reader.now.value) x c.in_ok-call.ensures.members c.in_ok-call.ensures.mode decoded.0).now)

pub returns-in_err-id-clause-refused : goal.returns-in_err-id-clause-refused
returns-in_err-id-clause-refused c =
    handed_on (Decodes c.args.reader.now.mode (view c.args.reader.now.value)) c.from_residual-in_err-id.result c.in_err-id.field-0.0 c.from_residual-in_err-id.ensures.1
    (λ refusal x decoded. c.in_err-id.ensures.refused refusal x.silence.id (in_object HasSilencing c.args.reader.now.mode c.in_ok-call.call.mode (members_view c.in_ok-call.call.members) (view c.args.reader.now.value) x c.in_ok-call.ensures.members c.in_ok-call.ensures.mode decoded.0).id)

pub returns-in_err-starts-clause-refused : goal.returns-in_err-starts-clause-refused
returns-in_err-starts-clause-refused c =
    handed_on (Decodes c.args.reader.now.mode (view c.args.reader.now.value)) c.from_residual-in_err-starts.result c.in_err-starts.field-0.0 c.from_residual-in_err-starts.ensures.1
    (λ refusal x decoded.
    let is = (in_object HasSilencing c.args.reader.now.mode c.in_ok-call.call.mode (members_view c.in_ok-call.call.members) (view c.args.reader.now.value) x c.in_ok-call.ensures.members c.in_ok-call.ensures.mode decoded.0) in
    let same : x.now ≡ c.in_ok-now.now = one_there IsNow one_now (get_member (codes "now") (members_view c.in_ok-call.call.members)) x.now c.in_ok-now.now is.now c.in_ok-now.ensures.decoded in
    c.in_err-starts.ensures.refused refusal x.silence.start (subst (λ (n : ℕ). HasOr IsTime n (codes "starts") (members_view c.in_ok-call.call.members) x.silence.start) same is.starts))

pub returns-in_err-ends-clause-refused : goal.returns-in_err-ends-clause-refused
returns-in_err-ends-clause-refused c =
    handed_on (Decodes c.args.reader.now.mode (view c.args.reader.now.value)) c.from_residual-in_err-ends.result c.in_err-ends.field-0.0 c.from_residual-in_err-ends.ensures.1
    (λ refusal x decoded. c.in_err-ends.ensures.refused refusal x.silence.end (in_object HasSilencing c.args.reader.now.mode c.in_ok-call.call.mode (members_view c.in_ok-call.call.members) (view c.args.reader.now.value) x c.in_ok-call.ensures.members c.in_ok-call.ensures.mode decoded.0).ends)

pub returns-in_err-matchers-clause-refused : goal.returns-in_err-matchers-clause-refused
returns-in_err-matchers-clause-refused c =
    handed_on (Decodes c.args.reader.now.mode (view c.args.reader.now.value)) c.from_residual-in_err-matchers.result c.in_err-matchers.field-0.0 c.from_residual-in_err-matchers.ensures.1
    (λ refusal x decoded. c.in_err-matchers.ensures.refused refusal x.silence.matchers ((in_object HasSilencing c.args.reader.now.mode c.in_ok-call.call.mode (members_view c.in_ok-call.call.members) (view c.args.reader.now.value) x c.in_ok-call.ensures.members c.in_ok-call.ensures.mode decoded.0).matchers, decoded.1, few_matchers x.silence (in_object HasSilencing c.args.reader.now.mode c.in_ok-call.call.mode (members_view c.in_ok-call.call.members) (view c.args.reader.now.value) x c.in_ok-call.ensures.members c.in_ok-call.ensures.mode decoded.0).sound))

pub returns-in_err-silence-clause-refused : goal.returns-in_err-silence-clause-refused
returns-in_err-silence-clause-refused c =
    handed_on (Decodes c.args.reader.now.mode (view c.args.reader.now.value)) c.from_residual-in_err-silence.result c.in_err-silence.field-0.0 c.from_residual-in_err-silence.ensures.1
    (λ refusal x decoded.
    let is = (in_object HasSilencing c.args.reader.now.mode c.in_ok-call.call.mode (members_view c.in_ok-call.call.members) (view c.args.reader.now.value) x c.in_ok-call.ensures.members c.in_ok-call.ensures.mode decoded.0) in
    let same : x.now ≡ c.in_ok-now.now = one_there IsNow one_now (get_member (codes "now") (members_view c.in_ok-call.call.members)) x.now c.in_ok-now.now is.now c.in_ok-now.ensures.decoded in
    let id : x.silence.id ≡ c.in_ok-id.id = one_there IsNumber (one_read number_in) (get_member (codes "id") (members_view c.in_ok-call.call.members)) x.silence.id c.in_ok-id.id is.id c.in_ok-id.ensures.decoded in
    let matchers : x.silence.matchers ≡ c.in_ok-matchers.matchers.items = one_there_with compare_texts (IsList (DecodesToMatcher c.in_ok-call.call.mode)) (one_matcher_list c.in_ok-call.call.mode) (get_member (codes "matchers") (members_view c.in_ok-call.call.members))
    x.silence.matchers c.in_ok-matchers.matchers.items decoded.1 is.matchers c.in_ok-matchers.ensures.decoded in
    let moved : HasOr IsTime c.in_ok-now.now (codes "starts") (members_view c.in_ok-call.call.members) x.silence.start = subst (λ (n : ℕ). HasOr IsTime n (codes "starts") (members_view c.in_ok-call.call.members) x.silence.start) same is.starts in
    let start : x.silence.start ≡ c.in_ok-starts.starts = one_or IsTime (one_read time_in) c.in_ok-now.now (get_member (codes "starts") (members_view c.in_ok-call.call.members)) x.silence.start c.in_ok-starts.starts moved c.in_ok-starts.ensures.decoded in
    let end : x.silence.end ≡ c.in_ok-ends.ends = one_there IsTime (one_read time_in) (get_member (codes "ends") (members_view c.in_ok-call.call.members)) x.silence.end c.in_ok-ends.ends is.ends c.in_ok-ends.ensures.decoded in
    let silence : silence_of c.in_ok-id.id c.in_ok-matchers.matchers.items c.in_ok-starts.starts c.in_ok-ends.ends ≡ x.silence = λ i. silence_of (sym id i) (sym matchers i) (sym start i) (sym end i) in
    c.in_err-silence.ensures.refused (ap silence_fault silence ∙ is.sound))
