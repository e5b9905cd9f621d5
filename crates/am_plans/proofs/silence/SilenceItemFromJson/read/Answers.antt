use Rattle.std.proofs.Common.{◌≡◌, ℕ, codes, subst, sym, arith}
use Rattle.std.specs.Prelude.{IsTrue}
use Rattle.serde_json.specs.Data.{Data}
use Rattle.serde_json.specs.Find.{as_array, as_object, get_member}
use Rattle.serde_json.specs.View.{members_view, view}
use Rattle.am_alerts.specs.Matcher.{compare_texts}
use Rattle.am_json.proofs.Decoding.{as_listed, as_decoded, decoded_or, handed_on, in_object, listed_in, missing, refused_or, unknown}
use Rattle.am_json.proofs.Members.{decoded_count}
use Rattle.am_json.proofs.Once.{one_or, one_read}
use Rattle.am_json.specs.Configured.{DecodesToMatcher}
use Rattle.am_json.specs.Decoding.{HasOr, IsDuration, IsList}
use Rattle.am_json.specs.Read.{duration_in}
use Rattle.am_json.specs.declared.reader.Mode.{Mode}
use Rattle.am_plans.specs.Decoding.{DecodesToSilence, HasSilence}
use Rattle.am_plans.specs.declared.silence.SilenceItem.{SilenceItem}
use Rattle.am_plans.proofs.silence.SilenceItemFromJson.read.Goals as goal

-- what is never refused
abbrev Decodes : Mode → Data → SilenceItem → Type 0
Decodes mode value silence = DecodesToSilence mode value silence × IsTrue (compare_texts silence.matchers.items)

pub returns-clause-decoded : goal.returns-clause-decoded
returns-clause-decoded c =
    let o = c.in_ok-silence.silence in
    let listed = c.in_ok-listed.listed in
    let members = members_view o.members in
    let item : SilenceItem = record { matchers = c.in_ok-matchers.matchers; from = c.in_ok-from.from; to = c.in_ok-from.to; set = c.in_ok-set.set } in
    let has : HasSilence o.mode members item = record {
      only = sym c.in_ok-only.ensures.known;
      matchers = as_listed DecodesToMatcher o.mode listed.mode (view listed.value) (get_member (codes "matchers") members)
          c.in_ok-matchers.matchers.items c.in_ok-listed.ensures.value c.in_ok-listed.ensures.mode c.in_ok-matchers.ensures.decoded;
      some = grind arith;
      few = omega (arith, c.in_ok-matchers.ensures.bound, c.in_ok-matchers.matchers.ok.0);
      from = c.in_ok-from.ensures.from;
      to = c.in_ok-from.ensures.to;
      later = c.in_ok-from.ensures.later;
      set = decoded_or duration_in c.in_ok-from.from c.in_ok-set.set (get_member (codes "set") members) c.in_ok-set.ensures;
    } in
    as_decoded HasSilence c.args.reader.now.mode o.mode members (view c.args.reader.now.value) item c.in_ok-silence.ensures.members
    c.in_ok-silence.ensures.mode has

pub returns-in_err-silence-clause-refused : goal.returns-in_err-silence-clause-refused
returns-in_err-silence-clause-refused c =
    handed_on (Decodes c.args.reader.now.mode (view c.args.reader.now.value)) c.from_residual.result c.in_err-silence.field-0.0 c.from_residual.ensures.1
    (λ refusal x decoded. missing (λ ms. HasSilence c.args.reader.now.mode ms x) (as_object (view c.args.reader.now.value)) c.in_err-silence.ensures.members decoded.0)

pub returns-in_err-only-clause-refused : goal.returns-in_err-only-clause-refused
returns-in_err-only-clause-refused c =
    handed_on (Decodes c.args.reader.now.mode (view c.args.reader.now.value)) c.from_residual-in_err-only.result c.in_err-only.field-0.0 c.from_residual-in_err-only.ensures.1
    (λ refusal x decoded. unknown _ c.in_err-only.ensures.known (in_object HasSilence c.args.reader.now.mode c.in_ok-silence.silence.mode (members_view c.in_ok-silence.silence.members) (view c.args.reader.now.value) x c.in_ok-silence.ensures.members c.in_ok-silence.ensures.mode decoded.0).only)

pub returns-in_err-listed-clause-refused : goal.returns-in_err-listed-clause-refused
returns-in_err-listed-clause-refused c =
    handed_on (Decodes c.args.reader.now.mode (view c.args.reader.now.value)) c.from_residual-in_err-listed.result c.in_err-listed.field-0.0 c.from_residual-in_err-listed.ensures.1
    (λ refusal x decoded. missing (λ v. IsList (DecodesToMatcher c.in_ok-silence.silence.mode) v x.matchers.items) (get_member (codes "matchers") (members_view c.in_ok-silence.silence.members)) c.in_err-listed.ensures.value (in_object HasSilence c.args.reader.now.mode c.in_ok-silence.silence.mode (members_view c.in_ok-silence.silence.members) (view c.args.reader.now.value) x c.in_ok-silence.ensures.members c.in_ok-silence.ensures.mode decoded.0).matchers)

pub returns-in_err-matchers-clause-refused : goal.returns-in_err-matchers-clause-refused
returns-in_err-matchers-clause-refused c =
    handed_on (Decodes c.args.reader.now.mode (view c.args.reader.now.value)) c.from_residual-in_err-matchers.result c.in_err-matchers.field-0.0 c.from_residual-in_err-matchers.ensures.1
    (λ refusal x decoded. c.in_err-matchers.ensures.refused refusal x.matchers.items ((listed_in DecodesToMatcher c.in_ok-silence.silence.mode c.in_ok-listed.listed.mode (view c.in_ok-listed.listed.value) (get_member (codes "matchers") (members_view c.in_ok-silence.silence.members)) x.matchers.items c.in_ok-listed.ensures.value c.in_ok-listed.ensures.mode (in_object HasSilence c.args.reader.now.mode c.in_ok-silence.silence.mode (members_view c.in_ok-silence.silence.members) (view c.args.reader.now.value) x c.in_ok-silence.ensures.members c.in_ok-silence.ensures.mode decoded.0).matchers), decoded.1, (in_object HasSilence c.args.reader.now.mode c.in_ok-silence.silence.mode (members_view c.in_ok-silence.silence.members) (view c.args.reader.now.value) x c.in_ok-silence.ensures.members c.in_ok-silence.ensures.mode decoded.0).few))

pub returns-in_err-from-clause-refused : goal.returns-in_err-from-clause-refused
returns-in_err-from-clause-refused c =
    handed_on (Decodes c.args.reader.now.mode (view c.args.reader.now.value)) c.from_residual-in_err-from.result c.in_err-from.field-0.0 c.from_residual-in_err-from.ensures.1
    (λ refusal x decoded. let is = (in_object HasSilence c.args.reader.now.mode c.in_ok-silence.silence.mode (members_view c.in_ok-silence.silence.members) (view c.args.reader.now.value) x c.in_ok-silence.ensures.members c.in_ok-silence.ensures.mode decoded.0) in c.in_err-from.ensures.refused refusal (x.from, x.to) (is.from, is.to, is.later))

pub returns-in_err-set-clause-refused : goal.returns-in_err-set-clause-refused
returns-in_err-set-clause-refused c =
    handed_on (Decodes c.args.reader.now.mode (view c.args.reader.now.value)) c.from_residual-in_err-set.result c.in_err-set.field-0.0 c.from_residual-in_err-set.ensures.1
    (λ refusal x decoded.
    let is = (in_object HasSilence c.args.reader.now.mode c.in_ok-silence.silence.mode (members_view c.in_ok-silence.silence.members) (view c.args.reader.now.value) x c.in_ok-silence.ensures.members c.in_ok-silence.ensures.mode decoded.0) in
    let same : x.from ≡ c.in_ok-from.from = one_or IsDuration (one_read duration_in) 0 (get_member (codes "from") (members_view c.in_ok-silence.silence.members)) x.from c.in_ok-from.from is.from c.in_ok-from.ensures.from in
    refused_or duration_in c.in_ok-from.from x.set (get_member (codes "set") (members_view c.in_ok-silence.silence.members)) c.in_err-set.field-0.0 c.in_err-set.ensures
    (subst (λ (from : ℕ). HasOr IsDuration from (codes "set") (members_view c.in_ok-silence.silence.members) x.set) same is.set))

-- no matchers
pub returns-then-is_empty-clause-refused : goal.returns-then-is_empty-clause-refused
returns-then-is_empty-clause-refused c refusal x decoded =
    let is = (in_object HasSilence c.args.reader.now.mode c.in_ok-silence.silence.mode (members_view c.in_ok-silence.silence.members) (view c.args.reader.now.value) x c.in_ok-silence.ensures.members c.in_ok-silence.ensures.mode decoded.0) in
    let count = decoded_count (DecodesToMatcher c.in_ok-listed.listed.mode) (as_array (view c.in_ok-listed.listed.value)) x.matchers.items _ c.in_ok-matchers.ensures.count
    (listed_in DecodesToMatcher c.in_ok-silence.silence.mode c.in_ok-listed.listed.mode (view c.in_ok-listed.listed.value) (get_member (codes "matchers") (members_view c.in_ok-silence.silence.members)) x.matchers.items c.in_ok-listed.ensures.value c.in_ok-listed.ensures.mode (in_object HasSilence c.args.reader.now.mode c.in_ok-silence.silence.mode (members_view c.in_ok-silence.silence.members) (view c.args.reader.now.value) x c.in_ok-silence.ensures.members c.in_ok-silence.ensures.mode decoded.0).matchers) in
    absurd (grind (arith, count, is.some))
