use Rattle.std.proofs.Common.{◌≡◌, ◌∙◌, ◌≤◌, List, [], Some, codes, false, length, subst, sym, ap, ℕ, arith}
use Rattle.std.specs.Prelude.{IsTrue}
use Rattle.serde_json.specs.Data.{Data}
use Rattle.serde_json.specs.Find.{as_bool, as_object, get_member}
use Rattle.serde_json.specs.View.{members_view, view}
use Rattle.am_alerts.specs.Matcher.{compare_texts}
use Rattle.am_alerts.specs.declared.matcher.MatcherParts.{MatcherParts}
use Rattle.am_alerts.specs.declared.route.Child.{Child}
use Rattle.am_alerts.specs.declared.route.Route.{Route}
use Rattle.am_json.specs.Configured.{DecodesToChild, DecodesToMatcher, DecodesToOptions, HasChild, most_matchers}
use Rattle.am_json.specs.Routed.{routed}
use Rattle.am_json.specs.Decoding.{IsText, IsList, Has, HasOr}
use Rattle.am_json.specs.Read.{ObjectData}
use Rattle.am_json.specs.declared.reader.Mode.{Mode}
use Rattle.am_json.proofs.Decoding.{as_decoded, decoded_or, handed_on, in_object, missing, refused_or, unknown}
use Rattle.am_json.proofs.route.ChildFromJson.read.Goals as goal

-- what is never refused
abbrev Decodes : Mode → Data → Child → Type 0
Decodes mode value child = DecodesToChild mode value child × IsTrue (compare_texts child.matchers)

inside : (mode : Mode) (value : Data) (o : ObjectData) (child : Child) → Some (members_view o.members) ≡ as_object value → o.mode ≡ mode
    → Decodes mode value child → HasChild o.mode (members_view o.members) child
inside mode value o child is same decoded = in_object HasChild mode o.mode (members_view o.members) value child is same decoded.0

pub returns-clause-decoded : goal.returns-clause-decoded
returns-clause-decoded c =
    let o = c.in_ok-child.child in
    let members = members_view o.members in
    let route : c.named.result ≡ routed c.in_ok-name.name c.in_ok-options.options = c.named.ensures in
    let matchers : List MatcherParts = c.in_ok-matchers.matchers.items in
    let child : Child = record { route = c.named.result; matchers = c.from.result; continues = c.in_ok-continues.continues } in
    let has : HasChild o.mode members child = record {
      only = sym c.in_ok-only.ensures.known;
      options = subst (λ (r : Route). DecodesToOptions members r) (sym route) (c.in_ok-options.ensures.decoded c.in_ok-name.name);
      name = subst (λ (n : List ℕ). Has IsText (codes "name") members n) (sym (ap (λ (r : Route). r.name) route)) c.in_ok-name.ensures.decoded;
      matchers = subst (λ (ms : List MatcherParts). HasOr (IsList (DecodesToMatcher o.mode)) [] (codes "matchers") members ms) (sym c.from.ensures)
          c.in_ok-matchers.ensures.decoded;
      few = subst (λ (ms : List MatcherParts). length ms ≤ most_matchers o.mode) (sym c.from.ensures)
          (omega (arith, c.in_ok-matchers.ensures.bound, c.in_ok-matchers.matchers.ok.0, c.most_matchers-most.ensures ∙ ap most_matchers c.mode.ensures));
      continues = decoded_or as_bool false c.in_ok-continues.continues (get_member (codes "continue") members) c.in_ok-continues.ensures.value;
    } in
    as_decoded HasChild c.args.reader.now.mode o.mode members (view c.args.reader.now.value) child c.in_ok-child.ensures.members
    c.in_ok-child.ensures.mode has

pub returns-in_err-child-clause-refused : goal.returns-in_err-child-clause-refused
returns-in_err-child-clause-refused c =
    handed_on (Decodes c.args.reader.now.mode (view c.args.reader.now.value)) c.from_residual.result c.in_err-child.field-0.0 c.from_residual.ensures.1
    (λ refusal x decoded. missing (λ ms. HasChild c.args.reader.now.mode ms x) (as_object (view c.args.reader.now.value)) c.in_err-child.ensures.members decoded.0)

pub returns-in_err-only-clause-refused : goal.returns-in_err-only-clause-refused
returns-in_err-only-clause-refused c =
    handed_on (Decodes c.args.reader.now.mode (view c.args.reader.now.value)) c.from_residual-in_err-only.result c.in_err-only.field-0.0 c.from_residual-in_err-only.ensures.1
    (λ refusal x decoded. unknown _ c.in_err-only.ensures.known (inside c.args.reader.now.mode (view c.args.reader.now.value) c.in_ok-child.child x c.in_ok-child.ensures.members c.in_ok-child.ensures.mode decoded).only)

pub returns-in_err-options-clause-refused : goal.returns-in_err-options-clause-refused
returns-in_err-options-clause-refused c =
    handed_on (Decodes c.args.reader.now.mode (view c.args.reader.now.value)) c.from_residual-in_err-options.result c.in_err-options.field-0.0 c.from_residual-in_err-options.ensures.1
    (λ refusal x decoded. c.in_err-options.ensures.refused refusal x.route (inside c.args.reader.now.mode (view c.args.reader.now.value) c.in_ok-child.child x c.in_ok-child.ensures.members c.in_ok-child.ensures.mode decoded).options)

pub returns-in_err-name-clause-refused : goal.returns-in_err-name-clause-refused
returns-in_err-name-clause-refused c =
    handed_on (Decodes c.args.reader.now.mode (view c.args.reader.now.value)) c.from_residual-in_err-name.result c.in_err-name.field-0.0 c.from_residual-in_err-name.ensures.1
    (λ refusal x decoded. c.in_err-name.ensures.refused refusal x.route.name (inside c.args.reader.now.mode (view c.args.reader.now.value) c.in_ok-child.child x c.in_ok-child.ensures.members c.in_ok-child.ensures.mode decoded).name)

pub returns-in_err-matchers-clause-refused : goal.returns-in_err-matchers-clause-refused
returns-in_err-matchers-clause-refused c =
    handed_on (Decodes c.args.reader.now.mode (view c.args.reader.now.value)) c.from_residual-in_err-matchers.result c.in_err-matchers.field-0.0 c.from_residual-in_err-matchers.ensures.1
    (λ refusal x decoded.
    let o = c.in_ok-child.child in
    let has = inside c.args.reader.now.mode (view c.args.reader.now.value) o x c.in_ok-child.ensures.members c.in_ok-child.ensures.mode decoded in
    let most : c.most_matchers-most.result ≡ most_matchers o.mode = c.most_matchers-most.ensures ∙ ap most_matchers c.mode.ensures in
    c.in_err-matchers.ensures.refused refusal x.matchers (has.matchers, decoded.1, subst (λ n. length x.matchers ≤ n) (sym most) has.few))

pub returns-in_err-continues-clause-refused : goal.returns-in_err-continues-clause-refused
returns-in_err-continues-clause-refused c =
    handed_on (Decodes c.args.reader.now.mode (view c.args.reader.now.value)) c.from_residual-in_err-continues.result c.in_err-continues.field-0.0 c.from_residual-in_err-continues.ensures.1
    (λ refusal x decoded. refused_or as_bool false x.continues (get_member (codes "continue") (members_view c.in_ok-child.child.members)) c.in_err-continues.field-0.0 c.in_err-continues.ensures.value (inside c.args.reader.now.mode (view c.args.reader.now.value) c.in_ok-child.child x c.in_ok-child.ensures.members c.in_ok-child.ensures.mode decoded).continues)
