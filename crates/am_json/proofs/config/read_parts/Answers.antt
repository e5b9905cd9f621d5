use Rattle.std.proofs.Common.{◌≡◌, List, [], Some, codes, ap, ◌∙◌, subst, sym, length, arith}
use Rattle.std.specs.Prelude.{IsTrue}
use Rattle.serde_json.specs.Data.{Data}
use Rattle.serde_json.specs.Find.{as_object, get_member}
use Rattle.serde_json.specs.View.{members_view, view}
use Rattle.am_alerts.specs.RoutingTree.{RoutingTree, level_fault, tree_of}
use Rattle.am_alerts.specs.declared.route.Child.{Child}
use Rattle.am_alerts.specs.declared.route.Route.{Route}
use Rattle.am_model.specs.declared.config.Config.{Config}
use Rattle.am_model.specs.declared.config.Receiver.{Receiver}
use Rattle.am_mute.specs.Inhibit.{RuleData}
use Rattle.am_json.specs.Configured.{DecodesToChild, DecodesToConfig, DecodesToReceiver, DecodesToRoot, DecodesToRule, HasParts, config_compares_texts}
use Rattle.am_json.specs.Read.{ObjectData, duration_in}
use Rattle.am_json.specs.Decoding.{IsList, Has, HasOr}
use Rattle.am_json.specs.declared.reader.Mode.{Mode}
use Rattle.am_json.proofs.Configured.{few_receivers, plain_children, plain_rules}
use Rattle.am_json.proofs.Decoding.{all_sure, as_listed, as_decoded, as_decoded_in, decoded_or, handed_on, in_object, listed_in, missing, refused_or, decoded_in, starved, unknown}
use Rattle.am_json.proofs.Once.{one_children, one_list, one_receiver, one_root, one_there}
use Rattle.am_json.proofs.config.read_parts.Goals as goal

-- what is never refused
abbrev Decodes : Mode → Data → Config → Type 0
Decodes mode value config = DecodesToConfig mode value config × IsTrue (config_compares_texts config)

inside : (mode : Mode) (value : Data) (o : ObjectData) (config : Config) → Some (members_view o.members) ≡ as_object value → o.mode ≡ mode
    → Decodes mode value config → HasParts o.mode (members_view o.members) config
inside mode value o config is same decoded = in_object HasParts mode o.mode (members_view o.members) value config is same decoded.0.parts

pub returns-clause-decoded : goal.returns-clause-decoded
returns-clause-decoded c =
    let o = c.in_ok-config.config in
    let members = members_view o.members in
    let children : List Child = c.in_ok-children.children.items in
    let rules : List RuleData = c.in_ok-rules.rules.items in
    let routes : c.in_ok-routes.routes ≡ tree_of c.in_ok-root.root children = c.in_ok-routes.ensures.made in
    let config : Config = record {
      routes = c.in_ok-routes.routes;
      receivers = c.in_ok-by_name.by_name;
      rules = c.from.result;
      retention = c.in_ok-retention.retention;
      limits = c.in_ok-limits.limits;
    } in
    let has : HasParts o.mode members config = record {
      only = sym c.in_ok-only.ensures.known;
      retention = decoded_or duration_in 432000000 c.in_ok-retention.retention (get_member (codes "retention") members) c.in_ok-retention.ensures;
      limits = c.in_ok-limits.ensures.decoded;
      receivers = subst (λ (rs : List Receiver). Has (IsList (DecodesToReceiver o.mode)) (codes "receivers") members rs) (sym c.in_ok-by_name.ensures)
          (as_listed DecodesToReceiver o.mode c.in_ok-required.field-0.mode (view c.in_ok-required.field-0.value) (get_member (codes "receivers") members)
          c.in_ok-receivers.receivers.items c.in_ok-required.ensures.value c.in_ok-required.ensures.mode c.in_ok-receivers.ensures.decoded);
      root = subst (λ (r : Route). Has (DecodesToRoot o.mode) (codes "route") members r) (sym (ap (λ (t : RoutingTree). t.root) routes))
          (as_decoded_in DecodesToRoot o.mode c.in_ok-required-2.field-0.mode (view c.in_ok-required-2.field-0.value) (get_member (codes "route") members)
          c.in_ok-root.root c.in_ok-required-2.ensures.value c.in_ok-required-2.ensures.mode c.in_ok-root.ensures.decoded);
      children = children;
      listed = c.in_ok-children.ensures.decoded;
      tree = routes ∙ ap (λ (r : Route). tree_of r children) (sym (ap (λ (t : RoutingTree). t.root) routes));
      sound = c.in_ok-routes.ensures.sound;
      rules = subst (λ (rs : List RuleData). HasOr (IsList (DecodesToRule o.mode)) [] (codes "inhibit") members rs) (sym c.from.ensures) c.in_ok-rules.ensures.decoded;
    } in
    as_decoded HasParts c.args.reader.now.mode o.mode members (view c.args.reader.now.value) config c.in_ok-config.ensures.members c.in_ok-config.ensures.mode has

pub returns-in_err-config-clause-refused : goal.returns-in_err-config-clause-refused
returns-in_err-config-clause-refused c =
    handed_on (Decodes c.args.reader.now.mode (view c.args.reader.now.value)) c.from_residual.result c.in_err-config.field-0.0 c.from_residual.ensures.1
    (λ refusal x decoded. missing (λ ms. HasParts c.args.reader.now.mode ms x) (as_object (view c.args.reader.now.value)) c.in_err-config.ensures.members decoded.0.parts)

pub returns-in_err-only-clause-refused : goal.returns-in_err-only-clause-refused
returns-in_err-only-clause-refused c =
    handed_on (Decodes c.args.reader.now.mode (view c.args.reader.now.value)) c.from_residual-in_err-only.result c.in_err-only.field-0.0 c.from_residual-in_err-only.ensures.1
    (λ refusal x decoded. unknown _ c.in_err-only.ensures.known (inside c.args.reader.now.mode (view c.args.reader.now.value) c.in_ok-config.config x c.in_ok-config.ensures.members c.in_ok-config.ensures.mode decoded).only)

pub returns-in_err-retention-clause-refused : goal.returns-in_err-retention-clause-refused
returns-in_err-retention-clause-refused c =
    handed_on (Decodes c.args.reader.now.mode (view c.args.reader.now.value)) c.from_residual-in_err-retention.result c.in_err-retention.field-0.0 c.from_residual-in_err-retention.ensures.1
    (λ refusal x decoded. refused_or duration_in 432000000 x.retention (get_member (codes "retention") (members_view c.in_ok-config.config.members)) c.in_err-retention.field-0.0 c.in_err-retention.ensures (inside c.args.reader.now.mode (view c.args.reader.now.value) c.in_ok-config.config x c.in_ok-config.ensures.members c.in_ok-config.ensures.mode decoded).retention)

pub returns-in_err-limits-clause-refused : goal.returns-in_err-limits-clause-refused
returns-in_err-limits-clause-refused c =
    handed_on (Decodes c.args.reader.now.mode (view c.args.reader.now.value)) c.from_residual-in_err-limits.result c.in_err-limits.field-0.0 c.from_residual-in_err-limits.ensures.1
    (λ refusal x decoded. c.in_err-limits.ensures.refused refusal x.limits (inside c.args.reader.now.mode (view c.args.reader.now.value) c.in_ok-config.config x c.in_ok-config.ensures.members c.in_ok-config.ensures.mode decoded).limits)

pub returns-in_err-required-clause-refused : goal.returns-in_err-required-clause-refused
returns-in_err-required-clause-refused c =
    handed_on (Decodes c.args.reader.now.mode (view c.args.reader.now.value)) c.from_residual-in_err-required.result c.in_err-required.field-0.0 c.from_residual-in_err-required.ensures.1
    (λ refusal x decoded. missing (λ v. IsList (DecodesToReceiver c.in_ok-config.config.mode) v x.receivers) (get_member (codes "receivers") (members_view c.in_ok-config.config.members)) c.in_err-required.ensures.value (inside c.args.reader.now.mode (view c.args.reader.now.value) c.in_ok-config.config x c.in_ok-config.ensures.members c.in_ok-config.ensures.mode decoded).receivers)

pub returns-in_err-receivers-clause-refused : goal.returns-in_err-receivers-clause-refused
returns-in_err-receivers-clause-refused c =
    handed_on (Decodes c.args.reader.now.mode (view c.args.reader.now.value)) c.from_residual-in_err-receivers.result c.in_err-receivers.field-0.0 c.from_residual-in_err-receivers.ensures.1
    (λ refusal x decoded. c.in_err-receivers.ensures.refused refusal x.receivers (listed_in DecodesToReceiver c.in_ok-config.config.mode c.in_ok-required.field-0.mode (view c.in_ok-required.field-0.value) (get_member (codes "receivers") (members_view c.in_ok-config.config.members)) x.receivers c.in_ok-required.ensures.value c.in_ok-required.ensures.mode (inside c.args.reader.now.mode (view c.args.reader.now.value) c.in_ok-config.config x c.in_ok-config.ensures.members c.in_ok-config.ensures.mode decoded).receivers, all_sure x.receivers))

pub returns-in_err-required-2-clause-refused : goal.returns-in_err-required-2-clause-refused
returns-in_err-required-2-clause-refused c =
    handed_on (Decodes c.args.reader.now.mode (view c.args.reader.now.value)) c.from_residual-in_err-required-2.result c.in_err-required-2.field-0.0 c.from_residual-in_err-required-2.ensures.1
    (λ refusal x decoded. missing (λ v. DecodesToRoot c.in_ok-config.config.mode v x.routes.root) (get_member (codes "route") (members_view c.in_ok-config.config.members)) c.in_err-required-2.ensures.value (inside c.args.reader.now.mode (view c.args.reader.now.value) c.in_ok-config.config x c.in_ok-config.ensures.members c.in_ok-config.ensures.mode decoded).root)

pub returns-in_err-root-clause-refused : goal.returns-in_err-root-clause-refused
returns-in_err-root-clause-refused c =
    handed_on (Decodes c.args.reader.now.mode (view c.args.reader.now.value)) c.from_residual-in_err-root.result c.in_err-root.field-0.0 c.from_residual-in_err-root.ensures.1
    (λ refusal x decoded. c.in_err-root.ensures.refused refusal x.routes.root (decoded_in DecodesToRoot c.in_ok-config.config.mode c.in_ok-required-2.field-0.mode (view c.in_ok-required-2.field-0.value) (get_member (codes "route") (members_view c.in_ok-config.config.members)) x.routes.root c.in_ok-required-2.ensures.value c.in_ok-required-2.ensures.mode (inside c.args.reader.now.mode (view c.args.reader.now.value) c.in_ok-config.config x c.in_ok-config.ensures.members c.in_ok-config.ensures.mode decoded).root))

pub returns-in_err-children-clause-refused : goal.returns-in_err-children-clause-refused
returns-in_err-children-clause-refused c =
    handed_on (Decodes c.args.reader.now.mode (view c.args.reader.now.value)) c.from_residual-in_err-children.result c.in_err-children.field-0.0 c.from_residual-in_err-children.ensures.1
    (λ refusal x decoded. let is = (inside c.args.reader.now.mode (view c.args.reader.now.value) c.in_ok-config.config x c.in_ok-config.ensures.members c.in_ok-config.ensures.mode decoded) in c.in_err-children.ensures.refused refusal is.children (is.listed, plain_children x is.children is.tree decoded.1))

pub returns-in_err-rules-clause-refused : goal.returns-in_err-rules-clause-refused
returns-in_err-rules-clause-refused c =
    handed_on (Decodes c.args.reader.now.mode (view c.args.reader.now.value)) c.from_residual-in_err-rules.result c.in_err-rules.field-0.0 c.from_residual-in_err-rules.ensures.1
    (λ refusal x decoded. c.in_err-rules.ensures.refused refusal x.rules ((inside c.args.reader.now.mode (view c.args.reader.now.value) c.in_ok-config.config x c.in_ok-config.ensures.members c.in_ok-config.ensures.mode decoded).rules, plain_rules x decoded.1))

pub returns-in_err-routes-clause-refused : goal.returns-in_err-routes-clause-refused
returns-in_err-routes-clause-refused c =
    handed_on (Decodes c.args.reader.now.mode (view c.args.reader.now.value)) c.from_residual-in_err-routes.result c.in_err-routes.field-0.0 c.from_residual-in_err-routes.ensures.1
    (λ refusal x decoded.
    let is = (inside c.args.reader.now.mode (view c.args.reader.now.value) c.in_ok-config.config x c.in_ok-config.ensures.members c.in_ok-config.ensures.mode decoded) in
    let root = one_there (DecodesToRoot c.in_ok-config.config.mode) (one_root c.in_ok-config.config.mode) (get_member (codes "route") (members_view c.in_ok-config.config.members)) x.routes.root c.in_ok-root.root is.root
    (as_decoded_in DecodesToRoot c.in_ok-config.config.mode c.in_ok-required-2.field-0.mode (view c.in_ok-required-2.field-0.value) (get_member (codes "route") (members_view c.in_ok-config.config.members)) c.in_ok-root.root c.in_ok-required-2.ensures.value
    c.in_ok-required-2.ensures.mode c.in_ok-root.ensures.decoded) in
    let children = one_children c.in_ok-config.config.mode (members_view c.in_ok-config.config.members) is.children c.in_ok-children.children.items
    (plain_children x is.children is.tree decoded.1) is.listed c.in_ok-children.ensures.decoded in
    let routes : tree_of c.in_ok-root.root c.in_ok-children.children.items ≡ x.routes = (λ i. tree_of (sym root i) (sym children i)) ∙ sym is.tree in
    c.in_err-routes.ensures.refused (ap level_fault routes ∙ is.sound))

pub returns-in_err-by_name-clause-refused : goal.returns-in_err-by_name-clause-refused
returns-in_err-by_name-clause-refused c =
    starved (Decodes c.args.reader.now.mode (view c.args.reader.now.value)) c.from_residual-in_err-by_name.result c.from_residual-in_err-by_name.ensures.1

-- more receivers than a dispatcher may have
pub returns-then-len-gt-MAX_RECEIVERS-clause-refused : goal.returns-then-len-gt-MAX_RECEIVERS-clause-refused
returns-then-len-gt-MAX_RECEIVERS-clause-refused c refusal x decoded =
    let is = (inside c.args.reader.now.mode (view c.args.reader.now.value) c.in_ok-config.config x c.in_ok-config.ensures.members c.in_ok-config.ensures.mode decoded) in
    let same = one_there (IsList (DecodesToReceiver c.in_ok-config.config.mode)) (one_list (DecodesToReceiver c.in_ok-config.config.mode) (one_receiver c.in_ok-config.config.mode))
    (get_member (codes "receivers") (members_view c.in_ok-config.config.members)) x.receivers c.in_ok-receivers.receivers.items is.receivers
    (as_listed DecodesToReceiver c.in_ok-config.config.mode c.in_ok-required.field-0.mode (view c.in_ok-required.field-0.value) (get_member (codes "receivers") (members_view c.in_ok-config.config.members))
    c.in_ok-receivers.receivers.items c.in_ok-required.ensures.value c.in_ok-required.ensures.mode c.in_ok-receivers.ensures.decoded) in
    absurd (omega (arith, ap (λ (rs : List Receiver). length rs) same, few_receivers x decoded.0.sound, c.if-len-gt-MAX_RECEIVERS.true, c.len.ensures))
