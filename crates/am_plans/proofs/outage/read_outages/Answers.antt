use Rattle.std.proofs.Common.{◌≡◌, ◌∙◌, List, [], ap, codes, subst, sym}
use Rattle.std.specs.Prelude.{IsTrue}
use Rattle.serde_json.specs.Data.{Members}
use Rattle.serde_json.specs.Find.{get_member}
use Rattle.serde_json.specs.View.{members_view}
use Rattle.am_json.proofs.Decoding.{all_sure, handed_on, starved}
use Rattle.am_json.proofs.Once.{one_list, one_or}
use Rattle.am_json.specs.Decoding.{IsList, HasOr}
use Rattle.am_json.specs.declared.reader.Mode.{Mode}
use Rattle.am_model.specs.declared.config.Config.{Config}
use Rattle.am_plans.specs.Configs.{configs_in}
use Rattle.am_plans.proofs.Decodings.{list_made, true_false}
use Rattle.am_plans.proofs.Outages.{as_items, one_outage}
use Rattle.am_plans.specs.Decoding.{DecodesToOutage, have_targets}
use Rattle.am_plans.specs.declared.outage.OutageItem.{OutageItem}
use Rattle.am_terms.specs.declared.rehearsal.Outage.{Outage}
use Rattle.am_plans.proofs.outage.read_outages.Goals as goal

-- what is never refused
abbrev Decodes : Mode → Members → List Config → List Outage → Type 0
Decodes d members configs outages = HasOr (IsList (DecodesToOutage d)) [] (codes "outages") members outages × IsTrue (have_targets configs outages)

pub returns-clause-decoded : goal.returns-clause-decoded
returns-clause-decoded c =
    let members = members_view c.args.top.now.members in
    subst (λ (os : List Outage). HasOr (IsList (DecodesToOutage c.args.top.now.mode)) [] (codes "outages") members os) (sym c.in_ok-outages.ensures)
    (list_made (DecodesToOutage c.args.top.now.mode) (λ (i : OutageItem). i.outage) (get_member (codes "outages") members) c.in_ok-items.items.items c.in_ok-items.ensures.decoded)

pub returns-clause-targets : goal.returns-clause-targets
returns-clause-targets c = ap (have_targets (configs_in c.args.configs.now)) (sym c.as_slice.ensures.value) ∙ c.in_ok-check_outages.ensures.targets

pub returns-in_err-items-clause-refused : goal.returns-in_err-items-clause-refused
returns-in_err-items-clause-refused c =
    let members = members_view c.args.top.now.members in
    let d = c.args.top.now.mode in
    handed_on (Decodes d members (configs_in c.args.configs.now)) c.from_residual.result c.in_err-items.field-0.0 c.from_residual.ensures.1
    (λ refusal os decoded.
    let items = as_items d (get_member (codes "outages") members) os decoded.0 in
    c.in_err-items.ensures.refused refusal items.0 (items.1, all_sure items.0))

pub returns-in_err-outages-clause-refused : goal.returns-in_err-outages-clause-refused
returns-in_err-outages-clause-refused c =
    starved (Decodes c.args.top.now.mode (members_view c.args.top.now.members) (configs_in c.args.configs.now)) c.from_residual-in_err-outages.result c.from_residual-in_err-outages.ensures.1

pub returns-in_err-check_outages-clause-refused : goal.returns-in_err-check_outages-clause-refused
returns-in_err-check_outages-clause-refused c =
    let members = members_view c.args.top.now.members in
    let d = c.args.top.now.mode in
    let read : HasOr (IsList (DecodesToOutage d)) [] (codes "outages") members c.in_ok-outages.outages.items =
    subst (λ (os : List Outage). HasOr (IsList (DecodesToOutage d)) [] (codes "outages") members os) (sym c.in_ok-outages.ensures)
    (list_made (DecodesToOutage d) (λ (i : OutageItem). i.outage) (get_member (codes "outages") members) c.in_ok-items.items.items c.in_ok-items.ensures.decoded) in
    handed_on (Decodes d members (configs_in c.args.configs.now)) c.from_residual-in_err-check_outages.result c.in_err-check_outages.field-0.0 c.from_residual-in_err-check_outages.ensures.1
    (λ refusal os decoded.
    let same : os ≡ c.in_ok-outages.outages.items =
    one_or (IsList (DecodesToOutage d)) (one_list (DecodesToOutage d) (one_outage d)) [] (get_member (codes "outages") members) os c.in_ok-outages.outages.items decoded.0 read in
    true_false (ap (have_targets (configs_in c.args.configs.now)) (same ∙ sym c.as_slice.ensures.value)) decoded.1 c.in_err-check_outages.ensures.refused)
