use Rattle.std.proofs.Common.{◌≡◌, List, [], Some, codes, sym}
use Rattle.std.specs.Prelude.{IsTrue}
use Rattle.serde_json.specs.Data.{Members}
use Rattle.serde_json.specs.Find.{get_member}
use Rattle.serde_json.specs.View.{members_view}
use Rattle.am_json.proofs.Decoding.{handed_on}
use Rattle.am_json.specs.Decoding.{HasOr, IsList}
use Rattle.am_json.specs.declared.reader.Mode.{Mode}
use Rattle.am_input.specs.Request.{maintain_in, ticks_in}
use Rattle.am_model.specs.declared.config.Config.{Config}
use Rattle.am_plans.specs.Configs.{configs_of}
use Rattle.am_plans.proofs.Decodings.{none_read}
use Rattle.am_plans.specs.Decoding.{DecodesToOutage, have_targets}
use Rattle.am_plans.specs.Planned.{ArePlannedWithoutRegexes}
use Rattle.am_terms.specs.declared.rehearsal.Rehearsal.{Rehearsal}
use Rattle.am_input.proofs.input.read_rehearsal.Goals as goal

-- what is never refused
abbrev Decodes : Mode → Members → List Config → Rehearsal → Type 0
Decodes d members configs r =
    (maintain_in (get_member (codes "maintain") members) ≡ Some r.upkeep.maintain)
    × (ticks_in (get_member (codes "remove_empty_groups") members) ≡ Some r.upkeep.remove_empty_groups) × HasOr (IsList (DecodesToOutage d)) [] (codes "outages") members r.outages.items
    × IsTrue (have_targets configs r.outages.items) × ArePlannedWithoutRegexes d members r.plans.items

pub returns-in_err-maintain-clause-refused : goal.returns-in_err-maintain-clause-refused
returns-in_err-maintain-clause-refused c =
    handed_on (Decodes c.args.top.now.mode (members_view c.args.top.now.members) (configs_of c.args.config c.args.dispatcher_changes.now)) c.from_residual.result c.in_err-maintain.field-0.0 c.from_residual.ensures.1
    (λ refusal r decoded. none_read _ _ (sym c.in_err-maintain.ensures.value) decoded.0)

pub returns-in_err-remove_empty_groups-clause-refused : goal.returns-in_err-remove_empty_groups-clause-refused
returns-in_err-remove_empty_groups-clause-refused c =
    handed_on (Decodes c.args.top.now.mode (members_view c.args.top.now.members) (configs_of c.args.config c.args.dispatcher_changes.now)) c.from_residual-in_err-remove_empty_groups.result c.in_err-remove_empty_groups.field-0.0 c.from_residual-in_err-remove_empty_groups.ensures.1
    (λ refusal r decoded. none_read _ _ (sym c.in_err-remove_empty_groups.ensures.value) decoded.1)

pub returns-in_err-outages-clause-refused : goal.returns-in_err-outages-clause-refused
returns-in_err-outages-clause-refused c =
    handed_on (Decodes c.args.top.now.mode (members_view c.args.top.now.members) (configs_of c.args.config c.args.dispatcher_changes.now)) c.from_residual-in_err-outages.result c.in_err-outages.field-0.0 c.from_residual-in_err-outages.ensures.1
    (λ refusal r decoded. c.in_err-outages.ensures.refused refusal r.outages.items (decoded.2, decoded.3))

pub returns-in_err-plans-clause-refused : goal.returns-in_err-plans-clause-refused
returns-in_err-plans-clause-refused c =
    handed_on (Decodes c.args.top.now.mode (members_view c.args.top.now.members) (configs_of c.args.config c.args.dispatcher_changes.now)) c.from_residual-in_err-plans.result c.in_err-plans.field-0.0 c.from_residual-in_err-plans.ensures.1
    (λ refusal r decoded. c.in_err-plans.ensures.refused refusal r.plans.items decoded.4)
