use Rattle.std.proofs.Common.{◌≡◌, ◌||◌, ◌∙◌, ℕ, false, List, Some, ap, codes, subst, sym}
use Rattle.std.specs.Prelude.{IsTrue}
use Rattle.serde_json.specs.Data.{Members}
use Rattle.serde_json.specs.Find.{get_member}
use Rattle.serde_json.specs.View.{members_view}
use Rattle.am_json.proofs.Decoding.{handed_on}
use Rattle.am_json.specs.declared.reader.Mode.{Mode}
use Rattle.am_input.proofs.OnePlan.{one_plan}
use Rattle.am_input.specs.Clocks.{AreClocksOf}
use Rattle.am_input.specs.Configured.{IsConfigFor, file_in}
use Rattle.am_input.specs.DispatcherChanges.{AreDispatcherChangesIn}
use Rattle.am_plans.specs.Configs.{configs_of}
use Rattle.am_terms.specs.declared.dispatcher_change.DispatcherChange.{DispatcherChange}
use Rattle.am_input.specs.Request.{IsWithoutRegexes, Requests}
use Rattle.am_input.specs.declared.input.Requested.{Requested}
use Rattle.am_input.specs.declared.input.Changes.{Changes}
use Rattle.am_input.specs.declared.input.Input.{Input}
use Rattle.am_model.specs.declared.config.Config.{Config}
use Rattle.am_plans.proofs.Decodings.{same_some}
use Rattle.am_plans.specs.Decoding.{have_targets}
use Rattle.am_plans.specs.Expected.{AreExpectedIn, last_end}
use Rattle.am_terms.specs.declared.rehearsal.TimedAction.{TimedAction}
use Rattle.am_input.proofs.input.read_planned.Goals as goal

-- what is never refused, under a configuration
abbrev Decodes : Mode → Changes → Members → Config → List DispatcherChange → Input → Type 0
Decodes d changes members config dispatcher_changes input =
    Requests d changes members input.output input.start input.expectations.items input.dispatcher_changes.items input.rehearsal × (input.rehearsal.config ≡ config)
    × (input.dispatcher_changes.items ≡ dispatcher_changes) × IsWithoutRegexes d changes members input.dispatcher_changes.items input.rehearsal

pub returns-clause-decoded : goal.returns-clause-decoded
returns-clause-decoded c =
    let members = members_view c.args.top.now.members in
    record {
      known = c.requires.known;
      configures = subst (λ (u : ℕ). IsConfigFor (AreClocksOf u members) (file_in c.args.changes) c.args.top.now.mode members c.in_ok-rehearsal.rehearsal.config)
          (sym c.in_ok-rehearsal.ensures.until)
          (subst (λ (config : Config). IsConfigFor (AreClocksOf c.args.until members) (file_in c.args.changes) c.args.top.now.mode members config)
          (sym c.in_ok-rehearsal.ensures.config) c.requires.configures);
      hands_over = subst (λ (u : ℕ). AreDispatcherChangesIn c.args.top.now.mode (file_in c.args.changes) u members c.args.handed.dispatcher_changes.items)
          (sym c.in_ok-rehearsal.ensures.until) c.requires.hands_over;
      zones = c.in_ok-read_zones.ensures.decoded;
      decodes = c.in_ok-requested.ensures.output;
      starts = c.in_ok-requested.ensures.start;
      ends = c.requires.ends ∙ ap Some (sym c.in_ok-rehearsal.ensures.until);
      maintains = c.in_ok-rehearsal.ensures.maintain;
      ticks = c.in_ok-rehearsal.ensures.ticks;
      plans = c.in_ok-rehearsal.ensures.plans;
      outages = c.in_ok-rehearsal.ensures.outages;
      targets = subst (λ (config : Config). IsTrue (have_targets (configs_of config c.args.handed.dispatcher_changes.items) c.in_ok-rehearsal.rehearsal.outages.items)) (sym c.in_ok-rehearsal.ensures.config)
          (subst (λ (hs : List DispatcherChange). IsTrue (have_targets (configs_of c.args.configured.config hs) c.in_ok-rehearsal.rehearsal.outages.items)) c.as_slice-later.ensures.value
          c.in_ok-rehearsal.ensures.targets);
      expects = subst (λ (hs : List DispatcherChange). AreExpectedIn c.args.top.now.mode (configs_of c.in_ok-rehearsal.rehearsal.config hs) c.in_ok-rehearsal.rehearsal.until
          (last_end c.in_ok-rehearsal.rehearsal.until members) c.in_ok-rehearsal.rehearsal.plans.items (get_member (codes "expect") members) c.in_ok-requested.requested.expectations.items)
          c.as_slice-later.ensures.value c.in_ok-requested.ensures.expectations;
    }

pub returns-in_err-read_zones-clause-refused : goal.returns-in_err-read_zones-clause-refused
returns-in_err-read_zones-clause-refused c timed later =
    handed_on (Decodes c.args.top.now.mode c.args.changes (members_view c.args.top.now.members) c.args.configured.config c.args.handed.dispatcher_changes.items) c.from_residual.result c.in_err-read_zones.field-0.0 c.from_residual.ensures.1
    (λ refusal x decoded. c.in_err-read_zones.ensures.refused refusal tt decoded.0.zones)

pub returns-in_err-check_start-clause-refused : goal.returns-in_err-check_start-clause-refused
returns-in_err-check_start-clause-refused c timed later =
    handed_on (Decodes c.args.top.now.mode c.args.changes (members_view c.args.top.now.members) c.args.configured.config c.args.handed.dispatcher_changes.items) c.from_residual-in_err-check_start.result c.in_err-check_start.field-0.0 c.from_residual-in_err-check_start.ensures.1
    (λ refusal x decoded.
    let none : c.either.result ≡ false = c.either.ensures ∙ (λ i. timed i || later i) in
    absurd (cc (c.in_err-check_start.ensures none)))

pub returns-in_err-rehearsal-clause-refused : goal.returns-in_err-rehearsal-clause-refused
returns-in_err-rehearsal-clause-refused c timed later =
    handed_on (Decodes c.args.top.now.mode c.args.changes (members_view c.args.top.now.members) c.args.configured.config c.args.handed.dispatcher_changes.items) c.from_residual-in_err-rehearsal.result c.in_err-rehearsal.field-0.0 c.from_residual-in_err-rehearsal.ensures.1
    (λ refusal x decoded. c.in_err-rehearsal.ensures.refused refusal x.rehearsal (
      decoded.0.maintains,
      decoded.0.ticks,
      decoded.0.outages,
      subst (λ (config : Config). IsTrue (have_targets (configs_of config c.as_slice-later.result.now) x.rehearsal.outages.items)) decoded.1
          (subst (λ (hs : List DispatcherChange). IsTrue (have_targets (configs_of x.rehearsal.config hs) x.rehearsal.outages.items)) (decoded.2 ∙ sym c.as_slice-later.ensures.value) decoded.0.targets),
      decoded.3.plans,
    ))

-- the rehearsal that is given is the one that was read, as far as expectations hang on it
pub returns-in_err-requested-clause-refused : goal.returns-in_err-requested-clause-refused
returns-in_err-requested-clause-refused c timed later =
    let d = c.args.top.now.mode in
    let members = members_view c.args.top.now.members in
    let r = c.in_ok-rehearsal.rehearsal in
    handed_on (Decodes d c.args.changes members c.args.configured.config c.args.handed.dispatcher_changes.items) c.from_residual-in_err-requested.result c.in_err-requested.field-0.0 c.from_residual-in_err-requested.ensures.1
    (λ refusal x decoded.
    let config : x.rehearsal.config ≡ r.config = decoded.1 ∙ sym c.in_ok-rehearsal.ensures.config in
    let until : x.rehearsal.until ≡ r.until = same_some decoded.0.ends (c.requires.ends ∙ ap Some (sym c.in_ok-rehearsal.ensures.until)) in
    let plans : x.rehearsal.plans.items ≡ r.plans.items = one_plan d members x.rehearsal.plans.items r.plans.items decoded.3.plans c.in_ok-rehearsal.ensures.plans in
    let requested : Requested = record { start = x.start; expectations = x.expectations; output = x.output } in
    let found = get_member (codes "expect") members in
    let xs = x.expectations.items in
    let hs = c.as_slice-later.result.now in
    let dispatcher_changes : x.dispatcher_changes.items ≡ hs = decoded.2 ∙ sym c.as_slice-later.ensures.value in
    c.in_err-requested.ensures.refused refusal requested (
      decoded.0.starts,
      decoded.0.decodes,
      subst (λ (ps : List TimedAction). AreExpectedIn d (configs_of r.config hs) r.until (last_end r.until members) ps found xs) plans
          (subst (λ (u : ℕ). AreExpectedIn d (configs_of r.config hs) u (last_end u members) x.rehearsal.plans.items found xs) until
          (subst (λ (k : Config). AreExpectedIn d (configs_of k hs) x.rehearsal.until (last_end x.rehearsal.until members) x.rehearsal.plans.items found xs) config
          (subst (λ (ls : List DispatcherChange). AreExpectedIn d (configs_of x.rehearsal.config ls) x.rehearsal.until (last_end x.rehearsal.until members) x.rehearsal.plans.items found xs) dispatcher_changes decoded.0.expects))),
      decoded.3.expects,
    ))
