use Rattle.std.proofs.Common.{List, codes}
use Rattle.std.proofs.lemmas.Bool.{and_from}
use Rattle.std.specs.List.{list_all}
use Rattle.serde_json.specs.Find.{get_member}
use Rattle.serde_json.specs.View.{members_view}
use Rattle.am_json.proofs.Decoding.{all_sure, handed_on}
use Rattle.am_plans.proofs.Makes.{alert_inserted, all_decoded_or, silence_set}
use Rattle.am_plans.specs.Decoding.{DecodesToAlert, DecodesToSilence}
use Rattle.am_plans.specs.Planned.{ArePlannedWithoutRegexes, may_insert_all, may_set}
use Rattle.am_plans.specs.declared.alert.AlertItem.{AlertItem}
use Rattle.am_plans.specs.declared.silence.SilenceItem.{SilenceItem}
use Rattle.am_plans.proofs.planned.read_plans.Goals as goal

pub returns-clause-decoded : goal.returns-clause-decoded
returns-clause-decoded c =
    let alerts : List AlertItem = c.in_ok-alerts.alerts.items in
    let silences : List SilenceItem = c.in_ok-silences.silences.items in
    record {
      alerts = alerts;
      silences = silences;
      alerts_are = c.in_ok-alerts.ensures.decoded;
      silences_are = c.in_ok-silences.ensures.decoded;
      is = c.in_ok-in_order.ensures.plans;
    }

pub returns-in_err-alerts-clause-refused : goal.returns-in_err-alerts-clause-refused
returns-in_err-alerts-clause-refused c =
    handed_on (ArePlannedWithoutRegexes c.args.top.now.mode (members_view c.args.top.now.members)) c.from_residual.result c.in_err-alerts.field-0.0 c.from_residual.ensures.1
    (λ refusal plans decoded. c.in_err-alerts.ensures.refused refusal decoded.0.alerts (decoded.0.alerts_are, all_sure decoded.0.alerts))

pub returns-in_err-silences-clause-refused : goal.returns-in_err-silences-clause-refused
returns-in_err-silences-clause-refused c =
    handed_on (ArePlannedWithoutRegexes c.args.top.now.mode (members_view c.args.top.now.members)) c.from_residual-in_err-silences.result c.in_err-silences.field-0.0 c.from_residual-in_err-silences.ensures.1
    (λ refusal plans decoded. c.in_err-silences.ensures.refused refusal decoded.0.silences (decoded.0.silences_are, decoded.1))

-- what is given can be planned
pub returns-in_err-in_order-clause-refused : goal.returns-in_err-in_order-clause-refused
returns-in_err-in_order-clause-refused c =
    let d = c.args.top.now.mode in
    let members = members_view c.args.top.now.members in
    let alerts : List AlertItem = c.in_ok-alerts.alerts.items in
    let silences : List SilenceItem = c.in_ok-silences.silences.items in
    let inserted = all_decoded_or (DecodesToAlert d) may_insert_all (alert_inserted d) (get_member (codes "alerts") members) alerts c.in_ok-alerts.ensures.decoded in
    let set = all_decoded_or (DecodesToSilence d) may_set (silence_set d) (get_member (codes "silences") members) silences c.in_ok-silences.ensures.decoded in
    handed_on (ArePlannedWithoutRegexes d members) c.from_residual-in_err-in_order.result c.in_err-in_order.field-0.0 c.from_residual-in_err-in_order.ensures.1
    (λ refusal plans decoded. absurd (cc (and_from (list_all may_insert_all alerts) (list_all may_set silences) inserted set, c.in_err-in_order.ensures.refused refusal)))
