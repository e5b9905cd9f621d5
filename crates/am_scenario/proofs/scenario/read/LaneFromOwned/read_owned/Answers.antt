use Rattle.std.specs.Prelude.{IsTrue}
use Rattle.serde_json.specs.Data.{Data}
use Rattle.serde_json.specs.View.{view}
use Rattle.am_json.proofs.Decoding.{handed_on}
use Rattle.am_json.specs.declared.reader.Mode.TheVariants.{Lenient}
use Rattle.am_scenario.specs.Decoding.{DecodesToLane, lane_compares_texts}
use Rattle.am_scenario.specs.declared.scenario.Lane.{Lane}
use Rattle.am_scenario.proofs.scenario.read.LaneFromOwned.read_owned.Goals as goal

-- what is never refused
abbrev Decodes : Data → Lane → Type 0
Decodes value lane = DecodesToLane Lenient value lane × IsTrue (lane_compares_texts lane)

pub returns-in_err-calls-clause-refused : goal.returns-in_err-calls-clause-refused
returns-in_err-calls-clause-refused c =
    handed_on (Decodes (view c.args.value)) c.from_residual.result c.in_err-calls.field-0.0 c.from_residual.ensures.1
    (λ refusal x decoded. c.in_err-calls.ensures.refused refusal x.calls.items decoded)
