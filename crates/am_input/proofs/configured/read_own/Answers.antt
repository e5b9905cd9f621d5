use Rattle.serde_json.specs.View.{view}
use Rattle.am_json.proofs.Decoding.{handed_on}
use Rattle.am_input.specs.Configured.{DecodesWithoutRegexes}
use Rattle.am_input.proofs.configured.read_own.Goals as goal

pub returns-in_err-read_config-clause-refused : goal.returns-in_err-read_config-clause-refused
returns-in_err-read_config-clause-refused c =
    handed_on (DecodesWithoutRegexes c.args.reader.now.mode (view c.args.reader.now.value))
    c.from_residual.result c.in_err-read_config.field-0.0 c.from_residual.ensures.1 c.in_err-read_config.ensures.refused
