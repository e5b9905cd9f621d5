use Rattle.std.proofs.Common.{◌∙◌}
use Rattle.am_hours.proofs.Numbers.{number_in-parsed}
use Rattle.am_hours.proofs.reading.whole_number.Goals as goal

pub returns : goal.returns
returns c = c.ok.ensures.value ∙ number_in-parsed c.args.text.now c.parse.result c.parse.ensures.value.0
