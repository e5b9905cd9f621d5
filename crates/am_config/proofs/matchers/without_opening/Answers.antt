use Rattle.std.proofs.Common.{arith}
use Rattle.std.proofs.lemmas.Str.Pattern.{strip_prefix_char}
use Rattle.std.specs.Prelude.{None}
use Rattle.am_config.proofs.Pieces.{first_kept}
use Rattle.am_config.proofs.matchers.without_opening.Goals as goal

pub returns-in-None : goal.returns-in-None
returns-in-None c = first_kept 123 c.args.text.now (strip_prefix_char 123 c.args.text.now None c.in-None.ensures.cases (omega arith))
