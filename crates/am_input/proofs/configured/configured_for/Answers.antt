use Rattle.std.proofs.Common.{None}
use Rattle.std.proofs.lemmas.Result.{IfOk-weaker}
use Rattle.serde_json.specs.View.{view}
use Rattle.am_input.proofs.Clocked.{under_of}
use Rattle.am_input.specs.Clocks.{AreAny, AreGiven}
use Rattle.am_input.specs.Configured.{form_in}
use Rattle.am_input.proofs.configured.configured_for.Goals as goal

-- a file for a story that is none has no clocks
pub returns-in_default-clause-decoded : goal.returns-in_default-clause-decoded
returns-in_default-clause-decoded g c =
    let file = view c.args.given.now in
    IfOk-weaker c.read_file.result _ _ (λ read is. under_of (AreGiven None) AreAny (form_in file) file read.config (λ theirs h given. tt) is)
    c.read_file.ensures.decoded
