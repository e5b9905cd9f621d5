use Rattle.std.proofs.lemmas.Result.{IfOk-weaker}
use Rattle.am_yaml.specs.Spelling.{in_plain, in_single, in_double}
use Rattle.am_yaml.proofs.spelling.Spelling.text.Goals as goal

pub returns-in-39 : goal.returns-in-39
returns-in-39 c = IfOk-weaker _ _ _ (λ s e. in_single _ c.in_ok-no_marker.ensures e) c.single.ensures

pub returns-in-34 : goal.returns-in-34
returns-in-34 c = IfOk-weaker _ _ _ (λ s e. in_double _ c.in_ok-no_marker.ensures e) c.double.ensures

pub returns-in_default : goal.returns-in_default
returns-in_default c = IfOk-weaker _ _ _ (λ s e. in_plain _ c.in_ok-no_marker.ensures e) c.plain.ensures
