use Rattle.std.proofs.lemmas.Result.{IfOk-weaker}
use Rattle.am_yaml.specs.Behind.{ArePropertiesBehind}
use Rattle.am_yaml.specs.Spelling.{no_property}
use Rattle.am_yaml.proofs.spelling.Spelling.properties.Goals as goal

pub returns : goal.returns
returns c =
    IfOk-weaker _ (λ r. ArePropertiesBehind _ _ _ _ r.0.is_tagged _ r.1.at) _ (λ r more. more _ (c.in_ok-before.ensures _ no_property)) c.property-2.ensures
