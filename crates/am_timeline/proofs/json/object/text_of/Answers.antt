use Rattle.std.proofs.lemmas.Result.{IfOk-weaker}
use Rattle.am_timeline.proofs.json.object.text_of.Goals as goal

pub returns : goal.returns
returns c = IfOk-weaker c.to_string.result _ _ (λ text is. is c.requires) c.to_string.ensures.text
