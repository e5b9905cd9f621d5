use Rattle.am_model.proofs.looking_back.reasons.Previews.{preview-found}
use Rattle.am_model.proofs.law.previews_look_back.Goals as goal

pub returns : goal.returns
returns c = preview-found
