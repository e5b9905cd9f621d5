use Rattle.am_model.proofs.looking_back.LooksBack.{histories_look_back}
use Rattle.am_model.proofs.law.legal_histories_look_back.Goals as goal

pub returns : goal.returns
returns c = histories_look_back
