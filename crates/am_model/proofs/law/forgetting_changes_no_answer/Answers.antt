use Rattle.am_model.proofs.looking_back.Forgetting.{changes_no_reply, changes_no_state}
use Rattle.am_model.proofs.law.forgetting_changes_no_answer.Goals as goal

pub returns-clause-replies : goal.returns-clause-replies
returns-clause-replies c = changes_no_reply

pub returns-clause-states : goal.returns-clause-states
returns-clause-states c = changes_no_state
