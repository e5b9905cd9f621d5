use Rattle.am_timeline.proofs.Members.{put_after}
use Rattle.am_timeline.proofs.json.put_outcome.Goals as goal

pub returns : goal.returns
returns c =
    put_after _ _ _ c.in_ok-put_outcome_word.ensures
    (put_after _ _ _ c.in_ok-put_attempts.ensures (put_after _ _ _ c.in_ok-put_since.ensures c.in_ok-put_if_late.ensures))
