use Rattle.am_timeline.proofs.Members.{put_after}
use Rattle.am_timeline.proofs.json.put_left.Goals as goal

pub returns : goal.returns
returns c = put_after _ _ _ c.in_ok-put_text.ensures c.in_ok-put_muted.ensures
