use Rattle.am_timeline.proofs.Logged.{follows-more}
use Rattle.am_timeline.proofs.logbook.log.add_record.Goals as goal

pub returns : goal.returns
returns c =
    λ past follows.
    follows-more _ _ c.args.added.now past
    c.in_ok-add_begun.ensures c.in_ok-add_noted.ensures c.in_ok-add_logged.ensures c.next_time-time.ensures follows
