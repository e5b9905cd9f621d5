use Rattle.am_session.proofs.Making.{follow, kept}
use Rattle.am_session.proofs.session.Session.kept.Goals as goal

pub returns-clause-records : goal.returns-clause-records
returns-clause-records c = kept c.args.self.now.board _ c.history.ensures.history

pub returns-clause-follow : goal.returns-clause-follow
returns-clause-follow c = follow c.args.self.now.board _ c.history.ensures.history
