use Rattle.am_plays.proofs.Sound.{plays_are_legal}
use Rattle.am_plays.proofs.law.plays_are_legal.Goals as goal

pub returns : goal.returns
returns c = plays_are_legal
