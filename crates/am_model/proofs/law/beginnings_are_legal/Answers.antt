use Rattle.am_model.proofs.legal.Histories.{beginnings_are_legal}
use Rattle.am_model.proofs.law.beginnings_are_legal.Goals as goal

pub returns : goal.returns
returns c = beginnings_are_legal
