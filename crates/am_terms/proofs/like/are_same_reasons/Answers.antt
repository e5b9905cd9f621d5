use Rattle.std.proofs.Common.{rules}
use Rattle.am_terms.proofs.Sameness.{equal_same}
use Rattle.am_terms.proofs.like.are_same_reasons.Goals as goal

pub returns : goal.returns
returns c = equal_same (λ one. search rules) (λ one other is. search rules) _ _ _ c.eq.ensures
