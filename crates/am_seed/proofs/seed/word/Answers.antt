use Rattle.std.proofs.Common.{rules}
use Rattle.am_seed.specs.Hashing.{word}
use Rattle.am_seed.proofs.seed.word.Goals as goal

pub returns : goal.returns
unfolding word
returns c = search rules
