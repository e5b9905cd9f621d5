use Rattle.am_yaml.specs.Spelling.{starts_at_once, starts_marked}
use Rattle.am_yaml.proofs.spelling.Spelling.start.Goals as goal

pub returns-then-ne : goal.returns-then-ne
returns-then-ne c = starts_at_once

pub returns : goal.returns
returns c = rw c.in_ok-at.ensures.0 (starts_marked _ c.in_ok-gap.ensures c.in_ok-at.ensures.1)
