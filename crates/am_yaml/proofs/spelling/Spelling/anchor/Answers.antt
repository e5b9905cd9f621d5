use Rattle.am_yaml.specs.Spelling.{anchor}
use Rattle.am_yaml.proofs.spelling.Spelling.anchor.Goals as goal

pub returns : goal.returns
returns c = λ from before.
    rw (c.behind.ensures, c.in_ok-name.ensures.1) (anchor _ _ _ _ (rw c.in-None.is at before) c.in_ok-gap.ensures c.in_ok-name.ensures.0)
