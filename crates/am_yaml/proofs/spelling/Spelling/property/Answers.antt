use Rattle.am_yaml.specs.Spelling.{tag}
use Rattle.am_yaml.proofs.spelling.Spelling.property.Goals as goal

pub returns-else-before : goal.returns-else-before
returns-else-before c = λ from before.
    rw c.behind.ensures (tag _ _ _ _ (rw c.if-before.false at before) c.in_ok-gap-in-Tag.ensures c.in_ok-tag-in-Tag.ensures)
