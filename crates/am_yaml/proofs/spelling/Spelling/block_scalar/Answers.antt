use Rattle.std.proofs.Common.{◌∙◌, sym}
use Rattle.am_yaml.specs.Spelling.{block}
use Rattle.am_yaml.proofs.Views.{view_string}
use Rattle.am_yaml.proofs.spelling.Spelling.block_scalar.Goals as goal

pub returns : goal.returns
returns c = λ anchors.
    rw view_string
    (block _ _ _ _ _ _ _ _ c.in_ok-reach.ensures (sym c.is_flow.ensures ∙ c.if-is_flow.false) (rw c.floor_of.ensures at c.in_ok-text.ensures))
