use Rattle.std.proofs.Common.{sym, ◌∙◌}
use Rattle.am_commands.proofs.LabelWriting.{no_parts}
use Rattle.am_commands.proofs.label_words.parts_of_label.Goals as goal

pub returns : goal.returns
returns c = no_parts c.in_ok-parts.parts _ _ (sym c.is_some.ensures ∙ c.if-is_some.false) c.in_ok-parts.ensures
