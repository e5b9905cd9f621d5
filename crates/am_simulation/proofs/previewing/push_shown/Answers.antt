use Rattle.std.proofs.Common.{◌∙◌, ap, length}
use Rattle.std.proofs.lemmas.List.{length-append}
use Rattle.am_simulation.proofs.Happening.{begun_more}
use Rattle.am_simulation.proofs.previewing.push_shown.Goals as goal

pub returns-in_default-Some-clause-begun : goal.returns-in_default-Some-clause-begun
returns-in_default-Some-clause-begun c =
    begun_more _ _ _ _ _ c.push_reserved.ensures.items c.len.ensures (ap length c.push.ensures ∙ length-append _ _) c.requires.begun
