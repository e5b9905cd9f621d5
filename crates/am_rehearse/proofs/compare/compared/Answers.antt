use Rattle.std.proofs.Common.{string_bytes}
use Rattle.serde_json.specs.View.{view}
use Rattle.am_rehearse.proofs.Comparisons.{compared_by}
use Rattle.am_rehearse.proofs.compare.compared.Goals as goal

pub returns-in-Ok-clause-compares : goal.returns-in-Ok-clause-compares
returns-in-Ok-clause-compares g c =
    compared_by c.args.overrides (view c.args.files.story.now.value) (view c.args.files.old.now.value)
    (view c.args.files.new.now.value) c.in_ok-old.old c.in_ok-new.new c.in-Ok.compared.differs
    (string_bytes c.in-Ok.compared.text) c.in_ok-old.ensures.played c.in_ok-new.ensures.played c.in-Ok.ensures
