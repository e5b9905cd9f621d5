use Rattle.std.proofs.Common.{List, length, ◌∙◌, ap}
use Rattle.am_model.specs.declared.record.Record.{Record}
use Rattle.am_desk.proofs.Archives.{archive_length}
use Rattle.am_desk.proofs.archive.Archive.taken.Goals as goal

pub returns : goal.returns
returns g c = archive_length _ _ _ c.self.invariant.2 ∙ ap (λ (l : List Record). length l) c.self.view_is
