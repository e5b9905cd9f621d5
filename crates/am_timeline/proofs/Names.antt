-- Positions of integrations by their names.
use Rattle.std.proofs.Common.{◌≡◌, ◌∙◌, ap, sym, ℕ, ◌<◌, List, length, lt-ltb, nat_lt, Some, None, if◌then◌else◌}
use Rattle.am_model.specs.declared.config.Integration.{Integration}
use Rattle.am_model.specs.Carry.{index_at, position_of, moved_to}
use Rattle.am_model.specs.Config.{kind_at}
use Rattle.am_model.proofs.configuration.Carried.{own-index}
use Rattle.am_timeline.specs.IntegrationName.{NamesFindPositions}

pub names_find_positions : NamesFindPositions
names_find_positions xs p l =
    sym (ap (λ b. if b then position_of (kind_at xs p) (index_at xs p) 0 xs else None) (lt-ltb p (length xs) l)) ∙ own-index xs p l
