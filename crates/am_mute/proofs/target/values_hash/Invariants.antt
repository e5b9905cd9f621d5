use Rattle.std.proofs.Common.{◌≡◌, fold, take}
use Rattle.std.specs.Hash.{str}
use Rattle.am_alerts.specs.Labels.{value_of}
use Rattle.am_seed.specs.Hashing.{opening, write}
use Rattle.am_mute.proofs.target.values_hash.Given as goal

-- the values of the names so far were written
abbrev pub invariant-loop-name : goal.invariant-loop-name
invariant-loop-name l = l.hasher ≡ fold (λ hasher name. fold write hasher (str (value_of name l.labels))) (opening l.fn.seed)
    (take l.name-index l.names)
