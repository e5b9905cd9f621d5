use Rattle.std.proofs.Common.{◌≡◌, ◌-◌, ◌/◌, ◌%◌, ◌<◌}
use Rattle.am_seed.specs.Hashing.{mix_blocks, turned}
use Rattle.am_seed.proofs.hasher.SeededHasherHasher.write.Given as goal

abbrev pub invariant-loop-at : goal.invariant-loop-at
invariant-loop-at l =
    (l.at % 16 ≡ 0) × (l.at < l.len) × (l.state ≡ mix_blocks l.bytes l.initial.self.factor (turned l.initial.self l.len) (l.at / 16))

abbrev pub decreases-loop-at : goal.decreases-loop-at
decreases-loop-at l = l.len - l.at
