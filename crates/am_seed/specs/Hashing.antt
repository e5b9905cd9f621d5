-- The seed of a number, and what a hasher of a seed computes.
use Rattle.std.specs.Prelude.{ℕ, zero, suc, ◌+◌, ◌-◌, ◌*◌, ◌/◌, ◌%◌, ◌^◌, ◌<◌, ◌≡◌, List, ◌++◌, length, if◌then◌else◌, nat_le, bit_xor}
use Rattle.std.specs.Hash as fed
use Rattle.std.specs.Hash.DefaultHasher as sip
use Rattle.std.specs.Hash.FoldHasher.{folded_multiply, read_u64, read_short}
use Rattle.std.specs.Int.{w64, rotate_left}
use Rattle.std.specs.List.{fold}
use Rattle.am_seed.specs.declared.hasher.SeededHasher.{SeededHasher}
use Rattle.am_seed.specs.declared.seed.Seed.{Seed}

-- one of the words of a number's seed: SipHash, with both keys 0, of the number and of the word's index
unfoldable pub word : ℕ → ℕ → ℕ
word number index = sip.finish (fold sip.write sip.initial (fed.u64 number ++ fed.u8 index))

-- the seed of a number
abbrev pub seed_of : ℕ → Seed
seed_of number = record { start = word number 0; factor = word number 1 }

-- a seed is that of some number of 64 bits
abbrev pub IsOfNumber : Seed → Type 0
IsOfNumber seed = (number : ℕ) × (number < 2 ^ 64) × (seed ≡ seed_of number)

-- the hasher of a seed
abbrev pub opening : Seed → SeededHasher
opening seed = record { state = seed.start; factor = seed.factor }

-- the state after the words at i and at j
abbrev pub mix : List ℕ → ℕ → ℕ → ℕ → ℕ → ℕ
mix bytes factor state i j = folded_multiply (bit_xor (read_u64 bytes i) state) (bit_xor (read_u64 bytes j) factor)

-- the state after the first n blocks of 16 bytes
unfoldable pub mix_blocks : List ℕ → ℕ → ℕ → ℕ → ℕ
mix_blocks bytes factor state zero = state
mix_blocks bytes factor state (suc n) = mix bytes factor (mix_blocks bytes factor state n) (16 * n) (16 * n + 8)

-- the state before the bytes: their number turns it
abbrev pub turned : SeededHasher → ℕ → ℕ
turned h n = rotate_left w64 h.state (n % 64)

-- the state after `write(bytes)`
unfoldable pub write : SeededHasher → List ℕ → SeededHasher
write h bytes =
    let n = length bytes in
    let short = folded_multiply (bit_xor (read_short bytes) (turned h n)) h.factor in
    let long = mix bytes h.factor (mix_blocks bytes h.factor (turned h n) ((n - 1) / 16)) (n - 16) (n - 8) in
    record { state = if nat_le n 8 then short else long; factor = h.factor }

-- what `finish` returns
abbrev pub finish : SeededHasher → ℕ
finish h = h.state
