use Rattle.std.proofs.Common.{◌≡◌, ◌<◌, ℕ, true, [], codes, map, slice_index_or}
use Rattle.am_commands.proofs.once.accept_inputs.Given as goal

-- standard input was one of the files so far, if it is taken
abbrev pub invariant-loop-file : goal.invariant-loop-file
invariant-loop-file g l =
    l.is_taken ≡ true → (first : ℕ) × (first < l.file-index) × (slice_index_or (map (λ file. file.now) l.files) first [] ≡ codes "-")
