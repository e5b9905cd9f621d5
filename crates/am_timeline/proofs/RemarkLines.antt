-- The lines of remarks, with those of one more before them.
use Rattle.std.proofs.Common.{◌≡◌, ◌++◌, [], ℕ, List, Option, Some, None, refl}
use Rattle.std.specs.List.{flat_map}
use Rattle.std.specs.Option.{option_map_or}
use Rattle.am_timeline.specs.declared.remark.Remark.{Remark}
use Rattle.am_timeline.specs.Timeline.{before}

pub lines_before : (line : Remark → List ℕ) (o : Option Remark) (remarks : List Remark)
    → flat_map line (before o remarks) ≡ option_map_or line o [] ++ flat_map line remarks
lines_before line None remarks = refl
lines_before line (Some remark) remarks = refl
