-- The worked rows: the definitions, run on them.
use Rattle.std.proofs.Common.{refl}
use Rattle.std.specs.Char.{encode_utf8}
use Rattle.std.specs.Str.{chars}
use Rattle.am_timeline.specs.Rows.{TextsAreShown}

pub texts_are_shown : TextsAreShown
unfolding chars encode_utf8
texts_are_shown = (refl, refl, refl, refl)
