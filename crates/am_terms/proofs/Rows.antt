-- The worked rows: the definitions, run on them.
use Rattle.std.proofs.Common.{refl}
use Rattle.std.specs.Fmt.{digits}
use Rattle.am_terms.specs.UtcDates.{day_text, instant_text}
use Rattle.am_terms.specs.TimeFormatData.{counted_text}
use Rattle.am_terms.specs.Rows.{TimesAreCounted, TimesAreDated}

pub times_are_counted : TimesAreCounted
unfolding digits counted_text
times_are_counted = (refl, refl, refl, refl, refl)

pub times_are_dated : TimesAreDated
unfolding digits instant_text day_text counted_text
times_are_dated = (refl, refl, refl, refl, refl)
