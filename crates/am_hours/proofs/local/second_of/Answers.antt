use Rattle.std.proofs.Common.{◌≡◌, ◌-ℤ◌, Ok, ap, ◌∙◌, to_z, of_z, w64, arith}
use Rattle.std.proofs.lemmas.Int.{ints, to_z-of_z}
use Rattle.jiff.specs.Words.{plain_zone}
use Rattle.am_hours.specs.Clocks.{offset_in}
use Rattle.am_hours.proofs.Seconds.{second_of-made}
use Rattle.am_hours.proofs.local.second_of.Goals as goal

pub returns-clause-value : goal.returns-clause-value
returns-clause-value c =
    let zone = plain_zone c.args.zone in
    let local = c.args.local in
    let guess = c.in_ok-guess.field-0 in
    let offset = c.in_ok-offset_in.field-0 in
    let first : Ok guess ≡ offset_in zone local = c.in_ok-guess.ensures.value ∙ ap (offset_in zone) (to_z-of_z w64 local c.ranges.local) in
    let turned : to_z w64 (of_z w64 (to_z w64 (of_z w64 local) -ℤ to_z w64 (of_z w64 guess))) ≡ local -ℤ guess =
    omega (arith, ints, c.in_ok-guess.ensures.near, c.in_ok-guess.ensures.second) in
    let last : to_z w64 (of_z w64 (to_z w64 (of_z w64 local) -ℤ to_z w64 (of_z w64 offset))) ≡ local -ℤ offset =
    omega (arith, ints, c.in_ok-guess.ensures.second, c.in_ok-offset_in.ensures.near) in
    let second : Ok offset ≡ offset_in zone (local -ℤ guess) =
    c.in_ok-offset_in.ensures.value ∙ ap (offset_in zone) turned in
    ap Ok last ∙ second_of-made zone local guess offset first second
