use Rattle.std.proofs.Common.{◌≡◌, false, take}
use Rattle.std.specs.List.{list_any}
use Rattle.am_model.specs.Carry.{is_led_to}
use Rattle.am_simulation.proofs.playing.one_is_led_to.Given as goal

-- none so far
abbrev pub invariant-loop-row : goal.invariant-loop-row
invariant-loop-row l = list_any (is_led_to l.config) (take l.row-index l.rows) ≡ false
