use Rattle.std.proofs.Common.{◌≡◌, ◌-◌, drop, length}
use Rattle.am_model.specs.Receivers.{ArePlaced, has_receiver_twice}
use Rattle.am_model.proofs.config.receivers.Receivers.new.Given as goal

-- the receivers from here on are placed, and it is known whether they have a name twice
abbrev pub invariant-loop-i : goal.invariant-loop-i
invariant-loop-i l = record {
  placed : ArePlaced (length l.list.items - l.i) (drop (length l.list.items - l.i) l.list.items) l.places;
  known : l.twice ≡ has_receiver_twice (drop (length l.list.items - l.i) l.list.items);
}
