use Rattle.std.proofs.Common.{ℕ, subst, sym}
use Rattle.std.specs.Prelude.{IsTrue}
use Rattle.jiff.specs.Words.{plain_zone}
use Rattle.am_hours.specs.Pieces.{ClockData, are_in_row}
use Rattle.am_config.specs.Times.{IsClockOf}
use Rattle.am_config.proofs.hours.Hours.clock_of.Goals as goal

pub returns-in-Ok : goal.returns-in-Ok
returns-in-Ok c =
    let clock = c.in-Ok.clock in
    let of : IsClockOf c.args.self.now c.args.zone.now clock.pieces = record {
      given = plain_zone c.time_zone.result;
      is = c.time_zone.ensures;
      are = c.in-Ok.ensures.pieces;
      row = subst (λ (h : ℕ). IsTrue (are_in_row 0 clock.pieces h)) c.in-Ok.ensures.horizon c.in_row.ensures.row;
    } in
    subst (λ (k : ClockData). IsClockOf c.args.self.now c.args.zone.now k.pieces) (sym c.in_row.ensures.same) of
