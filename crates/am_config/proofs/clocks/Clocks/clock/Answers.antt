use Rattle.std.proofs.Common.{◌≡◌, ◌∙◌, List, Some, ap, find, subst, sym}
use Rattle.std.specs.Str.{bytes_eq}
use Rattle.am_hours.specs.Pieces.{ClockData}
use Rattle.am_config.proofs.Timed.{made_clock}
use Rattle.am_config.specs.Times.{IsClockAt}
use Rattle.am_config.specs.declared.clocks.NamedClock.{NamedClock}
use Rattle.am_config.specs.declared.hours.Hours.{Hours}
use Rattle.am_config.proofs.clocks.Clocks.clock.Goals as goal

pub returns-in-Some-clause-clock : goal.returns-in-Some-clause-clock
returns-in-Some-clause-clock c =
    let location = c.args.location.now in
    let hours : Hours = c.self.inside.hours.now in
    let made : List NamedClock = c.self.inside.made.items in
    let known : NamedClock = c.in-Some.made.now in
    let test = λ (m : NamedClock). bytes_eq m.location location in
    let found : find test made ≡ Some known = ap (find test) (sym c.deref.ensures.value) ∙ sym c.in-Some.ensures in
    let at : IsClockAt hours location known.clock.pieces = made_clock hours made location known found c.self.invariant in
    subst (λ (k : ClockData). IsClockAt c.args.self.now location k.pieces) (sym c.in_ok-share.ensures)
    (subst (λ (h : Hours). IsClockAt h location known.clock.pieces) c.self.view_is at)
