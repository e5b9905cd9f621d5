use Rattle.std.proofs.Common.{◌≡◌, ◌<◌, ◌+◌, ◌-◌, ◌/◌, ◌∙◌, ℕ, length, arith, ap, sym}
use Rattle.am_model.specs.Ticket.{TicketData}
use Rattle.am_session.proofs.Rising.{found-first, found-none, lowered, middle-within, raised}
use Rattle.am_session.proofs.ticket.find_by_halves.Goals as goal

pub returns-then-found-number-clause-first : goal.returns-then-found-number-clause-first
returns-then-found-number-clause-first c =
    let middle : ℕ = c.loop-low.low + (c.loop-low.high - c.loop-low.low) / 2 in
    let within : middle < length c.args.tickets.now.items = omega (arith, middle-within c.loop-low.low c.loop-low.high c.loop-low-test.true, c.loop-low.invariant.within) in
    sym (found-first (λ (t : TicketData). t.number) c.args.number c.args.tickets.now.items middle c.index.result.now c.requires within
    (sym (ap (λ (t : TicketData). t.number) c.index.ensures) ∙ sym c.number_of-found.ensures ∙ c.if-found-number.true))

pub loop-low-preserved-then-found-number-2 : goal.loop-low-preserved-then-found-number-2
loop-low-preserved-then-found-number-2 c =
    let middle : ℕ = c.loop-low.low + (c.loop-low.high - c.loop-low.low) / 2 in
    let within : middle < length c.args.tickets.now.items = omega (arith, middle-within c.loop-low.low c.loop-low.high c.loop-low-test.true, c.loop-low.invariant.within) in
    let is = sym (ap (λ (t : TicketData). t.number) c.index.ensures) ∙ sym c.number_of-found.ensures in
    record {
      within = c.loop-low.invariant.within;
      below = raised (λ (t : TicketData). t.number) c.args.number c.args.tickets.now.items middle c.index.result.now c.requires within (omega (arith, is, c.if-found-number-2.true));
      above = c.loop-low.invariant.above;
    }

pub loop-low-preserved : goal.loop-low-preserved
loop-low-preserved c =
    let middle : ℕ = c.loop-low.low + (c.loop-low.high - c.loop-low.low) / 2 in
    let within : middle < length c.args.tickets.now.items = omega (arith, middle-within c.loop-low.low c.loop-low.high c.loop-low-test.true, c.loop-low.invariant.within) in
    let is = sym (ap (λ (t : TicketData). t.number) c.index.ensures) ∙ sym c.number_of-found.ensures in
    let other : c.number_of-found.result ≡ c.args.number → ⊥ = c.if-found-number.false in
    record {
      within = omega (arith, middle-within c.loop-low.low c.loop-low.high c.loop-low-test.true, c.loop-low.invariant.within);
      below = c.loop-low.invariant.below;
      above = lowered (λ (t : TicketData). t.number) c.args.number c.args.tickets.now.items middle c.index.result.now c.requires within (omega (arith, is, c.if-found-number-2.false, other));
    }

pub returns-clause-first : goal.returns-clause-first
returns-clause-first c = found-none (λ (t : TicketData). t.number) c.args.number c.args.tickets.now.items c.loop-low.low c.loop-low.high (omega (arith, c.loop-low-test.false)) c.loop-low.invariant.below c.loop-low.invariant.above
