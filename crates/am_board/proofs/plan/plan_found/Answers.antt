use Rattle.std.proofs.Common.{◌≡◌, ◌∙◌, length, map, sym, ap, subst, arith, rules}
use Rattle.std.proofs.lemmas.Bool.Decides.{nat_tests}
use Rattle.am_board.specs.Beginning.{AreRising, IsUnmuted, update_of}
use Rattle.am_board.specs.Look.{state_seen}
use Rattle.am_board.specs.Refinement.{group_state}
use Rattle.am_board.proofs.lemmas.begin.Updates.{no-updates}
use Rattle.am_board.proofs.plan.plan_found.Goals as goal

pub returns-then-is_empty : goal.returns-then-is_empty
returns-then-is_empty c =
    let none : length c.as_slice-notified.result.now ≡ 0 = grind (arith, nat_tests, c.is_empty.ensures, c.if-is_empty.true) in
    no-updates _ (sym (ap length (c.as_slice-notified.ensures.value ∙ c.requires.found.notified)) ∙ none)

pub returns : goal.returns
returns c = (
  λ none. let empty : length c.as_slice-notified.result.now ≡ 0 = ap length (c.as_slice-notified.ensures.value ∙ c.requires.found.notified ∙ ap (map update_of) none) in grind (arith, nat_tests, c.is_empty.ensures, c.if-is_empty.false),
  search rules,
  c.in_ok-planned.ensures,
)

pub open-requires-clause-rising : goal.open-requires-clause-rising
open-requires-clause-rising c = subst AreRising (sym c.in_ok-copies.ensures) c.requires.found.rising

pub open-requires-clause-unmuted : goal.open-requires-clause-unmuted
open-requires-clause-unmuted c =
    let look = c.args.look.now in
    subst (IsUnmuted look.config.now (state_seen look) look.t (group_state c.args.group.now)) (sym c.in_ok-copies.ensures) c.requires.found.unmuted

pub open-requires-clause-notified : goal.open-requires-clause-notified
open-requires-clause-notified c = c.as_slice-notified.ensures.value ∙ c.requires.found.notified
