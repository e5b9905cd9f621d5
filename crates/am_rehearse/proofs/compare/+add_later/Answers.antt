use Rattle.std.proofs.Common.{arith, ◌≡◌, ◌++◌, List, string_bytes, subst, sym}
use Rattle.std.proofs.lemmas.Grind.{common_steps}
use Rattle.am_simulation.specs.declared.playing.PlayedPart.{PlayedPart}
use Rattle.am_rehearse.specs.Compared.{later_text}
use Rattle.am_rehearse.proofs.Comparisons.{later_added, none_left, one_left}
use Rattle.am_rehearse.proofs.compare.+add_later.Goals as goal

pub returns-else-first-clause-text : goal.returns-else-first-clause-text
returns-else-first-clause-text g t c =
    let times = g.C.TimeFormat.times c.args.clock.now in
    let before = string_bytes c.args.text.now in
    let text = string_bytes c.add_later.new.text in
    λ same.
    subst (λ (old : List PlayedPart). text ≡ before ++ later_text times c.args.changes.now old) (sym c.in-Some-Some.ensures.cases.0)
    (later_added times c.args.changes.now c.in_ok-changes-in-Some-Some.changes.now c.in-Some-Some.old_part.now c.in-Some-Some.old.now before
    (string_bytes c.push_first_change.new.text) (string_bytes c.add_part.new.text) text c.in_ok-changes-in-Some-Some.ensures
    (c.in_ok-first-in-Some-Some.ensures.text c.if-first.false) (c.in_ok-later-in-Some-Some.ensures.text same))

pub returns-in-None-None-clause-same : goal.returns-in-None-None-clause-same
returns-in-None-None-clause-same g t c =
    none_left c.args.old.now c.args.new.now c.in-None-None.ensures.cases c.in-None-None.ensures'.cases

pub returns-in-None-None-clause-text : goal.returns-in-None-None-clause-text
returns-in-None-None-clause-text g t c = grind (arith, common_steps)

pub returns-in_default-2-clause-same : goal.returns-in_default-2-clause-same
returns-in_default-2-clause-same g t c =
    one_left c.args.old.now c.args.new.now c.in_default.field-0-1.0.now c.in_default.field-0-1.1.now c.in_default.ensures.cases
    c.in_default.ensures'.cases.0
