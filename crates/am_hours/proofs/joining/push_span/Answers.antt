use Rattle.std.proofs.Common.{◌≡◌, [], ◌∷◌, ◌++◌, refl, arith}
use Rattle.std.proofs.lemmas.Grind.{common_steps}
use Rattle.am_alerts.specs.declared.spans.Span.{Span}
use Rattle.am_hours.proofs.Apart.{apart-longer, apart-more}
use Rattle.am_hours.proofs.joining.push_span.Goals as goal

pub returns-in_ok-push-in-Some-clause-apart : goal.returns-in_ok-push-in-Some-clause-apart
returns-in_ok-push-in-Some-clause-apart c =
    let xs = c.pop.new.self.items in
    let last = c.in-Some.last in
    let joined : Span = record { from = last.from; to = c.max-to.result } in
    let old : c.args.spans.now.items ≡ xs ++ last ∷ [] = grind (arith, common_steps) in
    let new : c.push-then-span-last.new.self.items ≡ xs ++ joined ∷ [] = grind (arith, common_steps) in
    rw new (apart-longer xs last joined refl (omega arith) (rw old at c.requires.apart))

pub returns-in_ok-push_within-in-Some-clause-apart : goal.returns-in_ok-push_within-in-Some-clause-apart
returns-in_ok-push_within-in-Some-clause-apart c =
    let xs = c.pop.new.self.items in
    let last = c.in-Some.last in
    let old : c.args.spans.now.items ≡ xs ++ last ∷ [] = grind (arith, common_steps) in
    let new : c.push_within.new.spans.items ≡ (xs ++ last ∷ []) ++ c.args.span ∷ [] = grind (arith, common_steps) in
    rw new (apart-more xs last c.args.span (omega arith) (omega arith) (rw old at c.requires.apart))
