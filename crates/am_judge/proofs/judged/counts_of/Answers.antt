use Rattle.std.proofs.Common.{arith, ◌≤◌, ◌++◌, ◌∷◌, [], ℕ, List}
use Rattle.std.specs.Prelude.{IsTrue, nat_le}
use Rattle.std.specs.List.{list_all}
use Rattle.std.proofs.lemmas.List.Folds.{list_all-append}
use Rattle.std.proofs.lemmas.Grind.{common_steps}
use Rattle.am_judge.proofs.judged.counts_of.Goals as goal

-- one count more
few_more : (most n : ℕ) (ns : List ℕ) → IsTrue (list_all (λ m. nat_le m most) ns) → n ≤ most → IsTrue (list_all (λ m. nat_le m most) (ns ++ n ∷ []))
few_more most n ns few fits = rw (list_all-append (λ m. nat_le m most) ns (n ∷ [])) (grind (arith, few, fits))

pub loop-expectation-preserved : goal.loop-expectation-preserved
loop-expectation-preserved c = record {
  counted = grind (arith, common_steps);
  few = grind (arith, common_steps, few_more);
}
