-- Scripts determine the reports on what is sent.
use Rattle.std.proofs.Common.{ℕ, [], ◌∷◌, refl}
use Rattle.am_pool.proofs.Determined.{same_report}
use Rattle.am_run.specs.Laws.{ScriptsDetermineReports}
use Rattle.am_scenario.specs.Scripts.{planned_for, sent_at}

pub reports_are_determined : ScriptsDetermineReports
reports_are_determined scripts start [] [] [] a b = refl
reports_are_determined scripts start [] [] (y ∷ ys) a b = absurd b
reports_are_determined scripts start [] (x ∷ xs) ys a b = absurd a
reports_are_determined scripts start (n ∷ ns) [] ys a b = absurd a
reports_are_determined scripts start (n ∷ ns) (x ∷ xs) [] a b = absurd b
reports_are_determined scripts start (n ∷ ns) (x ∷ xs) (y ∷ ys) a b =
    let same = same_report (λ (ticket integration k at : ℕ). sent_at at (planned_for scripts ticket integration k)) start n x y a.0 b.0 in
    let rest = reports_are_determined scripts start ns xs ys a.1 b.1 in
    λ i. same i ∷ rest i
