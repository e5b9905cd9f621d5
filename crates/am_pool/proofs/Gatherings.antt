-- Workers brought together, the last first.
use Rattle.std.proofs.Common.{◌≡◌, ℕ, ◌+◌, List, [], ◌∷◌, ◌++◌, set, refl, sym, ap, ◌∙◌, arith, append_assoc, append-nil}
use Rattle.am_model.specs.declared.notice.Report.{Report}
use Rattle.crossbeam_queue.specs.Passes.{view}
use Rattle.am_pool.specs.Dealt.{weigh}
use Rattle.am_pool.specs.Work.{Run}
use Rattle.am_pool.specs.Gathered.{placed, runs_back, parts_of, weigh_taken}
use Rattle.am_pool.specs.declared.worker.Worker.{Worker}

pub parts-snoc : (xs : List Worker) (s : Worker) → parts_of (xs ++ s ∷ []) ≡ parts_of xs + (view s.pass).parts
parts-snoc [] s = omega arith
parts-snoc (x ∷ xs) s = omega (arith, parts-snoc xs s)

pub taken-snoc : (h : ℕ → ℕ) (xs : List Worker) (s : Worker) → weigh_taken h (xs ++ s ∷ []) ≡ weigh_taken h xs + weigh h (view s.pass).taken
taken-snoc h [] s = omega arith
taken-snoc h (x ∷ xs) s = omega (arith, taken-snoc h xs s)

pub back-snoc : (xs : List Worker) (s : Worker) → runs_back (xs ++ s ∷ []) ≡ s.done.items ++ runs_back xs
back-snoc [] s = sym (append-nil s.done.items)
back-snoc (x ∷ xs) s = ap (λ (l : List Run). l ++ x.done.items) (back-snoc xs s) ∙ append_assoc s.done.items (runs_back xs) x.done.items

pub placed-append : (r : List Report) (xs ys : List Run) → placed r (xs ++ ys) ≡ placed (placed r xs) ys
placed-append r [] ys = refl
placed-append r (x ∷ xs) ys = placed-append (set r x.0 x.1) xs ys
