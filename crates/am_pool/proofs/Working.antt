-- What a worker did, one job more.
use Rattle.std.proofs.Common.{◌≡◌, ℕ, List, [], ◌∷◌, ◌++◌, refl, sym, ap, ◌∙◌, subst, append_assoc}
use Rattle.std.proofs.lemmas.List.{map-append}
use Rattle.am_pool.specs.declared.courier.Tried.{Tried}
use Rattle.am_pool.specs.declared.worker.Job.{Job}
use Rattle.am_pool.specs.Work.{Run, Ran, RanAll, numbers_of}

pub RanAll-snoc : (jobs : List Job) (runs : List Run) (run : Run)
    (t : List Tried) (r : ℕ) (t1 : List Tried) (r1 : ℕ) (t2 : List Tried) (r2 : ℕ)
    → RanAll jobs runs t r t1 r1 → Ran jobs run t1 r1 t2 r2 → RanAll jobs (runs ++ run ∷ []) t r t2 r2
RanAll-snoc jobs [] run t r t1 r1 t2 r2 all one =
    (t2, r2, subst (λ (x : List Tried × ℕ). Ran jobs run x.0 x.1 t2 r2) (λ i. (all.0 i, all.1 i)) one, (refl, refl))
RanAll-snoc jobs (x ∷ xs) run t r t1 r1 t2 r2 all one =
    (all.0, all.1, all.2, RanAll-snoc jobs xs run all.0 all.1 t1 r1 t2 r2 all.3 one)

pub numbers-more : (taken : List ℕ) (runs : List Run) (run : Run)
    → (taken ++ numbers_of runs) ++ run.0 ∷ [] ≡ taken ++ numbers_of (runs ++ run ∷ [])
numbers-more taken runs run =
    append_assoc taken (numbers_of runs) (run.0 ∷ [])
    ∙ ap (λ (l : List ℕ). taken ++ l) (sym (map-append (λ (x : Run). x.0) runs (run ∷ [])))
