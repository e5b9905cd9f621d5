-- What is set again at a change of the dispatcher, with one plan more in front.
use Rattle.std.proofs.Common.{◌≡◌, ℕ, suc, ◌-◌, ◌<◌, ◌≤◌, Bool, true, false, not, ◌&&◌, ◌||◌, List, [], ◌∷◌, ◌++◌, length, drop, get_or, reverse, if◌then◌else◌, refl, sym, ap, ◌∙◌, arith}
use Rattle.std.proofs.Math.Seq.{drop-cons}
use Rattle.std.proofs.lemmas.List.{reverse-append}
use Rattle.am_simulation.specs.DispatcherChange.{is_replaced, planned_at, replaces, set_again, still_counts}
use Rattle.am_simulation.specs.Seen.{SeesAll, is_seen}
use Rattle.am_simulation.specs.declared.dispatcher_change.Seen.{Seen}
use Rattle.am_terms.specs.declared.dispatcher_change.Carryover.{Carryover}
use Rattle.am_terms.specs.declared.rehearsal.Action.{Action}
use Rattle.am_terms.specs.declared.rehearsal.TimedAction.{TimedAction}

-- the plans from one index on
pub from_here : (plans : List TimedAction) (index : ℕ) (p : TimedAction) → 0 < index → index ≤ length plans → p ≡ get_or plans (index - 1) p
    → drop (index - 1) plans ≡ p ∷ drop index plans
from_here plans index p some within is =
    let next : suc (index - 1) ≡ index = omega (arith, some) in
    drop-cons plans (index - 1) p (omega (arith, some, within))
    ∙ ap (λ (x : TimedAction). x ∷ drop (suc (index - 1)) plans) (sym is)
    ∙ ap (λ (n : ℕ). p ∷ drop n plans) next

-- the action of a plan is seen too
pub sees_more : (p : TimedAction) (later : List TimedAction) (old new : Seen) → SeesAll later old
    → ((other : Action) → is_seen new other ≡ (replaces p.act other || is_seen old other)) → SeesAll (p ∷ later) new
sees_more p later old new all more act = more act ∙ ap (λ (b : Bool). replaces p.act act || b) (all act)

module _ (carryover : Carryover) (at : ℕ) (p : TimedAction) (later before : List TimedAction) where
  -- the plan as it is set again
  abbrev again : TimedAction
  again = planned_at at p.act

  -- a plan is the next that is set again, or isn't
  pub added_more : (seen : Bool) (after : List TimedAction) → seen ≡ is_replaced p.act later → before ≡ reverse (set_again carryover at later)
      → after ≡ (if not seen && still_counts carryover at p.act then before ++ again ∷ [] else before) → after ≡ reverse (set_again carryover at (p ∷ later))
  added_more seen after is was now =
      now
      ∙ ap (λ (b : Bool). if not b && still_counts carryover at p.act then before ++ again ∷ [] else before) is
      ∙ ap (λ (l : List TimedAction). if not (is_replaced p.act later) && still_counts carryover at p.act then l ++ again ∷ [] else l) was
      ∙ by (set_again carryover at later) (not (is_replaced p.act later) && still_counts carryover at p.act)
    where
      by : (rest : List TimedAction) (kept : Bool) → (if kept then reverse rest ++ again ∷ [] else reverse rest) ≡ reverse (if kept then again ∷ rest else rest)
      by rest true = sym (reverse-append (again ∷ []) rest)
      by rest false = refl
