-- What the answer leaves is what the definition says, and so the laws of the definitions hold of it.
use Rattle.std.proofs.Common.{rules, ◌≡◌, ℕ, ◌+◌, ◌<◌, [], ◌∷◌, ◌++◌, sym, subst, ap, ◌∙◌, arith}
use Rattle.am_retry.specs.declared.retry.Step.{Step}
use Rattle.am_retry.specs.declared.retry.Step.TheVariants.{Attempt}
use Rattle.am_retry.specs.Attempts.{Response}
use Rattle.am_retry.specs.Progress.{Progress, IsDue, time_left, IsAfterResponses}
use Rattle.std.proofs.Common.{◌≤◌, ◌*◌, ◌/◌, min}
use Rattle.std.proofs.Math.Numerals.{suc-eq-add-one}
use Rattle.am_retry.specs.Attempts.{latest, wait_of}
use Rattle.am_retry.proofs.Waits.{wait_of-least}
use Rattle.am_retry.proofs.Steps.{holds_more, time_left-answered, next_is_due}
use Rattle.am_retry.proofs.Tries.{tries_more}
use Rattle.am_retry.proofs.retry.Retry.answer.Goals as goal
use Rattle.am_retry.proofs.retry.Retry.answer.Goals.{in-Done, in-Never, in-Again}

pub invariant_of-self : goal.invariant_of-self
invariant_of-self c =
    let r = c.self.inside in
    let was : (c.in-Attempt.at < r.deadline) × (500 * r.attempts ≤ c.in-Attempt.at) =
    subst (λ (s : Step). IsDue s r.deadline r.attempts) c.in-Attempt.is c.self.invariant.4 in
    let least = wait_of-least r.attempts in
    let deadline_is : r.deadline ≤ latest = c.self.invariant.1 in
    let wait_is : r.wait ≡ wait_of r.attempts = c.self.invariant.0 in (
      c.next_wait-self-inside.ensures ∙ ap (λ (w : ℕ). min (3 * w / 2) 60_000) wait_is ∙ ap wait_of (suc-eq-add-one r.attempts),
      deadline_is,
      omega arith,
      omega arith,
      elim c.match-answer.branch [
        | in-Done w ↦ subst (λ (s : Step). IsDue s r.deadline (r.attempts + 1)) (sym w.self-is) tt
        | in-Never w ↦ subst (λ (s : Step). IsDue s r.deadline (r.attempts + 1)) (sym w.self-is) tt
        | in-Again w ↦
            subst (λ (s : Step). IsDue s r.deadline (r.attempts + 1)) (sym (w.self-is ∙ w.due_step-self-inside.ensures))
            (next_is_due _ r.deadline (r.attempts + 1) (omega arith))
      ],
    )

pub returns-clause-value : goal.returns-clause-value
returns-clause-value c = search rules

pub returns-clause-holds : goal.returns-clause-holds
returns-clause-holds c start deadline at responses is holds =
    let t : Response = record { answer = c.args.answer; ended = c.args.ended } in
    subst (λ (p : Progress). IsAfterResponses start deadline (responses ++ t ∷ []) p) (sym (returns-clause-value c))
    (holds_more start deadline at responses c.args.self.now c.args.answer c.args.ended is holds)

pub returns-clause-tries : goal.returns-clause-tries
returns-clause-tries c start deadline at responses is holds =
    tries_more start deadline at responses c.args.self.now c.args.answer c.args.ended is holds

pub returns-clause-sooner : goal.returns-clause-sooner
returns-clause-sooner c at is =
    let r = c.self.inside in
    let now : r.step ≡ Attempt at = ap (λ (p : Progress). p.step) c.self.view_is ∙ is in
    let due_at : IsDue (Attempt at) r.deadline r.attempts = subst (λ (s : Step). IsDue s r.deadline r.attempts) now c.self.invariant.4 in
    let deadline_is : r.deadline ≡ c.args.self.now.deadline = ap (λ (p : Progress). p.deadline) c.self.view_is in
    let before : at < c.args.self.now.deadline = omega (arith, due_at.0) in
    subst (λ (p : Progress). time_left p < time_left c.args.self.now) (sym (returns-clause-value c))
    (time_left-answered c.args.self.now at c.args.answer c.args.ended is before)
