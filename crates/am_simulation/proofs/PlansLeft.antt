-- The plans that are left are the last of those that were planned.
use Rattle.std.proofs.Common.{◌≡◌, ℕ, zero, suc, List, [], ◌∷◌, ◌++◌, Option, Some, None, refl, sym, ap, ◌∙◌, append_assoc}
use Rattle.std.specs.Prelude.{slice_get}
use Rattle.std.specs.Option.{IsSomeAnd}
use Rattle.am_board.specs.History.{state_at}
use Rattle.am_model.specs.Begin.{begun}
use Rattle.am_model.specs.State.{time}
use Rattle.am_model.specs.declared.fault.Fault.{Fault}
use Rattle.am_model.specs.declared.fault.Fault.TheVariants as fault
use Rattle.am_model.specs.declared.record.Reply.{Reply}
use Rattle.am_model.specs.declared.record.Reply.TheVariants as reply
use Rattle.am_simulation.specs.Next.{next}
use Rattle.am_simulation.specs.Play.{LeadsIn}
use Rattle.am_simulation.specs.Scene.{Scene, SendingData, Setting}
use Rattle.am_simulation.specs.Steps.{IsBegun, IsDone, IsPlanDone, IsReplied, Steps, after_end, after_finish}
use Rattle.am_simulation.specs.Taking.{cause_of_none}
use Rattle.am_simulation.specs.declared.next.End.{End}
use Rattle.am_simulation.specs.declared.next.Next.{Next}
use Rattle.am_simulation.specs.declared.next.Step.{Step}
use Rattle.am_simulation.specs.declared.next.Step.TheVariants as step
use Rattle.am_simulation.proofs.Keeping.{from_some}
use Rattle.am_terms.specs.declared.rehearsal.TimedAction.{TimedAction}

-- the second list is the first without some plans in front
abbrev pub IsRestOf : List TimedAction → List TimedAction → Type 0
IsRestOf plans left = (done : List TimedAction) × (plans ≡ done ++ left)

module _ (r : Setting) where
  module _ (c d : Scene) where
    abbrev Leaves : Type 0
    Leaves = IsRestOf c.plans d.plans

    -- a scene with the same plans
    same_plans : (x : Scene) → d ≡ x → c.plans ≡ x.plans → Leaves
    same_plans x is same = ([], same ∙ sym (ap (λ (s : Scene). s.plans) is))

    ended : (position index : ℕ) → IsDone r c 0 d (step.End position index) → Leaves
    ended position index done =
        from_some (slice_get c.sendings position) (λ s. IsSomeAnd (slice_get s.ends index) (λ e. d ≡ after_end c position s index e)) Leaves
        (λ (s : SendingData). from_some (slice_get s.ends index) (λ e. d ≡ after_end c position s index e) Leaves
        (λ (e : End) is. same_plans (after_end c position s index e) is refl)) done

    finished : (position : ℕ) → IsDone r c 0 d (step.Finish position) → Leaves
    finished position done =
        from_some (slice_get c.sendings position) (λ s. d ≡ after_finish c position s) Leaves
        (λ (s : SendingData) is. same_plans (after_finish c position s) is refl) done

    acted : (ps : List TimedAction) → c.plans ≡ ps → IsPlanDone c d ps → Leaves
    acted [] left done = absurd done
    acted (p ∷ ps) left done = (p ∷ [], left ∙ ap (λ (l : List TimedAction). p ∷ l) (sym (ap (λ (s : Scene). s.plans) done.1)))

    replied : (at : ℕ) (returned : Reply) → IsReplied r c at d returned → Leaves
    replied at reply.NothingDue is = same_plans _ is refl
    replied at (reply.Quiet group removed) is = same_plans _ is refl
    replied at (reply.Flush group opened) sent = same_plans _ sent.4 refl
    replied at (reply.Inserted inserted) is = absurd is
    replied at (reply.Silenced silenced) is = absurd is
    replied at (reply.Finished finished) is = absurd is
    replied at (reply.Maintained maintained) is = absurd is
    replied at (reply.EmptyGroupsRemoved removed) is = absurd is
    replied at (reply.Forgotten forgotten) is = absurd is
    replied at (reply.Loaded loaded) is = absurd is
    replied at reply.Noted is = absurd is

    begun_by : (at : ℕ) (cause : Option Fault) → IsBegun r c at d cause → Leaves
    begun_by at None is = replied at (begun c.board.config c.board.id (state_at c.board) (time (state_at c.board) at)) is
    begun_by at (Some fault.TooManyOpen) is = same_plans _ is refl
    begun_by at (Some fault.NoMemory) is = absurd is
    begun_by at (Some fault.TooManyAlerts) is = absurd is
    begun_by at (Some fault.TooManyGroups) is = absurd is
    begun_by at (Some fault.TooManySilences) is = absurd is
    begun_by at (Some fault.HistoryFull) is = absurd is

    done_leaves : (at : ℕ) (what : Step) → IsDone r c at d what → Leaves
    done_leaves at (step.End position index) done = ended position index done
    done_leaves at (step.Finish position) done = finished position done
    done_leaves at step.Plan done = acted c.plans refl done
    done_leaves at step.Maintenance is = same_plans _ is refl
    done_leaves at step.Removal is = same_plans _ is refl
    done_leaves at step.Begin done = begun_by at (cause_of_none c.board at) done

    step_leaves : Steps r c d → Leaves
    unfolding Steps
    step_leaves steps = from_some (next r c) (λ n. IsDone r c n.at d n.what) Leaves (λ (n : Next) done. done_leaves n.at n.what done) steps

  -- the plans that are left after some steps
  pub plans_left : (k : ℕ) (c d : Scene) → LeadsIn r k c d → IsRestOf c.plans d.plans
  plans_left zero c d same = ([], ap (λ (s : Scene). s.plans) same)
  plans_left (suc k) c d led =
      let before = plans_left k c led.0 led.1 in
      let last = step_leaves led.0 d led.2 in (
        before.0 ++ last.0,
        before.1 ∙ (ap (λ (l : List TimedAction). before.0 ++ l) last.1 ∙ sym (append_assoc before.0 last.0 d.plans)),
      )
