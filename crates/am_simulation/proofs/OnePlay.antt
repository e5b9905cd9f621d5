-- A rehearsal has one play.
use Rattle.std.proofs.Common.{◌≡◌, ℕ, ◌+◌, zero, suc, List, [], ◌∷◌, length, Option, Some, None, refl, sym, ap, ◌∙◌, subst, arith}
use Rattle.std.specs.Prelude.{slice_get}
use Rattle.std.specs.Option.{IsSomeAnd}
use Rattle.am_board.specs.History.{state_at}
use Rattle.am_model.specs.Begin.{begun}
use Rattle.am_model.specs.State.{time}
use Rattle.am_model.specs.declared.fault.Fault.{Fault}
use Rattle.am_model.specs.declared.fault.Fault.TheVariants as fault
use Rattle.am_model.specs.declared.notice.Report.{Report}
use Rattle.am_model.specs.declared.record.Reply.{Reply}
use Rattle.am_model.specs.declared.record.Reply.TheVariants as reply
use Rattle.am_model.specs.Notice.{NoticeData}
use Rattle.am_model.specs.Ticket.{TicketData}
use Rattle.am_pool.proofs.Determined.{apart, same_report}
use Rattle.am_pool.specs.Sendings.{end_on}
use Rattle.am_pool.specs.declared.courier.Sent.{Sent}
use Rattle.am_simulation.specs.Answers.{AreEndsOf, IsEndOf, IsOutcome, tried_by}
use Rattle.am_simulation.specs.Laws.{RehearsalsHaveOnePlay}
use Rattle.am_simulation.specs.Next.{next}
use Rattle.am_simulation.specs.Play.{LeadsIn}
use Rattle.am_simulation.specs.Scene.{Scene, SendingData, Setting, opening_scene}
use Rattle.am_simulation.specs.Steps.{IsBegun, IsDone, IsPlanDone, IsReplied, IsSendingAdded, Steps, after_end, after_finish, after_taking, answers_for, ticket_of, with_sending}
use Rattle.am_simulation.specs.Taking.{cause_of_none}
use Rattle.am_simulation.specs.EventOrder.{begin_indices}
use Rattle.am_simulation.specs.declared.next.End.{End}
use Rattle.am_simulation.specs.declared.next.Next.{Next}
use Rattle.am_simulation.specs.declared.next.Step.{Step}
use Rattle.am_simulation.specs.declared.next.Step.TheVariants as step
use Rattle.am_terms.specs.declared.rehearsal.TimedAction.{TimedAction}

-- what follows from two facts of a value
both_some : {X : Type 0} (o : Option X) (P Q : X → Type 0) (R : Type 0) → ((x : X) → P x → Q x → R) → IsSomeAnd o P → IsSomeAnd o Q → R
both_some None P Q R both p q = absurd p
both_some (Some x) P Q R both p q = both x p q

module _ (answer : ℕ → ℕ → ℕ → ℕ → Sent) (cut : Option ℕ) (at : ℕ) where
  outcome_once : (n : NoticeData) (one other : Option Report) → IsOutcome answer cut at n one → IsOutcome answer cut at n other → one ≡ other
  outcome_once n None None a b = refl
  outcome_once n None (Some r) a b = absurd (cc (a, b.0))
  outcome_once n (Some r) None a b = absurd (cc (a.0, b))
  outcome_once n (Some r) (Some q) a b = ap (λ (x : Report). Some x) (same_report answer at (tried_by cut n) r q a.1 b.1)

  end_once : (index : ℕ) (n : NoticeData) (one other : End) → IsEndOf answer cut at index n one → IsEndOf answer cut at index n other → one ≡ other
  end_once index n one other a b =
      let report : one.report ≡ other.report = outcome_once n one.report other.report a.2 b.2 in
      let ended : one.at ≡ other.at = a.1 ∙ ap (end_on at) report ∙ sym b.1 in
      let placed : one.index ≡ other.index = a.0 ∙ sym b.0 in
      λ i. record { at = ended i; index = placed i; report = report i }

  ends_once : (index : ℕ) (ns : List NoticeData) (ones others : List End) → AreEndsOf answer cut at index ns ones → AreEndsOf answer cut at index ns others → ones ≡ others
  ends_once index [] [] [] a b = refl
  ends_once index [] [] (e ∷ es) a b = absurd b
  ends_once index [] (e ∷ es) others a b = absurd a
  ends_once index (n ∷ ns) [] others a b = absurd a
  ends_once index (n ∷ ns) (e ∷ es) [] a b = absurd b
  ends_once index (n ∷ ns) (e ∷ es) (f ∷ fs) a b =
      let first = end_once index n e f a.0 b.0 in
      let rest = ends_once (index + 1) ns es fs a.1 b.1 in
      λ i. first i ∷ rest i

module _ (r : Setting) where
  added_once : (at : ℕ) (ticket : TicketData) (begin : ℕ) (c d e : Scene) → IsSendingAdded r at ticket begin c d → IsSendingAdded r at ticket begin c e → d ≡ e
  added_once at ticket begin c d e a b =
      let tickets : a.0.ticket ≡ b.0.ticket = a.1 ∙ sym b.1 in
      let begins : a.0.begin ≡ b.0.begin = a.2 ∙ sym b.2 in
      let ends : a.0.ends ≡ b.0.ends = ends_once (answers_for r c.board ticket.group) r.span.cut at 0 ticket.notices a.0.ends b.0.ends a.3 b.3 in
      let same : a.0 ≡ b.0 = λ i. record { ticket = tickets i; begin = begins i; ends = ends i } in
      a.4 ∙ ap (λ (s : SendingData). with_sending s c) same ∙ sym b.4

  module _ (c d e : Scene) where
    replied_once : (at : ℕ) (returned : Reply) → IsReplied r c at d returned → IsReplied r c at e returned → d ≡ e
    replied_once at reply.NothingDue a b = a ∙ sym b
    replied_once at (reply.Quiet group removed) a b = a ∙ sym b
    replied_once at (reply.Flush group opened) a b =
        added_once at (ticket_of c.board.id group opened) (length (begin_indices c.events)) (after_taking c at (reply.Flush group opened)) d e a b
    replied_once at (reply.Inserted inserted) a b = absurd a
    replied_once at (reply.Silenced silenced) a b = absurd a
    replied_once at (reply.Finished finished) a b = absurd a
    replied_once at (reply.Maintained maintained) a b = absurd a
    replied_once at (reply.EmptyGroupsRemoved removed) a b = absurd a
    replied_once at (reply.Forgotten forgotten) a b = absurd a
    replied_once at (reply.Loaded loaded) a b = absurd a
    replied_once at reply.Noted a b = absurd a

    begun_once : (at : ℕ) (cause : Option Fault) → IsBegun r c at d cause → IsBegun r c at e cause → d ≡ e
    begun_once at None a b = replied_once at (begun c.board.config c.board.id (state_at c.board) (time (state_at c.board) at)) a b
    begun_once at (Some fault.TooManyOpen) a b = a ∙ sym b
    begun_once at (Some fault.NoMemory) a b = absurd a
    begun_once at (Some fault.TooManyAlerts) a b = absurd a
    begun_once at (Some fault.TooManyGroups) a b = absurd a
    begun_once at (Some fault.TooManySilences) a b = absurd a
    begun_once at (Some fault.HistoryFull) a b = absurd a

    planned_once : (ps : List TimedAction) → IsPlanDone c d ps → IsPlanDone c e ps → d ≡ e
    planned_once [] a b = absurd a
    planned_once (p ∷ ps) a b = a.1 ∙ sym b.1

    done_once : (at : ℕ) (what : Step) → IsDone r c at d what → IsDone r c at e what → d ≡ e
    done_once at (step.End position index) a b =
        both_some (slice_get c.sendings position) (λ s. IsSomeAnd (slice_get s.ends index) (λ x. d ≡ after_end c position s index x))
        (λ s. IsSomeAnd (slice_get s.ends index) (λ x. e ≡ after_end c position s index x)) (d ≡ e)
        (λ (s : SendingData) p q. both_some (slice_get s.ends index) (λ x. d ≡ after_end c position s index x) (λ x. e ≡ after_end c position s index x) (d ≡ e)
        (λ (x : End) v w. v ∙ sym w) p q) a b
    done_once at (step.Finish position) a b =
        both_some (slice_get c.sendings position) (λ s. d ≡ after_finish c position s) (λ s. e ≡ after_finish c position s) (d ≡ e) (λ (s : SendingData) v w. v ∙ sym w) a b
    done_once at step.Plan a b = planned_once c.plans a b
    done_once at step.Maintenance a b = a ∙ sym b
    done_once at step.Removal a b = a ∙ sym b
    done_once at step.Begin a b = begun_once at (cause_of_none c.board at) a b

    -- from a scene one step leads to one scene
    step_once : Steps r c d → Steps r c e → d ≡ e
    unfolding Steps
    step_once a b = both_some (next r c) (λ n. IsDone r c n.at d n.what) (λ n. IsDone r c n.at e n.what) (d ≡ e) (λ (n : Next) p q. done_once n.at n.what p q) a b

  -- and so do as many steps
  steps_once : (k : ℕ) (c d e : Scene) → LeadsIn r k c d → LeadsIn r k c e → d ≡ e
  steps_once zero c d e a b = sym a ∙ b
  steps_once (suc k) c d e a b =
      let same : a.0 ≡ b.0 = steps_once k c a.0 b.0 a.1 b.1 in
      step_once b.0 d e (subst (λ (x : Scene). Steps r x d) same a.2) b.2

  -- of more steps some come after fewer
  continues : (j k n : ℕ) (c e : Scene) → n ≡ suc (j + k) → LeadsIn r n c e → (x : Scene) × LeadsIn r k c x × (y : Scene) × Steps r x y
  continues zero k zero c e is led = absurd (omega (arith, is))
  continues zero k (suc n) c e is led =
      let same : n ≡ k = omega (arith, is) in
      (led.0, subst (λ (m : ℕ). LeadsIn r m c led.0) same led.1, e, led.2)
  continues (suc j) k zero c e is led = absurd (omega (arith, is))
  continues (suc j) k (suc n) c e is led = continues j k n c led.0 (omega (arith, is)) led.1

  -- where nothing comes next, no step leads on
  over : (c d : Scene) → next r c ≡ None → Steps r c d → ⊥
  unfolding Steps
  over c d none step = subst (λ (o : Option Next). IsSomeAnd o (λ n. IsDone r c n.at d n.what)) none step

  not_longer : (j k n : ℕ) (c d e : Scene) → n ≡ suc (j + k) → LeadsIn r k c d → next r d ≡ None → LeadsIn r n c e → ⊥
  not_longer j k n c d e is led none later =
      let on = continues j k n c e is later in
      over on.0 on.2 (subst (λ (x : Scene). next r x ≡ None) (steps_once k c d on.0 led on.1) none) on.3

  last_once : (k n : ℕ) (c d e : Scene) → LeadsIn r k c d → next r d ≡ None → LeadsIn r n c e → next r e ≡ None → d ≡ e
  last_once k n c d e a none b nothing =
      apart k n (d ≡ e)
      (λ same. steps_once n c d e (subst (λ (m : ℕ). LeadsIn r m c d) same a) b)
      (λ j is. absurd (not_longer j k n c d e is a none b))
      (λ j is. absurd (not_longer j n k c e d is b nothing a))

pub one_play : RehearsalsHaveOnePlay
one_play r config plans one other events others a b =
    let same = last_once r a.reached.0 b.reached.0 (opening_scene r config plans) a.last b.last a.reached.1 a.over b.reached.1 b.over in (
      a.board_is ∙ ap (λ (c : Scene). c.board) same ∙ sym b.board_is,
      a.events_are ∙ ap (λ (c : Scene). c.events) same ∙ sym b.events_are,
    )
