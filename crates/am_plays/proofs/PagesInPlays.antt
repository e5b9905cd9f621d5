-- In a play, pages come in time to a group that is served, and are delivered then.
use Rattle.std.proofs.Common.{◌≡◌, ℕ, ◌+◌, ◌<◌, ◌≤◌, max, Bool, true, false, cond, not, ◌||◌, nat_le, All, List, [], ◌∷◌, ◌++◌, reverse, ◌⊎◌, inl, inr, refl, sym, ap, ◌∙◌, subst, arith, add-zero}
use Rattle.std.specs.Prelude.{◌==◌, find}
use Rattle.std.specs.List.{list_all}
use Rattle.std.proofs.lemmas.Bool.{false≢true, and_from, and_parts, leb-true, or_right}
use Rattle.std.proofs.lemmas.List.{reverse-append, reverse-reverse}
use Rattle.am_alerts.specs.declared.labels.Label.{Label}
use Rattle.am_alerts.specs.declared.limits.TheConstants.{MAX_TIME}
use Rattle.am_retry.specs.declared.outcome.Outcome.{Outcome}
use Rattle.am_board.specs.History.{BoardData}
use Rattle.am_model.specs.declared.config.Config.{Config}
use Rattle.am_model.specs.declared.config.Integration.{Integration}
use Rattle.am_model.specs.declared.group.GroupName.{GroupName}
use Rattle.am_model.specs.declared.record.Call.{Call}
use Rattle.am_model.specs.declared.record.Call.TheVariants as call
use Rattle.am_model.specs.declared.record.Record.{Record}
use Rattle.am_model.specs.declared.record.Reply.TheVariants as reply
use Rattle.am_model.specs.Configured.{integrations_of}
use Rattle.am_model.specs.Finish.{is_delivered}
use Rattle.am_model.specs.Forget.{forgotten}
use Rattle.am_model.specs.Notice.{NoticeData, is_nothing}
use Rattle.am_model.specs.Records.{entry}
use Rattle.am_model.specs.Replay.{IsLegal, replay}
use Rattle.am_model.specs.State.{is_named, time}
use Rattle.am_model.specs.Ticket.{outcome_of}
use Rattle.am_model.specs.look_back.Laws.{begun_at}
use Rattle.am_model.specs.look_back.Past.{AtEach, begin_of, notices_in, past_of, replay_past, succeeded, takes, time_at, was_noted}
use Rattle.am_model.proofs.lists.Distinct.{all_from, all_to, all-weaker}
use Rattle.am_model.proofs.legal.Histories.{beginnings_are_legal, legal_appends}
use Rattle.am_paging.specs.InTime.{AtSome, HearsBy, IsBegunFor, IsDueOnTime, IsOnTime, Succeeds, begun_by, ended_at, finishes_for, latest, past_until, reaches}
use Rattle.am_paging.specs.Paging.{HasHeard, is_due_a_page, reports_page}
use Rattle.am_paging.proofs.DeliveredInTime.{pages_are_delivered_in_time}
use Rattle.am_paging.proofs.PagesInTime.{pages_come_in_time}
use Rattle.am_simulation.specs.Play.{PlaysTo}
use Rattle.am_simulation.specs.Scene.{Setting}
use Rattle.am_simulation.specs.declared.limits.TheConstants.{BOARD_ID}
use Rattle.am_terms.specs.declared.event.Event.{Event}
use Rattle.am_terms.specs.declared.rehearsal.TimedAction.{TimedAction}
use Rattle.am_plays.specs.Plays.{EveryPlay}
use Rattle.am_plays.specs.PlaysDeliver.{Delivers, IsDueFromTo, PlaysDeliverInTime, delivers_all, is_delivered_at, reports_delivered}
use Rattle.am_plays.specs.PlaysInTime.{IsServed, PlaysPageInTime}
use Rattle.am_plays.proofs.AtRest.{IsAtRest, each-until, each-within, not-open, play-rests, some-until, until-before, until-front, until-twice}
use Rattle.am_plays.proofs.Served.{flushes_deliver, on-time-play, still-play}
use Rattle.am_plays.proofs.Sound.{plays_are_legal}
use Rattle.am_plays.proofs.Words.{if_weaker}

module _ (r : Setting) (config : Config) (id : ℕ) (name : GroupName) (y : ℕ) (by_end : y ≤ r.until) where
  -- ---- a record more at a time by the end

  module _ (history : List Record) (legal : IsLegal config id history) (ends : r.until < MAX_TIME) where
    -- the records up to then
    abbrev upto : List Record
    upto = past_until y (past_of history)

    -- a forgetting then, after them
    abbrev at_end : Record
    at_end = entry 0 (call.Forget y) (reply.Forgotten (forgotten (replay config (reverse upto)) (time (replay config (reverse upto)) y)))

    abbrev longer : List Record
    longer = reverse upto ++ at_end ∷ []

    upto-legal : IsLegal config id (reverse upto)
    upto-legal =
        let front = until-front y (past_of history) in
        beginnings_are_legal config id (reverse upto) (reverse front.0)
        (subst (IsLegal config id) (sym (reverse-reverse history) ∙ ap (λ (l : List Record). reverse l) front.1 ∙ reverse-append front.0 upto) legal)

    longer-legal : IsLegal config id longer
    longer-legal = (legal_appends config id (reverse upto) at_end).1 (upto-legal, refl)

    longer-past : past_of longer ≡ at_end ∷ upto
    longer-past = reverse-append (reverse upto) (at_end ∷ []) ∙ ap (λ (l : List Record). at_end ∷ l) (reverse-reverse upto)

    end-time : time_at (at_end ∷ upto) ≡ y
    end-time = let before = until-before y (past_of history) in omega (arith, before, ends, by_end)

    end-on-time : IsAtRest r config id name y by_end upto → IsOnTime 0 0 config name at_end upto
    end-on-time rest =
        record {
          begins = λ closed. if_weaker (find (is_named name) (replay_past config upto).groups) (λ g. y < max g.due (ended_at name upto))
              (λ g. time_at (at_end ∷ upto) ≤ max g.due (ended_at name upto) + 0) (λ g h. let after : y < max g.due (ended_at name upto) = h in omega (arith, after, end-time)) rest.later;
          ends = λ opened. absurd (false≢true (sym rest.closed ∙ opened));
        }

    module _ (labels : List Label) (x : ℕ) (rest : IsAtRest r config id name y by_end upto)
        (on : AtEach (λ q past. time_at (q ∷ past) ≤ r.until → IsOnTime 0 0 config name q past) (past_of history))
        (due : AtEach (λ q past. x < time_at (q ∷ past) → time_at (q ∷ past) ≤ y → is_due_a_page config name labels (time_at (q ∷ past)) past ≡ true) (past_of history))
        (due_then : is_due_a_page config name labels y upto ≡ true) (soon : begun_by config name 0 x (past_of history) < y) where
      abbrev by : ℕ
      by = begun_by config name 0 x (past_of history)

      both : (past : List Record) → AtEach (λ q past. time_at (q ∷ past) ≤ r.until → IsOnTime 0 0 config name q past) past
          → AtEach (λ q past. x < time_at (q ∷ past) → time_at (q ∷ past) ≤ y → is_due_a_page config name labels (time_at (q ∷ past)) past ≡ true) past
          → AtEach (λ q past. time_at (q ∷ past) ≤ y → IsDueOnTime 0 0 config name labels x q past) past
      both [] on due = tt
      both (q ∷ past) on due = (λ within after. (on.0 (omega (arith, within, by_end)), due.0 after within), both past on.1 due.1)

      upto-due : AtEach (IsDueOnTime 0 0 config name labels x) upto
      upto-due =
          each-within y (IsDueOnTime 0 0 config name labels x) upto (until-before y (past_of history))
          (each-until y (λ q past. time_at (q ∷ past) ≤ y → IsDueOnTime 0 0 config name labels x q past) (past_of history) (both (past_of history) on due))

      all-due : AtEach (IsDueOnTime 0 0 config name labels x) (at_end ∷ upto)
      all-due = (
        λ after. (end-on-time rest, subst (λ (t : ℕ). is_due_a_page config name labels t upto ≡ true) (sym end-time) due_then),
        upto-due,
      )

      x-before : x < y
      x-before = omega (arith, soon)

      same-by : begun_by config name 0 x (at_end ∷ upto) + 0 ≡ by
      same-by =
          let late : nat_le (time_at (at_end ∷ upto)) x ≡ false = not-open (nat_le (time_at (at_end ∷ upto)) x) (λ e. let early : time_at (at_end ∷ upto) ≤ x = leb-true (time_at (at_end ∷ upto)) x e in absurd (omega (arith, early, end-time, x-before))) in
          add-zero (begun_by config name 0 x (at_end ∷ upto))
          ∙ ap (λ (p : List Record). max x (latest config name 0 x (begun_at config name p)))
          (ap (λ b. cond b (at_end ∷ upto) (past_until x upto)) late ∙ until-twice x y (omega (arith, x-before)) (past_of history))

      -- one of the records up to the end pages
      abbrev Pages : List Record → Type 0
      Pages p =
          AtEach (IsDueOnTime 0 0 config name labels x) p → begun_by config name 0 x p + 0 < time_at p
          → AtSome (IsBegunFor config name labels x (begun_by config name 0 x p + 0)) p

      longer-pages : AtSome (IsBegunFor config name labels x (begun_by config name 0 x (at_end ∷ upto) + 0)) (at_end ∷ upto)
      longer-pages =
          subst Pages longer-past (λ all late. pages_come_in_time config id longer longer-legal 0 0 x name labels all late) all-due
          (subst (λ (t : ℕ). t < time_at (at_end ∷ upto)) (sym same-by) (subst (λ (t : ℕ). by < t) (sym end-time) soon))

      pub paged : AtSome (IsBegunFor config name labels x by) (past_of history)
      paged =
          some-until y (IsBegunFor config name labels x by) (past_of history)
          (not-end (subst (λ (t : ℕ). AtSome (IsBegunFor config name labels x t) (at_end ∷ upto)) same-by longer-pages))
        where
          not-end : AtSome (IsBegunFor config name labels x by) (at_end ∷ upto) → AtSome (IsBegunFor config name labels x by) upto
          not-end (inl begun) = absurd (false≢true begun.taken)
          not-end (inr some) = some

      -- and each integration hears, where each finish succeeds
      abbrev Hears : ℕ → List Record → List Record → Type 0
      Hears i whole p = AtEach (Succeeds name i x) p → AtSome (HearsBy config name i labels x (begun_by config name 0 x whole + 0 + 0)) p

      abbrev AllHear : List Record → Type 0
      AllHear p =
          AtEach (IsDueOnTime 0 0 config name labels x) p → begun_by config name 0 x p + 0 + 0 < time_at p → All (λ i. Hears i.0 p p) (integrations_of config name)

      same-bound : begun_by config name 0 x (at_end ∷ upto) + 0 + 0 ≡ by
      same-bound = add-zero (begun_by config name 0 x (at_end ∷ upto) + 0) ∙ same-by

      longer-hear : All (λ i. Hears i.0 (at_end ∷ upto) (at_end ∷ upto)) (integrations_of config name)
      longer-hear =
          subst AllHear longer-past (λ all late. pages_are_delivered_in_time config id longer longer-legal 0 0 x name labels all late) all-due
          (subst (λ (t : ℕ). t < time_at (at_end ∷ upto)) (sym same-bound) (subst (λ (t : ℕ). by < t) (sym end-time) soon))

      hears : (i : ℕ) → AtEach (Succeeds name i x) (past_of history) → Hears i (at_end ∷ upto) (at_end ∷ upto) → AtSome (HearsBy config name i labels x by) (past_of history)
      hears i succeeds longer-hears =
          some-until y (HearsBy config name i labels x by) (past_of history)
          (not-end (subst (λ (t : ℕ). AtSome (HearsBy config name i labels x t) (at_end ∷ upto)) same-bound
          (longer-hears (λ after finishes. absurd (false≢true finishes), each-until y (Succeeds name i x) (past_of history) succeeds))))
        where
          not-then : (reports_page name i labels upto (call.Forget y) ≡ true) ⊎ ((takes name (at_end).reply ≡ true) × HasHeard config name i labels (time_at (at_end ∷ upto)) upto) → ⊥
          not-then (inl reported) = false≢true reported
          not-then (inr heard) = false≢true heard.0

          not-end : AtSome (HearsBy config name i labels x by) (at_end ∷ upto) → AtSome (HearsBy config name i labels x by) upto
          not-end (inl heard) = absurd (not-then heard.reached)
          not-end (inr some) = some

      pub all-hear : ((i : ℕ) → AtEach (Succeeds name i x) (past_of history)) → All (λ i. AtSome (HearsBy config name i.0 labels x by) (past_of history)) (integrations_of config name)
      all-hear succeeds =
          let Heard : ℕ × Integration → Type 0 = λ i. AtSome (HearsBy config name i.0 labels x by) (past_of history) in
          let Hearing : ℕ × Integration → Type 0 = λ i. Hears i.0 (at_end ∷ upto) (at_end ∷ upto) in
          all_from Heard (integrations_of config name)
          (all-weaker Hearing Heard (λ i h. hears i.0 (succeeds i.0) h) (integrations_of config name) (all_to Hearing (integrations_of config name) longer-hear))

-- ---- where a flush is delivered whole, each integration that it notifies is reached

reached-all : (i number : ℕ) (outcomes : List (ℕ × Outcome)) (past : List Record) (ns : List NoticeData) → list_all (reports_delivered outcomes) ns ≡ true
    → list_all (λ n. not (n.integration == i) || succeeded number outcomes past n) ns ≡ true
reached-all i number outcomes past [] all = refl
reached-all i number outcomes past (n ∷ ns) all =
    let both = and_parts (reports_delivered outcomes n) (list_all (reports_delivered outcomes) ns) all in
    and_from (not (n.integration == i) || succeeded number outcomes past n) (list_all (λ m. not (m.integration == i) || succeeded number outcomes past m) ns)
    (or_right (not (n.integration == i)) (succeeded number outcomes past n) (either (was_noted number n.integration past) (is_nothing n) (is_delivered (outcome_of outcomes n.integration)) both.0))
    (reached-all i number outcomes past ns both.1)
  where
    either : (a b c : Bool) → (b || c) ≡ true → (a || b || c) ≡ true
    either true true c e = refl
    either true false true e = refl
    either true false false e = refl
    either false b c e = e

reached-begin : (i number t : ℕ) (outcomes : List (ℕ × Outcome)) (past begin : List Record) → is_delivered_at t outcomes begin ≡ true → reaches i number outcomes past begin ≡ true
reached-begin i number t outcomes past [] all = absurd (false≢true all)
reached-begin i number t outcomes past (q ∷ before) all =
    reached-all i number outcomes past (notices_in q.reply) (and_parts (time_at (q ∷ before) == t) (list_all (reports_delivered outcomes) (notices_in q.reply)) all).1

reached-call : (i t : ℕ) (past : List Record) (c : Call) → delivers_all t past c ≡ true → finishes_for i past c ≡ true
reached-call i t past (call.Insert now alert) all = absurd (false≢true all)
reached-call i t past (call.Silence now id matchers start end) all = absurd (false≢true all)
reached-call i t past (call.Begin now) all = absurd (false≢true all)
reached-call i t past (call.Finish now number outcomes) all = reached-begin i number t outcomes past (begin_of number past) all
reached-call i t past (call.Maintain now) all = absurd (false≢true all)
reached-call i t past (call.RemoveEmptyGroups now) all = absurd (false≢true all)
reached-call i t past (call.Forget now) all = absurd (false≢true all)
reached-call i t past (call.Load now row) all = absurd (false≢true all)
reached-call i t past (call.Note now number integration outcome) all = absurd (false≢true all)

all-succeed : (name : GroupName) (i x : ℕ) (past : List Record) → AtEach (Delivers name) past → AtEach (Succeeds name i x) past
all-succeed name i x [] each = tt
all-succeed name i x (q ∷ past) each = (λ after finishes. reached-call i (time_at (q ∷ past)) past q.call (each.0 finishes), all-succeed name i x past each.1)

-- ---- the law

module _ (r : Setting) (config : Config) (plans : List TimedAction) (board : BoardData) (events : List Event) (play : PlaysTo r config plans board events)
    (name : GroupName) (served : IsServed r config name) where
  legal : IsLegal config BOARD_ID board.history
  legal = plays_are_legal r config plans board events play

  -- a time by the end
  module _ (y : ℕ) (by_end : y ≤ r.until) where
    rests_then : IsAtRest r config BOARD_ID name y by_end (past_until y (past_of board.history))
    rests_then =
        play-rests r config plans board events play name y by_end served.ends served.places 0 (omega arith) (still-play r config plans board events play name served)

  pages : (labels : List Label) (x : ℕ)
      → AtEach (λ q past. x < time_at (q ∷ past) → time_at (q ∷ past) ≤ r.until → is_due_a_page config name labels (time_at (q ∷ past)) past ≡ true) (past_of board.history)
      → is_due_a_page config name labels r.until (past_until r.until (past_of board.history)) ≡ true → begun_by config name 0 x (past_of board.history) < r.until
      → AtSome (IsBegunFor config name labels x (begun_by config name 0 x (past_of board.history))) (past_of board.history)
  pages labels x due due_then soon =
      let by_end : r.until ≤ r.until = omega arith in
      paged r config BOARD_ID name r.until by_end board.history legal served.ends labels x (rests_then r.until by_end) (on-time-play r config plans board events play name served) due due_then soon

  hear : (labels : List Label) (x y : ℕ) (by_end : y ≤ r.until) → IsDueFromTo config name labels x y (past_of board.history) → begun_by config name 0 x (past_of board.history) < y
      → All (λ i. AtSome (HearsBy config name i.0 labels x (begun_by config name 0 x (past_of board.history))) (past_of board.history)) (integrations_of config name)
  hear labels x y by_end due soon =
      all-hear r config BOARD_ID name y by_end board.history legal served.ends labels x (rests_then y by_end) (on-time-play r config plans board events play name served) due.each due.last soon
      (λ i. all-succeed name i x (past_of board.history) (flushes_deliver r config plans board events play name served))

pub plays_page_in_time : EveryPlay PlaysPageInTime
plays_page_in_time r config plans board events play name labels x served due due_then soon = pages r config plans board events play name served labels x due due_then soon

pub plays_deliver_in_time : EveryPlay PlaysDeliverInTime
plays_deliver_in_time r config plans board events play name labels x y served by_end due soon = hear r config plans board events play name served labels x y by_end due soon
