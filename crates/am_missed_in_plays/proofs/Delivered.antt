-- In a play, a notice of a group that is served is reported delivered by the finish of its flush.
use Rattle.std.proofs.Common.{◌≡◌, ◌∙◌, ℕ, Bool, true, false, cond, not, ◌&&◌, ◌||◌, List, [], ◌∷◌, ◌++◌, append_assoc, append-nil, length, Option, Some, None, unwrap_or, refl, sym, ap, subst, arith}
use Rattle.std.specs.List.{list_all, list_any}
use Rattle.std.specs.Prelude.{◌==◌}
use Rattle.std.proofs.lemmas.Bool.{and_parts, eqb-true, false≢true, ne_eqb, or_right}
use Rattle.std.proofs.lemmas.Cmp.{nat_eq_equiv}
use Rattle.am_alerts.specs.AlertData.{AlertData}
use Rattle.am_alerts.specs.Labels.{same_label_set}
use Rattle.am_alerts.specs.declared.labels.Label.{Label}
use Rattle.am_nflog.specs.Members.{is_member}
use Rattle.am_retry.specs.declared.outcome.Outcome.{Outcome}
use Rattle.am_board.specs.History.{BoardData}
use Rattle.am_model.specs.declared.config.Config.{Config}
use Rattle.am_model.specs.declared.group.GroupName.{GroupName}
use Rattle.am_model.specs.declared.record.Call.{Call}
use Rattle.am_model.specs.declared.record.Call.TheVariants as call
use Rattle.am_model.specs.declared.record.Record.{Record}
use Rattle.am_model.specs.declared.record.Reply.{Reply}
use Rattle.am_model.specs.declared.record.Reply.TheVariants as reply_is
use Rattle.am_model.specs.Begin.{label_sets}
use Rattle.am_model.specs.Finish.{is_delivered}
use Rattle.am_model.specs.Notice.{NoticeData, is_nothing}
use Rattle.am_model.specs.Outcomes.{finished_with, outcomes_in}
use Rattle.am_model.specs.Replay.{IsLegal, replay}
use Rattle.am_model.specs.State.{FlushState, State, is_flushing}
use Rattle.am_model.specs.Ticket.{outcome_of}
use Rattle.am_model.specs.look_back.Entry.{begins_group}
use Rattle.am_model.specs.look_back.Laws.{IsOneFlushAtATime, has_open, number_in}
use Rattle.am_model.specs.look_back.Past.{AtEach, begin_of, has_begun, has_finished, is_finish, is_flush, is_flush_of, notices_in, past_of, takes, time_at}
use Rattle.am_model.proofs.looking_back.LooksBack.{histories_look_back}
use Rattle.am_model.proofs.looking_back.Pasts.{IsLegalPast, legal_past, replay_is_past, state_after}
use Rattle.am_model.proofs.looking_back.flushes.FlushesOnce.{open-group}
use Rattle.am_paging.specs.InTime.{is_finish_of}
use Rattle.am_paging.specs.Paging.{lists, pages}
use Rattle.am_paging.proofs.Counted.{counts_past}
use Rattle.am_paging.proofs.OpenFlushes.{flush-begins, is_begin, neither}
use Rattle.am_simulation.specs.Play.{PlaysTo}
use Rattle.am_simulation.specs.Scene.{Setting}
use Rattle.am_simulation.specs.declared.limits.TheConstants.{BOARD_ID}
use Rattle.am_terms.specs.declared.event.Event.{Event}
use Rattle.am_terms.specs.declared.rehearsal.TimedAction.{TimedAction}
use Rattle.am_missed.proofs.Inserts.{past-more}
use Rattle.am_plays.specs.PlaysDeliver.{Delivers, delivers_all, is_delivered_at, reports_delivered}
use Rattle.am_plays.specs.PlaysInTime.{IsServed}
use Rattle.am_plays.proofs.PassedOver.{nothing_due_is_left}
use Rattle.am_plays.proofs.Served.{flushes_deliver}
use Rattle.am_plays.proofs.Sound.{plays_are_legal}

-- ---- words on records

-- records onto a past, the earliest first
abbrev onto : List Record → List Record → List Record
onto past [] = past
onto past (x ∷ xs) = onto (x ∷ past) xs

onto-is : (es ls : List Record) → past_of (es ++ ls) ≡ onto (past_of es) ls
onto-is es [] = ap past_of (append-nil es)
onto-is es (x ∷ xs) = ap past_of (sym (append_assoc es (x ∷ []) xs)) ∙ onto-is (es ++ x ∷ []) xs ∙ ap (λ past. onto past xs) (past-more es x)

each-onto : (P : Record → List Record → Type 0) (past ls : List Record) → AtEach P (onto past ls) → AtEach P past
each-onto P past [] each = each
each-onto P past (x ∷ xs) each = (each-onto P (x ∷ past) xs each).1

none-onto : (test : Record → Bool) (past ls : List Record) → list_any test (onto past ls) ≡ false → list_any test past ≡ false
none-onto test past [] none = none
none-onto test past (x ∷ xs) none = (neither (test x) (list_any test past) (none-onto test (x ∷ past) xs none)).1

begin-finishes : (n : ℕ) (c : Call) → is_begin c ≡ true → is_finish n c ≡ false
begin-finishes n (call.Insert now alert) e = refl
begin-finishes n (call.Silence now id matchers start end) e = refl
begin-finishes n (call.Begin now) e = refl
begin-finishes n (call.Finish now number outcomes) e = absurd (false≢true e)
begin-finishes n (call.Maintain now) e = refl
begin-finishes n (call.RemoveEmptyGroups now) e = refl
begin-finishes n (call.Forget now) e = refl
begin-finishes n (call.Load now row) e = refl
begin-finishes n (call.Note now number i outcome) e = refl

-- what hasn't begun wasn't finished
unfinished : (n : ℕ) (past : List Record) → AtEach IsOneFlushAtATime past → has_begun n past ≡ false → has_finished n past ≡ false
unfinished n [] once none = refl
unfinished n (r ∷ past) once none =
    let before = (neither (is_flush n r.reply) (has_begun n past) none).1 in
    elim (is_finish n r.call) as (λ b. is_finish n r.call ≡ b → (b || has_finished n past) ≡ false) [
      | true ↦ λ e. absurd (false≢true (sym before ∙ once.0.begun_before n e))
      | false ↦ λ e. unfinished n past once.1 before
    ] refl

-- a reply that takes a group and pages is its flush
flush-is : (name : GroupName) (labels : List Label) (i : ℕ) (p : Reply) → takes name p ≡ true → pages i labels p ≡ true → (is_flush_of name p ≡ true) × (is_flush (number_in p) p ≡ true)
flush-is name labels i (reply_is.Inserted inserted) taken paged = absurd (false≢true taken)
flush-is name labels i (reply_is.Silenced silenced) taken paged = absurd (false≢true taken)
flush-is name labels i reply_is.NothingDue taken paged = absurd (false≢true taken)
flush-is name labels i (reply_is.Quiet group removed) taken paged = absurd (false≢true paged)
flush-is name labels i (reply_is.Flush group opened) taken paged = (taken, nat_eq_equiv.refl opened.number)
flush-is name labels i (reply_is.Finished finished) taken paged = absurd (false≢true taken)
flush-is name labels i (reply_is.Maintained maintained) taken paged = absurd (false≢true taken)
flush-is name labels i (reply_is.EmptyGroupsRemoved removed) taken paged = absurd (false≢true taken)
flush-is name labels i (reply_is.Forgotten forgotten) taken paged = absurd (false≢true taken)
flush-is name labels i (reply_is.Loaded loaded) taken paged = absurd (false≢true taken)
flush-is name labels i reply_is.Noted taken paged = absurd (false≢true taken)

-- ---- outcomes that report each notice delivered

-- a notice that lists a label set has something to send
something : (labels : List Label) (n : NoticeData) → lists labels n ≡ true → is_nothing n ≡ false
something labels n listed = ap (λ b. b && (length n.resolved == 0)) (by n.firing listed)
  where
    by : (alerts : List AlertData) → is_member same_label_set labels (label_sets alerts) ≡ true → (length alerts == 0) ≡ false
    by [] e = absurd (false≢true e)
    by (a ∷ more) e = ne_eqb (length (a ∷ more)) 0 (λ none. absurd (omega (arith, none)))

module _ (labels : List Label) (i : ℕ) (outcomes : List (ℕ × Outcome)) where
  of-notice : (n : NoticeData) → ((n.integration == i) && lists labels n) ≡ true → reports_delivered outcomes n ≡ true → is_delivered (outcome_of outcomes i) ≡ true
  of-notice n own reported =
      let parts = and_parts (n.integration == i) (lists labels n) own in
      ap (λ k. is_delivered (outcome_of outcomes k)) (sym (eqb-true n.integration i parts.0))
      ∙ ap (λ b. b || is_delivered (outcome_of outcomes n.integration)) (sym (something labels n parts.1)) ∙ reported

  all-reported : (ns : List NoticeData) → list_any (λ n. (n.integration == i) && lists labels n) ns ≡ true → list_all (reports_delivered outcomes) ns ≡ true → is_delivered (outcome_of outcomes i) ≡ true
  all-reported [] some all = absurd (false≢true some)
  all-reported (n ∷ ns) some all =
      let both = and_parts (reports_delivered outcomes n) (list_all (reports_delivered outcomes) ns) all in
      let own = (n.integration == i) && lists labels n in
      elim own as (λ b. own ≡ b → (b || list_any (λ n. (n.integration == i) && lists labels n) ns) ≡ true → is_delivered (outcome_of outcomes i) ≡ true) [
        | true ↦ λ e _. of-notice n e both.0
        | false ↦ λ _ more. all-reported ns more both.1
      ] refl some

-- ---- from the begin of a flush on

module _ (name : GroupName) (labels : List Label) (i : ℕ) (q : Record) (before : List Record) (own : is_flush_of name q.reply ≡ true) (paged : pages i labels q.reply ≡ true) where
  abbrev n : ℕ
  n = number_in q.reply

  abbrev IsReported : List Record → Type 0
  IsReported ls = is_delivered (outcome_of (outcomes_in n ls) i) ≡ true

  -- its finish
  finish-reports : (past : List Record) (t : ℕ) (ls : List Record) → begin_of n past ≡ q ∷ before → (c : Call) → is_finish n c ≡ true → (is_finish_of name past c ≡ true → delivers_all t past c ≡ true)
      → is_delivered (outcome_of (unwrap_or (finished_with n c) (outcomes_in n ls)) i) ≡ true
  finish-reports past t ls begin (call.Insert now alert) is delivers = absurd (false≢true is)
  finish-reports past t ls begin (call.Silence now id matchers start end) is delivers = absurd (false≢true is)
  finish-reports past t ls begin (call.Begin now) is delivers = absurd (false≢true is)
  finish-reports past t ls begin (call.Finish now m outcomes) is delivers =
      let begun : begin_of m past ≡ q ∷ before = ap (λ k. begin_of k past) (eqb-true m n is) ∙ begin in
      let all : is_delivered_at t outcomes (q ∷ before) ≡ true = subst (λ b. is_delivered_at t outcomes b ≡ true) begun (delivers (ap (begins_group name) begun ∙ own)) in
      ap (λ b. is_delivered (outcome_of (unwrap_or (cond b (Some outcomes) None) (outcomes_in n ls)) i)) is
      ∙ all-reported labels i outcomes (notices_in q.reply) paged (and_parts (time_at (q ∷ before) == t) (list_all (reports_delivered outcomes) (notices_in q.reply)) all).1
  finish-reports past t ls begin (call.Maintain now) is delivers = absurd (false≢true is)
  finish-reports past t ls begin (call.RemoveEmptyGroups now) is delivers = absurd (false≢true is)
  finish-reports past t ls begin (call.Forget now) is delivers = absurd (false≢true is)
  finish-reports past t ls begin (call.Load now row) is delivers = absurd (false≢true is)
  finish-reports past t ls begin (call.Note now m j outcome) is delivers = absurd (false≢true is)

  -- any other call
  other-call : (c : Call) → is_finish n c ≡ false → finished_with n c ≡ None
  other-call (call.Insert now alert) is = refl
  other-call (call.Silence now id matchers start end) is = refl
  other-call (call.Begin now) is = refl
  other-call (call.Finish now m outcomes) is = ap (λ b. cond b (Some outcomes) None) is
  other-call (call.Maintain now) is = refl
  other-call (call.RemoveEmptyGroups now) is = refl
  other-call (call.Forget now) is = refl
  other-call (call.Load now row) is = refl
  other-call (call.Note now m j outcome) is = refl

  page-reported : (past ls : List Record) → begin_of n past ≡ q ∷ before → has_begun n past ≡ true → has_finished n past ≡ false → has_finished n (onto past ls) ≡ true
      → AtEach IsOneFlushAtATime (onto past ls) → AtEach (Delivers name) (onto past ls) → IsReported ls
  page-reported past [] begin begun open_still ended once all = absurd (false≢true (sym open_still ∙ ended))
  page-reported past (x ∷ xs) begin begun open_still ended once all =
      by (is_finish n x.call) refl (λ begin begun left. page-reported (x ∷ past) xs begin begun left ended once all)
    where
      by : (b : Bool) → is_finish n x.call ≡ b
          → (begin_of n (x ∷ past) ≡ q ∷ before → has_begun n (x ∷ past) ≡ true → has_finished n (x ∷ past) ≡ false → IsReported xs) → IsReported (x ∷ xs)
      by true is rest = finish-reports past (time_at (x ∷ past)) xs begin x.call is (each-onto (Delivers name) (x ∷ past) xs all).0
      by false is rest =
          let other : is_flush n x.reply ≡ false = not-flush (is_flush n x.reply) refl in
          ap (λ o. is_delivered (outcome_of (unwrap_or o (outcomes_in n xs)) i)) (other-call x.call is)
          ∙ rest (ap (λ b. cond b (x ∷ past) (begin_of n past)) other ∙ begin) (or_right (is_flush n x.reply) (has_begun n past) begun) (ap (λ b. b || has_finished n past) is ∙ open_still)
        where
          not-flush : (b : Bool) → is_flush n x.reply ≡ b → b ≡ false
          not-flush true e = absurd (false≢true (sym ((each-onto IsOneFlushAtATime (x ∷ past) xs once).0.first_begin n e) ∙ begun))
          not-flush false e = refl

-- ---- in a play

module _ (r : Setting) (config : Config) (plans : List TimedAction) (board : BoardData) (events : List Event) (play : PlaysTo r config plans board events)
    (name : GroupName) (served : IsServed r config name) where
  legal : IsLegal config BOARD_ID board.history
  legal = plays_are_legal r config plans board events play

  -- no flush is open at its end
  closed : has_open name (past_of board.history) ≡ false
  closed =
      open-group config (state_after config (past_of board.history)) (past_of board.history) (counts_past config BOARD_ID (past_of board.history) (legal_past config BOARD_ID board.history legal)) name
      ∙ ap (λ (s : State). is_flushing s.flushes name) (sym (replay_is_past config board.history))
      ∙ ap (λ (fs : List FlushState). is_flushing fs name) (nothing_due_is_left r config plans board events play).0

  pub page-delivered : (labels : List Label) (i : ℕ) (earlier : List Record) (q : Record) (later : List Record) → board.history ≡ earlier ++ q ∷ later → takes name q.reply ≡ true → pages i labels q.reply ≡ true
      → is_delivered (outcome_of (outcomes_in (number_in q.reply) later) i) ≡ true
  page-delivered labels i earlier q later records taken paged =
      let n : ℕ = number_in q.reply in
      let flush = flush-is name labels i q.reply taken paged in
      let start = past_of earlier in
      let whole : past_of board.history ≡ onto (q ∷ start) later = ap past_of records ∙ onto-is earlier (q ∷ later) in
      let once = subst (AtEach IsOneFlushAtATime) whole (histories_look_back config BOARD_ID board.history legal).once in
      let legal_then : IsLegalPast config BOARD_ID (q ∷ start) = legal-onto (q ∷ start) later (subst (IsLegalPast config BOARD_ID) whole (legal_past config BOARD_ID board.history legal)) in
      let begins : is_begin q.call ≡ true = flush-begins config BOARD_ID n q start legal_then flush.1 in
      let now = each-onto IsOneFlushAtATime (q ∷ start) later once in
      page-reported name labels i q start flush.0 paged (q ∷ start) later
      (ap (λ b. cond b (q ∷ start) (begin_of n start)) flush.1)
      (ap (λ b. b || has_begun n start) flush.1)
      (ap (λ b. b || has_finished n start) (begin-finishes n q.call begins) ∙ unfinished n start now.1 (now.0.first_begin n flush.1))
      (finished flush.0 (onto (q ∷ start) later) (none-onto (λ x. is_flush_of name x.reply && not (has_finished (number_in x.reply) (onto (q ∷ start) later))) (q ∷ start) later (ap (has_open name) (sym whole) ∙ closed)))
      once (subst (AtEach (Delivers name)) whole (flushes_deliver r config plans board events play name served))
    where
      legal-onto : (past ls : List Record) → IsLegalPast config BOARD_ID (onto past ls) → IsLegalPast config BOARD_ID past
      legal-onto past [] all = all
      legal-onto past (x ∷ xs) all = (legal-onto (x ∷ past) xs all).1

      finished : is_flush_of name q.reply ≡ true → (p : List Record)
          → ((is_flush_of name q.reply && not (has_finished (number_in q.reply) p)) || list_any (λ x. is_flush_of name x.reply && not (has_finished (number_in x.reply) p)) (past_of earlier)) ≡ false
          → has_finished (number_in q.reply) p ≡ true
      finished own p none =
          by (is_flush_of name q.reply) (has_finished (number_in q.reply) p) own
          (neither (is_flush_of name q.reply && not (has_finished (number_in q.reply) p)) (list_any (λ x. is_flush_of name x.reply && not (has_finished (number_in x.reply) p)) (past_of earlier)) none).0
        where
          by : (a b : Bool) → a ≡ true → (a && not b) ≡ false → b ≡ true
          by true true e f = refl
          by true false e f = absurd (false≢true (sym f))
          by false b e f = absurd (false≢true e)
