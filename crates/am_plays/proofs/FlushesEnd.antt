-- Each flush of a group whose receiver keeps its promises is finished in time, and each of its notices is reported delivered, or its deadline
-- fails.
use Rattle.std.proofs.Common.{◌≡◌, ℕ, zero, suc, ◌≤◌, max, min, ◌⊎◌, Bool, true, false, cond, ◌||◌, List, [], ◌∷◌, Option, Some, None, inl, inr, refl, sym, ap, ◌∙◌, subst, arith, if◌then◌else◌}
use Rattle.std.specs.Prelude.{is_none, is_some, slice_get}
use Rattle.std.specs.List.{AllByRecursion, list_all}
use Rattle.std.specs.Option.{IsSomeAnd, option_map_or}
use Rattle.std.proofs.lemmas.Bool.{false≢true}
use Rattle.std.proofs.lemmas.Cmp.{nat_eq_equiv}
use Rattle.am_alerts.specs.declared.limits.TheConstants.{MAX_TIME}
use Rattle.am_retry.specs.declared.outcome.Outcome.{Outcome}
use Rattle.am_board.specs.History.{BoardData, records_at, state_at, with_record}
use Rattle.am_model.proofs.legal.EachCall.{inside}
use Rattle.am_model.proofs.lists.Distinct.{all-both, all-push, all-weaker}
use Rattle.am_model.proofs.looking_back.LooksBack.{histories_look_back}
use Rattle.am_model.proofs.states.Alike.{same_name-is}
use Rattle.am_model.specs.declared.config.Config.{Config}
use Rattle.am_model.specs.declared.fault.Fault.{Fault}
use Rattle.am_model.specs.declared.fault.Fault.TheVariants as fault
use Rattle.am_model.specs.declared.group.GroupName.{GroupName}
use Rattle.am_model.specs.declared.notice.Report.{Report}
use Rattle.am_model.specs.declared.record.Call.{Call}
use Rattle.am_model.specs.declared.record.Call.TheVariants as call
use Rattle.am_model.specs.declared.record.Opened.{Opened}
use Rattle.am_model.specs.declared.record.Record.{Record}
use Rattle.am_model.specs.declared.record.Reply.{Reply}
use Rattle.am_model.specs.declared.record.Reply.TheVariants as reply
use Rattle.am_model.specs.Begin.{begun}
use Rattle.am_model.specs.Causes.{note_cause}
use Rattle.am_model.specs.Notice.{NoticeData}
use Rattle.am_model.specs.Records.{call_of_silence, entry, now_of}
use Rattle.am_model.specs.Replay.{reply as reply_to}
use Rattle.am_model.specs.State.{same_name, time}
use Rattle.am_model.specs.Ticket.{TicketData, recorded, report_fault}
use Rattle.am_model.specs.look_back.Entry.{begins_group}
use Rattle.am_model.specs.look_back.Laws.{IsOneFlushAtATime}
use Rattle.am_model.specs.look_back.Past.{AtEach, begin_of, has_begun, is_flush, is_flush_of, notices_in, past_of, time_at}
use Rattle.am_paging.specs.InTime.{is_finish_of}
use Rattle.am_pool.specs.Sendings.{note_at}
use Rattle.am_simulation.specs.Next.{next, none_left}
use Rattle.am_simulation.specs.Planned.{call_of}
use Rattle.am_simulation.specs.Play.{LeadsIn, PlaysTo}
use Rattle.am_simulation.specs.Scene.{Scene, SendingData, Setting, opening_scene}
use Rattle.am_simulation.specs.Steps.{IsBegun, IsReplied, Steps, after_end, after_end_of, after_finish, answers_for, is_success, ticket_of, with_call, with_note, with_report}
use Rattle.am_simulation.specs.Taking.{cause_of_none}
use Rattle.am_terms.specs.declared.event.Event.{Event}
use Rattle.am_terms.specs.declared.rehearsal.Action.{Action}
use Rattle.am_terms.specs.declared.rehearsal.Action.TheVariants.{Insert, Silence, Load}
use Rattle.am_terms.specs.declared.rehearsal.TimedAction.{TimedAction}
use Rattle.am_plays.specs.PlaysDeliver.{reports_delivered}
use Rattle.am_plays.specs.PlaysRecover.{OfFinish, is_all_delivered}
use Rattle.am_plays.proofs.InFlight.{IsEarly, IsPrompt, IsSwift, early-next, flush-kept, opening-prompt, prompt}
use Rattle.am_plays.proofs.Instant.{AreOwn, begun-own}
use Rattle.am_plays.proofs.Moves.{IsMove, IsRecorded, IsSilent}
use Rattle.am_plays.proofs.PassedOver.{clock-is, past-more}
use Rattle.am_plays.proofs.Promises.{Promises, deadline_from, timed-flush}
use Rattle.am_plays.proofs.Sound.{legal-more, more, moves}
use Rattle.am_plays.proofs.StepKinds.{step_by}
use Rattle.am_plays.proofs.Successes.{IsOfTicket, IsSucceeding, after-end, all-delivered, just-begun, none-reported, reports_of}
use Rattle.am_plays.proofs.Words.{all-get, all-remove, all-set, said, some_of}

-- ---- the begin of a flush

-- the group, the notices and the deadline of a flush
abbrev Flight : Type 0
Flight = GroupName × List NoticeData × ℕ

abbrev flush_in : Reply → Option Flight
flush_in (reply.Inserted inserted) = None
flush_in (reply.Silenced silenced) = None
flush_in reply.NothingDue = None
flush_in (reply.Quiet group removed) = None
flush_in (reply.Flush group opened) = Some (group, opened.notices, opened.deadline)
flush_in (reply.Finished finished) = None
flush_in (reply.Maintained maintained) = None
flush_in (reply.EmptyGroupsRemoved removed) = None
flush_in (reply.Forgotten forgotten) = None
flush_in (reply.Loaded loaded) = None
flush_in reply.Noted = None

-- those of the flush at the head
abbrev begun_as : List Record → Option Flight
begun_as [] = None
begun_as (q ∷ past) = flush_in q.reply

flush-notices : (p : Reply) (f : Flight) → flush_in p ≡ Some f → notices_in p ≡ f.1
flush-notices (reply.Inserted inserted) f is = absurd (cc)
flush-notices (reply.Silenced silenced) f is = absurd (cc)
flush-notices reply.NothingDue f is = absurd (cc)
flush-notices (reply.Quiet group removed) f is = absurd (cc)
flush-notices (reply.Flush group opened) f is = let own : Flight = (group, opened.notices, opened.deadline) in ap (λ (x : Flight). x.1) (inside own f is)
flush-notices (reply.Finished finished) f is = absurd (cc)
flush-notices (reply.Maintained maintained) f is = absurd (cc)
flush-notices (reply.EmptyGroupsRemoved removed) f is = absurd (cc)
flush-notices (reply.Forgotten forgotten) f is = absurd (cc)
flush-notices (reply.Loaded loaded) f is = absurd (cc)
flush-notices reply.Noted f is = absurd (cc)

flush-group : (name : GroupName) (p : Reply) (f : Flight) → flush_in p ≡ Some f → is_flush_of name p ≡ true → same_name name f.0 ≡ true
flush-group name (reply.Inserted inserted) f is e = absurd (false≢true e)
flush-group name (reply.Silenced silenced) f is e = absurd (false≢true e)
flush-group name reply.NothingDue f is e = absurd (false≢true e)
flush-group name (reply.Quiet group removed) f is e = absurd (false≢true e)
flush-group name (reply.Flush group opened) f is e =
    let own : Flight = (group, opened.notices, opened.deadline) in
    subst (λ (x : Flight). same_name name x.0 ≡ true) (inside own f is) e
flush-group name (reply.Finished finished) f is e = absurd (false≢true e)
flush-group name (reply.Maintained maintained) f is e = absurd (false≢true e)
flush-group name (reply.EmptyGroupsRemoved removed) f is e = absurd (false≢true e)
flush-group name (reply.Forgotten forgotten) f is e = absurd (false≢true e)
flush-group name (reply.Loaded loaded) f is e = absurd (false≢true e)
flush-group name reply.Noted f is e = absurd (false≢true e)

begins-own : (name : GroupName) (begin : List Record) (f : Flight) → begun_as begin ≡ Some f → begins_group name begin ≡ true → same_name name f.0 ≡ true
begins-own name [] f is e = absurd (false≢true e)
begins-own name (q ∷ past) f is e = flush-group name q.reply f is e

-- a flush that is all delivered
delivered-begin : (outcomes : List (ℕ × Outcome)) (begin : List Record) (f : Flight) → begun_as begin ≡ Some f
    → list_all (reports_delivered outcomes) f.1 ≡ true → is_all_delivered outcomes begin ≡ true
delivered-begin outcomes [] f is all = absurd (cc)
delivered-begin outcomes (q ∷ past) f is all = ap (list_all (reports_delivered outcomes)) (flush-notices q.reply f is) ∙ all

has-begun-as : (n : ℕ) (past : List Record) (f : Flight) → begun_as (begin_of n past) ≡ Some f → has_begun n past ≡ true
has-begun-as n [] f is = absurd (cc)
has-begun-as n (q ∷ past) f is =
    elim (is_flush n q.reply) as (λ b. begun_as (cond b (q ∷ past) (begin_of n past)) ≡ Some f → (b || has_begun n past) ≡ true) [
      | true ↦ λ _. refl
      | false ↦ λ before. has-begun-as n past f before
    ] is

-- ---- what a ticket says of its flush

-- its number, its group, its notices and its deadline
abbrev Place : Type 0
Place = ℕ × GroupName × List NoticeData × ℕ

abbrev place_of : TicketData → Place
place_of t = (t.number, t.group, t.notices, t.deadline)

-- a report leaves them
reported-place : (o : Option Report) (t : TicketData) → place_of (with_report o t) ≡ place_of t
reported-place None t = refl
reported-place (Some p) t = elim (is_some (report_fault t p)) as (λ b. place_of (if b then t else recorded t p) ≡ place_of t) [ true ↦ refl | false ↦ refl ]

module _ (config : Config) (name : GroupName) (late : ℕ) (Fails : ℕ → Type 0) where
  -- the flush was begun so; if it is the group's, its deadline is by its interval, and time has moved on to the promised time at most
  pub record IsBegunAs (past : List Record) (k : Place) : Type 0 where
    begin : begun_as (begin_of k.0 past) ≡ Some (k.1, k.2, k.3)
    still : same_name name k.1 ≡ true → time_at past ≤ max (time_at (begin_of k.0 past)) late
    until : same_name name k.1 ≡ true → k.3 ≡ deadline_from config name (time_at (begin_of k.0 past))

  begun-before : (q : Record) (past : List Record) (k : Place) → IsOneFlushAtATime q past → (same_name name k.1 ≡ true → time_at (q ∷ past) ≤ max (time_at past) late)
      → IsBegunAs past k → IsBegunAs (q ∷ past) k
  begun-before q past k once unmoved was =
      let same : begin_of k.0 (q ∷ past) ≡ begin_of k.0 past = ap (λ b. cond b (q ∷ past) (begin_of k.0 past)) (by (is_flush k.0 q.reply) refl) in
      let begins_at : time_at (begin_of k.0 (q ∷ past)) ≡ time_at (begin_of k.0 past) = ap time_at same in
      record {
        begin = ap begun_as same ∙ was.begin;
        still = λ own. let before = was.still own in let after = unmoved own in omega (arith, before, after, begins_at);
        until = λ own. was.until own ∙ ap (deadline_from config name) (sym begins_at);
      }
    where
      by : (b : Bool) → is_flush k.0 q.reply ≡ b → b ≡ false
      by true is = absurd (false≢true (sym (once.first_begin k.0 is) ∙ has-begun-as k.0 past (k.1, k.2, k.3) was.begin))
      by false is = refl

  begun-now : (at : ℕ) (group : GroupName) (opened : Opened) (past : List Record)
      → (same_name name group ≡ true → opened.deadline ≡ deadline_from config name (time_at (entry 0 (call.Begin at) (reply.Flush group opened) ∷ past)))
      → IsBegunAs (entry 0 (call.Begin at) (reply.Flush group opened) ∷ past) (opened.number, group, opened.notices, opened.deadline)
  begun-now at group opened past deadline =
      let here : begin_of opened.number (entry 0 (call.Begin at) (reply.Flush group opened) ∷ past) ≡ entry 0 (call.Begin at) (reply.Flush group opened) ∷ past =
      ap (λ b. cond b (entry 0 (call.Begin at) (reply.Flush group opened) ∷ past) (begin_of opened.number past)) (nat_eq_equiv.refl opened.number)
      in
      let begins_at : time_at (begin_of opened.number (entry 0 (call.Begin at) (reply.Flush group opened) ∷ past)) ≡ time_at (entry 0 (call.Begin at) (reply.Flush group opened) ∷ past) = ap time_at here in
      record { begin = ap begun_as here; still = λ own. omega (arith, begins_at); until = λ own. deadline own ∙ ap (deadline_from config name) (sym begins_at) }

  -- ---- what was finished so far ended so

  -- a finish at t comes in time, and all of its flush is delivered, or its deadline fails
  abbrev pub HasEnded : ℕ → List (ℕ × Outcome) → List Record → Type 0
  HasEnded t outcomes begin = (t ≤ max (time_at begin) late) × ((is_all_delivered outcomes begin ≡ true) ⊎ Fails (deadline_from config name (time_at begin)))

  abbrev pub Ended : Record → List Record → Type 0
  Ended q past = is_finish_of name past q.call ≡ true → OfFinish (HasEnded (time_at (q ∷ past))) past q.call

  abbrev pub IsDone : BoardData → Type 0
  IsDone b = AtEach Ended (past_of b.history)

  -- a call that finishes no flush of the group
  abbrev IsOther : Call → Type 0
  IsOther x = (past : List Record) → is_finish_of name past x ≡ true → ⊥

  recorded-other : (b : BoardData) (x : Call) (p : Reply) → IsOther x → IsDone b → IsDone (with_record b (entry 0 x p))
  recorded-other b x p other was = subst (AtEach Ended) (sym (past-more b x p)) (λ e. absurd (other (past_of b.history) e), was)

  called-other : (b : BoardData) (x : Call) → IsOther x → IsDone b → IsDone (with_call b x)
  called-other b x other was = by (reply_to b.config b.id (state_at b) x)
    where
      by : (o : Option Reply) → IsDone (option_map_or (λ p. with_record b (entry 0 x p)) o b)
      by None = was
      by (Some p) = recorded-other b x p other was

  noted-other : (at : ℕ) (t : TicketData) (index : ℕ) (b : BoardData) → IsDone b → IsDone (with_note at t index b)
  noted-other at t index b was = by (is_none (note_cause b.config b.id (records_at b) (state_at b) t index)) (slice_get t.notices index)
    where
      by : (free : Bool) (o : Option NoticeData) → IsDone (if free then option_map_or (λ n. with_call b (note_at at t n)) o b else b)
      by true None = was
      by true (Some n) = called-other b (note_at at t n) (λ past e. false≢true e) was
      by false o = was

  acted-other : (at : ℕ) (act : Action) (b : BoardData) → IsDone b → IsDone (with_call b (call_of at act))
  acted-other at (Insert alert) b was = called-other b (call.Insert at alert) (λ past e. false≢true e) was
  acted-other at (Silence silence) b was = called-other b (call_of_silence at silence) (λ past e. false≢true e) was
  acted-other at (Load row) b was = called-other b (call.Load at row) (λ past e. false≢true e) was

  -- a finish of a flush of the group comes in time, and reports all delivered, or the deadline fails
  called-finish : (b : BoardData) (at : ℕ) (t : TicketData) → IsBegunAs (past_of b.history) (place_of t)
      → (same_name name t.group ≡ true → (at ≤ max (time_at (past_of b.history)) late) × ((list_all (reports_delivered t.outcomes) t.notices ≡ true) ⊎ Fails t.deadline))
      → IsDone b → IsDone (with_call b (call.Finish at t.number t.outcomes))
  called-finish b at t begun own was = by (reply_to b.config b.id (state_at b) (call.Finish at t.number t.outcomes))
    where
      begin : List Record
      begin = begin_of t.number (past_of b.history)

      now : (p : Reply) → Ended (entry 0 (call.Finish at t.number t.outcomes) p) (past_of b.history)
      now p e =
          let mine = begins-own name begin (t.group, t.notices, t.deadline) begun.begin e in
          let soon : at ≤ max (time_at (past_of b.history)) late = (own mine).0 in
          let still : time_at (past_of b.history) ≤ max (time_at begin) late = begun.still mine in
          (omega (arith, soon, still), so mine (own mine).1)
        where
          so : same_name name t.group ≡ true → (list_all (reports_delivered t.outcomes) t.notices ≡ true) ⊎ Fails t.deadline → (is_all_delivered t.outcomes begin ≡ true) ⊎ Fails (deadline_from config name (time_at begin))
          so mine (inl all) = inl (delivered-begin t.outcomes begin (t.group, t.notices, t.deadline) begun.begin all)
          so mine (inr fails) = inr (subst Fails (begun.until mine) fails)

      by : (o : Option Reply) → IsDone (option_map_or (λ p. with_record b (entry 0 (call.Finish at t.number t.outcomes) p)) o b)
      by None = was
      by (Some p) = subst (AtEach Ended) (sym (past-more b (call.Finish at t.number t.outcomes) p)) (now p, was)

-- ---- each scene

module _ (r : Setting) (config : Config) (name : GroupName) (late : ℕ) (Fails : ℕ → Type 0) (promise : Promises r config name late Fails) where
  -- a flush in flight was begun as its ticket says, and if it is the group's, each of its sendings is a success, or its deadline fails
  abbrev IsFlight : List Record → SendingData → Type 0
  IsFlight past s =
      IsBegunAs config name late Fails past (place_of s.ticket) × (same_name name s.ticket.group ≡ true → IsSucceeding s.ticket (reports_of s) ⊎ Fails s.ticket.deadline)

  pub record IsDelivering (c : Scene) : Type 0 where
    prompted : IsPrompt r config name late Fails promise c
    flights : AllByRecursion (IsFlight (past_of c.board.history)) c.sendings
    pub done : IsDone config name late Fails c.board

  module _ (c d : Scene) (was : IsDelivering c) where
    -- ---- the flushes in flight

    -- a record more leaves them
    grown : (at : ℕ) → IsEarly r config name late Fails promise c d was.prompted at → IsMove c d at → AllByRecursion (IsFlight (past_of d.board.history)) c.sendings
    grown at early m = elim m.does [ inl did ↦ recorded did | inr did ↦ silent did ]
      where
        silent : IsSilent c d at → AllByRecursion (IsFlight (past_of d.board.history)) c.sendings
        silent did = subst (λ (b : BoardData). AllByRecursion (IsFlight (past_of b.history)) c.sendings) (sym did.board) was.flights

        unmoved : (x : Call) (p : Reply) → now_of x ≡ at → at ≤ max (state_at c.board).clock late
            → time_at (entry 0 x p ∷ past_of c.board.history) ≤ max (time_at (past_of c.board.history)) late
        unmoved x p is soon =
            let clock : (state_at c.board).clock ≡ time_at (past_of c.board.history) = clock-is c.board was.prompted.sound.legal in
            omega (arith, is, soon, clock)

        recorded : IsRecorded c d at → AllByRecursion (IsFlight (past_of d.board.history)) c.sendings
        recorded did =
            let x : Call = did.accepted in
            let p : Reply = did.returned in
            let looks = histories_look_back c.board.config c.board.id (more c.board x p).history (legal-more c.board x p was.prompted.sound.legal did.replied) in
            let once = subst (AtEach IsOneFlushAtATime) (past-more c.board x p) looks.once in
            subst (λ (b : BoardData). AllByRecursion (IsFlight (past_of b.history)) c.sendings) (sym did.board)
            (subst (λ (l : List Record). AllByRecursion (IsFlight l) c.sendings) (sym (past-more c.board x p))
            (all-both (IsFlight (past_of c.board.history)) (λ s. same_name name s.ticket.group ≡ true → at ≤ max (state_at c.board).clock late) (IsFlight (entry 0 x p ∷ past_of c.board.history))
            (λ s flight soon. (begun-before config name late Fails (entry 0 x p) (past_of c.board.history) (place_of s.ticket) once.0 (λ own. unmoved x p did.now (soon own)) flight.0, flight.1))
            c.sendings was.flights early))

    -- with the history as it is after a step
    abbrev Goal : Type 0
    Goal = AllByRecursion (IsFlight (past_of d.board.history)) c.sendings → AllByRecursion (IsFlight (past_of d.board.history)) d.sendings

    same_flights : d.sendings ≡ c.sendings → Goal
    same_flights is all = subst (AllByRecursion (IsFlight (past_of d.board.history))) (sym is) all

    one-end : (position index : ℕ) (s : SendingData) (e : _) → slice_get c.sendings position ≡ Some s → slice_get s.ends index ≡ Some e → d ≡ after_end c position s index e → Goal
    one-end position index s e here there is all =
        let flight : IsFlight (past_of d.board.history) s = all-get (IsFlight (past_of d.board.history)) c.sendings position s here all in
        subst (AllByRecursion (IsFlight (past_of d.board.history))) (sym (ap (λ (x : Scene). x.sendings) is))
        (all-set (IsFlight (past_of d.board.history)) c.sendings position (after_end_of s index e.report) all (
          subst (IsBegunAs config name late Fails (past_of d.board.history)) (sym (reported-place e.report s.ticket)) flight.0,
          λ own. after (flight.1 (sym (ap (λ (k : Place). same_name name k.1) (reported-place e.report s.ticket)) ∙ own)),
        ))
      where
        after : IsSucceeding s.ticket (reports_of s) ⊎ Fails s.ticket.deadline
            → IsSucceeding (with_report e.report s.ticket) (reports_of (after_end_of s index e.report)) ⊎ Fails (with_report e.report s.ticket).deadline
        after (inl succeeds) = inl (after-end s index e there succeeds)
        after (inr fails) = inr (subst Fails (sym (ap (λ (k : Place). k.3) (reported-place e.report s.ticket))) fails)

    one-finish : (position : ℕ) (s : SendingData) → d ≡ after_finish c position s → Goal
    one-finish position s is all =
        subst (AllByRecursion (IsFlight (past_of d.board.history))) (sym (ap (λ (x : Scene). x.sendings) is)) (all-remove (IsFlight (past_of d.board.history)) c.sendings position all)

    module _ (at : ℕ) (within : at ≤ r.until) where
      flushed : (group : GroupName) (opened : Opened) → begun c.board.config c.board.id (state_at c.board) (time (state_at c.board) at) ≡ reply.Flush group opened
          → IsReplied r c at d (reply.Flush group opened) → Goal
      flushed group opened is sent all =
          subst (AllByRecursion (IsFlight (past_of d.board.history))) (sym (ap (λ (x : Scene). x.sendings) sent.4))
          (all-push (IsFlight (past_of d.board.history)) c.sendings sent.0 all (begun_so, succeeds))
        where
          past-is : past_of d.board.history ≡ entry 0 (call.Begin at) (reply.Flush group opened) ∷ past_of c.board.history
          past-is = ap (λ (x : Scene). past_of x.board.history) sent.4 ∙ past-more c.board (call.Begin at) (reply.Flush group opened)

          deadline : same_name name group ≡ true → opened.deadline ≡ deadline_from config name (time_at (entry 0 (call.Begin at) (reply.Flush group opened) ∷ past_of c.board.history))
          deadline own =
              (timed-flush c.board.config c.board.id (state_at c.board) (time (state_at c.board) at) group opened is).0
              ∙ ap (λ (t : ℕ). deadline_from c.board.config group (max t (min at MAX_TIME))) (clock-is c.board was.prompted.sound.legal)
              ∙ ap (λ (x : Config). deadline_from x group (time_at (entry 0 (call.Begin at) (reply.Flush group opened) ∷ past_of c.board.history))) was.prompted.configured
              ∙ ap (λ (g : GroupName). deadline_from config g (time_at (entry 0 (call.Begin at) (reply.Flush group opened) ∷ past_of c.board.history))) (sym (same_name-is name group own))

          begun_so : IsBegunAs config name late Fails (past_of d.board.history) (place_of (sent.0).ticket)
          begun_so =
              subst (λ (l : List Record). IsBegunAs config name late Fails l (place_of (sent.0).ticket)) (sym past-is)
              (subst (IsBegunAs config name late Fails (entry 0 (call.Begin at) (reply.Flush group opened) ∷ past_of c.board.history)) (sym (ap place_of sent.1))
              (begun-now config name late Fails at group opened (past_of c.board.history) deadline))

          its : AllByRecursion (IsOfTicket (ticket_of c.board.id group opened)) opened.notices
          its =
              all-weaker (λ (n : NoticeData). (n.board_id ≡ c.board.id) × (n.ticket ≡ opened.number)) (IsOfTicket (ticket_of c.board.id group opened))
              (λ n own. record { board = own.0; number = own.1 }) opened.notices
              (subst (AreOwn c.board.id) is (begun-own c.board.config c.board.id (state_at c.board) (time (state_at c.board) at)))

          succeeds : same_name name (sent.0).ticket.group ≡ true → IsSucceeding (sent.0).ticket (reports_of sent.0) ⊎ Fails (sent.0).ticket.deadline
          succeeds own =
              let here : same_name name group ≡ true = sym (ap (λ (t : TicketData). same_name name t.group) sent.1) ∙ own in
              so (flush-kept r config name late Fails promise c d was.prompted at within group opened is here (sent.0).ends sent.3).1
            where
              so : AllByRecursion (λ e. is_success e.report ≡ true) (sent.0).ends ⊎ Fails opened.deadline → IsSucceeding (sent.0).ticket (reports_of sent.0) ⊎ Fails (sent.0).ticket.deadline
              so (inl all) =
                  inl (subst (λ (t : TicketData). IsSucceeding t (reports_of sent.0)) (sym sent.1)
                  (just-begun (answers_for r c.board group) r.span.cut at (ticket_of c.board.id group opened) (sent.0).ends sent.3 refl its all))
              so (inr fails) = inr (subst (λ (t : TicketData). Fails t.deadline) (sym sent.1) fails)

      replied : (p : Reply) → begun c.board.config c.board.id (state_at c.board) (time (state_at c.board) at) ≡ p → IsReplied r c at d p → Goal
      replied reply.NothingDue is did = same_flights (ap (λ (x : Scene). x.sendings) did)
      replied (reply.Quiet group removed) is did = same_flights (ap (λ (x : Scene). x.sendings) did)
      replied (reply.Flush group opened) is sent = flushed group opened is sent
      replied (reply.Inserted inserted) is did = absurd did
      replied (reply.Silenced silenced) is did = absurd did
      replied (reply.Finished finished) is did = absurd did
      replied (reply.Maintained maintained) is did = absurd did
      replied (reply.EmptyGroupsRemoved removed) is did = absurd did
      replied (reply.Forgotten forgotten) is did = absurd did
      replied (reply.Loaded loaded) is did = absurd did
      replied reply.Noted is did = absurd did

      begun_by : (cause : Option Fault) → IsBegun r c at d cause → Goal
      begun_by None did = replied (begun c.board.config c.board.id (state_at c.board) (time (state_at c.board) at)) refl did
      begun_by (Some fault.TooManyOpen) did = same_flights (ap (λ (x : Scene). x.sendings) did)
      begun_by (Some fault.NoMemory) did = absurd did
      begun_by (Some fault.TooManyAlerts) did = absurd did
      begun_by (Some fault.TooManyGroups) did = absurd did
      begun_by (Some fault.TooManySilences) did = absurd did
      begun_by (Some fault.HistoryFull) did = absurd did

    flown : Steps r c d → IsSomeAnd (next r c) (λ n. Goal)
    flown steps =
        step_by r c d (λ at. Goal) (λ position index s e here there is. one-end position index s e here there is) (λ position s here over is. one-finish position s is)
        (λ p ps did. same_flights (ap (λ (x : Scene). x.sendings) did.1)) (λ at is. same_flights (ap (λ (x : Scene). x.sendings) is)) (λ at is. same_flights (ap (λ (x : Scene). x.sendings) is))
        (λ at within did. begun_by at within (cause_of_none c.board at) did) steps

    -- ---- what was finished

    ended : (position index : ℕ) (s : SendingData) (e : _) → d ≡ after_end c position s index e → IsDone config name late Fails d.board
    ended position index s e is = subst (λ (x : Scene). IsDone config name late Fails x.board) (sym is) (by (is_success e.report))
      where
        by : (success : Bool) → IsDone config name late Fails (if success then with_note e.at (with_report e.report s.ticket) e.index c.board else c.board)
        by true = noted-other config name late Fails e.at (with_report e.report s.ticket) e.index c.board was.done
        by false = was.done

    finished : (position : ℕ) (s : SendingData) → slice_get c.sendings position ≡ Some s → none_left s.ends ≡ true → d ≡ after_finish c position s → IsDone config name late Fails d.board
    finished position s here over is =
        subst (λ (x : Scene). IsDone config name late Fails x.board) (sym is) (called-finish config name late Fails c.board c.clock s.ticket flight.0 (λ own. (soon own, so (flight.1 own))) was.done)
      where
        flight : IsFlight (past_of c.board.history) s
        flight = all-get (IsFlight (past_of c.board.history)) c.sendings position s here was.flights

        so : IsSucceeding s.ticket (reports_of s) ⊎ Fails s.ticket.deadline → (list_all (reports_delivered s.ticket.outcomes) s.ticket.notices ≡ true) ⊎ Fails s.ticket.deadline
        so (inl succeeds) = inl (all-delivered s.ticket (subst (IsSucceeding s.ticket) (none-reported s over) succeeds))
        so (inr fails) = inr fails

        soon : same_name name s.ticket.group ≡ true → c.clock ≤ max (time_at (past_of c.board.history)) late
        soon own =
            let swift : c.clock ≤ max (state_at c.board).clock late =
            (all-get (IsSwift r config name late Fails promise (state_at c.board).clock c.clock) c.sendings position s here was.prompted.swift own).0
            in
            let clock : (state_at c.board).clock ≡ time_at (past_of c.board.history) = clock-is c.board was.prompted.sound.legal in
            omega (arith, swift, clock)

    begun-done : (at : ℕ) (p : Reply) → IsReplied r c at d p → IsDone config name late Fails d.board
    begun-done at reply.NothingDue did = subst (λ (x : Scene). IsDone config name late Fails x.board) (sym did) (recorded-other config name late Fails c.board (call.Begin at) reply.NothingDue (λ past e. false≢true e) was.done)
    begun-done at (reply.Quiet group removed) did =
        subst (λ (x : Scene). IsDone config name late Fails x.board) (sym did) (recorded-other config name late Fails c.board (call.Begin at) (reply.Quiet group removed) (λ past e. false≢true e) was.done)
    begun-done at (reply.Flush group opened) sent =
        subst (λ (x : Scene). IsDone config name late Fails x.board) (sym sent.4) (recorded-other config name late Fails c.board (call.Begin at) (reply.Flush group opened) (λ past e. false≢true e) was.done)
    begun-done at (reply.Inserted inserted) did = absurd did
    begun-done at (reply.Silenced silenced) did = absurd did
    begun-done at (reply.Finished finished) did = absurd did
    begun-done at (reply.Maintained maintained) did = absurd did
    begun-done at (reply.EmptyGroupsRemoved removed) did = absurd did
    begun-done at (reply.Forgotten forgotten) did = absurd did
    begun-done at (reply.Loaded loaded) did = absurd did
    begun-done at reply.Noted did = absurd did

    cause-done : (at : ℕ) (cause : Option Fault) → IsBegun r c at d cause → IsDone config name late Fails d.board
    cause-done at None did = begun-done at (begun c.board.config c.board.id (state_at c.board) (time (state_at c.board) at)) did
    cause-done at (Some fault.TooManyOpen) did = subst (λ (x : Scene). IsDone config name late Fails x.board) (sym did) was.done
    cause-done at (Some fault.NoMemory) did = absurd did
    cause-done at (Some fault.TooManyAlerts) did = absurd did
    cause-done at (Some fault.TooManyGroups) did = absurd did
    cause-done at (Some fault.TooManySilences) did = absurd did
    cause-done at (Some fault.HistoryFull) did = absurd did

    all-done : Steps r c d → IsSomeAnd (next r c) (λ n. IsDone config name late Fails d.board)
    all-done steps =
        step_by r c d (λ at. IsDone config name late Fails d.board) (λ position index s e here there is. ended position index s e is) (λ position s here over is. finished position s here over is)
        (λ p ps did. subst (λ (x : Scene). IsDone config name late Fails x.board) (sym did.1) (acted-other config name late Fails p.at p.act c.board was.done))
        (λ at is. subst (λ (x : Scene). IsDone config name late Fails x.board) (sym is) (called-other config name late Fails c.board (call.Maintain at) (λ past e. false≢true e) was.done))
        (λ at is. subst (λ (x : Scene). IsDone config name late Fails x.board) (sym is) (called-other config name late Fails c.board (call.RemoveEmptyGroups at) (λ past e. false≢true e) was.done))
        (λ at within did. cause-done at (cause_of_none c.board at) did) steps

    -- ---- a step

    delivering : Steps r c d → IsDelivering d
    delivering steps =
        let m = some_of (next r c) (λ n. IsMove c d n.at) (moves r c d was.prompted.sound steps) in
        let goal : Goal = said (next r c) m.0 m.1 (λ n. Goal) (flown steps) in
        record {
          prompted = prompt r config name late Fails promise c d was.prompted steps;
          flights = goal (grown m.0.at (early-next r config name late Fails promise c d was.prompted m.0 m.1) m.2);
          done = said (next r c) m.0 m.1 (λ n. IsDone config name late Fails d.board) (all-done steps);
        }

  kept-delivering : (k : ℕ) (c d : Scene) → IsDelivering c → LeadsIn r k c d → IsDelivering d
  kept-delivering zero c d was same = subst IsDelivering same was
  kept-delivering (suc k) c d was led = delivering led.0 d (kept-delivering k c led.0 was led.1) led.2

  opening-delivering : (plans : List TimedAction) → IsDelivering (opening_scene r config plans)
  opening-delivering plans = record { prompted = opening-prompt r config name late Fails promise plans; flights = tt; done = tt }

  -- so it is in a play
  pub flushes_end : (plans : List TimedAction) (board : BoardData) (events : List Event) → PlaysTo r config plans board events → IsDone config name late Fails board
  flushes_end plans board events play =
      let last = kept-delivering play.reached.0 (opening_scene r config plans) play.last (opening-delivering plans) play.reached.1 in
      subst (IsDone config name late Fails) (sym play.board_is) last.done
