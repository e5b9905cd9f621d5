-- While a flush of a group is open whose receiver keeps its promises, time moves on no further than they say.
use Rattle.std.proofs.Common.{◌≡◌, ℕ, zero, suc, ◌+◌, ◌<◌, ◌≤◌, max, min, Bool, true, false, ◌||◌, nat_le, nat_lt, List, [], ◌∷◌, map, remove, Option, Some, None, ◌⊎◌, inl, inr, refl, sym, ap, ◌∙◌, subst, arith, if◌then◌else◌}
use Rattle.std.specs.Prelude.{is_some, slice_get, slice_set}
use Rattle.std.specs.List.{AllByRecursion, list_any}
use Rattle.std.specs.Option.{IsSomeAnd}
use Rattle.std.proofs.lemmas.Bool.{false≢true, le-leb, leb-true}
use Rattle.std.proofs.lemmas.Bool.Decides.{nat_tests}
use Rattle.am_alerts.specs.declared.limits.TheConstants.{MAX_TIME}
use Rattle.am_board.specs.History.{BoardData, state_at}
use Rattle.am_model.proofs.legal.Histories.{after_clock}
use Rattle.am_model.proofs.lists.Distinct.{all-both, all-push, all-weaker}
use Rattle.am_model.proofs.states.Alike.{same_name-is}
use Rattle.am_model.specs.declared.config.Config.{Config}
use Rattle.am_model.specs.declared.fault.Fault.{Fault}
use Rattle.am_model.specs.declared.fault.Fault.TheVariants as fault
use Rattle.am_model.specs.declared.group.GroupName.{GroupName}
use Rattle.am_model.specs.declared.record.Call.{Call}
use Rattle.am_model.specs.declared.record.Call.TheVariants as call
use Rattle.am_model.specs.declared.notice.Report.{Report}
use Rattle.am_model.specs.declared.record.Opened.{Opened}
use Rattle.am_model.specs.declared.record.Reply.{Reply}
use Rattle.am_model.specs.declared.record.Reply.TheVariants as reply
use Rattle.am_model.specs.Begin.{begun}
use Rattle.am_model.specs.Configured.{route_of}
use Rattle.am_model.specs.Notice.{NoticeData}
use Rattle.am_model.specs.Records.{entry, now_of}
use Rattle.am_model.specs.State.{State, is_flushing, same_name, time}
use Rattle.am_model.specs.Ticket.{TicketData, recorded, report_fault}
use Rattle.am_model.specs.look_back.Laws.{has_open}
use Rattle.am_model.specs.look_back.Past.{AtEach, past_of, time_at}
use Rattle.am_paging.proofs.Standing.{one-is}
use Rattle.am_simulation.proofs.Coming.{next_else, next_on}
use Rattle.am_simulation.specs.Answers.{AreEndsOf, answer_of}
use Rattle.am_simulation.specs.Next.{begins_on, comes_by, earlier, in_time, next, next_begin, next_but_begins, next_end, next_end_of, next_finish, next_of_all, next_of_others, next_plan, next_removal}
use Rattle.am_simulation.specs.Play.{LeadsIn, PlaysTo}
use Rattle.am_simulation.specs.Scene.{Scene, SendingData, Setting, opening_scene}
use Rattle.am_simulation.specs.Steps.{IsBegun, IsReplied, Steps, after_end_of, answers_for, is_success, with_report}
use Rattle.am_simulation.specs.Taking.{cause_of_none}
use Rattle.am_terms.specs.declared.event.Event.{Event}
use Rattle.am_terms.specs.declared.rehearsal.TimedAction.{TimedAction}
use Rattle.am_plays.proofs.Moves.{IsMove, IsRecorded, IsSilent, flight}
use Rattle.am_plays.proofs.OpenFlights.{Key, key_of}
use Rattle.am_plays.proofs.PassedOver.{clock-is, open-is, past-more}
use Rattle.am_plays.proofs.Promises.{Promises, all-kept, deadline_from, later-deadline, timed-flush}
use Rattle.am_plays.proofs.Sound.{IsSound, move-sound, moves, opening-sound, state-more, step-as}
use Rattle.am_plays.proofs.StepKinds.{step_by}
use Rattle.am_plays.proofs.Words.{all-get, all-remove, all-set, said, some_of}

-- ---- what comes by a time

by_first : (t : ℕ) (a b : Option _) → comes_by t a ≡ true → comes_by t (earlier a b) ≡ true
by_first t None b h = absurd (false≢true h)
by_first t (Some n) None h = h
by_first t (Some n) (Some m) h = by (nat_lt m.at n.at) refl
  where
    by : (b : Bool) → nat_lt m.at n.at ≡ b → comes_by t (if b then Some m else Some n) ≡ true
    by true is = grind (arith, nat_tests, is, h)
    by false is = h

by_second : (t : ℕ) (a b : Option _) → comes_by t b ≡ true → comes_by t (earlier a b) ≡ true
by_second t None b h = h
by_second t (Some n) None h = absurd (false≢true h)
by_second t (Some n) (Some m) h = by (nat_lt m.at n.at) refl
  where
    by : (b : Bool) → nat_lt m.at n.at ≡ b → comes_by t (if b then Some m else Some n) ≡ true
    by true is = h
    by false is = grind (arith, nat_tests, is, h)

module _ (r : Setting) (c : Scene) where
  -- a flush in flight at a time: its ends come by then, or its finish does
  abbrev Comes : ℕ → List SendingData → SendingData → Type 0
  Comes position ss s =
      (t : ℕ) → c.clock ≤ t → AllByRecursion (λ e. e.at ≤ t) s.ends
      → (comes_by t (next_end position ss) ≡ true) ⊎ (comes_by t (next_finish c.clock position ss) ≡ true)

  each_comes : (position : ℕ) (ss : List SendingData) → AllByRecursion (Comes position ss) ss
  each_comes position [] = tt
  each_comes position (s ∷ ss) = (
    λ t soon ends. first t s.ends refl ends (le-leb c.clock t soon),
    all-weaker (Comes (position + 1) ss) (Comes position (s ∷ ss)) (λ x comes t soon ends. later t (le-leb c.clock t soon) (comes t soon ends)) ss (each_comes (position + 1) ss),
  )
    where
      first : (t : ℕ) (es : List _) → s.ends ≡ es → AllByRecursion (λ e. e.at ≤ t) es → nat_le c.clock t ≡ true
          → (comes_by t (next_end position (record { ticket = s.ticket; begin = s.begin; ends = es } ∷ ss)) ≡ true)
          ⊎ (comes_by t (next_finish c.clock position (record { ticket = s.ticket; begin = s.begin; ends = es } ∷ ss)) ≡ true)
      first t [] is ends soon = inr soon
      first t (e ∷ es) is ends soon =
          inl (by_first t (next_end_of position 0 (e ∷ es)) (next_end (position + 1) ss)
          (by_first t (next_end_of position 0 (e ∷ [])) (next_end_of position (0 + 1) es) (le-leb e.at t ends.0)))

      by_finish : (t : ℕ) (es : List _) → s.ends ≡ es → nat_le c.clock t ≡ true → comes_by t (next_finish c.clock (position + 1) ss) ≡ true
          → comes_by t (next_finish c.clock position (record { ticket = s.ticket; begin = s.begin; ends = es } ∷ ss)) ≡ true
      by_finish t [] is soon h = soon
      by_finish t (e ∷ es) is soon h = h

      later : (t : ℕ) → nat_le c.clock t ≡ true → (comes_by t (next_end (position + 1) ss) ≡ true) ⊎ (comes_by t (next_finish c.clock (position + 1) ss) ≡ true)
          → (comes_by t (next_end position (s ∷ ss)) ≡ true) ⊎ (comes_by t (next_finish c.clock position (s ∷ ss)) ≡ true)
      later t soon (inl h) = inl (by_second t (next_end_of position 0 s.ends) (next_end (position + 1) ss) h)
      later t soon (inr h) = inr (by_finish t s.ends refl soon h)

  -- so does the next step
  next_comes : (t : ℕ) → c.clock ≤ t → (comes_by t (next_end 0 c.sendings) ≡ true) ⊎ (comes_by t (next_finish c.clock 0 c.sendings) ≡ true) → comes_by t (next r c) ≡ true
  next_comes t soon h = by (begins_on r c) refl
    where
      same : (o p : Option _) → p ≡ o → comes_by t p ≡ true → comes_by t o ≡ true
      same o p is h = subst (λ q. comes_by t q ≡ true) is h

      flights : comes_by t (earlier (next_end 0 c.sendings) (next_finish c.clock 0 c.sendings)) ≡ true
      flights =
          elim h [
            | inl ends ↦ by_first t (next_end 0 c.sendings) (next_finish c.clock 0 c.sendings) ends
            | inr finish ↦ by_second t (next_end 0 c.sendings) (next_finish c.clock 0 c.sendings) finish
          ]

      by : (b : Bool) → begins_on r c ≡ b → comes_by t (next r c) ≡ true
      by true is = same (next r c) _ (sym (next_on r c is)) (le-leb c.clock t soon)
      by false is =
          same (next r c) (next_of_all r c) (sym (next_else r c is))
          (by_first t (next_but_begins r c) (next_begin r c)
          (by_second t (next_removal r c) (next_of_others r c)
          (by_first t (earlier (next_end 0 c.sendings) (next_finish c.clock 0 c.sendings)) (earlier (next_plan r.until c.plans) (in_time r.until c.maintenance _)) flights)))

-- a report leaves a ticket its group
pub reported_group : (o : Option Report) (t : TicketData) → (with_report o t).group ≡ t.group
reported_group None t = refl
reported_group (Some p) t = elim (is_some (report_fault t p)) as (λ b. (if b then t else recorded t p).group ≡ t.group) [ true ↦ refl | false ↦ refl ]

-- ---- lists of flushes in flight

any-map : {X Y : Type 0} (f : X → Y) (test : Y → Bool) (xs : List X) → list_any test (map f xs) ≡ list_any (λ x. test (f x)) xs
any-map f test [] = refl
any-map f test (x ∷ xs) = λ i. test (f x) || any-map f test xs i

module _ (r : Setting) (config : Config) (name : GroupName) (late : ℕ) (Fails : ℕ → Type 0) (promise : Promises r config name late Fails) where
  -- whether a flush in flight is the group's
  abbrev pub is_own : SendingData → Bool
  is_own s = same_name name s.ticket.group

  -- where it is, its ends come by t or the promised time, and it is no later
  abbrev pub IsSwift : ℕ → ℕ → SendingData → Type 0
  IsSwift t clock s = is_own s ≡ true → (clock ≤ max t late) × AllByRecursion (λ e. e.at ≤ max t late) s.ends

  -- while a flush of the group is open, time moves on to the promised time at most
  abbrev pub IsStill : BoardData → Type 0
  IsStill b = AtEach (λ q past. has_open name past ≡ true → time_at (q ∷ past) ≤ max (time_at past) late) (past_of b.history)

  pub record IsPrompt (c : Scene) : Type 0 where
    pub sound : IsSound c
    pub configured : c.board.config ≡ config
    pub swift : AllByRecursion (IsSwift (state_at c.board).clock c.clock) c.sendings
    pub still : IsStill c.board

  module _ (c d : Scene) (was : IsPrompt c) where
    -- the time of the board
    abbrev now : ℕ
    now = (state_at c.board).clock

    abbrev new : ℕ
    new = (state_at d.board).clock

    -- while a flush of the group is in flight, a step at this time isn't after now or the promised time
    abbrev pub IsEarly : ℕ → Type 0
    IsEarly at = AllByRecursion (λ s. is_own s ≡ true → at ≤ max now late) c.sendings

    pub early-next : (n : _) → next r c ≡ Some n → IsEarly n.at
    early-next n is =
        all-both (IsSwift now c.clock) (Comes r c 0 c.sendings) (λ s. is_own s ≡ true → n.at ≤ max now late)
        (λ s swift comes own. by (next_comes r c (max now late) (swift own).0 (comes (max now late) (swift own).0 (swift own).1)))
        c.sendings was.swift (each_comes r c 0 c.sendings)
      where
        by : comes_by (max now late) (next r c) ≡ true → n.at ≤ max now late
        by h = leb-true n.at (max now late) (subst (λ o. comes_by (max now late) o ≡ true) is h)

    -- ---- the flushes in flight after a step

    abbrev Goal : ℕ → Type 0
    Goal at = IsEarly at → now ≤ new → AllByRecursion (IsSwift new at) d.sendings

    moved : (at : ℕ) → IsEarly at → now ≤ new → AllByRecursion (IsSwift new at) c.sendings
    moved at early grows =
        all-both (IsSwift now c.clock) (λ s. is_own s ≡ true → at ≤ max now late) (IsSwift new at)
        (λ s swift soon own. (later at (soon own), all-weaker (λ e. e.at ≤ max now late) (λ e. e.at ≤ max new late) (λ e come. later e.at come) s.ends (swift own).1)) c.sendings was.swift early
      where
        later : (t : ℕ) → t ≤ max now late → t ≤ max new late
        later t come = omega (arith, come, grows)

    same_flights : (at : ℕ) → d.sendings ≡ c.sendings → Goal at
    same_flights at is early grows = subst (AllByRecursion (IsSwift new at)) (sym is) (moved at early grows)

    on_end : (position index : ℕ) (s : SendingData) (report : Option Report) (at : ℕ) → slice_get c.sendings position ≡ Some s
        → d.sendings ≡ slice_set c.sendings position (after_end_of s index report) → Goal at
    on_end position index s report at here is early grows =
        let all = moved at early grows in
        let own : IsSwift new at s = all-get (IsSwift new at) c.sendings position s here all in
        subst (AllByRecursion (IsSwift new at)) (sym is)
        (all-set (IsSwift new at) c.sendings position (after_end_of s index report) all
        (λ same. let swift = own (sym (ap (same_name name) (reported_group report s.ticket)) ∙ same) in (swift.0, all-remove (λ e. e.at ≤ max new late) s.ends index swift.1)))

    on_finish : (position at : ℕ) → d.sendings ≡ remove c.sendings position → Goal at
    on_finish position at is early grows =
        subst (AllByRecursion (IsSwift new at)) (sym is) (all-remove (IsSwift new at) c.sendings position (moved at early grows))

    module _ (at : ℕ) (within : at ≤ r.until) where
      -- the ends of a flush of the group keep the promise
      pub flush-kept : (group : GroupName) (opened : Opened) → begun c.board.config c.board.id (state_at c.board) (time (state_at c.board) at) ≡ reply.Flush group opened
          → same_name name group ≡ true → (es : List _) → AreEndsOf (answers_for r c.board group) r.span.cut at 0 opened.notices es
          → AllByRecursion (λ e. e.at ≤ max at late) es × (AllByRecursion (λ e. is_success e.report ≡ true) es ⊎ Fails opened.deadline)
      flush-kept group opened is own es are =
          all-kept r config name late Fails promise at 0 opened.deadline within before opened.notices es
          (subst (λ (x : Config). AreEndsOf (answer_of r.span.cut r.outages (route_of x name).receiver) r.span.cut at 0 opened.notices es) was.configured
          (subst (λ (g : GroupName). AreEndsOf (answer_of r.span.cut r.outages (route_of c.board.config g).receiver) r.span.cut at 0 opened.notices es) (sym (same_name-is name group own)) are))
          timed.1
        where
          timed : (opened.deadline ≡ deadline_from c.board.config group (time (state_at c.board) at)) × AllByRecursion (λ (n : NoticeData). n.deadline ≡ opened.deadline) opened.notices
          timed = timed-flush c.board.config c.board.id (state_at c.board) (time (state_at c.board) at) group opened is

          before : at < opened.deadline
          before =
              let ends = promise.ends in
              let after = later-deadline c.board.config group (time (state_at c.board) at) in
              let deadline = timed.0 in
              omega (arith, after, deadline, within, ends)

      flushed : (group : GroupName) (opened : Opened) → begun c.board.config c.board.id (state_at c.board) (time (state_at c.board) at) ≡ reply.Flush group opened
          → IsReplied r c at d (reply.Flush group opened) → Goal at
      flushed group opened is sent early grows =
          subst (AllByRecursion (IsSwift new at)) (sym (ap (λ (x : Scene). x.sendings) sent.4))
          (all-push (IsSwift new at) c.sendings sent.0 (moved at early grows) added)
        where
          since : new ≡ max now (min at MAX_TIME)
          since =
              ap (λ (x : Scene). (state_at x.board).clock) sent.4
              ∙ ap (λ (s : State). s.clock) (state-more c.board (call.Begin at) (reply.Flush group opened)) ∙ after_clock c.board.config (state_at c.board) (call.Begin at)

          added : IsSwift new at sent.0
          added own =
              let here : same_name name group ≡ true = sym (ap (λ (t : TicketData). same_name name t.group) sent.1) ∙ own in
              let ends = promise.ends in (
                omega (arith, since, within, ends),
                all-weaker (λ e. e.at ≤ max at late) (λ e. e.at ≤ max new late) (λ e h. let come : e.at ≤ max at late = h in omega (arith, come, since, within, ends)) (sent.0).ends
                    (flush-kept group opened is here (sent.0).ends sent.3).0,
              )

      replied : (p : Reply) → begun c.board.config c.board.id (state_at c.board) (time (state_at c.board) at) ≡ p → IsReplied r c at d p → Goal at
      replied reply.NothingDue is done = same_flights at (ap (λ (x : Scene). x.sendings) done)
      replied (reply.Quiet group removed) is done = same_flights at (ap (λ (x : Scene). x.sendings) done)
      replied (reply.Flush group opened) is sent = flushed group opened is sent
      replied (reply.Inserted inserted) is done = absurd done
      replied (reply.Silenced silenced) is done = absurd done
      replied (reply.Finished finished) is done = absurd done
      replied (reply.Maintained maintained) is done = absurd done
      replied (reply.EmptyGroupsRemoved removed) is done = absurd done
      replied (reply.Forgotten forgotten) is done = absurd done
      replied (reply.Loaded loaded) is done = absurd done
      replied reply.Noted is done = absurd done

      begun_by : (cause : Option Fault) → IsBegun r c at d cause → Goal at
      begun_by None done = replied (begun c.board.config c.board.id (state_at c.board) (time (state_at c.board) at)) refl done
      begun_by (Some fault.TooManyOpen) done = same_flights at (ap (λ (x : Scene). x.sendings) done)
      begun_by (Some fault.NoMemory) done = absurd done
      begun_by (Some fault.TooManyAlerts) done = absurd done
      begun_by (Some fault.TooManyGroups) done = absurd done
      begun_by (Some fault.TooManySilences) done = absurd done
      begun_by (Some fault.HistoryFull) done = absurd done

    flights : Steps r c d → IsSomeAnd (next r c) (λ n. Goal n.at)
    flights steps =
        step_by r c d Goal (λ position index s e here there done. on_end position index s e.report e.at here (ap (λ (x : Scene). x.sendings) done))
        (λ position s here over done. on_finish position c.clock (ap (λ (x : Scene). x.sendings) done)) (λ p ps done. same_flights p.at (ap (λ (x : Scene). x.sendings) done.1))
        (λ at done. same_flights at (ap (λ (x : Scene). x.sendings) done)) (λ at done. same_flights at (ap (λ (x : Scene). x.sendings) done)) (λ at within done. begun_by at within (cause_of_none c.board at) done) steps

    -- ---- a step

    -- while a flush of the group is open, one is in flight
    own_flies : is_flushing (state_at c.board).flushes name ≡ true → list_any is_own c.sendings ≡ true
    own_flies flushing =
        sym (any-map flight (λ (k : Key). same_name name k.1) c.sendings) ∙ ap (list_any (λ (k : Key). same_name name k.1)) was.sound.airborne
        ∙ any-map key_of (λ (k : Key). same_name name k.1) (state_at c.board).flushes ∙ flushing

    unmoved : (at : ℕ) → IsEarly at → (x : Call) (p : Reply) → now_of x ≡ at
        → has_open name (past_of c.board.history) ≡ true → time_at (entry 0 x p ∷ past_of c.board.history) ≤ max (time_at (past_of c.board.history)) late
    unmoved at early x p is opened =
        let soon : at ≤ max now late = one-is is_own (at ≤ max now late) c.sendings early (own_flies (sym (open-is c.board was.sound.legal name) ∙ opened)) in
        let clock : now ≡ time_at (past_of c.board.history) = clock-is c.board was.sound.legal in
        omega (arith, soon, clock, is)

    still-after : (at : ℕ) → IsEarly at → IsMove c d at → IsStill d.board × (now ≤ new)
    still-after at early m = elim m.does [ inl did ↦ recorded did | inr did ↦ silent did ]
      where
        recorded : IsRecorded c d at → IsStill d.board × (now ≤ new)
        recorded did =
            let since : new ≡ max now (min (now_of did.accepted) MAX_TIME) =
            ap (λ (b : BoardData). (state_at b).clock) did.board ∙ ap (λ (s : State). s.clock) (state-more c.board did.accepted did.returned) ∙ after_clock c.board.config (state_at c.board) did.accepted
            in (
              subst IsStill (sym did.board)
                  (subst (AtEach (λ q past. has_open name past ≡ true → time_at (q ∷ past) ≤ max (time_at past) late)) (sym (past-more c.board did.accepted did.returned))
                  (unmoved at early did.accepted did.returned did.now, was.still)),
              omega (arith, since),
            )

        silent : IsSilent c d at → IsStill d.board × (now ≤ new)
        silent did =
            let same : new ≡ now = ap (λ (b : BoardData). (state_at b).clock) did.board in
            (subst IsStill (sym did.board) was.still, omega (arith, same))

    pub prompt : Steps r c d → IsPrompt d
    prompt steps =
        let m = some_of (next r c) (λ n. IsMove c d n.at) (moves r c d was.sound steps) in
        let early = early-next m.0 m.1 in
        let after = still-after m.0.at early m.2 in
        let goal : Goal m.0.at = said (next r c) m.0 m.1 (λ n. Goal n.at) (flights steps) in
        record {
          sound = move-sound c d was.sound m.0.at m.2;
          configured = (step-as r c d was.sound steps).0 ∙ was.configured;
          swift = subst (λ (t : ℕ). AllByRecursion (IsSwift new t) d.sendings) (sym m.2.clock) (goal early after.1);
          still = after.0;
        }

  kept-prompt : (k : ℕ) (c d : Scene) → IsPrompt c → LeadsIn r k c d → IsPrompt d
  kept-prompt zero c d was same = subst IsPrompt same was
  kept-prompt (suc k) c d was led = prompt led.0 d (kept-prompt k c led.0 was led.1) led.2

  pub opening-prompt : (plans : List TimedAction) → IsPrompt (opening_scene r config plans)
  opening-prompt plans = record { sound = opening-sound r config plans; configured = refl; swift = tt; still = tt }

  -- so it is in a play
  pub time_is_still : (plans : List TimedAction) (board : BoardData) (events : List Event) → PlaysTo r config plans board events → IsStill board
  time_is_still plans board events play =
      let last = kept-prompt play.reached.0 (opening_scene r config plans) play.last (opening-prompt plans) play.reached.1 in
      subst IsStill (sym play.board_is) last.still
