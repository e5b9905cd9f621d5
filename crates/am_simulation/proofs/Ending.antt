-- A rehearsal ends: how many steps lead on at most, which falls with each step.
use Rattle.std.proofs.Common.{◌≡◌, ℕ, suc, ◌+◌, ◌-◌, ◌*◌, ◌<◌, ◌≤◌, Bool, true, false, not, ◌||◌, IsTrue, List, [], ◌∷◌, ◌++◌, drop, length, map, get_or, sum_by, remove, Option, Some, None, refl, sym, ap, ◌∙◌, subst, arith, if◌then◌else◌}
use Rattle.std.specs.Prelude.{is_none, slice_get, slice_set}
use Rattle.std.specs.Option.{IsSomeAnd, option_map_or}
use Rattle.std.proofs.lemmas.Bool.{false≢true}
use Rattle.std.proofs.lemmas.Bool.Decides.{nat_tests}
use Rattle.std.proofs.lemmas.List.{length-map, length_push}
use Rattle.std.proofs.lemmas.List.Edits.{length-remove}
use Rattle.std.proofs.lemmas.List.Sums.{sum_by-remove, sum_by-set, sum_by_push}
use Rattle.std.proofs.lemmas.Option.{get_or_from_slice_get, slice_get_within}
use Rattle.am_board.specs.History.{BoardData, records_at, state_at, with_record}
use Rattle.am_model.proofs.configuration.Faultless.{few_integrations}
use Rattle.am_model.proofs.configuration.FewNotified.{few_notified}
use Rattle.am_model.specs.Begin.{notified_of, begun, notice_for, reply_notifying, reply_taking, taken}
use Rattle.am_model.specs.Causes.{insert_cause, is_full, note_cause, silence_cause}
use Rattle.am_model.specs.Config.{config_fault}
use Rattle.am_model.specs.Configured.{HaveFewIntegrations}
use Rattle.am_model.specs.Insert.{inserted}
use Rattle.am_model.specs.Notice.{NoticeData}
use Rattle.am_model.specs.Records.{call_of_silence, entry}
use Rattle.am_model.specs.Replay.{reply as reply_to}
use Rattle.am_model.specs.State.{GroupState, State, time}
use Rattle.am_model.specs.Ticket.{TicketData}
use Rattle.am_model.specs.Maintenance.{empty_groups_removed, maintained, silenced}
use Rattle.am_model.specs.declared.config.Config.{Config}
use Rattle.am_model.specs.declared.config.Integration.{Integration}
use Rattle.am_model.specs.declared.config.TheConstants.{MAX_INTEGRATIONS}
use Rattle.am_model.specs.declared.fault.Fault.{Fault}
use Rattle.am_model.specs.declared.fault.Fault.TheVariants as fault
use Rattle.am_model.specs.declared.record.Call.{Call}
use Rattle.am_model.specs.declared.record.Call.TheVariants as call
use Rattle.am_model.specs.declared.record.Record.{Record}
use Rattle.am_model.specs.declared.record.Reply.{Reply}
use Rattle.am_model.specs.declared.record.Reply.TheVariants as reply
use Rattle.am_mute.specs.Silence.{silence_of}
use Rattle.am_pool.specs.Sendings.{note_at}
use Rattle.am_pool.specs.declared.courier.Sent.{Sent}
use Rattle.am_simulation.proofs.Coming.{next_there}
use Rattle.am_simulation.proofs.Loading.{load_taken, load_reply, load_unfull, no_cause}
use Rattle.am_simulation.specs.Answers.{AreEndsOf}
use Rattle.am_simulation.specs.Simulations.{IsAllowed, IsThereFor}
use Rattle.am_simulation.specs.Next.{next}
use Rattle.am_simulation.specs.Planned.{call_of, refuses}
use Rattle.am_simulation.specs.Scene.{Scene, SendingData, Setting}
use Rattle.am_simulation.specs.Steps.{IsBegun, IsDone, IsPlanDone, IsReplied, Steps, after_end, after_end_of, after_finish, after_maintenance, after_nothing, after_plan, after_removal, after_taking, after_too_many, answers_for, is_success, with_call, with_note, with_report, with_sending}
use Rattle.am_simulation.specs.Taking.{cause_of_none}
use Rattle.am_simulation.specs.CauseOfFault.{own_cause}
use Rattle.am_simulation.specs.declared.next.End.{End}
use Rattle.am_simulation.specs.declared.next.Next.{Next}
use Rattle.am_simulation.specs.declared.next.Step.{Step}
use Rattle.am_simulation.specs.declared.next.Step.TheVariants as step
use Rattle.am_terms.specs.declared.rehearsal.Action.{Action}
use Rattle.am_terms.specs.declared.rehearsal.Action.TheVariants.{Insert, Silence, Load}
use Rattle.am_terms.specs.declared.rehearsal.TimedAction.{TimedAction}

-- the ends and the finish that are to come of a flush
abbrev pub to_come : SendingData → ℕ
to_come s = length s.ends + 1

-- and of all flushes in flight
abbrev pub in_flight : List SendingData → ℕ
in_flight ss = sum_by to_come ss

-- a record that is left can be of a begin that opens a flush of 64 notices; a finish lets begins come again
abbrev pub weigh : ℕ → ℕ → ℕ → ℕ → ℕ → ℕ
weigh limit records flight comes goes = 132 * (limit - records) + 2 * flight + comes + goes

-- how many calls a board accepted
abbrev pub calls_of : BoardData → ℕ
calls_of b = length b.history

-- how many steps lead on from a scene at most, where a history has at most so many records
abbrev pub steps_left : ℕ → Scene → ℕ
steps_left limit c =
    weigh limit (calls_of c.board) (in_flight c.sendings) (if c.blocked then 0 else 1) (if c.begins then 1 else 0)

-- where no record is lost, and less is in flight
falls_outside : (limit n m f g b d a e : ℕ) → n ≤ m → 2 * g + d + e < 2 * f + b + a → weigh limit m g d e < weigh limit n f b a
falls_outside limit n m f g b d a e more less = omega (arith, more, less)

-- where there is a record more, and at most one flush more
falls_recorded : (limit n m f g b d a e : ℕ) → n < limit → m ≡ n + 1 → 2 * g + d + e < 2 * f + b + a + 132 → weigh limit m g d e < weigh limit n f b a
falls_recorded limit n m f g b d a e space one less = omega (arith, space, one, less)

-- a call adds a record, or none
called_grows : (b : BoardData) (c : Call) → calls_of b ≤ calls_of (with_call b c)
called_grows b c = by (reply_to b.config b.id (state_at b) c)
  where
    by : (o : Option Reply) → calls_of b ≤ calls_of (option_map_or (λ returned. with_record b (entry 0 c returned)) o b)
    by None = omega arith
    by (Some returned) = omega (arith, length_push b.history (entry 0 c returned))

noted_grows : (at : ℕ) (t : TicketData) (index : ℕ) (b : BoardData) → calls_of b ≤ calls_of (with_note at t index b)
noted_grows at t index b = by (is_none (note_cause b.config b.id (records_at b) (state_at b) t index)) (slice_get t.notices index)
  where
    by : (free : Bool) (n : Option NoticeData) → calls_of b ≤ calls_of (if free then option_map_or (λ n. with_call b (note_at at t n)) n b else b)
    by true None = omega arith
    by true (Some n) = called_grows b (note_at at t n)
    by false n = omega arith

ended_grows : (success : Bool) (at : ℕ) (t : TicketData) (index : ℕ) (b : BoardData) → calls_of b ≤ calls_of (if success then with_note at t index b else b)
ended_grows true at t index b = noted_grows at t index b
ended_grows false at t index b = omega arith

-- a call that has a reply adds one
called_adds : (b : BoardData) (c : Call) (returned : Reply) → reply_to b.config b.id (state_at b) c ≡ Some returned → calls_of (with_call b c) ≡ calls_of b + 1
called_adds b c returned is =
    ap (λ (o : Option Reply). calls_of (option_map_or (λ t. with_record b (entry 0 c t)) o b)) is ∙ length_push b.history (entry 0 c returned)

planned_adds : (b : BoardData) (at : ℕ) (act : Action) → refuses b at act ≡ false → calls_of (with_call b (call_of at act)) ≡ calls_of b + 1
planned_adds b at (Insert alert) taken = called_adds b (call.Insert at alert) (reply.Inserted (inserted b.config (state_at b) alert)) refl
planned_adds b at (Silence silence) taken =
    called_adds b (call_of_silence at silence) (reply.Silenced (silenced (state_at b) (silence_of silence.id silence.matchers silence.start silence.end))) refl
planned_adds b at (Load row) taken = called_adds b (call.Load at row) (load_reply b at row) (load_taken b at row taken)

-- a history that isn't full has capacity
space_of : (config : Config) (records : ℕ) (s : State) (more : ℕ) → 0 < more → is_full config records s more ≡ false → records < config.limits.history
space_of config records s more some free = grind (arith, nat_tests, some, free)

-- where there is no cause, the first of all doesn't hold
unfull : (b : Bool) (x : Fault) (rest : Option Fault) → (if b then Some x else rest) ≡ None → b ≡ false
unfull true x rest none = absurd (cc)
unfull false x rest none = refl

module _ (b : BoardData) where
  abbrev is_full_for : ℕ → Bool
  is_full_for more = is_full b.config (records_at b) (state_at b) more

  -- a board that handed nothing out keeps all its calls
  module _ (whole : b.handed ≡ []) where
    abbrev HasSpace : Type 0
    HasSpace = calls_of b < b.config.limits.history

    all_kept : records_at b ≡ calls_of b
    all_kept = ap (λ (handed : List Record). length (drop (length handed) b.history)) whole

    has_space : (more : ℕ) → 0 < more → is_full_for more ≡ false → HasSpace
    has_space more some free =
        subst (λ (n : ℕ). n < b.config.limits.history) all_kept (space_of b.config (records_at b) (state_at b) more some free)

    action_space : (at : ℕ) (act : Action) → refuses b at act ≡ false → HasSpace
    action_space at (Insert alert) taken =
        has_space 1 (omega arith) (unfull (is_full_for 1) fault.HistoryFull _ (no_cause (insert_cause b.config (records_at b) (state_at b) alert) taken))
    action_space at (Silence silence) taken =
        has_space 1 (omega arith) (unfull (is_full_for 1) fault.HistoryFull _ (no_cause (silence_cause b.config (records_at b) (state_at b) silence) taken))
    action_space at (Load row) taken = has_space 1 (omega arith) (load_unfull b at row taken)

    -- so a maintenance does, and a removal, which has the same cause
    upkeep_fits : (at : ℕ) → own_cause b at step.Maintenance ≡ None → HasSpace
    upkeep_fits at none = has_space 1 (omega arith) (unfull (is_full_for 1) fault.HistoryFull None none)

    begin_space : (at : ℕ) → cause_of_none b at ≡ None → HasSpace
    begin_space at none = has_space 2 (omega arith) (unfull (is_full_for 2) fault.HistoryFull _ none)

-- how many notices a reply has
abbrev notices_in : Reply → ℕ
notices_in (reply.Inserted inserted) = 0
notices_in (reply.Silenced silenced) = 0
notices_in reply.NothingDue = 0
notices_in (reply.Quiet group removed) = 0
notices_in (reply.Flush group opened) = length opened.notices
notices_in (reply.Finished finished) = 0
notices_in (reply.Maintained maintained) = 0
notices_in (reply.EmptyGroupsRemoved removed) = 0
notices_in (reply.Forgotten forgotten) = 0
notices_in (reply.Loaded loaded) = 0
notices_in reply.Noted = 0

module _ (config : Config) (id : ℕ) (s : State) (t : ℕ) (few : HaveFewIntegrations config) where
  few_notifying : (g : GroupState) (notified : List (ℕ × Integration)) → length notified ≤ MAX_INTEGRATIONS
      → notices_in (reply_notifying config id s t g notified) ≤ MAX_INTEGRATIONS
  few_notifying g [] most = omega arith
  few_notifying g (i ∷ is) most =
      let count : length (map (notice_for config id s t g) (i ∷ is)) ≡ length (i ∷ is) = length-map (i ∷ is) (notice_for config id s t g) in
      omega (arith, most, count)

  few_taking : (o : Option GroupState) → notices_in (reply_taking config id s t o) ≤ MAX_INTEGRATIONS
  few_taking None = omega arith
  few_taking (Some g) = few_notifying g (notified_of config s t g) (few_notified config s t g few)

  -- a begin has at most 64 notices
  few_notices : notices_in (begun config id s t) ≤ MAX_INTEGRATIONS
  few_notices = few_taking (taken s t)

-- as many notices have as many ends
ends_counted : (answer : ℕ → ℕ → ℕ → ℕ → Sent) (cut : Option ℕ) (at index : ℕ) (ns : List NoticeData) (es : List End) → AreEndsOf answer cut at index ns es → length es ≡ length ns
ends_counted answer cut at index [] [] are = refl
ends_counted answer cut at index [] (e ∷ es) are = absurd are
ends_counted answer cut at index (n ∷ ns) [] are = absurd are
ends_counted answer cut at index (n ∷ ns) (e ∷ es) are = ap (λ (k : ℕ). suc k) (ends_counted answer cut at (index + 1) ns es are.1)

some_of : {X : Type 0} (o : Option X) (P : X → Type 0) → IsSomeAnd o P → (x : X) × (o ≡ Some x) × P x
some_of None P h = absurd h
some_of (Some x) P h = (x, refl, h)

-- less is in flight once an end has come
flight_end : (ss : List SendingData) (position index : ℕ) (s t : SendingData) (e : End) → slice_get ss position ≡ Some s → slice_get s.ends index ≡ Some e
    → t.ends ≡ remove s.ends index → in_flight (slice_set ss position t) + 1 ≡ in_flight ss
flight_end ss position index s t e here there left =
    let changed : in_flight (slice_set ss position t) + to_come (get_or ss position s) ≡ in_flight ss + (length t.ends + 1) =
    sum_by-set to_come ss position t s (slice_get_within ss position s here)
    in
    let was : to_come (get_or ss position s) ≡ length s.ends + 1 = ap to_come (get_or_from_slice_get ss position s s here) in
    let same : length t.ends ≡ length (remove s.ends index) = ap length left in
    let fewer : length (remove s.ends index) + 1 ≡ length s.ends = length-remove s.ends index (slice_get_within s.ends index e there) in
    omega (arith, changed, was, same, fewer)

-- and once a flush is finished
flight_finish : (ss : List SendingData) (position : ℕ) (s : SendingData) → slice_get ss position ≡ Some s → in_flight (remove ss position) + (length s.ends + 1) ≡ in_flight ss
flight_finish ss position s here =
    let without : in_flight (remove ss position) + to_come (get_or ss position s) ≡ in_flight ss =
    sum_by-remove to_come ss position s (slice_get_within ss position s here)
    in
    let was : to_come (get_or ss position s) ≡ length s.ends + 1 = ap to_come (get_or_from_slice_get ss position s s here) in
    omega (arith, without, was)

-- where a begin may come, it comes at once, or begins don't wait
may_count : (begins blocked : Bool) → IsTrue (begins || not blocked) → 0 < (if blocked then 0 else 1) + (if begins then 1 else 0)
may_count true true may = omega arith
may_count true false may = omega arith
may_count false true may = absurd (false≢true may)
may_count false false may = omega arith

module _ (r : Setting) (c d : Scene) (whole : c.board.handed ≡ []) where
  abbrev limit : ℕ
  limit = c.board.config.limits.history

  abbrev records : ℕ
  records = calls_of c.board

  abbrev flight : ℕ
  flight = in_flight c.sendings

  abbrev comes : ℕ
  comes = if c.blocked then 0 else 1

  abbrev goes : ℕ
  goes = if c.begins then 1 else 0

  -- fewer steps lead on from the second scene
  abbrev Falls : Type 0
  Falls = steps_left limit d < steps_left limit c

  falls_to : (x : Scene) → d ≡ x → steps_left limit x < steps_left limit c → Falls
  falls_to x is less = subst (λ (y : Scene). steps_left limit y < steps_left limit c) (sym is) less

  ended : (position index : ℕ) → IsDone r c 0 d (step.End position index) → Falls
  ended position index done =
      let at = some_of (slice_get c.sendings position) (λ s. IsSomeAnd (slice_get s.ends index) (λ e. d ≡ after_end c position s index e)) done in
      let s : SendingData = at.0 in
      let ending = some_of (slice_get s.ends index) (λ e. d ≡ after_end c position s index e) at.2 in
      let e : End = ending.0 in
      let t : SendingData = after_end_of s index e.report in
      let less = flight_end c.sendings position index s t e at.1 ending.1 refl in
      falls_to (after_end c position s index e) ending.2
      (falls_outside limit records _ flight (in_flight (slice_set c.sendings position t)) comes comes goes goes
      (ended_grows (is_success e.report) e.at (with_report e.report s.ticket) e.index c.board) (omega (arith, less)))

  finished : (position : ℕ) → IsDone r c 0 d (step.Finish position) → Falls
  finished position done =
      let at = some_of (slice_get c.sendings position) (λ s. d ≡ after_finish c position s) done in
      let s : SendingData = at.0 in
      let less = flight_finish c.sendings position s at.1 in
      falls_to (after_finish c position s) at.2
      (falls_outside limit records _ flight (in_flight (remove c.sendings position)) comes 1 goes goes
      (called_grows c.board (call.Finish c.clock s.ticket.number s.ticket.outcomes)) (omega (arith, less)))

  acted : (ps : List TimedAction) → IsPlanDone c d ps → Falls
  acted [] done = absurd done
  acted (p ∷ ps) done =
      falls_to (after_plan c p ps) done.1
      (falls_recorded limit records _ flight flight comes comes goes goes (action_space c.board whole p.at p.act done.0) (planned_adds c.board p.at p.act done.0) (omega arith))

  maintained_falls : (at : ℕ) → own_cause c.board at step.Maintenance ≡ None → IsDone r c at d step.Maintenance → Falls
  maintained_falls at none is =
      falls_to (after_maintenance r c at) is
      (falls_recorded limit records _ flight flight comes comes goes goes (upkeep_fits c.board whole at none)
      (called_adds c.board (call.Maintain at) (reply.Maintained (maintained (state_at c.board) (time (state_at c.board) at))) refl) (omega arith))

  removed_falls : (at : ℕ) → own_cause c.board at step.Removal ≡ None → IsDone r c at d step.Removal → Falls
  removed_falls at none is =
      falls_to (after_removal c at) is
      (falls_recorded limit records _ flight flight comes comes goes goes (upkeep_fits c.board whole at none)
      (called_adds c.board (call.RemoveEmptyGroups at) (reply.EmptyGroupsRemoved (empty_groups_removed (state_at c.board))) refl) (omega arith))

  module _ (at : ℕ) (few : HaveFewIntegrations c.board.config) where
    abbrev taken_reply : Reply
    taken_reply = begun c.board.config c.board.id (state_at c.board) (time (state_at c.board) at)

    -- a begin that was accepted
    replied : (returned : Reply) → taken_reply ≡ returned → calls_of c.board < limit → IsReplied r c at d returned → Falls
    replied reply.NothingDue returned space is =
        falls_to (after_nothing c at) is
        (falls_recorded limit records _ flight flight comes comes goes 0 space (length_push c.board.history (entry 0 (call.Begin at) reply.NothingDue)) (omega arith))
    replied (reply.Quiet group removed) returned space is =
        falls_to (after_taking c at (reply.Quiet group removed)) is
        (falls_recorded limit records _ flight flight comes comes goes 1 space (length_push c.board.history (entry 0 (call.Begin at) (reply.Quiet group removed))) (omega arith))
    replied (reply.Flush group opened) returned space sent =
        let flush : Reply = reply.Flush group opened in
        let notices : List NoticeData = opened.notices in
        let s : SendingData = sent.0 in
        let taking : Scene = after_taking c at flush in
        let count : length s.ends ≡ length notices = ends_counted (answers_for r taking.board group) r.span.cut at 0 notices s.ends sent.3 in
        let most : length notices ≤ MAX_INTEGRATIONS =
        subst (λ (q : Reply). notices_in q ≤ MAX_INTEGRATIONS) returned (few_notices c.board.config c.board.id (state_at c.board) (time (state_at c.board) at) few)
        in
        let more : in_flight (c.sendings ++ s ∷ []) ≡ flight + (length s.ends + 1) = sum_by_push to_come c.sendings s in
        let greatest : MAX_INTEGRATIONS ≡ 64 = refl in
        falls_to (with_sending s taking) sent.4
        (falls_recorded limit records _ flight (in_flight (c.sendings ++ s ∷ [])) comes comes goes 1 space
        (length_push c.board.history (entry 0 (call.Begin at) flush)) (omega (arith, count, most, more, greatest)))
    replied (reply.Inserted inserted) returned space is = absurd is
    replied (reply.Silenced silenced) returned space is = absurd is
    replied (reply.Finished finished) returned space is = absurd is
    replied (reply.Maintained maintained) returned space is = absurd is
    replied (reply.EmptyGroupsRemoved removed) returned space is = absurd is
    replied (reply.Forgotten forgotten) returned space is = absurd is
    replied (reply.Loaded loaded) returned space is = absurd is
    replied reply.Noted returned space is = absurd is

    begun_by : (cause : Option Fault) → cause_of_none c.board at ≡ cause → IsTrue (c.begins || not c.blocked) → IsBegun r c at d cause → Falls
    begun_by None why may is = replied taken_reply refl (begin_space c.board whole at why) is
    begun_by (Some fault.TooManyOpen) why may is =
        falls_to (after_too_many c at) is
        (falls_outside limit records records flight flight comes 0 goes 0 (omega arith) (omega (arith, may_count c.begins c.blocked may)))
    begun_by (Some fault.NoMemory) why may is = absurd is
    begun_by (Some fault.TooManyAlerts) why may is = absurd is
    begun_by (Some fault.TooManyGroups) why may is = absurd is
    begun_by (Some fault.TooManySilences) why may is = absurd is
    begun_by (Some fault.HistoryFull) why may is = absurd is

  module _ (few : HaveFewIntegrations c.board.config) where
    done_falls : (n : Next) (what : Step) → IsThereFor r c n what → IsAllowed c n what → IsDone r c n.at d what → Falls
    done_falls n (step.End position index) there allowed done = ended position index done
    done_falls n (step.Finish position) there allowed done = finished position done
    done_falls n step.Plan there allowed done = acted c.plans done
    done_falls n step.Maintenance there allowed done = maintained_falls n.at allowed done
    done_falls n step.Removal there allowed done = removed_falls n.at allowed done
    done_falls n step.Begin there allowed done = begun_by n.at few (cause_of_none c.board n.at) refl there.1 done

  -- fewer steps lead on from where the next step leads
  pub step_falls : (n : Next) → next r c ≡ Some n → config_fault c.board.config ≡ None → IsAllowed c n n.what → Steps r c d → Falls
  unfolding Steps
  step_falls n comes faultless allowed steps =
      done_falls (few_integrations c.board.config faultless) n n.what (next_there r c n comes) allowed
      (subst (λ (o : Option Next). IsSomeAnd o (λ m. IsDone r c m.at d m.what)) comes steps)
