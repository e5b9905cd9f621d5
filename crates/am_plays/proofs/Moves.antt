-- What a step does, as far as these laws ask: the board accepts a call, or it doesn't change.
use Rattle.std.proofs.Common.{◌≡◌, ℕ, zero, suc, Bool, true, false, List, [], ◌∷◌, ◌++◌, map, remove, Option, Some, None, ◌⊎◌, inl, inr, refl, sym, ap, ◌∙◌, subst, if◌then◌else◌}
use Rattle.std.specs.Prelude.{is_none, is_some, slice_get, slice_set}
use Rattle.std.specs.Option.{IsSomeAnd, option_map, option_map_or}
use Rattle.std.proofs.lemmas.List.{map-append}
use Rattle.am_board.specs.History.{BoardData, records_at, state_at, with_record}
use Rattle.am_model.proofs.legal.EachCall.{inside}
use Rattle.am_model.specs.declared.fault.Fault.{Fault}
use Rattle.am_model.specs.declared.fault.Fault.TheVariants as fault
use Rattle.am_model.specs.declared.notice.Report.{Report}
use Rattle.am_model.specs.declared.record.Call.{Call}
use Rattle.am_model.specs.declared.record.Call.TheVariants as call
use Rattle.am_model.specs.declared.record.Reply.{Reply}
use Rattle.am_model.specs.declared.record.Reply.TheVariants as reply
use Rattle.am_model.specs.Begin.{begun}
use Rattle.am_model.specs.Causes.{insert_cause, note_cause}
use Rattle.am_model.specs.Finish.{finished}
use Rattle.am_model.specs.Insert.{inserted}
use Rattle.am_model.specs.Laws.{IsConsistent}
use Rattle.am_model.specs.Maintenance.{empty_groups_removed, maintained, silenced}
use Rattle.am_model.specs.Notice.{NoticeData}
use Rattle.am_model.specs.Records.{call_of_silence, entry, now_of}
use Rattle.am_model.specs.Replay.{reply as reply_to}
use Rattle.am_model.specs.State.{FlushState, flush_numbered, time}
use Rattle.am_model.specs.Ticket.{TicketData, recorded, report_fault}
use Rattle.am_mute.specs.Silence.{silence_of}
use Rattle.am_pool.specs.Sendings.{note_at}
use Rattle.am_simulation.proofs.Loading.{load_taken, load_reply, no_cause}
use Rattle.am_simulation.specs.Next.{next}
use Rattle.am_simulation.specs.Planned.{call_of, refuses}
use Rattle.am_simulation.specs.Scene.{Scene, SendingData, Setting}
use Rattle.am_simulation.specs.Steps.{IsBegun, IsPlanDone, IsReplied, Steps, after_end, after_end_of, after_finish, after_maintenance, after_removal, is_success, with_call, with_note, with_report}
use Rattle.am_simulation.specs.Taking.{cause_of_none}
use Rattle.am_terms.specs.declared.rehearsal.Action.{Action}
use Rattle.am_terms.specs.declared.rehearsal.Action.TheVariants.{Insert, Silence, Load}
use Rattle.am_terms.specs.declared.rehearsal.TimedAction.{TimedAction}
use Rattle.am_plays.proofs.StepKinds.{step_by}
use Rattle.am_plays.proofs.Words.{some_of}
use Rattle.am_plays.proofs.OpenFlights.{Key, keys_after, keys-differ, number-found, open_keys, remove-without}

-- the number and the group of a flush in flight
abbrev pub flight : SendingData → Key
flight s = (s.ticket.number, s.ticket.group)

-- those of all
abbrev pub flying : Scene → List Key
flying c = map flight c.sendings

-- no limit is against an insert
abbrev pub IsInsertAllowed : BoardData → Call → Type 0
IsInsertAllowed b (call.Insert now alert) = insert_cause b.config (records_at b) (state_at b) alert ≡ None
IsInsertAllowed b (call.Silence now id matchers start end) = Unit {0}
IsInsertAllowed b (call.Begin now) = Unit {0}
IsInsertAllowed b (call.Finish now number outcomes) = Unit {0}
IsInsertAllowed b (call.Maintain now) = Unit {0}
IsInsertAllowed b (call.RemoveEmptyGroups now) = Unit {0}
IsInsertAllowed b (call.Forget now) = Unit {0}
IsInsertAllowed b (call.Load now row) = Unit {0}
IsInsertAllowed b (call.Note now number integration outcome) = Unit {0}

-- whether begins wait after a call, as they did before: a finish ends that
abbrev pub waits_after : Call → Bool → Bool
waits_after (call.Insert now alert) blocked = blocked
waits_after (call.Silence now id matchers start end) blocked = blocked
waits_after (call.Begin now) blocked = blocked
waits_after (call.Finish now number outcomes) blocked = false
waits_after (call.Maintain now) blocked = blocked
waits_after (call.RemoveEmptyGroups now) blocked = blocked
waits_after (call.Forget now) blocked = blocked
waits_after (call.Load now row) blocked = blocked
waits_after (call.Note now number integration outcome) blocked = blocked

-- the board accepts a call at a time
pub record IsRecorded (c d : Scene) (at : ℕ) : Type 0 where
  pub accepted : Call
  pub returned : Reply
  pub now : now_of accepted ≡ at
  pub replied : reply_to c.board.config c.board.id (state_at c.board) accepted ≡ Some returned
  pub allowed : IsInsertAllowed c.board accepted
  pub board : d.board ≡ with_record c.board (entry 0 accepted returned)
  pub flights : flying d ≡ keys_after accepted returned (flying c)
  pub waits : d.blocked ≡ waits_after accepted c.blocked

-- the board doesn't change, and begins wait after it as before, or since as many flushes are open as the limit allows
pub record IsSilent (c d : Scene) (at : ℕ) : Type 0 where
  pub board : d.board ≡ c.board
  pub flights : flying d ≡ flying c
  pub waits : (d.blocked ≡ c.blocked) ⊎ ((d.blocked ≡ true) × (cause_of_none c.board at ≡ Some fault.TooManyOpen))

-- a step at a time
pub record IsMove (c d : Scene) (at : ℕ) : Type 0 where
  pub clock : d.clock ≡ at
  pub does : IsRecorded c d at ⊎ IsSilent c d at

-- ---- the flushes in flight

flights_set : (ss : List SendingData) (position : ℕ) (s t : SendingData) → slice_get ss position ≡ Some s → flight t ≡ flight s → map flight (slice_set ss position t) ≡ map flight ss
flights_set [] position s t is same = refl
flights_set (x ∷ ss) zero s t is same = ap (λ k. k ∷ map flight ss) (same ∙ sym (ap flight (inside x s is)))
flights_set (x ∷ ss) (suc position) s t is same = ap (λ l. flight x ∷ l) (flights_set ss position s t is same)

flights_remove : (ss : List SendingData) (position : ℕ) → map flight (remove ss position) ≡ remove (map flight ss) position
flights_remove [] zero = refl
flights_remove [] (suc position) = refl
flights_remove (x ∷ ss) zero = refl
flights_remove (x ∷ ss) (suc position) = ap (λ l. flight x ∷ l) (flights_remove ss position)

flight_at : (ss : List SendingData) (position : ℕ) (s : SendingData) → slice_get ss position ≡ Some s → slice_get (map flight ss) position ≡ Some (flight s)
flight_at [] position s is = absurd (cc)
flight_at (x ∷ ss) zero s is = ap (λ (y : SendingData). Some (flight y)) (inside x s is)
flight_at (x ∷ ss) (suc position) s is = flight_at ss position s is

-- a report leaves a ticket its number and its group
abbrev key_in : TicketData → Key
key_in t = (t.number, t.group)

reported_key : (o : Option Report) (t : TicketData) → key_in (with_report o t) ≡ key_in t
reported_key None t = refl
reported_key (Some r) t = elim (is_some (report_fault t r)) as (λ b. key_in (if b then t else recorded t r) ≡ key_in t) [ true ↦ refl | false ↦ refl ]

-- ---- each kind of step

-- a call that isn't an insert or a finish, and opens no flush: only its record is new
abbrev IsPlain : Call → Type 0
IsPlain (call.Insert now alert) = ⊥
IsPlain (call.Silence now id matchers start end) = Unit {0}
IsPlain (call.Begin now) = ⊥
IsPlain (call.Finish now number outcomes) = ⊥
IsPlain (call.Maintain now) = Unit {0}
IsPlain (call.RemoveEmptyGroups now) = Unit {0}
IsPlain (call.Forget now) = Unit {0}
IsPlain (call.Load now row) = Unit {0}
IsPlain (call.Note now number integration outcome) = Unit {0}

plain_allowed : (b : BoardData) (c : Call) → IsPlain c → IsInsertAllowed b c
plain_allowed b (call.Insert now alert) plain = absurd plain
plain_allowed b (call.Silence now id matchers start end) plain = tt
plain_allowed b (call.Begin now) plain = absurd plain
plain_allowed b (call.Finish now number outcomes) plain = absurd plain
plain_allowed b (call.Maintain now) plain = tt
plain_allowed b (call.RemoveEmptyGroups now) plain = tt
plain_allowed b (call.Forget now) plain = tt
plain_allowed b (call.Load now row) plain = tt
plain_allowed b (call.Note now number integration outcome) plain = tt

plain_keys : (c : Call) (p : Reply) (ks : List Key) → IsPlain c → keys_after c p ks ≡ ks
plain_keys (call.Insert now alert) p ks plain = absurd plain
plain_keys (call.Silence now id matchers start end) p ks plain = refl
plain_keys (call.Begin now) p ks plain = absurd plain
plain_keys (call.Finish now number outcomes) p ks plain = absurd plain
plain_keys (call.Maintain now) p ks plain = refl
plain_keys (call.RemoveEmptyGroups now) p ks plain = refl
plain_keys (call.Forget now) p ks plain = refl
plain_keys (call.Load now row) p ks plain = refl
plain_keys (call.Note now number integration outcome) p ks plain = refl

plain_waits : (c : Call) (b : Bool) → IsPlain c → waits_after c b ≡ b
plain_waits (call.Insert now alert) b plain = absurd plain
plain_waits (call.Silence now id matchers start end) b plain = refl
plain_waits (call.Begin now) b plain = absurd plain
plain_waits (call.Finish now number outcomes) b plain = absurd plain
plain_waits (call.Maintain now) b plain = refl
plain_waits (call.RemoveEmptyGroups now) b plain = refl
plain_waits (call.Forget now) b plain = refl
plain_waits (call.Load now row) b plain = refl
plain_waits (call.Note now number integration outcome) b plain = refl

module _ (r : Setting) (c d : Scene) where
  -- a call that has a reply is recorded
  with_call_is : (x : Call) (p : Reply) → reply_to c.board.config c.board.id (state_at c.board) x ≡ Some p → with_call c.board x ≡ with_record c.board (entry 0 x p)
  with_call_is x p is = ap (λ (o : Option Reply). option_map_or (λ q. with_record c.board (entry 0 x q)) o c.board) is

  plain_move : (x : Call) (at : ℕ) (o : Option Reply) → reply_to c.board.config c.board.id (state_at c.board) x ≡ o → IsPlain x → now_of x ≡ at
      → d.board ≡ with_call c.board x → flying d ≡ flying c → d.blocked ≡ c.blocked → IsRecorded c d at ⊎ IsSilent c d at
  plain_move x at None is plain now board flights waits =
      inr (record {
        board = board ∙ ap (λ (o : Option Reply). option_map_or (λ q. with_record c.board (entry 0 x q)) o c.board) is;
        flights = flights;
        waits = inl waits;
      })
  plain_move x at (Some p) is plain now board flights waits =
      inl (record {
        accepted = x;
        returned = p;
        now = now;
        replied = is;
        allowed = plain_allowed c.board x plain;
        board = board ∙ with_call_is x p is;
        flights = flights ∙ sym (plain_keys x p (flying c) plain);
        waits = waits ∙ sym (plain_waits x c.blocked plain);
      })

  -- the end of a sending: its success is noted, or nothing is
  noted_move : (at : ℕ) (t : TicketData) (index : ℕ) (free : Bool) (o : Option NoticeData)
      → d.board ≡ (if free then option_map_or (λ n. with_call c.board (note_at at t n)) o c.board else c.board) → flying d ≡ flying c → d.blocked ≡ c.blocked → IsRecorded c d at ⊎ IsSilent c d at
  noted_move at t index true None board flights waits = inr (record { board = board; flights = flights; waits = inl waits })
  noted_move at t index true (Some n) board flights waits = plain_move (note_at at t n) at _ refl tt refl board flights waits
  noted_move at t index false o board flights waits = inr (record { board = board; flights = flights; waits = inl waits })

  ended_move : (success : Bool) (at : ℕ) (t : TicketData) (index : ℕ) → d.board ≡ (if success then with_note at t index c.board else c.board)
      → flying d ≡ flying c → d.blocked ≡ c.blocked → IsRecorded c d at ⊎ IsSilent c d at
  ended_move true at t index board flights waits =
      noted_move at t index (is_none (note_cause c.board.config c.board.id (records_at c.board) (state_at c.board) t index)) (slice_get t.notices index) board flights waits
  ended_move false at t index board flights waits = inr (record { board = board; flights = flights; waits = inl waits })

  ended : (position index : ℕ) (s : SendingData) (e : _) → slice_get c.sendings position ≡ Some s → d ≡ after_end c position s index e → IsMove c d e.at
  ended position index s e here is =
      let flights : flying d ≡ flying c =
      ap flying is ∙ flights_set c.sendings position s (after_end_of s index e.report) here (reported_key e.report s.ticket)
      in
      record {
        clock = ap (λ (x : Scene). x.clock) is;
        does = ended_move (is_success e.report) e.at (with_report e.report s.ticket) e.index (ap (λ (x : Scene). x.board) is) flights (ap (λ (x : Scene). x.blocked) is);
      }

  -- the finish of a flush, which is open
  finished_move : (position : ℕ) → flying c ≡ open_keys (state_at c.board) → IsConsistent (state_at c.board) → (s : SendingData)
      → slice_get c.sendings position ≡ Some s → d ≡ after_finish c position s → IsMove c d c.clock
  finished_move position same sound s here is =
      let n : ℕ = s.ticket.number in
      let there : slice_get (flying c) position ≡ Some (flight s) = flight_at c.sendings position s here in
      let open_there : slice_get (open_keys (state_at c.board)) position ≡ Some (flight s) = ap (λ (l : List Key). slice_get l position) (sym same) ∙ there in
      let f = some_of (flush_numbered (state_at c.board).flushes n) (λ g. g.number ≡ n) (number-found (state_at c.board).flushes position (flight s) open_there) in
      let p : Reply = reply.Finished (finished (state_at c.board) s.ticket.outcomes f.0) in
      let x : Call = call.Finish c.clock n s.ticket.outcomes in
      let returned : reply_to c.board.config c.board.id (state_at c.board) x ≡ Some p =
      ap (option_map (λ (g : FlushState). reply.Finished (finished (state_at c.board) s.ticket.outcomes g))) f.1
      in
      record {
        clock = ap (λ (y : Scene). y.clock) is;
        does = inl (record {
          accepted = x;
          returned = p;
          now = refl;
          replied = returned;
          allowed = tt;
          board = ap (λ (y : Scene). y.board) is ∙ with_call_is x p returned;
          flights = ap flying is ∙ flights_remove c.sendings position
              ∙ subst (λ (l : List Key). remove l position ≡ keys_after x p l) (sym same) (remove-without (open_keys (state_at c.board)) position (flight s) (keys-differ (state_at c.board) sound) open_there);
          waits = ap (λ (y : Scene). y.blocked) is;
        });
      }

  -- a planned call that has its reply
  planned_move : (at : ℕ) (x : Call) (p : Reply) → now_of x ≡ at → reply_to c.board.config c.board.id (state_at c.board) x ≡ Some p → IsInsertAllowed c.board x
      → keys_after x p (flying c) ≡ flying c → waits_after x c.blocked ≡ c.blocked → d.board ≡ with_call c.board x → flying d ≡ flying c → d.blocked ≡ c.blocked → IsRecorded c d at
  planned_move at x p now is allowed numbers still board flights waits =
      record {
        accepted = x;
        returned = p;
        now = now;
        replied = is;
        allowed = allowed;
        board = board ∙ with_call_is x p is;
        flights = flights ∙ sym numbers;
        waits = waits ∙ sym still;
      }

  acted_move : (at : ℕ) (act : Action) → refuses c.board at act ≡ false → d.board ≡ with_call c.board (call_of at act) → flying d ≡ flying c → d.blocked ≡ c.blocked → IsRecorded c d at
  acted_move at (Insert alert) taken board flights waits =
      planned_move at (call.Insert at alert) (reply.Inserted (inserted c.board.config (state_at c.board) alert)) refl refl
      (no_cause (insert_cause c.board.config (records_at c.board) (state_at c.board) alert) taken) refl refl board flights waits
  acted_move at (Silence silence) taken board flights waits =
      planned_move at (call_of_silence at silence) (reply.Silenced (silenced (state_at c.board) (silence_of silence.id silence.matchers silence.start silence.end))) refl refl tt refl refl board flights waits
  acted_move at (Load row) taken board flights waits =
      planned_move at (call.Load at row) (load_reply c.board at row) refl (load_taken c.board at row taken) tt refl refl board flights waits

  acted : (p : TimedAction) (ps : List TimedAction) → IsPlanDone c d (p ∷ ps) → IsMove c d p.at
  acted p ps done =
      record {
        clock = ap (λ (y : Scene). y.clock) done.1;
        does = inl (acted_move p.at p.act done.0 (ap (λ (y : Scene). y.board) done.1) (ap flying done.1) (ap (λ (y : Scene). y.blocked) done.1));
      }

  maintained_move : (at : ℕ) → d ≡ after_maintenance r c at → IsMove c d at
  maintained_move at is =
      record {
        clock = ap (λ (y : Scene). y.clock) is;
        does = plain_move (call.Maintain at) at (Some (reply.Maintained (maintained (state_at c.board) (time (state_at c.board) at)))) refl tt refl
            (ap (λ (y : Scene). y.board) is) (ap flying is) (ap (λ (y : Scene). y.blocked) is);
      }

  removed_move : (at : ℕ) → d ≡ after_removal c at → IsMove c d at
  removed_move at is =
      record {
        clock = ap (λ (y : Scene). y.clock) is;
        does = plain_move (call.RemoveEmptyGroups at) at (Some (reply.EmptyGroupsRemoved (empty_groups_removed (state_at c.board)))) refl tt refl
            (ap (λ (y : Scene). y.board) is) (ap flying is) (ap (λ (y : Scene). y.blocked) is);
      }

  -- a begin that was accepted
  begun_move : (at : ℕ) (p : Reply) → begun c.board.config c.board.id (state_at c.board) (time (state_at c.board) at) ≡ p → d.board ≡ with_record c.board (entry 0 (call.Begin at) p)
      → flying d ≡ keys_after (call.Begin at) p (flying c) → d.blocked ≡ c.blocked → IsRecorded c d at
  begun_move at p is board flights waits =
      record {
        accepted = call.Begin at;
        returned = p;
        now = refl;
        replied = ap (λ (q : Reply). Some q) is;
        allowed = tt;
        board = board;
        flights = flights;
        waits = waits;
      }

  replied : (at : ℕ) (p : Reply) → begun c.board.config c.board.id (state_at c.board) (time (state_at c.board) at) ≡ p → IsReplied r c at d p → IsMove c d at
  replied at reply.NothingDue is done =
      record {
        clock = ap (λ (y : Scene). y.clock) done;
        does = inl (begun_move at reply.NothingDue is (ap (λ (y : Scene). y.board) done) (ap flying done) (ap (λ (y : Scene). y.blocked) done));
      }
  replied at (reply.Quiet group removed) is done =
      record {
        clock = ap (λ (y : Scene). y.clock) done;
        does = inl (begun_move at (reply.Quiet group removed) is (ap (λ (y : Scene). y.board) done) (ap flying done) (ap (λ (y : Scene). y.blocked) done));
      }
  replied at (reply.Flush group opened) is sent =
      record {
        clock = ap (λ (y : Scene). y.clock) sent.4;
        does = inl (begun_move at (reply.Flush group opened) is (ap (λ (y : Scene). y.board) sent.4)
            (ap flying sent.4 ∙ map-append flight c.sendings (sent.0 ∷ []) ∙ ap (λ (t : TicketData). flying c ++ key_in t ∷ []) sent.1)
            (ap (λ (y : Scene). y.blocked) sent.4));
      }
  replied at (reply.Inserted inserted) is done = absurd done
  replied at (reply.Silenced silenced) is done = absurd done
  replied at (reply.Finished finished) is done = absurd done
  replied at (reply.Maintained maintained) is done = absurd done
  replied at (reply.EmptyGroupsRemoved removed) is done = absurd done
  replied at (reply.Forgotten forgotten) is done = absurd done
  replied at (reply.Loaded loaded) is done = absurd done
  replied at reply.Noted is done = absurd done

  begun_by : (at : ℕ) (cause : Option Fault) → cause_of_none c.board at ≡ cause → IsBegun r c at d cause → IsMove c d at
  begun_by at None why done = replied at (begun c.board.config c.board.id (state_at c.board) (time (state_at c.board) at)) refl done
  begun_by at (Some fault.TooManyOpen) why done =
      record {
        clock = ap (λ (y : Scene). y.clock) done;
        does = inr (record { board = ap (λ (y : Scene). y.board) done; flights = ap flying done; waits = inr (ap (λ (y : Scene). y.blocked) done, why) });
      }
  begun_by at (Some fault.NoMemory) why done = absurd done
  begun_by at (Some fault.TooManyAlerts) why done = absurd done
  begun_by at (Some fault.TooManyGroups) why done = absurd done
  begun_by at (Some fault.TooManySilences) why done = absurd done
  begun_by at (Some fault.HistoryFull) why done = absurd done

  -- a begin that comes is such a move
  begins : (at : ℕ) → IsBegun r c at d (cause_of_none c.board at) → IsMove c d at
  begins at done = begun_by at (cause_of_none c.board at) refl done

  -- a step is such a move, at the time of what comes next
  pub step_moves : flying c ≡ open_keys (state_at c.board) → IsConsistent (state_at c.board) → Steps r c d → IsSomeAnd (next r c) (λ n. IsMove c d n.at)
  step_moves same sound steps =
      step_by r c d (IsMove c d) (λ position index s e here there done. ended position index s e here done) (λ position s here over done. finished_move position same sound s here done)
      (λ p ps done. acted p ps done) (λ at done. maintained_move at done) (λ at done. removed_move at done) (λ at within done. begins at done) steps
