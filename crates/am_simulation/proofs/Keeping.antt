-- What each step keeps: the configuration, and what is done and left of the plans.
use Rattle.std.proofs.Common.{◌≡◌, ℕ, ◌≤◌, Bool, true, false, nat_le, List, [], ◌∷◌, ◌++◌, Option, Some, None, refl, sym, ap, ◌∙◌, append_assoc, zero, suc, if◌then◌else◌}
use Rattle.std.specs.Prelude.{is_none, slice_get}
use Rattle.std.specs.Option.{IsSomeAnd, option_map_or}
use Rattle.std.proofs.lemmas.Bool.{le-leb}
use Rattle.std.proofs.lemmas.List.{append-nil}
use Rattle.am_board.specs.History.{BoardData, records_at, state_at, with_record}
use Rattle.am_model.specs.declared.config.Config.{Config}
use Rattle.am_model.specs.declared.fault.Fault.{Fault}
use Rattle.am_model.specs.declared.fault.Fault.TheVariants as fault
use Rattle.am_model.specs.declared.record.Call.{Call}
use Rattle.am_model.specs.declared.record.Call.TheVariants as call
use Rattle.am_model.specs.declared.record.Reply.{Reply}
use Rattle.am_model.specs.declared.record.Reply.TheVariants as reply
use Rattle.am_model.specs.Begin.{begun}
use Rattle.am_model.specs.Causes.{note_cause}
use Rattle.am_model.specs.Notice.{NoticeData}
use Rattle.am_model.specs.Insert.{inserted}
use Rattle.am_model.specs.Records.{call_of_silence, entry}
use Rattle.am_model.specs.Maintenance.{silenced}
use Rattle.am_mute.specs.Silence.{silence_of}
use Rattle.am_model.specs.Replay.{reply as reply_to}
use Rattle.am_model.specs.State.{time}
use Rattle.am_model.specs.Ticket.{TicketData}
use Rattle.am_pool.specs.Sendings.{note_at}
use Rattle.am_simulation.specs.Simulations.{IsThereFor}
use Rattle.am_simulation.specs.Next.{next, next_at, next_plan}
use Rattle.am_simulation.specs.Planned.{InputTrace, call_of, input_of, inputs_in, input_trace, no_inputs, planned, refuses, with_inputs}
use Rattle.am_simulation.specs.Laws.{PlaysHaveTheirInputs}
use Rattle.am_simulation.specs.Play.{PlaysTo, LeadsIn}
use Rattle.am_simulation.specs.Scene.{Scene, SendingData, Setting, opening_scene}
use Rattle.am_simulation.specs.Steps.{IsBegun, IsDone, IsPlanDone, IsReplied, Steps, after_end, after_finish, is_success, with_call, with_note, with_report}
use Rattle.am_simulation.specs.Taking.{cause_of_none}
use Rattle.am_terms.specs.declared.event.Event.{Event}
use Rattle.am_simulation.specs.declared.limits.TheConstants.{BOARD_ID}
use Rattle.am_simulation.specs.declared.next.End.{End}
use Rattle.am_simulation.specs.declared.next.Next.{Next}
use Rattle.am_simulation.specs.declared.next.Step.{Step}
use Rattle.am_simulation.specs.declared.next.Step.TheVariants as step
use Rattle.am_terms.specs.declared.rehearsal.Action.{Action}
use Rattle.am_terms.specs.declared.rehearsal.Action.TheVariants.{Insert, Silence, Load}
use Rattle.am_terms.specs.declared.rehearsal.TimedAction.{TimedAction}
use Rattle.am_simulation.proofs.Coming.{next_none, next_there}
use Rattle.am_simulation.proofs.Loading.{load_taken, load_reply}
use Rattle.am_simulation.proofs.Doing.{acted_of-input_trace, config_of-input_trace, input_trace-more, input_trace-opening, input_trace-same}

-- a call that isn't planned adds nothing to the inputs
called_same : (b : BoardData) (c : Call) → input_of c ≡ None → input_trace (with_call b c) ≡ input_trace b
called_same b c idle = by (reply_to b.config b.id (state_at b) c)
  where
    by : (o : Option Reply) → input_trace (option_map_or (λ returned. with_record b (entry 0 c returned)) o b) ≡ input_trace b
    by None = refl
    by (Some returned) = input_trace-same b (with_record b (entry 0 c returned)) (entry 0 c returned, idle, refl)

noted_same : (at : ℕ) (t : TicketData) (index : ℕ) (b : BoardData) → input_trace (with_note at t index b) ≡ input_trace b
noted_same at t index b = by (is_none (note_cause b.config b.id (records_at b) (state_at b) t index)) (slice_get t.notices index)
  where
    by : (free : Bool) (n : Option NoticeData) → input_trace (if free then option_map_or (λ n. with_call b (note_at at t n)) n b else b) ≡ input_trace b
    by true None = refl
    by true (Some n) = called_same b (note_at at t n) refl
    by false n = refl

-- a planned call comes last
called_by : (b : BoardData) (c : Call) (returned : Reply) → reply_to b.config b.id (state_at b) c ≡ Some returned → input_of c ≡ Some c
    → input_trace (with_call b c) ≡ with_inputs (input_trace b) (c ∷ [])
called_by b c returned is planned =
    ap (λ (o : Option Reply). input_trace (option_map_or (λ t. with_record b (entry 0 c t)) o b)) is
    ∙ input_trace-more b (with_record b (entry 0 c returned)) (entry 0 c returned) planned refl

called_more : (b : BoardData) (at : ℕ) (act : Action) → refuses b at act ≡ false → input_trace (with_call b (call_of at act)) ≡ with_inputs (input_trace b) (call_of at act ∷ [])
called_more b at (Insert alert) taken = called_by b (call.Insert at alert) (reply.Inserted (inserted b.config (state_at b) alert)) refl refl
called_more b at (Silence silence) taken =
    called_by b (call_of_silence at silence) (reply.Silenced (silenced (state_at b) (silence_of silence.id silence.matchers silence.start silence.end))) refl refl
called_more b at (Load row) taken = called_by b (call.Load at row) (load_reply b at row) (load_taken b at row taken) refl

begun_same : (b : BoardData) (at : ℕ) (returned : Reply) → input_trace (with_record b (entry 0 (call.Begin at) returned)) ≡ input_trace b
begun_same b at returned = input_trace-same b (with_record b (entry 0 (call.Begin at) returned)) (entry 0 (call.Begin at) returned, refl, refl)

-- what follows whatever the value is
pub from_some : {X : Type 0} (o : Option X) (P : X → Type 0) (Q : Type 0) → ((x : X) → P x → Q) → IsSomeAnd o P → Q
from_some None P Q follows h = absurd h
from_some (Some x) P Q follows h = follows x h

module _ (r : Setting) where
  -- inputs, and then the plans that are left
  abbrev both : InputTrace → List TimedAction → InputTrace
  both done plans = with_inputs done (planned r.until plans)

  -- what is done and what is left of the plans
  abbrev all_inputs : Scene → InputTrace
  all_inputs c = both (input_trace c.board) c.plans

  module _ (c d : Scene) where
    -- a step to a scene with the same plans, whose board has the same inputs
    abbrev Stays : Type 0
    Stays = all_inputs d ≡ all_inputs c

    ended : (position index : ℕ) → IsDone r c 0 d (step.End position index) → Stays
    ended position index done =
        from_some (slice_get c.sendings position) (λ s. IsSomeAnd (slice_get s.ends index) (λ e. d ≡ after_end c position s index e)) Stays
        (λ (s : SendingData). from_some (slice_get s.ends index) (λ e. d ≡ after_end c position s index e) Stays
        (λ (e : End) is. ap all_inputs is ∙ ap (λ (i : InputTrace). both i c.plans) (by e (with_report e.report s.ticket) (is_success e.report)))) done
      where
        by : (e : End) (t : TicketData) (b : Bool) → input_trace (if b then with_note e.at t e.index c.board else c.board) ≡ input_trace c.board
        by e t true = noted_same e.at t e.index c.board
        by e t false = refl

    finished : (position : ℕ) → IsDone r c 0 d (step.Finish position) → Stays
    finished position done =
        from_some (slice_get c.sendings position) (λ s. d ≡ after_finish c position s) Stays
        (λ (s : SendingData) is. ap all_inputs is ∙ ap (λ (i : InputTrace). both i c.plans) (called_same c.board (call.Finish c.clock s.ticket.number s.ticket.outcomes) refl)) done

    maintained : (at : ℕ) → IsDone r c at d step.Maintenance → Stays
    maintained at is = ap all_inputs is ∙ ap (λ (i : InputTrace). both i c.plans) (called_same c.board (call.Maintain at) refl)

    removed : (at : ℕ) → IsDone r c at d step.Removal → Stays
    removed at is = ap all_inputs is ∙ ap (λ (i : InputTrace). both i c.plans) (called_same c.board (call.RemoveEmptyGroups at) refl)

    -- a plan that is done is no longer left
    acted : (ps : List TimedAction) → c.plans ≡ ps → IsSomeAnd (slice_get ps 0) (λ p. p.at ≤ r.until) → IsPlanDone c d ps → Stays
    acted [] left there done = absurd done
    acted (p ∷ ps) left within done =
        let now : List Call = call_of p.at p.act ∷ [] in
        let later : List Call = planned r.until ps in
        ap all_inputs done.1
        ∙ ap (λ (i : InputTrace). both i ps) (called_more c.board p.at p.act done.0)
        ∙ ap (λ (acts : List Call). let all : InputTrace = record { config = (input_trace c.board).config; acts = acts } in all)
        (append_assoc (input_trace c.board).acts now later
        ∙ ap (λ (acts : List Call). (input_trace c.board).acts ++ acts)
        (sym (ap (λ (b : Bool). if b then now ++ later else []) (le-leb p.at r.until within))))
        ∙ ap (both (input_trace c.board)) (sym left)

    replied : (at : ℕ) (returned : Reply) → IsReplied r c at d returned → Stays
    replied at reply.NothingDue is = ap all_inputs is ∙ ap (λ (i : InputTrace). both i c.plans) (begun_same c.board at reply.NothingDue)
    replied at (reply.Quiet group removed) is = ap all_inputs is ∙ ap (λ (i : InputTrace). both i c.plans) (begun_same c.board at (reply.Quiet group removed))
    replied at (reply.Flush group opened) sent =
        ap all_inputs sent.4 ∙ ap (λ (i : InputTrace). both i c.plans) (begun_same c.board at (reply.Flush group opened))
    replied at (reply.Inserted inserted) is = absurd is
    replied at (reply.Silenced silenced) is = absurd is
    replied at (reply.Finished finished) is = absurd is
    replied at (reply.Maintained maintained) is = absurd is
    replied at (reply.EmptyGroupsRemoved removed) is = absurd is
    replied at (reply.Forgotten forgotten) is = absurd is
    replied at (reply.Loaded loaded) is = absurd is
    replied at reply.Noted is = absurd is

    begun_by : (at : ℕ) (cause : Option Fault) → IsBegun r c at d cause → Stays
    begun_by at None is = replied at (begun c.board.config c.board.id (state_at c.board) (time (state_at c.board) at)) is
    begun_by at (Some fault.TooManyOpen) is = ap all_inputs is
    begun_by at (Some fault.NoMemory) is = absurd is
    begun_by at (Some fault.TooManyAlerts) is = absurd is
    begun_by at (Some fault.TooManyGroups) is = absurd is
    begun_by at (Some fault.TooManySilences) is = absurd is
    begun_by at (Some fault.HistoryFull) is = absurd is

    done_keeps : (n : Next) (what : Step) → IsThereFor r c n what → IsDone r c n.at d what → Stays
    done_keeps n (step.End position index) there done = ended position index done
    done_keeps n (step.Finish position) there done = finished position done
    done_keeps n step.Plan there done = acted c.plans refl there done
    done_keeps n step.Maintenance there done = maintained n.at done
    done_keeps n step.Removal there done = removed n.at done
    done_keeps n step.Begin there done = begun_by n.at (cause_of_none c.board n.at) done

    step_keeps : Steps r c d → Stays
    unfolding Steps
    step_keeps steps = by (next r c) refl steps
      where
        by : (o : Option Next) → next r c ≡ o → IsSomeAnd o (λ n. IsDone r c n.at d n.what) → Stays
        by None is done = absurd done
        by (Some n) is done = done_keeps n n.what (next_there r c n is) done

  steps_keep : (k : ℕ) (c d : Scene) → LeadsIn r k c d → all_inputs d ≡ all_inputs c
  steps_keep zero c d same = ap all_inputs (sym same)
  steps_keep (suc k) c d led = step_keeps led.0 d led.2 ∙ steps_keep k c led.0 led.1

  -- the configuration stays
  pub config_kept : (k : ℕ) (c d : Scene) → LeadsIn r k c d → d.board.config ≡ c.board.config
  config_kept k c d led =
      config_of-input_trace d.board (input_trace d.board) refl
      ∙ ap (λ (i : InputTrace). i.config) (steps_keep k c d led)
      ∙ sym (config_of-input_trace c.board (input_trace c.board) refl)

  -- where no plan is left up to the end, none is to be done
  none_planned : (ps : List TimedAction) → next_plan r.until ps ≡ None → planned r.until ps ≡ []
  none_planned [] none = refl
  none_planned (p ∷ ps) none = by (nat_le p.at r.until) none
    where
      by : (b : Bool) → (if b then Some (next_at p.at step.Plan) else None) ≡ None → (if b then call_of p.at p.act ∷ planned r.until ps else []) ≡ []
      by true is = absurd (cc)
      by false is = refl

  module _ (config : Config) (plans : List TimedAction) (board : BoardData) (events : List Event) (play : PlaysTo r config plans board events) where
    -- a play has its configuration, and its inputs are the planned ones
    inputs_played : input_trace board ≡ with_inputs (no_inputs config) (planned r.until plans)
    inputs_played =
        let last = play.last in
        let led = steps_keep play.reached.0 (opening_scene r config plans) last play.reached.1 in
        let left = none_planned last.plans (next_none r last play.over).1 in
        ap input_trace play.board_is
        ∙ ap (λ (acts : List Call). let all : InputTrace = record { config = (input_trace last.board).config; acts = acts } in all)
        (sym (append-nil (input_trace last.board).acts))
        ∙ ap (with_inputs (input_trace last.board)) (sym left)
        ∙ led
        ∙ ap (λ (i : InputTrace). both i plans) (input_trace-opening config BOARD_ID)

    pub play_configured : board.config ≡ config
    play_configured = config_of-input_trace board (with_inputs (no_inputs config) (planned r.until plans)) inputs_played

    pub play_planned : inputs_in board.history ≡ planned r.until plans
    play_planned = acted_of-input_trace board (with_inputs (no_inputs config) (planned r.until plans)) inputs_played

-- law: a play has its inputs
pub have_inputs : PlaysHaveTheirInputs
have_inputs r config plans board events play = (play_configured r config plans board events play, play_planned r config plans board events play)
