-- A board after a call.
use Rattle.std.proofs.Common.{◌≡◌, ℕ, List, [], ◌∷◌, Option, Some, None, refl, sym, ap, ◌∙◌, subst, inl, inr, ◌⊎◌, if◌then◌else◌}
use Rattle.std.specs.Prelude.{is_none, slice_get}
use Rattle.std.specs.Option.{option_map, option_map_or}
use Rattle.am_board.specs.History.{BoardData, IsFresh, IsReplyAt, records_at, reply_of, state_at, with_record}
use Rattle.am_board.specs.Step.{IsAnswer, IsNoteAnswer}
use Rattle.am_board.specs.declared.begin.Begun.{Begun as Answer}
use Rattle.am_board.specs.declared.begin.Begun.TheVariants as answer
use Rattle.am_model.specs.declared.config.Integration.{Integration}
use Rattle.am_model.specs.declared.fault.Fault.{Fault}
use Rattle.am_model.specs.declared.fault.Fault.TheVariants.{NoMemory, TooManyAlerts, TooManyGroups, TooManySilences, TooManyOpen, HistoryFull}
use Rattle.am_model.specs.declared.fault.NoteFault.{NoteFault}
use Rattle.am_model.specs.declared.fault.NoteFault.TheVariants as note
use Rattle.am_model.specs.declared.preview.Preview.{Preview}
use Rattle.am_model.specs.declared.record.Call.{Call}
use Rattle.am_model.specs.declared.record.Record.{Record}
use Rattle.am_model.specs.declared.record.Reply.{Reply}
use Rattle.am_model.specs.Begin.{notified_of, begun, reply_notifying, reply_taking, taken}
use Rattle.am_model.specs.Causes.{note_cause}
use Rattle.am_model.specs.Notice.{NoticeData}
use Rattle.am_model.specs.Records.{IsNoteOf, entry}
use Rattle.am_model.specs.Replay.{reply}
use Rattle.am_model.specs.State.{GroupState, time}
use Rattle.am_model.specs.Ticket.{TicketData}
use Rattle.am_model.specs.look_back.Past.{past_of}
use Rattle.am_model.specs.look_back.Preview.{preview, preview_on}
use Rattle.am_model.specs.look_back.Reasons.{reason_in}
use Rattle.am_pool.specs.Sendings.{note_at}
use Rattle.am_simulation.specs.Previews.{takes_group}
use Rattle.am_simulation.specs.Steps.{with_call, with_note}
use Rattle.am_simulation.specs.Taking.{IsBeginBy, IsOwn, IsTaken, begun_events, begun_where}
use Rattle.am_terms.specs.declared.event.Event.{Event}
use Rattle.am_simulation.specs.declared.taken.Taken.{Taken}
use Rattle.am_simulation.specs.declared.taken.Taken.TheVariants.{Flush}

-- a call returned its reply
pub called_is : (old new : BoardData) (c : Call) (returned : Reply) → IsReplyAt old c returned → new ≡ with_record old (entry 0 c returned) → new ≡ with_call old c
called_is old new c returned is recorded =
    recorded ∙ sym (ap (λ (o : Option Reply). option_map_or (λ t. with_record old (entry 0 c t)) o old) is)

-- a call that is no legal one changes nothing
pub uncalled_is : (old new : BoardData) (c : Call) → reply old.config old.id (state_at old) c ≡ None → new ≡ old → new ≡ with_call old c
uncalled_is old new c none same = same ∙ sym (ap (λ (o : Option Reply). option_map_or (λ t. with_record old (entry 0 c t)) o old) none)

module _ (at : ℕ) (t : TicketData) (index : ℕ) (old new : BoardData) where
  abbrev cause : Option NoteFault
  cause = note_cause old.config old.id (records_at old) (state_at old) t index

  -- a board with the note of this notice, where this is the cause against it
  abbrev noted_if : Option NoteFault → Option NoticeData → BoardData
  noted_if why n = if is_none why then option_map_or (λ n. with_call old (note_at at t n)) n old else old

  -- a note that was taken
  pub noted_is : cause ≡ None → (r : Record) × IsNoteOf 0 at t index r × (new ≡ with_record old r) × IsReplyAt old r.call r.reply → new ≡ with_note at t index old
  noted_is free noted =
      let r : Record = noted.0 in
      let n : NoticeData = noted.1.0 in
      let call : Call = note_at at t n in
      let is : r ≡ entry 0 call r.reply = noted.1.2 ∙ ap (λ (returned : Reply). entry 0 call returned) (sym (ap (λ (q : Record). q.reply) noted.1.2)) in
      let returned : IsReplyAt old call r.reply = subst (λ (c : Call). IsReplyAt old c r.reply) (ap (λ (q : Record). q.call) noted.1.2) noted.3 in
      called_is old new call r.reply returned (noted.2 ∙ ap (with_record old) is)
      ∙ sym (ap (λ (o : Option NoticeData). noted_if None o) noted.1.1)
      ∙ sym (ap (λ (o : Option NoteFault). noted_if o (slice_get t.notices index)) free)

  -- a note that wasn't
  pub unnoted_is : (fault : NoteFault) → cause ≡ Some fault → new ≡ old → new ≡ with_note at t index old
  unnoted_is fault is same = same ∙ sym (ap (λ (o : Option NoteFault). noted_if o (slice_get t.notices index)) is)

module _ (b : BoardData) (at begin : ℕ) where
  -- when the begin is
  abbrev when : ℕ
  when = time (state_at b) at

  -- what is previewed of a group
  abbrev shows : GroupState → Preview
  shows g = preview_on b.config (state_at b) when (λ (h : GroupState). reason_in b.config h.name when (past_of b.history)) g

  -- the event of a reply is the same with this preview
  abbrev IsShown : Reply → Option Preview → Type 0
  IsShown returned p = begun_where p (takes_group returned) begin ≡ begun_events (takes_group returned) begin

  shown_notifying : (g : GroupState) (notified : List (ℕ × Integration)) → IsShown (reply_notifying b.config b.id (state_at b) when g notified) (Some (shows g))
  shown_notifying g [] = refl
  shown_notifying g (i ∷ is) = refl

  shown_taking : (o : Option GroupState) → IsShown (reply_taking b.config b.id (state_at b) when o) (option_map shows o)
  shown_taking None = refl
  shown_taking (Some g) = shown_notifying g (notified_of b.config (state_at b) when g)

  -- a begin that took a group has a preview
  pub begun_shown : (returned : Reply) (p : Option Preview) → begun b.config b.id (state_at b) when ≡ returned → p ≡ preview b.config b.history at → IsShown returned p
  begun_shown returned p is shown =
      subst (λ (o : Option Preview). IsShown returned o) (sym shown)
      (subst (λ (r : Reply). IsShown r (preview b.config b.history at)) is (shown_taking (taken (state_at b) when)))

-- what a begin came to, by what the board answered
pub taken_by : (old new : BoardData) (events since : List Event) (at : ℕ) (begun : Answer) (taken : Taken) → IsOwn begun taken → IsFresh old.id begun
    → IsBeginBy old events at new since (reply_of begun) → IsTaken old events at new since taken
taken_by old new events since at answer.NothingDue taken own fresh begins = subst (IsTaken old events at new since) (sym own) begins
taken_by old new events since at (answer.Quiet group removed) taken own fresh begins =
    subst (IsTaken old events at new since) (sym own) (group, removed, begins)
taken_by old new events since at (answer.Flush ticket) taken own fresh begins =
    subst (IsTaken old events at new since) (sym own) (fresh.0, fresh.1, begins)

-- the ticket that a begin gave is what the begin came to
pub own_is : (begun : Answer) (ticket own : TicketData) → begun ≡ answer.Flush ticket → own ≡ ticket → IsOwn begun (Flush own)
own_is begun ticket own is same = subst (λ (a : Answer). IsOwn a (Flush own)) (sym is) (ap (λ (t : TicketData). Flush t) same)

-- a board's fault is that of memory, or the first cause
pub answered : (cause : Option Fault) (returned : Fault) → IsAnswer cause returned → (returned ≡ NoMemory) ⊎ (cause ≡ Some returned)
answered None returned answer = inl answer
answered (Some NoMemory) returned answer = inl answer
answered (Some TooManyAlerts) returned answer = inr (ap (λ (f : Fault). Some f) (sym answer))
answered (Some TooManyGroups) returned answer =
    elim answer [ inl other ↦ inr (ap (λ (f : Fault). Some f) (sym other)) | inr memory ↦ inl memory ]
answered (Some TooManySilences) returned answer = inr (ap (λ (f : Fault). Some f) (sym answer))
answered (Some TooManyOpen) returned answer =
    elim answer [ inl other ↦ inr (ap (λ (f : Fault). Some f) (sym other)) | inr memory ↦ inl memory ]
answered (Some HistoryFull) returned answer = inr (ap (λ (f : Fault). Some f) (sym answer))

-- where the limit of open flushes is reached, that is the cause
pub open_cause : (cause : Option Fault) (returned : Fault) → returned ≡ TooManyOpen → (returned ≡ NoMemory) ⊎ (cause ≡ Some returned) → cause ≡ Some TooManyOpen
open_cause cause returned is why =
    elim why [ inl memory ↦ absurd (cc (is, memory)) | inr because ↦ because ∙ ap (λ (f : Fault). Some f) is ]

-- a note is refused for its cause, except for lack of memory
pub note_caused : (cause : Option NoteFault) (returned : NoteFault) → (returned ≡ note.NoMemory → ⊥) → IsNoteAnswer cause returned → cause ≡ Some returned
note_caused None returned other answer = absurd (other answer)
note_caused (Some why) returned other answer = ap (λ (f : NoteFault). Some f) (sym answer)
