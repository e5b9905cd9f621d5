-- What calls of the board leave, and what their answers say.
use Rattle.std.proofs.Common.{◌≡◌, ◌∙◌, ◌<◌, ◌==◌, ◌++◌, ◌∷◌, ℕ, Bool, true, false, if◌then◌else◌, List, [], Option, None, Some, Result, Ok, Err, ap, arith, codes, drop, length, refl, remove, slice_get, slice_index_or, subst, sym, true≢false}
use Rattle.std.proofs.Math.Seq.{drop-append_seam}
use Rattle.std.specs.List.{position}
use Rattle.std.specs.Prelude.{IsSome}
use Rattle.std.specs.Result.{IfOk, IsOk, OnOk}
use Rattle.std.proofs.lemmas.Option.{slice_get_read}
use Rattle.std.proofs.lemmas.Result.{on_ok_weaker}
use Rattle.json.specs.Token.{Token}
use Rattle.am_model.specs.declared.config.Config.{Config}
use Rattle.am_model.specs.Causes.{flush_cause, note_cause}
use Rattle.am_model.specs.Finish.{row_at}
use Rattle.am_model.specs.State.{FlushState, State, flush_numbered, time}
use Rattle.am_model.specs.declared.fault.NoteFault.TheVariants.{Foreign}
use Rattle.am_model.specs.declared.record.Call.{Call}
use Rattle.am_model.specs.declared.record.Call.TheVariants as call
use Rattle.am_model.specs.declared.record.Finished.{Finished}
use Rattle.am_model.specs.declared.record.Record.{Record}
use Rattle.am_model.specs.declared.record.Reply.{Reply}
use Rattle.am_model.specs.declared.views.RowView.{RowView}
use Rattle.am_model.specs.declared.record.Reply.TheVariants as reply
use Rattle.am_model.specs.Records.{IsNoteOf, entry}
use Rattle.am_model.specs.Replay.{IsLegal}
use Rattle.am_model.specs.Ticket.{TicketData}
use Rattle.am_model.specs.declared.preview.Preview.{Preview}
use Rattle.am_model.specs.look_back.Preview.{preview}
use Rattle.am_board.specs.declared.begin.Begun.{Begun}
use Rattle.am_board.specs.History.{BoardData, IsFresh, IsReplyAt, handed_out, kept_of, opening, records_at, reply_of, state_at, with_record}
use Rattle.am_board.specs.Logged.{finished_rows, noted_row, row_of_note}
use Rattle.am_protocol.specs.declared.request.Finishing.{Finishing}
use Rattle.am_protocol.specs.declared.request.Loading.{Loading}
use Rattle.am_protocol.specs.declared.request.Noting.{Noting}
use Rattle.am_protocol.specs.declared.opening.Opening.{Opening}
use Rattle.am_protocol.specs.declared.request.Reporting.{Reporting}
use Rattle.am_protocol.specs.Logged.{finished_tokens, noted_tokens}
use Rattle.am_protocol.specs.Begun.{begun_flush, begun_tokens}
use Rattle.am_protocol.specs.Reply.{named, opened_tokens, reply_tokens}
use Rattle.am_protocol.specs.Record.{record_tokens}
use Rattle.am_protocol.specs.View.{listed}
use Rattle.am_session.specs.Row.{row_named}
use Rattle.am_session.specs.Session.{Begins, Finishes, KeepsTicket, Loads, Makes, Notes, Reports, taken_tokens}
use Rattle.am_session.specs.Ticket.{IsFirst, IsRecordedAt}
use Rattle.am_session.specs.declared.session.Session.{Session}
use Rattle.am_session.specs.declared.ticket.TheConstants.{BOARD_ID}

-- a call that was made, and answered by the reply under the configuration that the board has afterwards
pub made : {T E : Type 0} (r : Result T E) (old new : Session) (call : Call) (reply : Reply) (before after : List Token)
    → IsReplyAt old.board call reply → new.board ≡ with_record old.board (entry 0 call reply)
    → OnOk r (after ≡ before ++ reply_tokens new.board.config reply) → OnOk r (Makes old new call before after)
made r old new call reply before after due recorded =
    on_ok_weaker {Q = Makes old new call before after} r (λ (answered : after ≡ before ++ reply_tokens new.board.config reply). (
      reply,
      record {
        due = due;
        recorded = recorded;
        answered = answered ∙ ap (λ (b : BoardData). before ++ reply_tokens b.config reply) recorded;
      },
    ))

-- what holds anyhow, besides what an Ok has
pub both : {T E : Type 0} (A B : Type 0) (r : Result T E) → OnOk r A → B → OnOk r (A × B)
both A B r answered b = on_ok_weaker {Q = A × B} r (λ (a : A). (a, b)) answered

-- a view, which changes nothing
pub shown : {T E : Type 0} (board : BoardData) (tickets : List TicketData) (A : Type 0) (r : Result T E)
    → OnOk r A → OnOk r (((board ≡ board) × (tickets ≡ tickets)) × A)
shown board tickets A r = on_ok_weaker {Q = ((board ≡ board) × (tickets ≡ tickets)) × A} r (λ (a : A). ((refl, refl), a))

-- a begin that was made, and answered by the reply and the preview under the configuration that the board has afterwards
pub begins : {T E : Type 0} (r : Result T E) (old new : Session) (now : ℕ) (b : Begun) (p : Option Preview) (before after : List Token) (mid : BoardData) (mids : List TicketData)
    → IsReplyAt old.board (call.Begin now) (reply_of b) → mid ≡ with_record old.board (entry 0 (call.Begin now) (reply_of b))
    → p ≡ preview old.board.config old.board.history now
    → IsFresh BOARD_ID b → mids ≡ old.tickets.items → new.board ≡ mid → KeepsTicket b mids new.tickets.items
    → OnOk r (after ≡ before ++ begun_tokens mid.config (reply_of b) p) → OnOk r (Begins old new now before after)
begins r old new now b p before after mid mids due recorded previewed fresh same board tickets =
    on_ok_weaker {Q = Begins old new now before after} r (λ (answered : after ≡ before ++ begun_tokens mid.config (reply_of b) p). (
      b,
      record {
        due = due;
        recorded = board ∙ recorded;
        answered = answered ∙ ap (λ (d : BoardData). before ++ begun_tokens d.config (reply_of b) p) recorded
            ∙ ap (λ (q : Option Preview). before ++ begun_tokens old.board.config (reply_of b) q) previewed;
        fresh = fresh;
        tickets = subst (λ (ts : List TicketData). KeepsTicket b ts new.tickets.items) same tickets;
      },
    ))

-- a ticket of the program's board is fresh there
pub fresh_here : (id : ℕ) (b : Begun) → id ≡ BOARD_ID → IsFresh id b → IsFresh BOARD_ID b
fresh_here id b is fresh = subst (λ (n : ℕ). IsFresh n b) is fresh

-- the ticket at the index that was found
pub first_ticket : (number : ℕ) (tickets seen : List TicketData) (index : ℕ) (ticket : TicketData)
    → seen ≡ tickets → Some index ≡ position (λ t. t.number == number) seen → slice_get tickets index ≡ Some ticket
    → IsFirst number tickets index ticket
first_ticket number tickets seen index ticket same first held =
    record {
      first = ap (λ (ts : List TicketData). position (λ t. t.number == number) ts) (sym same) ∙ sym first;
      held = held;
    }

-- the ticket that is there
pub held_there : (tickets seen : List TicketData) (index : ℕ) (ticket : TicketData)
    → seen ≡ tickets → index < length seen → ticket ≡ slice_index_or tickets index ticket → slice_get tickets index ≡ Some ticket
held_there tickets seen index ticket same within = slice_get_read tickets (length seen) index ticket (ap length same) within

-- a report that was recorded in the ticket that was found
pub reports : {T E : Type 0} (r : Result T E) (old new : Session) (x : Reporting) (before after : List Token) (seen : List TicketData) (index : ℕ)
    → seen ≡ old.tickets.items → Some index ≡ position (λ t. t.number == x.ticket) seen
    → IsRecordedAt old.tickets.items index x.integration x.outcome new.tickets.items
    → OnOk r (after ≡ before ++ named (codes "reported") []) → OnOk r (Reports old new x before after)
reports r old new x before after seen index same first at =
    on_ok_weaker {Q = Reports old new x before after} r (λ (answered : after ≡ before ++ named (codes "reported") []). record {
      index = index;
      first = ap (λ (ts : List TicketData). position (λ t. t.number == x.ticket) ts) (sym same) ∙ sym first;
      recorded = at;
      answered = answered;
    })

-- what a text says that was written, where it was
pub answered_ok : {T E S F : Type 0} (r : Result T E) (written : Result S F) (A : Type 0) → OnOk r (IsOk written) → OnOk written A → OnOk r A
answered_ok (Ok x) (Ok y) A ok a = a
answered_ok (Ok x) (Err f) A ok a = absurd (true≢false (sym ok))
answered_ok (Err e) written A ok a = tt

-- a flush that was answered, by the configuration that the board has
pub flush_answered : {T E S F : Type 0} (r : Result T E) (written : Result S F) (config to : Config) (p : Option Preview) (before after : List Token) (t : TicketData)
    → OnOk r (IsOk written) → config ≡ to → OnOk written (after ≡ before ++ begun_flush config t.number t.group t.deadline t.notices p)
    → OnOk r (after ≡ before ++ begun_flush to t.number t.group t.deadline t.notices p)
flush_answered r written config to p before after t ok is answered =
    answered_ok r written (after ≡ before ++ begun_flush to t.number t.group t.deadline t.notices p) ok
    (subst (λ (c : Config). OnOk written (after ≡ before ++ begun_flush c t.number t.group t.deadline t.notices p)) is answered)

-- a new board, whose opening was answered by the configuration that it has
pub opens : {T E S F : Type 0} (r : Result T E) (written : Result S F) (board : BoardData) (tickets : List TicketData) (x : Opening) (config : Config) (before after : List Token)
    → OnOk r (IsOk written) → board ≡ opening x.config BOARD_ID → config ≡ board.config → tickets ≡ []
    → OnOk written (after ≡ before ++ opened_tokens config x.ignored)
    → OnOk r ((board ≡ opening x.config BOARD_ID) × (tickets ≡ []) × (after ≡ before ++ opened_tokens x.config x.ignored))
opens r written board tickets x config before after ok is same none answered =
    let here : config ≡ x.config = same ∙ ap (λ (b : BoardData). b.config) is in
    on_ok_weaker {Q = (board ≡ opening x.config BOARD_ID) × (tickets ≡ []) × (after ≡ before ++ opened_tokens x.config x.ignored)} r
    (λ (says : after ≡ before ++ opened_tokens config x.ignored).
    (is, none, says ∙ ap (λ (c : Config). before ++ opened_tokens c x.ignored) here))
    (answered_ok r written (after ≡ before ++ opened_tokens config x.ignored) ok answered)

-- ---- a note of the notice that was found, with its row

-- what nothing keeps from being noted is of an open flush
open_where : (config : Config) (records : ℕ) (s : State) (ticket : TicketData) (notice : ℕ) (is_own : Bool) (found : Option FlushState)
    → (if is_own then flush_cause config records s ticket notice found else Some Foreign) ≡ None → (f : FlushState) × (found ≡ Some f)
open_where config records s ticket notice true (Some f) none = (f, refl)
open_where config records s ticket notice true None none = absurd (cc)
open_where config records s ticket notice false found none = absurd (cc)

-- so it has a row
pub row_noted : (board : BoardData) (ticket : TicketData) (notice now integration : ℕ)
    → note_cause board.config board.id (records_at board) (state_at board) ticket notice ≡ None → (row : RowView) × (noted_row board now integration ticket ≡ Some row)
row_noted board ticket notice now integration none =
    let there : (f : FlushState) × (flush_numbered (state_at board).flushes ticket.number ≡ Some f) =
    open_where board.config (records_at board) (state_at board) ticket notice (ticket.board_id == board.id) (flush_numbered (state_at board).flushes ticket.number) none in
    (row_at board.config (time (state_at board) now) there.0 integration, ap (row_of_note board.config (time (state_at board) now) integration) there.1)

pub some_row : {F : Type 0} (asked : Result (Option RowView) F) (o : Option RowView) → IfOk asked (λ row. row ≡ o) → (row : RowView) × (o ≡ Some row) → IfOk asked (λ row. IsSome row)
some_row (Ok x) o is there = subst IsSome (sym (is ∙ there.1)) refl
some_row (Err e) o is there = tt

-- the row that was asked for
row_is : {F : Type 0} (asked : Result (Option RowView) F) (o : Option RowView) (row : RowView) → IfOk asked (λ x. x ≡ o) → asked ≡ Ok (Some row) → o ≡ Some row
row_is (Ok x) o row is same = let found : x ≡ Some row = cc in sym is ∙ found
row_is (Err e) o row is same = absurd (cc)

pub noted_with : (old new : Session) (n : Noting) (before after : List Token) (index : ℕ) (ticket noted : TicketData) (notice : ℕ) (row : RowView)
    → IsFirst n.ticket old.tickets.items index ticket → Some notice ≡ position (λ x. x.integration == n.integration) ticket.notices
    → noted ≡ ticket
    → ((x : Record) × IsNoteOf 0 n.now noted notice x × (new.board ≡ with_record old.board x) × IsReplyAt old.board x.call x.reply)
    → noted_row old.board n.now n.integration noted ≡ Some row → after ≡ before ++ noted_tokens new.board.config row → Notes old new n before after
noted_with old new n before after index ticket noted notice row at noticed same made logged answered =
    record {
      index = index;
      ticket = ticket;
      at = at;
      notice = notice;
      noticed = sym noticed;
      r = made.0;
      note = subst (λ (t : TicketData). IsNoteOf 0 n.now t notice made.0) same made.1;
      due = made.3;
      recorded = made.2;
      row = row;
      logged = subst (λ (t : TicketData). noted_row old.board n.now n.integration t ≡ Some row) same logged;
      answered = answered ∙ ap (λ (b : BoardData). before ++ noted_tokens b.config row) made.2;
    }

pub notes : {T E F : Type 0} (r : Result T E) (asked : Result (Option RowView) F) (old new : Session) (n : Noting) (before after : List Token) (index : ℕ) (ticket noted : TicketData) (notice : ℕ)
    → IsFirst n.ticket old.tickets.items index ticket → Some notice ≡ position (λ x. x.integration == n.integration) ticket.notices
    → noted ≡ ticket
    → ((x : Record) × IsNoteOf 0 n.now noted notice x × (new.board ≡ with_record old.board x) × IsReplyAt old.board x.call x.reply)
    → IfOk asked (λ row. row ≡ noted_row old.board n.now n.integration noted)
    → OnOk r ((row : RowView) × (asked ≡ Ok (Some row)) × (after ≡ before ++ noted_tokens new.board.config row)) → OnOk r (Notes old new n before after)
notes r asked old new n before after index ticket noted notice at noticed same made is =
    on_ok_weaker {Q = Notes old new n before after} r
    (λ (says : (row : RowView) × (asked ≡ Ok (Some row)) × (after ≡ before ++ noted_tokens new.board.config row)).
    noted_with old new n before after index ticket noted notice says.0 at noticed same made (row_is asked _ says.0 is says.1) says.2)

-- the row that is answered, by the configuration that the board has
pub noted_answered : {T E S F G : Type 0} (r : Result T E) (written : Result S F) (asked : Result (Option RowView) G) (row : RowView) (config to : Config) (before after : List Token)
    → OnOk r (IsOk written) → asked ≡ Ok (Some row) → config ≡ to → OnOk written (after ≡ before ++ noted_tokens config row)
    → OnOk r ((logged : RowView) × (asked ≡ Ok (Some logged)) × (after ≡ before ++ noted_tokens to logged))
noted_answered r written asked row config to before after ok is same answered =
    answered_ok r written ((logged : RowView) × (asked ≡ Ok (Some logged)) × (after ≡ before ++ noted_tokens to logged)) ok
    (on_ok_weaker {Q = (logged : RowView) × (asked ≡ Ok (Some logged)) × (after ≡ before ++ noted_tokens to logged)} written
    (λ (says : after ≡ before ++ noted_tokens config row). (row, is, says ∙ ap (λ (c : Config). before ++ noted_tokens c row) same)) answered)

-- ---- a finish of the ticket that was found, with its rows

pub finished_with : (old new : Session) (f : Finishing) (before after : List Token) (index : ℕ) (ticket seen : TicketData) (x : Finished)
    → IsFirst f.ticket old.tickets.items index ticket → new.tickets.items ≡ remove old.tickets.items index → seen ≡ ticket
    → IsReplyAt old.board (call.Finish f.now ticket.number ticket.outcomes) (reply.Finished x)
    → new.board ≡ with_record old.board (entry 0 (call.Finish f.now ticket.number ticket.outcomes) (reply.Finished x))
    → after ≡ before ++ finished_tokens new.board.config x (finished_rows old.board f.now seen) → Finishes old new f before after
finished_with old new f before after index ticket seen x at tickets same due recorded answered =
    record {
      index = index;
      ticket = ticket;
      at = at;
      x = x;
      due = due;
      recorded = recorded;
      answered = answered
          ∙ ap (λ (b : BoardData). before ++ finished_tokens b.config x (finished_rows old.board f.now seen)) recorded
          ∙ ap (λ (t : TicketData). before ++ finished_tokens old.board.config x (finished_rows old.board f.now t)) same;
      tickets = tickets;
    }

pub finishes : {T E X F : Type 0} (r : Result T E) (asked : Result X F) (items : X → List RowView) (old new : Session) (f : Finishing) (before after : List Token) (index : ℕ) (ticket seen : TicketData) (x : Finished)
    → IsFirst f.ticket old.tickets.items index ticket → new.tickets.items ≡ remove old.tickets.items index → seen ≡ ticket
    → IsReplyAt old.board (call.Finish f.now ticket.number ticket.outcomes) (reply.Finished x)
    → new.board ≡ with_record old.board (entry 0 (call.Finish f.now ticket.number ticket.outcomes) (reply.Finished x))
    → IfOk asked (λ rows. items rows ≡ finished_rows old.board f.now seen)
    → OnOk r (IfOk asked (λ rows. after ≡ before ++ finished_tokens new.board.config x (items rows))) → OnOk r (IsOk asked)
    → OnOk r (Finishes old new f before after)
finishes (Ok y) (Ok rows) items old new f before after index ticket seen x at tickets same due recorded is says there =
    finished_with old new f before after index ticket seen x at tickets same due recorded
    (says ∙ ap (λ (rs : List RowView). before ++ finished_tokens new.board.config x rs) is)
finishes (Ok y) (Err e) items old new f before after index ticket seen x at tickets same due recorded is says there = absurd (true≢false (sym there))
finishes (Err e) asked items old new f before after index ticket seen x at tickets same due recorded is says there = tt

-- a load of the row that is named
pub loads : {T E : Type 0} (r : Result T E) (old new : Session) (l : Loading) (row : RowView) (before after : List Token)
    → row_named old.board.config l.row ≡ Some row → OnOk r (Makes old new (call.Load l.now row) before after)
    → OnOk r (Loads old new l before after)
loads r old new l row before after is =
    on_ok_weaker {Q = Loads old new l before after} r (λ (makes : Makes old new (call.Load l.now row) before after). record {
      row = row;
      is = is;
      makes = makes;
    })

-- the records that follow those that were handed out are those that are kept
pub kept : (board : BoardData) (records : List Record) → board.handed ++ records ≡ board.history → records ≡ kept_of board
kept board records is = sym (drop-append_seam board.handed records) ∙ ap (drop (length board.handed)) is

-- they follow them
pub follow : (board : BoardData) (records : List Record) → board.handed ++ records ≡ board.history → board.history ≡ board.handed ++ kept_of board
follow board records is = sym is ∙ ap (λ (rs : List Record). board.handed ++ rs) (kept board records is)

-- what was handed out after a taking: these too
pub handed_follow : (old new : BoardData) → new ≡ handed_out old → old.history ≡ old.handed ++ kept_of old → new.handed ≡ old.handed ++ kept_of old
handed_follow old new after follow = ap (λ (b : BoardData). b.handed) after ∙ follow

-- it is the whole history
pub handed_legal : (old new : BoardData) → new ≡ handed_out old → IsLegal old.config old.id old.history → IsLegal new.config new.id new.handed
handed_legal old new after legal = subst (λ (b : BoardData). IsLegal b.config b.id b.handed) (sym after) legal

-- what is answered about the records that are kept
pub answered_taken : (board : BoardData) (config : Config) (records : List Record) (fresh after : List Token)
    → config ≡ board.config → records ≡ kept_of board → fresh ≡ []
    → after ≡ fresh ++ listed (codes "taken") (record_tokens config) records → after ≡ taken_tokens board
answered_taken board config records fresh after is_config are is_fresh answered =
    answered ∙ ap (λ (t : List Token). t ++ listed (codes "taken") (record_tokens config) records) is_fresh
    ∙ ap (λ (c : Config). listed (codes "taken") (record_tokens c) records) is_config
    ∙ ap (λ (rs : List Record). listed (codes "taken") (record_tokens board.config) rs) are

-- a list without elements
pub is_empty : {X : Type 0} (xs : List X) → length xs ≡ 0 → xs ≡ []
is_empty [] is = refl
is_empty (x ∷ xs) is = absurd (omega (arith, is))
