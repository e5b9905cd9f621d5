use Rattle.std.proofs.Common.{◌≡◌, ◌∙◌, ◌+◌, ◌≤◌, ◌++◌, ◌∷◌, [], List, Some, None, map, vec_len, vec_capacity, nat_eq, refl, sym, ap, subst, arith, rules, if◌then◌else◌}
use Rattle.std.specs.Prelude.{IfErr, slice_get}
use Rattle.std.specs.List.{IsDistinct}
use Rattle.std.specs.VecDeque.{deque_len, deque_with_item}
use Rattle.am_model.specs.Laws.{same_number}
use Rattle.am_model.specs.Causes.{is_full, flush_cause}
use Rattle.am_model.specs.Records.{entry}
use Rattle.am_board.specs.Refinement.{flush_state, state_of}
use Rattle.am_board.specs.Noting.{IsNoteTarget}
use Rattle.am_model.specs.State.{flush_numbered}
use Rattle.am_board.specs.Step.{LeavesUnchanged, IsNoteAnswer}
use Rattle.am_model.specs.Ticket.{outcome_of}
use Rattle.am_model.specs.declared.fault.NoteFault.TheVariants as note
use Rattle.am_board.specs.declared.flush.OpenFlush.{OpenFlush}
use Rattle.am_model.specs.declared.record.Call.TheVariants.{Note}
use Rattle.am_model.specs.declared.record.Reply.TheVariants as replies
use Rattle.am_board.specs.declared.state.State as kept
use Rattle.am_board.proofs.lemmas.note.Noted.{element, full-of, cause-left, note-accepted, answers, refused, the_notice, on-ok}
use Rattle.am_board.proofs.note.note_success.Goals as goal
use Rattle.am_board.proofs.note.note_success.Goals.{In_ok-found}
use Rattle.am_board.proofs.lemmas.invariant.Staying.{stays_itself, has_space}

-- what was found is among the flushes of the state
found-in : (c : In_ok-found) → IsNoteTarget c.args.state.now.flushes.items c.args.ticket.now c.args.index c.in_ok-found.found
found-in c = c.in_ok-found.ensures.found

-- the cause that is left
left : (c : In_ok-found) → flush_cause c.args.config.now (vec_len c.args.state.now.history) (state_of c.args.state.now) c.args.ticket.now c.args.index (flush_numbered (map flush_state c.args.state.now.flushes.items) c.args.ticket.now.number)
    ≡ (if is_full c.args.config.now (vec_len c.args.state.now.history) (state_of c.args.state.now) 1 then Some note.HistoryFull else None)
left c =
    let there = element (λ (f : OpenFlush). nat_eq f.number c.args.ticket.now.number) c.args.state.now.flushes.items c.in_ok-found.found.flush (found-in c).first in
    cause-left c.args.config.now c.args.state.now c.args.ticket.now c.args.index c.in_ok-found.found (found-in c) there.0 there.2

pub returns-in_err-found : goal.returns-in_err-found
returns-in_err-found c =
    let cause : IfErr c.from_residual.result (λ fault. flush_cause c.args.config.now (vec_len c.args.state.now.history) (state_of c.args.state.now) c.args.ticket.now c.args.index (flush_numbered (map flush_state c.args.state.now.flushes.items) c.args.ticket.now.number) ≡ Some fault) =
    search (rules, c.in_err-found.ensures.cause c.args.config.now (vec_len c.args.state.now.history) (state_of c.args.state.now) refl) in
    refused c.from_residual.result _ (flush_cause c.args.config.now (vec_len c.args.state.now.history) (state_of c.args.state.now) c.args.ticket.now c.args.index (flush_numbered (map flush_state c.args.state.now.flushes.items) c.args.ticket.now.number)) (LeavesUnchanged c.args.config.now c.args.state.now c.args.state.now) c.from_residual.ensures.0 cause
    (stays_itself c.args.config.now c.args.state.now c.requires.good)

pub returns-then-not-has_space : goal.returns-then-not-has_space
returns-then-not-has_space c =
    let full = full-of c.args.config.now c.args.state.now (λ space. cc (c.has_space.ensures.1 space)) in
    (answers _ note.HistoryFull (left (goal.at.returns-then-not-has_space c).In_ok-found ∙ ap (λ b. if b then Some note.HistoryFull else None) full), stays_itself c.args.config.now c.args.state.now c.requires.good)

pub returns-then-is_err : goal.returns-then-is_err
returns-then-is_err c =
    let space : vec_len c.args.state.now.history + deque_len c.args.state.now.flushes + 1 ≤ c.args.config.now.limits.history = c.has_space.ensures.0 c.if-not-has_space.false in
    let none = left (goal.at.returns-then-is_err c).In_ok-found ∙ ap (λ b. if b then Some note.HistoryFull else None) (has_space c.args.config.now c.args.state.now space) in (
      subst (λ o. IsNoteAnswer o note.NoMemory) (sym none) refl,
      record {
        state = refl;
        routed = c.requires.good.routed;
        prepared = c.requires.good.prepared;
        marked = c.requires.good.marked;
        history = c.reserve.ensures.items;
        records = c.reserve.ensures.len;
        space = omega (arith, c.requires.good.space, c.reserve.ensures.len, c.reserve.ensures.capacity);
      },
    )

pub returns : goal.returns
returns c =
    let old = c.args.state.now in
    let found = found-in (goal.at.returns c).In_ok-found in
    let space : vec_len c.args.state.now.history + deque_len c.args.state.now.flushes + 1 ≤ c.args.config.now.limits.history = c.has_space.ensures.0 c.if-not-has_space.false in
    let none = left (goal.at.returns c).In_ok-found ∙ ap (λ b. if b then Some note.HistoryFull else None) (has_space c.args.config.now c.args.state.now space) in
    let new : kept.State = record {
      clock = c.time-t.result;
      inserts = old.inserts;
      known = old.known;
      groups = old.groups;
      silences = old.silences;
      log = c.log_at_once.new.log;
      flushes = deque_with_item old.flushes c.in_ok-found.found.flush c.log_at_once.new.flush;
      next_number = old.next_number;
      history = c.push_reserved.new.self;
    } in
    let notice = the_notice (slice_get c.args.ticket.now.notices c.args.index) c.in_ok-found.found.integration found.notice in
    let is : entry c.args.pass (Note c.args.now c.args.ticket.now.number c.in_ok-found.found.integration c.in_ok-found.found.outcome) replies.Noted ≡ entry c.args.pass (Note c.args.now c.args.ticket.now.number notice.0.integration (outcome_of c.args.ticket.now.outcomes notice.0.integration)) replies.Noted =
    ap (λ o. entry c.args.pass (Note c.args.now c.args.ticket.now.number c.in_ok-found.found.integration o) replies.Noted) found.outcome
    ∙ ap (λ j. entry c.args.pass (Note c.args.now c.args.ticket.now.number j (outcome_of c.args.ticket.now.outcomes j)) replies.Noted) (sym notice.2) in
    let roomy : vec_len c.reserve.new.self + (deque_len c.args.state.now.flushes + 1) ≤ vec_capacity c.reserve.new.self =
    subst (λ m. vec_len c.reserve.new.self + (m + 1) ≤ vec_capacity c.reserve.new.self) c.len.ensures (on-ok c.reserve.result _ c.reserve.ensures.ok (cc)) in
    let history : c.push_reserved.new.self.items ≡ c.args.state.now.history.items ++ entry c.args.pass (Note c.args.now c.args.ticket.now.number c.in_ok-found.found.integration c.in_ok-found.found.outcome) replies.Noted ∷ [] =
    c.push_reserved.ensures.items
    ∙ ap (λ number. c.reserve.new.self.items ++ entry c.args.pass (Note c.args.now number c.in_ok-found.found.integration c.in_ok-found.found.outcome) replies.Noted ∷ []) c.number.ensures
    ∙ ap (λ records. records ++ entry c.args.pass (Note c.args.now c.args.ticket.now.number c.in_ok-found.found.integration c.in_ok-found.found.outcome) replies.Noted ∷ []) c.reserve.ensures.items in (
      none,
      (
        entry c.args.pass (Note c.args.now c.args.ticket.now.number c.in_ok-found.found.integration c.in_ok-found.found.outcome) replies.Noted,
        (notice.0, notice.1, is),
        λ id. note-accepted c.args.config.now id old new c.args.ticket.now c.args.index c.in_ok-found.found found c.index_mut.result.now c.log_at_once.new.flush c.index_mut.ensures.value c.requires.good c.args.pass c.args.now
            (record {
              clock = c.time-t.ensures;
              inserts = refl;
              known = refl;
              groups = refl;
              silences = refl;
              keys = c.log_at_once.ensures.known;
              noted = c.log_at_once.ensures.flush;
              rows = λ d there rows moved. c.log_at_once.ensures.rows d there rows moved;
              flushes = refl;
              opened = refl;
              next_number = refl;
              history = history;
              records = omega (arith, c.push_reserved.ensures.len, c.reserve.ensures.len);
              space = omega (arith, c.push_reserved.ensures.len, c.push_reserved.ensures.capacity, roomy);
            }),
      ),
    )

pub find_noting-requires : goal.find_noting-requires
find_noting-requires c = c.requires.good.consistent.numbers
