-- The state that an insert leaves that puts an alert in place of the known one and of the one in each of its groups.
use Rattle.std.proofs.Common.{◌≡◌, ℕ, ◌+◌, ◌≤◌, ◌++◌, ◌∷◌, [], Vec, Global, List, Some, Result, Ok, Err, map, sym, ap, ◌∙◌, subst, arith, vec_len, vec_capacity}
use Rattle.std.specs.VecDeque.{deque_items}
use Rattle.std.specs.Prelude.{All}
use Rattle.am_alerts.specs.AlertData.{AlertData}
use Rattle.am_model.specs.Causes.{insert_cause}
use Rattle.am_model.specs.Insert.{same_alert, groups_with, after_insert}
use Rattle.am_model.specs.Lists.{upsert}
use Rattle.am_model.specs.Laws.{IsConsistent}
use Rattle.am_model.specs.Replay.{reply, after}
use Rattle.am_model.specs.State.{State, is_flushing}
use Rattle.am_board.specs.Marks.{is_marked}
use Rattle.am_model.specs.declared.config.Config.{Config}
use Rattle.am_model.specs.declared.fault.Fault.{Fault}
use Rattle.am_model.specs.declared.record.Inserted.{Inserted}
use Rattle.am_model.specs.declared.record.Record.{Record}
use Rattle.am_model.specs.declared.record.Reply.TheVariants as replies
use Rattle.am_board.specs.Again.{IsPutAgain}
use Rattle.am_board.specs.Group.{AreRouted}
use Rattle.am_board.specs.Arrival.{Puts, insert_record}
use Rattle.am_board.specs.Inserting.{IsReservedState, stamped_alert}
use Rattle.am_board.specs.LogRows.{log_rows}
use Rattle.am_board.specs.Refinement.{state_of, group_state, flush_state, EqualUpToRowOrder, IsPrepared}
use Rattle.am_board.specs.Step.{MAX_CALLS, StateInvariant, AppliesCall, LeavesUnchanged, IsAnswer}
use Rattle.am_board.specs.declared.flush.OpenFlush.{OpenFlush}
use Rattle.am_board.specs.declared.insert.Arrival.{Arrival}
use Rattle.am_board.specs.declared.state.State as kept
use Rattle.am_board.proofs.lemmas.insert.Inserting.{stays_reserved}
use Rattle.am_board.proofs.lemmas.invariant.Staying.{agrees_same}

-- the state with the alert known anew and in its groups
pub again_leaves : (config : Config) (s new : kept.State) (t : ℕ) (a : AlertData) → new.clock ≡ t → new.inserts ≡ s.inserts + 1 → new.known.items ≡ upsert same_alert a s.known.items
    → map group_state new.groups.items ≡ groups_with config t (stamped_alert a (s.inserts + 1)) (map group_state s.groups.items)
    → new.silences ≡ s.silences → new.log ≡ s.log → new.flushes ≡ s.flushes → new.next_number ≡ s.next_number → state_of new ≡ after_insert config (state_of s) t a
again_leaves config s new t a clock inserts known groups silences log flushes number =
    λ i. record {
      clock = clock i;
      inserts = inserts i;
      known = known i;
      groups = groups i;
      silences = (silences i).items;
      rows = log_rows (log i);
      flushes = map flush_state (flushes i).items;
      next_number = number i;
    }

-- with its record it is an accepted insert
pub applies_again : (config : Config) (old mid : kept.State) (arrival : Arrival) (returned : Inserted) (pushed : Vec Record Global) → StateInvariant config old → IsPutAgain config arrival.time arrival.alert returned old mid
    → pushed.items ≡ mid.history.items ++ insert_record arrival returned ∷ [] → vec_len pushed ≡ vec_len mid.history + 1 → vec_capacity pushed ≡ vec_capacity mid.history
    → (id : ℕ) → AppliesCall config id (insert_record arrival returned) old (record mid { history = pushed })
applies_again config old mid arrival returned pushed good put items counted space id =
    let r : Record = insert_record arrival returned in
    let logged : All (IsPrepared config mid.log) old.flushes.items = subst (λ log. All (IsPrepared config log) old.flushes.items) (sym put.log) good.prepared in
    record {
      returned = ap (λ (t : Inserted). Some (replies.Inserted t)) put.returned;
      state = agrees_same _ _ put.state;
      routed = subst (AreRouted config.routes) (sym put.names) good.routed;
      prepared = subst (All (IsPrepared config mid.log)) (ap deque_items (sym put.flushes)) logged;
      marked = λ name. ap (λ ms. is_marked ms name) put.marks ∙ (good.marked name ∙ ap (λ (os : List OpenFlush). is_flushing (map flush_state os) name) (ap deque_items (sym put.flushes)));
      history = items ∙ ap (λ (rs : List Record). rs ++ r ∷ []) put.history;
      records = omega (arith, counted, put.records);
      space = omega (arith, counted, space, put.space);
    }

-- ---- from a state that holds what another held

module _ (config : Config) (old mid : kept.State) (held : IsReservedState old mid) where
  pub good_reserved : StateInvariant config old → StateInvariant config mid
  good_reserved good =
      let still = stays_reserved config old mid good held in
      record {
        consistent = subst IsConsistent (sym held.state) good.consistent;
        inserts = subst (λ n. n ≤ MAX_CALLS) (sym held.inserts) good.inserts;
        numbers = subst (λ n. n ≤ MAX_CALLS + 1) (sym (ap (λ (s : State). s.next_number) held.state)) good.numbers;
        routed = still.routed;
        prepared = still.prepared;
        marked = still.marked;
        space = still.space;
        few = good.few;
        retention = good.retention;
      }

  pub applies_reserved : (id : ℕ) (r : Record) (new : kept.State) → AppliesCall config id r mid new → AppliesCall config id r old new
  applies_reserved id r new applied = record {
    returned = subst (λ s. reply config id s r.call ≡ Some r.reply) held.state applied.returned;
    state = subst (λ s. EqualUpToRowOrder (state_of new) (after config s r)) held.state applied.state;
    routed = applied.routed;
    prepared = applied.prepared;
    marked = applied.marked;
    history = applied.history ∙ ap (λ (rs : List Record). rs ++ r ∷ []) held.history;
    records = omega (arith, applied.records, held.records);
    space = applied.space;
  }

  pub leaves_reserved : (new : kept.State) → LeavesUnchanged config mid new → LeavesUnchanged config old new
  leaves_reserved new left = record {
    state = left.state ∙ held.state;
    routed = left.routed;
    prepared = left.prepared;
    marked = left.marked;
    history = left.history ∙ held.history;
    records = left.records ∙ held.records;
    space = left.space;
  }

  pub cause_reserved : (alert : AlertData) → insert_cause config (vec_len mid.history) (state_of mid) alert ≡ insert_cause config (vec_len old.history) (state_of old) alert
  cause_reserved alert = λ i. insert_cause config (held.records i) (held.state i) alert

pub puts_reserved : (config : Config) (old mid new : kept.State) (arrival : Arrival) (r : Result Inserted Fault) → IsReservedState old mid → Puts config mid new arrival r → Puts config old new arrival r
puts_reserved config old mid new arrival (Ok returned) held h =
    (sym (cause_reserved config old mid held arrival.alert) ∙ h.0, λ id. applies_reserved config old mid held id (insert_record arrival returned) new (h.1 id))
puts_reserved config old mid new arrival (Err fault) held h =
    (subst (λ cause. IsAnswer cause fault) (cause_reserved config old mid held arrival.alert) h.0, leaves_reserved config old mid held new h.1)
