-- A finish that did its parts is the finish of the definitions.
use Rattle.std.proofs.Common.{◌≡◌, ℕ, ◌+◌, ◌<◌, ◌≤◌, ◌==◌, ◌&&◌, not, min, max, Some, List, [], ◌∷◌, ◌++◌, length, map, get_or, count_by, sym, ap, ◌∙◌, subst, arith, vec_len, vec_capacity}
use Rattle.std.specs.Prelude.{All, IsPermutation}
use Rattle.std.specs.List.{remove}
use Rattle.std.specs.Option.{option_map}
use Rattle.std.specs.VecDeque.{deque_len}
use Rattle.am_alerts.specs.RoutingTree.{last_of}
use Rattle.am_alerts.specs.declared.limits.TheConstants.{MAX_TIME}
use Rattle.am_retry.specs.declared.outcome.Outcome.{Outcome}
use Rattle.am_model.specs.Finish.{leaves_by, finished_group, finished, after_finish_of, rows_after}
use Rattle.am_board.specs.Group.{names_of}
use Rattle.am_model.specs.Records.{entry}
use Rattle.am_board.specs.Refinement.{IsPrepared, EqualUpToRowOrder, flush_state, group_state, state_of}
use Rattle.am_board.specs.LogRows.{log_rows}
use Rattle.am_model.specs.Lists.{without, changed_where}
use Rattle.am_board.specs.Finishing.{logged_of, rows_with, KnowTheSame}
use Rattle.am_model.specs.State.{is_flushing, is_named, members_in, time, flush_numbered, same_name}
use Rattle.am_board.specs.Step.{StateInvariant, AppliesCall}
use Rattle.am_model.specs.declared.config.Config.{Config}
use Rattle.am_board.specs.declared.flush.OpenFlush.{OpenFlush}
use Rattle.am_model.specs.declared.group.GroupName.{GroupName}
use Rattle.am_model.specs.declared.record.Call.TheVariants.{Finish}
use Rattle.am_model.specs.declared.record.Finished.{Finished}
use Rattle.am_model.specs.declared.record.Record.{Record}
use Rattle.am_model.specs.declared.record.Reply.TheVariants as replies
use Rattle.am_board.specs.declared.state.State as kept
use Rattle.am_model.proofs.lists.Alone.{without-alone}
use Rattle.am_board.proofs.lemmas.finish.Flushes.{open-alone, open-found, open-prepared, rows_with-prepared, all_prepared, All-remove, map-remove}
use Rattle.am_board.specs.Marks.{is_marked, marks_of}
use Rattle.am_board.proofs.lemmas.invariant.OpenFlushes.{flushing_removed}

-- what the parts of a finish did: the clock was set, the flush taken out, the alerts that leave too, and the rows put
pub record IsFinished (config : Config) (old new : kept.State) (o : OpenFlush) (f now : ℕ) (outcomes : List (ℕ × Outcome)) (result : Finished) (r : Record) : Type 0 where
  pub clock : new.clock ≡ max old.clock (min now MAX_TIME)
  pub inserts : new.inserts ≡ old.inserts
  pub known : new.known ≡ old.known
  pub names : names_of new.groups.items ≡ names_of old.groups.items
  pub marks : (n : GroupName) → is_marked (marks_of new.groups.items) n ≡ (is_marked (marks_of old.groups.items) n && not (same_name n o.group))
  pub groups : map group_state new.groups.items ≡ changed_where (is_named o.group) (finished_group outcomes (flush_state o)) (map group_state old.groups.items)
  pub removed : result.removed ≡ count_by (leaves_by outcomes (flush_state o)) (members_in (map group_state old.groups.items) o.group)
  pub silences : new.silences ≡ old.silences
  pub keys : KnowTheSame new.log old.log
  pub logged : result.logged ≡ length (logged_of outcomes o.notified.items)
  pub rows : IsPermutation (log_rows new.log) (rows_with o new.clock outcomes o.notified.items (log_rows old.log))
  pub flushes : new.flushes.items ≡ remove old.flushes.items f
  pub less : deque_len new.flushes + 1 ≡ deque_len old.flushes
  pub next_number : new.next_number ≡ old.next_number
  pub history : new.history.items ≡ old.history.items ++ r ∷ []
  pub records : vec_len new.history ≡ vec_len old.history + 1
  pub space : vec_capacity new.history ≡ vec_capacity old.history

module _ (config : Config) (id : ℕ) (old new : kept.State) (f : ℕ) (o : OpenFlush) (within : f < length old.flushes.items) (is : o ≡ get_or old.flushes.items f o) (good : StateInvariant config old) (pass now : ℕ) (outcomes : List (ℕ × Outcome)) (result : Finished) where
  abbrev r : Record
  r = entry pass (Finish now o.number outcomes) (replies.Finished result)

  found : flush_numbered (state_of old).flushes o.number ≡ Some (flush_state o)
  found = open-found config old f o within is good

  returned : IsFinished config old new o f now outcomes result r → option_map (λ g. replies.Finished (finished (state_of old) outcomes g)) (flush_numbered (state_of old).flushes o.number) ≡ Some (replies.Finished result)
  returned done =
      ap (option_map (λ g. replies.Finished (finished (state_of old) outcomes g))) found
      ∙ (λ i. Some (replies.Finished (record { logged = sym done.logged i; removed = sym done.removed i })))

  state : IsFinished config old new o f now outcomes result r → EqualUpToRowOrder (state_of new) (after_finish_of config (state_of old) (time (state_of old) now) outcomes (Some (flush_state o)))
  state done =
      let ready = open-prepared config old f o within is good in
      let flushes : map flush_state new.flushes.items ≡ without (λ g. g.number == o.number) (map flush_state old.flushes.items) =
      ap (map flush_state) done.flushes ∙ (map-remove flush_state old.flushes.items f ∙ sym (without-alone (λ g. g.number == o.number) (map flush_state old.flushes.items) f (open-alone config old f o within is good))) in
      record {
        rows = subst (λ t. IsPermutation (log_rows new.log) (rows_after config t outcomes (flush_state o) (log_rows old.log))) done.clock
            (subst (IsPermutation (log_rows new.log)) (rows_with-prepared config old.log o ready new.clock outcomes (log_rows old.log)) done.rows);
        rest = λ i. record {
          clock = done.clock i;
          inserts = done.inserts i;
          known = (done.known i).items;
          groups = done.groups i;
          silences = (done.silences i).items;
          rows = log_rows new.log;
          flushes = flushes i;
          next_number = done.next_number i;
        };
      }

  pub finish-accepted : IsFinished config old new o f now outcomes result r → AppliesCall config id r old new
  finish-accepted done =
      record {
        returned = returned done;
        state = subst (λ g. EqualUpToRowOrder (state_of new) (after_finish_of config (state_of old) (time (state_of old) now) outcomes g)) (sym found) (state done);
        routed = subst (λ names. All (λ n. n.route ≤ last_of config.routes) names) (sym done.names) good.routed;
        prepared = subst (All (IsPrepared config new.log)) (sym done.flushes) (All-remove (IsPrepared config new.log) old.flushes.items f (all_prepared config old.log new.log old.flushes.items done.keys good.prepared));
        marked = λ n.
            done.marks n
            ∙ (ap (λ b. b && not (same_name n o.group)) (good.marked n)
            ∙ sym (ap (λ fs. is_flushing (map flush_state fs) n) done.flushes ∙ flushing_removed old.flushes.items f o within is good.consistent.flushes n));
        history = done.history;
        records = done.records;
        space = omega (arith, good.space, done.less, done.records, done.space);
      }
