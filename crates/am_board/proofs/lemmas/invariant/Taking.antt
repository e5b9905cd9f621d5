-- A board hands out the records that it keeps.
use Rattle.std.proofs.Common.{◌≡◌, ℕ, ◌+◌, ◌<◌, ◌≤◌, true, false, List, [], ◌++◌, Some, None, length, vec_len, vec_capacity, sym, ap, ◌∙◌, subst, arith, append-nil, Vec, Global, nat_lt, if◌then◌else◌}
use Rattle.std.proofs.lemmas.Bool.Decides.{nat_tests}
use Rattle.std.specs.VecDeque.{deque_len}
use Rattle.am_ghost.specs.declared.ghost_list.GhostList.{GhostList}
use Rattle.am_model.specs.declared.config.TheConstants.{MAX_HANDED}
use Rattle.am_model.specs.declared.fault.TakeFault.TheVariants.{TooManyCalls}
use Rattle.am_model.specs.declared.record.Record.{Record}
use Rattle.am_model.specs.Replay.{replay, IsLegal}
use Rattle.am_model.specs.State.{FlushState, State}
use Rattle.am_board.specs.declared.board.Board.TheInside.{Inside}
use Rattle.am_board.specs.Board.{IsSound, whole}
use Rattle.am_board.specs.History.{BoardData, handed_out, state_at, take_cause}
use Rattle.am_board.specs.Refinement.{state_of, EqualUpToRowOrder}
use Rattle.am_board.proofs.lemmas.invariant.Calls.{seen}
use Rattle.am_board.proofs.lemmas.invariant.Sound.{all_counted, opened_now}

module _ (b : Inside) (sound : IsSound b) (now : BoardData) (view_is : seen b b.state ≡ now) where
  -- so many calls were accepted
  calls_counted : b.handed + vec_len b.state.history ≡ length now.history
  calls_counted = all_counted b sound ∙ ap (λ (d : BoardData). length d.history) view_is

  -- more records would be handed out than can be
  pub too_many : MAX_HANDED < b.handed + vec_len b.state.history → take_cause now ≡ Some TooManyCalls
  too_many more =
      let is : nat_lt MAX_HANDED (length now.history) ≡ true = let calls = calls_counted in grind (arith, nat_tests, calls, more) in
      ap (λ t. if t then Some TooManyCalls else None) is

  -- no more would be
  pub few_enough : b.handed + vec_len b.state.history ≤ MAX_HANDED → take_cause now ≡ None
  few_enough few =
      let is : nat_lt MAX_HANDED (length now.history) ≡ false = let calls = calls_counted in grind (arith, nat_tests, calls, few) in
      ap (λ t. if t then Some TooManyCalls else None) is

  -- no flush is open
  pub none_open : (state_at now).flushes ≡ [] → deque_len b.state.flushes ≡ 0
  none_open none =
      let before : (replay b.config (whole b)).flushes ≡ [] = subst (λ (d : BoardData). (state_at d).flushes ≡ []) (sym view_is) none in
      let same : (state_of b.state).flushes ≡ (replay b.config (whole b)).flushes = ap (λ (s : State). s.flushes) sound.agrees.rest in
      opened_now b.state ∙ ap (λ (fs : List FlushState). length fs) (same ∙ before)

  -- the kept records are gone, there is capacity for the finish of each open flush, and what was handed out has them at its end
  module _ (kept : Vec Record Global) (past : GhostList Record) (none : kept.items ≡ []) (past_is : past.items ≡ whole b) where
    same_whole : past.items ++ kept.items ≡ whole b
    same_whole = (λ i. past_is i ++ none i) ∙ append-nil (whole b)

    -- the board has handed out all that it had accepted
    pub seen_taken : record { config = b.config; id = b.id; handed = past.items; history = past.items ++ kept.items } ≡ handed_out now
    seen_taken = (λ i. record { config = b.config; id = b.id; handed = past_is i; history = same_whole i }) ∙ ap handed_out view_is

    pub sound_taken : (handed : ℕ) → handed ≡ b.handed + vec_len b.state.history → handed ≤ MAX_HANDED → vec_len kept ≡ 0 → deque_len b.state.flushes ≤ vec_capacity kept
        → IsSound (record b { state = record b.state { history = kept }; handed = handed; past = past })
    sound_taken handed counted few empty space =
        record {
          limits = sound.limits;
          configured = sound.configured;
          few_routes = sound.few_routes;
          legal = subst (IsLegal b.config b.id) (sym same_whole) sound.legal;
          agrees = subst (λ (h : List Record). EqualUpToRowOrder (state_of b.state) (replay b.config h)) (sym same_whole) sound.agrees;
          counted = counted ∙ all_counted b sound ∙ sym (ap (λ (h : List Record). length h) past_is);
          few = few;
          names = sound.names;
          groups = sound.groups;
          silences = sound.silences;
          opened = sound.opened;
          kept = omega (arith, empty, sound.kept);
          space = omega (arith, empty, space);
          routed = sound.routed;
          prepared = sound.prepared;
          marked = sound.marked;
          sources = sound.sources;
          destinations = sound.destinations;
        }
