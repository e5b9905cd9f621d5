-- What each accepted or refused call leaves of a board.
use Rattle.std.proofs.Common.{map, ◌≡◌, ◌+◌, ◌*◌, ◌≤◌, false, Option, Some, None, List, [], ◌∷◌, ◌++◌, drop, length, vec_len, refl, sym, ap, ◌∙◌, subst, arith, append_assoc, length-append}
use Rattle.std.specs.Prelude.{sum_by, All}
use Rattle.std.proofs.lemmas.List.Elements.{All-nil}
use Rattle.am_alerts.specs.RoutingTree.{last_of}
use Rattle.am_alerts.specs.declared.limits.TheConstants.{MAX_ROUTES}
use Rattle.am_mute.specs.SourceIndex.{SourceIndex}
use Rattle.am_mute.specs.Sources.{AreLearnt}
use Rattle.am_model.specs.declared.config.Config.{Config}
use Rattle.am_board.specs.declared.group.Group.{Group}
use Rattle.am_model.specs.declared.group.GroupName.{GroupName}
use Rattle.am_model.specs.Config.{AreAllowed, config_fault}
use Rattle.am_board.specs.GroupNameCache.{AreKept}
use Rattle.am_board.specs.Group.{names_of, AreRouted}
use Rattle.std.proofs.lemmas.List.{drop_at, length-map}
use Rattle.std.specs.VecDeque.{deque_len}
use Rattle.am_board.specs.declared.board.Board.TheInside.{Inside}
use Rattle.am_model.specs.declared.record.Call.{Call}
use Rattle.am_model.specs.declared.record.Record.{Record}
use Rattle.am_board.specs.declared.state.State as kept
use Rattle.am_board.specs.Board.{IsSound, whole}
use Rattle.am_board.specs.Refinement.{state_of, flush_state, EqualUpToRowOrder, IsNew, IsPrepared}
use Rattle.am_model.specs.Laws.{IsConsistent}
use Rattle.am_model.specs.Replay.{reply, after, after_call, replay, IsLegal}
use Rattle.am_model.specs.State.{State, is_flushing, opening_state}
use Rattle.am_board.specs.declared.flush.OpenFlush.{OpenFlush}
use Rattle.am_board.specs.Step.{MAX_CALLS, StateInvariant, AppliesCall, LeavesUnchanged}
use Rattle.am_board.proofs.lemmas.invariant.GroupNameCache.{kept_after}
use Rattle.am_board.proofs.lemmas.invariant.Learnt.{learnt_after}
use Rattle.am_board.proofs.lemmas.invariant.Agreeing.{EqualUpToRowOrder-refl, EqualUpToRowOrder-trans, IsConsistent-agrees, reply-agrees, after_call-agrees}
use Rattle.am_model.proofs.legal.Bounded.{IsBounded, bounded}
use Rattle.am_model.proofs.legal.Consistent.{consistent_replay}
use Rattle.am_model.proofs.legal.FewGroups.{IsInsert, few_others}
use Rattle.am_model.proofs.legal.FewKnown.{IsSilence, IsForget, fewer_others}
use Rattle.am_model.proofs.configuration.Faultless.{few_integrations, retention_within}
use Rattle.am_model.proofs.legal.Histories.{replay_appends, legal_appends}
use Rattle.am_board.specs.Marks.{is_marked, marks_of}

-- how many flushes are open, as the state says it
pub opened_now : (s : kept.State) → deque_len s.flushes ≡ length (state_of s).flushes
opened_now s = s.flushes.ok.0 ∙ sym (length-map s.flushes.items flush_state)

-- no more is known, and there are no more groups and silences, than the limits
abbrev pub IsFew : Config → State → Type 0
IsFew config s =
    (length s.known ≤ config.limits.alerts) × (length s.groups ≤ config.limits.groups) × (length s.silences ≤ config.limits.silences)

-- the whole history with another state
abbrev pub whole_with : Inside → kept.State → List Record
whole_with b s = b.past.items ++ s.history.items

-- a record that is kept is one more of the whole history
pub whole_more : (b : Inside) (s : kept.State) (r : Record) → s.history.items ≡ b.state.history.items ++ r ∷ [] → whole_with b s ≡ whole b ++ r ∷ []
whole_more b s r more =
    ap (λ (rs : List Record). b.past.items ++ rs) more ∙ sym (append_assoc b.past.items b.state.history.items (r ∷ []))

module _ (b : Inside) (sound : IsSound b) where
  -- a call other than an insert and a silence passes none of these limits
  pub few_after : (call : Call) → IsInsert call ≡ false → IsSilence call ≡ false → IsFew b.config (after_call b.config (state_of b.state) call)
  few_after call e f =
      let known = fewer_others b.config (state_of b.state) call e f in (
        omega (arith, known.0, sound.names),
        omega (arith, few_others b.config (state_of b.state) call e, sound.groups),
        omega (arith, known.1, sound.silences),
      )

  -- the state after the board's history
  abbrev replayed : State
  replayed = replay b.config (whole b)

  pub consistent_now : IsConsistent (state_of b.state)
  consistent_now = IsConsistent-agrees (state_of b.state) replayed sound.agrees (consistent_replay b.config (whole b))

  -- so many records are kept
  pub counted : vec_len b.state.history ≡ length b.state.history.items
  counted = b.state.history.ok.0

  -- they are those that weren't handed out
  pub kept_counted : vec_len b.state.history ≡ length (drop (length b.past.items) (whole b))
  kept_counted = counted ∙ sym (ap (λ (h : List Record). length h) (drop_at b.past.items b.state.history.items (length b.past.items) refl))

  -- so many calls were accepted: those whose records were handed out, and those whose records are kept
  pub all_counted : b.handed + vec_len b.state.history ≡ length (whole b)
  all_counted = omega (arith, sound.counted, counted, length-append b.past.items b.state.history.items)

  -- no more calls were accepted than can be
  pub few_calls : length (whole b) ≤ MAX_CALLS
  few_calls = omega (arith, all_counted, sound.few, sound.kept, sound.limits.history.1)

  -- each call may rely on what holds of a board
  pub good : StateInvariant b.config b.state
  good =
      let few : IsBounded b.config (length (whole b)) replayed = bounded b.config (whole b) in
      let inserts : b.state.inserts ≡ replayed.inserts = ap (λ (s : State). s.inserts) sound.agrees.rest in
      let numbers : b.state.next_number ≡ replayed.next_number = ap (λ (s : State). s.next_number) sound.agrees.rest in
      record {
        few = few_integrations b.config sound.configured;
        retention = retention_within b.config sound.configured;
        consistent = consistent_now;
        inserts = omega (arith, few.inserts, inserts, few_calls);
        numbers = omega (arith, few.next_number, numbers, few_calls);
        routed = sound.routed;
        prepared = sound.prepared;
        marked = sound.marked;
        space = sound.space;
      }

  -- the alerts over all groups are few, and so are the inserts
  pub few_alerts : sum_by (λ g. length g.members) (state_of b.state).groups ≤ 16_384 * b.state.inserts
  few_alerts =
      let few : IsBounded b.config (length (whole b)) replayed = bounded b.config (whole b) in
      subst (λ (s : State). sum_by (λ g. length g.members) s.groups ≤ 16_384 * s.inserts) (sym sound.agrees.rest) (few.alerts sound.few_routes)

  pub few_inserts : b.state.inserts ≤ MAX_CALLS
  few_inserts = good.inserts

  module _ (r : Record) (new : kept.State) (accepts : AppliesCall b.config b.id r b.state new) where
    -- the reply is the one that the definitions give at the state after the history
    pub returned_at : reply b.config b.id replayed r.call ≡ Some r.reply
    returned_at = sym (reply-agrees (state_of b.state) replayed sound.agrees consistent_now.rows b.config b.id r.call) ∙ accepts.returned

    -- the history with the record
    history_then : whole_with b new ≡ whole b ++ r ∷ []
    history_then = whole_more b new r accepts.history

    -- it is legal
    pub legal_then : IsLegal b.config b.id (whole_with b new)
    legal_then =
        subst (IsLegal b.config b.id) (sym history_then)
        ((legal_appends b.config b.id (whole b) r).1 (sound.legal, returned_at))

    -- the state is the replay of the history with the record
    pub agrees_then : EqualUpToRowOrder (state_of new) (replay b.config (whole_with b new))
    agrees_then =
        let step : EqualUpToRowOrder (after b.config (state_of b.state) r) (after b.config replayed r) = after_call-agrees (state_of b.state) replayed sound.agrees consistent_now.rows b.config r.call in
        subst (EqualUpToRowOrder (state_of new)) (sym (replay_appends b.config (whole b) r) ∙ sym (ap (replay b.config) history_then))
        (EqualUpToRowOrder-trans (state_of new) (after b.config (state_of b.state) r) accepts.state (after b.config replayed r) step)

    fewer : IsFew b.config (after b.config (state_of b.state) r) → IsFew b.config (state_of new)
    fewer = subst (IsFew b.config) (sym accepts.state.rest)

    -- the board is sound again, where no limit is passed, and what it learnt and keeps is of the alerts that are known then
    pub sound_with : (sources : SourceIndex) (destinations : List (Option (List GroupName))) → AreLearnt b.config.rules new.known.items sources → AreKept b.config new.known.items destinations
        → IsFew b.config (after b.config (state_of b.state) r) → deque_len new.flushes ≤ b.config.limits.flushes → vec_len new.history + deque_len new.flushes ≤ b.config.limits.history
        → IsSound (record b { state = new; sources = sources; destinations = destinations })
    sound_with sources destinations learnt named few opened kept =
        record {
          limits = sound.limits;
          configured = sound.configured;
          few_routes = sound.few_routes;
          legal = legal_then;
          agrees = agrees_then;
          counted = sound.counted;
          few = sound.few;
          names = (fewer few).0;
          groups = (fewer few).1;
          silences = (fewer few).2;
          opened = opened;
          kept = kept;
          space = accepts.space;
          routed = accepts.routed;
          prepared = accepts.prepared;
          marked = accepts.marked;
          sources = learnt;
          destinations = named;
        }

    -- so it is with what it learnt and keeps, unless it forgot alerts
    pub sound_then : IsForget r.call ≡ false → IsFew b.config (after b.config (state_of b.state) r) → deque_len new.flushes ≤ b.config.limits.flushes → vec_len new.history + deque_len new.flushes ≤ b.config.limits.history
        → IsSound (record b { state = new })
    sound_then keeps few opened kept =
        sound_with b.sources b.destinations
        (subst (λ (s : State). AreLearnt b.config.rules s.known b.sources) (sym accepts.state.rest) (learnt_after b.config (state_of b.state) r.call b.sources keeps sound.sources))
        (subst (λ (s : State). AreKept b.config s.known b.destinations) (sym accepts.state.rest) (kept_after b.config (state_of b.state) r.call b.destinations keeps sound.destinations))
        few opened kept

  module _ (new : kept.State) (stays : LeavesUnchanged b.config b.state new) where
    same_whole : whole b ≡ whole_with b new
    same_whole = ap (λ (rs : List Record). b.past.items ++ rs) (sym stays.history)

    same_opened : deque_len new.flushes ≡ deque_len b.state.flushes
    same_opened = opened_now new ∙ (ap (λ (s : State). length s.flushes) stays.state ∙ sym (opened_now b.state))

    -- a refused call leaves the board sound
    pub sound_still : IsSound (record b { state = new })
    sound_still =
        record {
          limits = sound.limits;
          configured = sound.configured;
          few_routes = sound.few_routes;
          legal = subst (IsLegal b.config b.id) same_whole sound.legal;
          agrees = subst (λ (s : State). EqualUpToRowOrder s (replay b.config (whole_with b new))) (sym stays.state) (subst (λ (h : List Record). EqualUpToRowOrder (state_of b.state) (replay b.config h)) same_whole sound.agrees);
          counted = sound.counted;
          few = sound.few;
          names = subst (λ (s : State). length s.known ≤ b.config.limits.alerts) (sym stays.state) sound.names;
          groups = subst (λ (s : State). length s.groups ≤ b.config.limits.groups) (sym stays.state) sound.groups;
          silences = subst (λ (s : State). length s.silences ≤ b.config.limits.silences) (sym stays.state) sound.silences;
          opened = omega (arith, same_opened, sound.opened);
          kept = omega (arith, same_opened, stays.records, sound.kept);
          space = stays.space;
          routed = stays.routed;
          prepared = stays.prepared;
          marked = stays.marked;
          sources = subst (λ (s : State). AreLearnt b.config.rules s.known b.sources) (sym stays.state) sound.sources;
          destinations = subst (λ (s : State). AreKept b.config s.known b.destinations) (sym stays.state) sound.destinations;
        }

-- a board that learnt of its rules and known alerts, and keeps the names of their groups, is sound
pub sound_learnt : (b : Inside) (sources : SourceIndex) (destinations : List (Option (List GroupName))) → AreLearnt b.config.rules b.state.known.items sources → AreKept b.config b.state.known.items destinations → IsSound b
    → IsSound (record b { sources = sources; destinations = destinations })
sound_learnt b sources destinations learnt kept sound =
    record {
      limits = sound.limits;
      configured = sound.configured;
      few_routes = sound.few_routes;
      legal = sound.legal;
      agrees = sound.agrees;
      counted = sound.counted;
      few = sound.few;
      names = sound.names;
      groups = sound.groups;
      silences = sound.silences;
      opened = sound.opened;
      kept = sound.kept;
      space = sound.space;
      routed = sound.routed;
      prepared = sound.prepared;
      marked = sound.marked;
      sources = learnt;
      destinations = kept;
    }

-- a board that was just made is sound
pub new_sound : (b : Inside) → AreLearnt b.config.rules b.state.known.items b.sources → AreKept b.config b.state.known.items b.destinations → config_fault b.config ≡ None → last_of b.config.routes ≤ MAX_ROUTES → AreAllowed b.config.limits → IsNew b.state → b.handed ≡ 0 → b.past.items ≡ [] → IsSound b
new_sound b learnt names configured few limits new none nothing =
    let config = b.config in
    let s : kept.State = b.state in
    let empty : whole b ≡ [] = λ i. nothing i ++ new.history i in
    record {
      limits = limits;
      configured = configured;
      few_routes = few;
      legal = subst (IsLegal config b.id) (sym empty) tt;
      agrees = subst (λ (h : List Record). EqualUpToRowOrder (state_of s) (replay config h)) (sym empty) (subst (λ (x : State). EqualUpToRowOrder x opening_state) (sym new.state) (EqualUpToRowOrder-refl opening_state));
      counted = none ∙ sym (ap (λ (h : List Record). length h) nothing);
      few = omega (arith, none);
      names = subst (λ (x : State). length x.known ≤ config.limits.alerts) (sym new.state) (omega arith);
      groups = subst (λ (x : State). length x.groups ≤ config.limits.groups) (sym new.state) (omega arith);
      silences = subst (λ (x : State). length x.silences ≤ config.limits.silences) (sym new.state) (omega arith);
      opened = omega (arith, new.unflushed);
      kept = omega (arith, new.unflushed, new.records);
      space = omega (arith, new.unflushed, new.records);
      routed = subst (λ (gs : List Group). AreRouted config.routes (names_of gs)) (sym new.groups) (All-nil (λ (n : GroupName). n.route ≤ last_of config.routes));
      prepared = subst (All (IsPrepared config s.log)) (sym new.flushes) (All-nil (IsPrepared config s.log));
      marked = λ name. ap (λ (gs : List Group). is_marked (marks_of gs) name) new.groups ∙ sym (ap (λ (fs : List OpenFlush). is_flushing (map flush_state fs) name) new.flushes);
      sources = learnt;
      destinations = names;
    }
