-- How a begin ends: what is reported and what is kept, from what it did to the kept state.
use Rattle.std.proofs.Common.{◌≡◌, ◌≢◌, ℕ, ◌+◌, ◌*◌, ◌<◌, ◌≤◌, ◌||◌, min, true, List, [], ◌∷◌, ◌++◌, length, map, get_or, Some, All, IsTrue, vec_len, vec_capacity, refl, sym, ap, subst, ◌∙◌, arith}
use Rattle.std.specs.Cmp.{on_equiv}
use Rattle.std.proofs.Math.ListN.{set}
use Rattle.std.proofs.lemmas.List.{get_or-map, length-map, map-set, map-append}
use Rattle.std.proofs.lemmas.List.Elements.{All-append, All-cons, All-nil}
use Rattle.std.specs.VecDeque.{deque_len}
use Rattle.am_alerts.specs.declared.labels.Label.{Label}
use Rattle.am_nflog.specs.Log.{Slots, is_known}
use Rattle.am_nflog.specs.declared.key.LogKey.{LogKey}
use Rattle.am_board.specs.declared.begin.ChosenGroup.{ChosenGroup}
use Rattle.am_model.specs.declared.config.Config.{Config}
use Rattle.am_model.specs.declared.config.Integration.{Integration}
use Rattle.am_board.specs.declared.flush.Notified.{Notified}
use Rattle.am_board.specs.declared.flush.OpenFlush.{OpenFlush}
use Rattle.am_board.specs.declared.group.Group.{Group}
use Rattle.am_model.specs.declared.group.GroupName.{GroupName}
use Rattle.am_board.specs.declared.plan.PlannedFlush.{PlannedFlush}
use Rattle.am_model.specs.declared.record.Call.TheVariants.{Begin}
use Rattle.am_model.specs.declared.record.Reply.{Reply}
use Rattle.am_model.specs.declared.record.Reply.TheVariants.{Quiet, Flush}
use Rattle.am_board.specs.declared.state.State as kept
use Rattle.am_model.specs.Begin.{begun, after_begin, after_taking, reply_taking, after_notifying, reply_notifying, notified_of, begun_group, without_resolved, count_resolved, flush_notifying, notice_for, deadline_of}
use Rattle.am_model.specs.Configured.{route_of}
use Rattle.am_board.specs.Group.{names_of, AreRouted}
use Rattle.am_model.specs.Records.{entry, flush_reply}
use Rattle.am_model.specs.Insert.{same_group}
use Rattle.am_board.specs.Refinement.{state_of, group_state, flush_state, IsPrepared}
use Rattle.am_board.specs.LogRows.{log_rows}
use Rattle.am_model.specs.Lists.{changed_where}
use Rattle.am_board.specs.Beginning.{IsPlannedFlush, IsChosen}
use Rattle.am_model.specs.Replay.{reply, after}
use Rattle.am_model.specs.State.{GroupState, FlushState, State, is_flushing, is_named, same_name}
use Rattle.am_board.specs.Step.{StateInvariant, AppliesCall}
use Rattle.am_board.proofs.lemmas.invariant.GroupNames.{names_set}
use Rattle.am_model.proofs.lists.Alone.{changed_where-like}
use Rattle.am_model.proofs.states.Alike.{same_name_equiv}
use Rattle.am_board.proofs.lemmas.invariant.Staying.{agrees_same}
use Rattle.am_board.specs.Marks.{is_marked, marks_of}
use Rattle.am_board.proofs.lemmas.invariant.Marks.{marked_open}
use Rattle.am_board.proofs.lemmas.invariant.OpenFlushes.{flushing_more}

-- the reply and the state where some integrations are notified
opened_returned : (config : Config) (id : ℕ) (s : State) (t : ℕ) (g : GroupState) (notified : List (ℕ × Integration)) → notified ≢ []
    → reply_notifying config id s t g notified ≡ flush_reply s.next_number g.name (deadline_of config t g) (map (notice_for config id s t g) notified)
opened_returned config id s t g [] some = absurd (some refl)
opened_returned config id s t g (i ∷ is) some = refl

after_opened : (config : Config) (s : State) (t : ℕ) (g : GroupState) (notified : List (ℕ × Integration)) → notified ≢ []
    → after_notifying config s t g notified ≡ record s { clock = t; groups = changed_where (is_named g.name) (begun_group config t) s.groups; flushes = s.flushes ++ flush_notifying config s t g notified ∷ []; next_number = s.next_number + 1 }
after_opened config s t g [] some = absurd (some refl)
after_opened config s t g (i ∷ is) some = refl

-- a flush stays prepared where more keys are known
pub prepared_kept : (config : Config) (log more : Slots GroupName (List Label)) → ((key : LogKey GroupName) → IsTrue (is_known same_name log key) → IsTrue (is_known same_name more key))
    → (fs : List OpenFlush) → All (IsPrepared config log) fs → All (IsPrepared config more) fs
prepared_kept config log more keeps fs all i f h =
    let one = all i f h in
    record {
      kept_for = one.kept_for;
      notified = λ k a less.
          let two = one.notified k a less in
          record { group = two.group; known = keeps _ two.known; sets = two.sets };
    }

module _ (config : Config) (id : ℕ) (old : kept.State) (chosen : ChosenGroup) (g : Group) (good : StateInvariant config old) (takes : IsChosen config old chosen g) where
  -- what is reported, and the state after, by what is notified
  taking_returned : reply config id (state_of old) (Begin chosen.call.now) ≡ Some (reply_notifying config id (state_of old) chosen.t (group_state g) (notified_of config (state_of old) chosen.t (group_state g)))
  taking_returned =
      ap (λ t. Some (begun config id (state_of old) t)) (sym takes.time)
      ∙ ap (λ o. Some (reply_taking config id (state_of old) chosen.t o)) takes.first

  after_this : (r : Reply) → after config (state_of old) (entry chosen.call.pass (Begin chosen.call.now) r) ≡ after_notifying config (state_of old) chosen.t (group_state g) (notified_of config (state_of old) chosen.t (group_state g))
  after_this r =
      ap (λ t. after_begin config (state_of old) t) (sym takes.time)
      ∙ ap (λ o. after_taking config (state_of old) chosen.t o) takes.first

  -- the group is in its place, alone with its name
  within : chosen.index < length old.groups.items
  within = takes.index

  changed_there : (change : GroupState → GroupState) → changed_where (is_named g.name) change (map group_state old.groups.items) ≡ set (map group_state old.groups.items) chosen.index (change (group_state g))
  changed_there change =
      let there : get_or (map group_state old.groups.items) chosen.index (group_state g) ≡ group_state g = get_or-map group_state old.groups.items chosen.index g (group_state g) within ∙ ap group_state (takes.group g) in
      let index : chosen.index < length (map group_state old.groups.items) = omega (arith, within, length-map old.groups.items group_state) in
      subst (λ (x : GroupState). changed_where (same_group x) change (map group_state old.groups.items) ≡ set (map group_state old.groups.items) chosen.index (change x)) there
      (changed_where-like same_group (on_equiv (λ (x : GroupState). x.name) same_name_equiv) change (map group_state old.groups.items) chosen.index (group_state g) good.consistent.groups index)

  groups_after : (change : GroupState → GroupState) (h : Group) → group_state h ≡ change (group_state g)
      → map group_state (set old.groups.items chosen.index h) ≡ changed_where (is_named g.name) change (map group_state old.groups.items)
  groups_after change h e =
      map-set group_state old.groups.items chosen.index h
      ∙ ap (λ x. set (map group_state old.groups.items) chosen.index x) e
      ∙ sym (changed_there change)

  routed_after : (h : Group) → h.name ≡ g.name → AreRouted config.routes (names_of (set old.groups.items chosen.index h))
  routed_after h e = subst (AreRouted config.routes) (sym (names_set old.groups.items chosen.index h g (e ∙ sym (ap (λ (x : Group). x.name) (takes.group g))))) good.routed

  -- the taken group, marked as begun
  pub begun_state : (r : Group) → r ≡ get_or old.groups.items chosen.index r → record (group_state r) { due = chosen.due; flushed = true } ≡ begun_group config chosen.t (group_state g)
  begun_state r is =
      ap (λ (x : Group). record (group_state x) { due = chosen.due; flushed = true }) (is ∙ takes.group r)
      ∙ ap (λ d. record (group_state g) { due = d; flushed = true }) takes.due

  pub begun_kept : (h r : Group) → r ≡ get_or old.groups.items chosen.index r → h ≡ record r { due = chosen.due; flushed = true; is_open = true } → group_state h ≡ begun_group config chosen.t (group_state g)
  begun_kept h r is marked =
      ap group_state marked ∙ begun_state r is

  -- nobody is notified: the resolved alerts leave the group
  pub accepts_quiet : (h : Group) (name recorded : GroupName) (removed : ℕ) (new : kept.State)
      → notified_of config (state_of old) chosen.t (group_state g) ≡ []
      → group_state h ≡ without_resolved chosen.t (begun_group config chosen.t (group_state g))
      → name ≡ g.name → recorded ≡ g.name
      → removed ≡ count_resolved chosen.t (group_state g)
      → new.groups.items ≡ set old.groups.items chosen.index h
      → marks_of new.groups.items ≡ marks_of old.groups.items
      → new ≡ record old { clock = chosen.t; groups = new.groups; history = new.history }
      → new.history.items ≡ old.history.items ++ entry chosen.call.pass (Begin chosen.call.now) (Quiet recorded removed) ∷ []
      → vec_len new.history ≡ vec_len old.history + 1
      → vec_len new.history + deque_len old.flushes ≤ vec_capacity new.history
      → AppliesCall config id (entry chosen.call.pass (Begin chosen.call.now) (Quiet name removed)) old new
  accepts_quiet h name recorded removed new none left named recorded_named gone put marks is history records space =
      let named_as_before : h.name ≡ g.name = ap (λ (x : GroupState). x.name) left in
      let groups = ap (map group_state) put ∙ groups_after (λ x. without_resolved chosen.t (begun_group config chosen.t x)) h left in
      let log : new.log ≡ old.log = ap (λ (s : kept.State). s.log) is in
      let flushes : new.flushes ≡ old.flushes = ap (λ (s : kept.State). s.flushes) is in
      record {
        returned =
            taking_returned
            ∙ ap (λ notified. Some (reply_notifying config id (state_of old) chosen.t (group_state g) notified)) none
            ∙ (λ i. Some (Quiet (sym named i) (sym gone i)));
        state =
            agrees_same _ _
            (ap state_of is
            ∙ ap (λ gs. record (state_of old) { clock = chosen.t; groups = gs }) groups
            ∙ sym (after_this (Quiet name removed) ∙ ap (λ notified. after_notifying config (state_of old) chosen.t (group_state g) notified) none));
        routed = subst (λ gs. AreRouted config.routes (names_of gs)) (sym put) (routed_after h named_as_before);
        prepared = subst (λ (s : kept.State). All (IsPrepared config s.log) s.flushes.items) (sym is) good.prepared;
        marked = λ n. ap (λ ms. is_marked ms n) marks ∙ (good.marked n ∙ sym (ap (λ (s : kept.State). is_flushing (map flush_state s.flushes.items) n) is));
        history = history ∙ (λ i. old.history.items ++ entry chosen.call.pass (Begin chosen.call.now) (Quiet ((recorded_named ∙ sym named) i) removed) ∷ []);
        records = records;
        space = subst (λ n. vec_len new.history + n ≤ vec_capacity new.history) (sym (ap (λ (s : kept.State). deque_len s.flushes) is)) space;
      }

  -- a flush is opened: the keys of those that it notifies are known
  pub accepts_flush : (h : Group) (o : PlannedFlush) (new : kept.State)
      → notified_of config (state_of old) chosen.t (group_state g) ≢ []
      → IsPlannedFlush config id (state_of old) chosen.t (group_state g) o
      → group_state h ≡ begun_group config chosen.t (group_state g)
      → h.is_open ≡ true
      → new.groups.items ≡ set old.groups.items chosen.index h
      → new ≡ record old { clock = chosen.t; groups = new.groups; log = new.log; flushes = new.flushes; next_number = old.next_number + 1; history = new.history }
      → log_rows new.log ≡ log_rows old.log
      → ((key : LogKey GroupName) → IsTrue (is_known same_name old.log key) → IsTrue (is_known same_name new.log key))
      → All (λ (a : Notified). a.key.group ≡ o.flush.group → IsTrue (is_known same_name new.log a.key)) o.flush.notified.items
      → new.flushes.items ≡ old.flushes.items ++ o.flush ∷ []
      → new.history.items ≡ old.history.items ++ entry chosen.call.pass (Begin chosen.call.now) (Flush o.recorded_group o.recorded) ∷ []
      → vec_len new.history ≡ vec_len old.history + 1
      → vec_len new.history + deque_len new.flushes ≤ vec_capacity new.history
      → AppliesCall config id (entry chosen.call.pass (Begin chosen.call.now) (flush_reply o.number o.group o.deadline o.notices.items)) old new
  accepts_flush h o new some planned marked open_now put is rows keeps notified flushes history records space =
      let all_notified = notified_of config (state_of old) chosen.t (group_state g) in
      let named_as_before : h.name ≡ g.name = ap (λ (x : GroupState). x.name) marked in
      let groups = ap (map group_state) put ∙ groups_after (begun_group config chosen.t) h marked in
      let opened : map flush_state new.flushes.items ≡ map flush_state old.flushes.items ++ flush_notifying config (state_of old) chosen.t (group_state g) all_notified ∷ [] =
      ap (map flush_state) flushes ∙ map-append flush_state old.flushes.items (o.flush ∷ []) ∙ ap (λ f. map flush_state old.flushes.items ++ f ∷ []) planned.flush in
      let of_group : o.flush.group ≡ g.name = ap (λ (f : FlushState). f.group) planned.flush in
      let prepared : IsPrepared config new.log o.flush =
      record {
        kept_for = planned.kept_for ∙ ap (λ n. min config.retention (2 * (route_of config n).repeat_interval)) (sym of_group);
        notified = λ k a less.
            let spare = planned.spare k a less in
            record { group = spare.group; known = notified k a less spare.group; sets = spare.sets };
      } in
      record {
        returned =
            taking_returned
            ∙ ap (λ r. Some r) (opened_returned config id (state_of old) chosen.t (group_state g) all_notified some)
            ∙ (λ i. Some (flush_reply (sym planned.number i) (sym planned.group i) (sym planned.deadline i) (sym planned.notices i)));
        state =
            agrees_same _ _
            (ap state_of is
            ∙ (λ i. record (state_of old) { clock = chosen.t; groups = groups i; rows = rows i; flushes = opened i; next_number = old.next_number + 1 })
            ∙ sym (after_this (flush_reply o.number o.group o.deadline o.notices.items) ∙ after_opened config (state_of old) chosen.t (group_state g) all_notified some));
        routed = subst (λ gs. AreRouted config.routes (names_of gs)) (sym put) (routed_after h named_as_before);
        prepared =
            subst (λ fs. All (IsPrepared config new.log) fs) (sym flushes)
            (All-append (IsPrepared config new.log) old.flushes.items (o.flush ∷ []) (prepared_kept config old.log new.log keeps old.flushes.items good.prepared)
            (All-cons (IsPrepared config new.log) o.flush [] prepared (All-nil (IsPrepared config new.log))));
        marked = λ n.
            ap (λ gs. is_marked (marks_of gs) n) put
            ∙ (marked_open old.groups.items chosen.index h takes.index open_now (named_as_before ∙ sym (ap (λ (x : Group). x.name) (takes.group h))) n
            ∙ (ap (λ b. b || same_name n h.name) (good.marked n)
            ∙ (ap (λ m. is_flushing (map flush_state old.flushes.items) n || same_name n m) (named_as_before ∙ sym of_group)
            ∙ sym (ap (λ fs. is_flushing (map flush_state fs) n) flushes ∙ flushing_more old.flushes.items o.flush n))));
        history =
            history
            ∙ (λ i. old.history.items ++ entry chosen.call.pass (Begin chosen.call.now) (Flush ((planned.recorded_group ∙ sym planned.group) i) (planned.recorded i)) ∷ []);
        records = records;
        space = space;
      }
