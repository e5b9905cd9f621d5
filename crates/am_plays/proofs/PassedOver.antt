-- Nothing that is due is passed over, and nothing that is due by the end is left.
use Rattle.std.proofs.Common.{◌≡◌, ℕ, zero, suc, ◌+◌, ◌≤◌, ◌<◌, max, min, Bool, true, false, true≢false, ◌||◌, List, [], ◌∷◌, length, map, Option, Some, None, inl, inr, refl, sym, ap, ◌∙◌, subst, arith, nat_le, nat_lt}
use Rattle.std.specs.Prelude.{find}
use Rattle.std.specs.Option.{IfSome}
use Rattle.std.proofs.lemmas.Bool.{leb-true, leb-false}
use Rattle.std.proofs.lemmas.Bool.Decides.{nat_tests}
use Rattle.std.proofs.lemmas.List.{length-map, reverse-append, reverse-reverse}
use Rattle.am_alerts.specs.declared.limits.TheConstants.{MAX_TIME}
use Rattle.am_board.specs.History.{BoardData, state_at}
use Rattle.am_model.proofs.legal.Histories.{after_clock}
use Rattle.am_model.proofs.looking_back.Pasts.{IsLegalPast, legal_past, replay_is_past, state_after}
use Rattle.am_model.proofs.looking_back.alerts.FoundAlerts.{finds_past}
use Rattle.am_model.proofs.looking_back.flushes.FlushesOnce.{open-group}
use Rattle.am_model.specs.declared.config.Config.{Config}
use Rattle.am_model.specs.declared.group.GroupName.{GroupName}
use Rattle.am_model.specs.declared.notice.TheConstants.{MAX_DEADLINE}
use Rattle.am_model.specs.declared.record.Call.{Call}
use Rattle.am_model.specs.declared.record.Record.{Record}
use Rattle.am_model.specs.declared.record.Reply.{Reply}
use Rattle.am_model.specs.Records.{entry, now_of}
use Rattle.am_model.specs.Replay.{IsLegal, replay}
use Rattle.am_model.specs.State.{FlushState, GroupState, State, is_flushing, is_named, time}
use Rattle.am_model.specs.look_back.Laws.{has_open}
use Rattle.am_model.specs.look_back.Past.{AtEach, past_of, replay_past, time_at}
use Rattle.am_paging.proofs.Counted.{counts_past}
use Rattle.am_simulation.proofs.Coming.{next_none}
use Rattle.am_simulation.specs.Next.{next}
use Rattle.am_simulation.specs.Play.{LeadsIn, PlaysTo}
use Rattle.am_simulation.specs.Scene.{Scene, SendingData, Setting, opening_scene}
use Rattle.am_simulation.specs.Steps.{Steps}
use Rattle.am_terms.specs.declared.event.Event.{Event}
use Rattle.am_terms.specs.declared.rehearsal.TimedAction.{TimedAction}
use Rattle.am_plays.specs.Plays.{ComesBy, EveryPlay, NothingDueIsLeft, NothingDueIsPassedOver, PassesOverNone, has_place}
use Rattle.am_plays.proofs.Moves.{IsMove, IsRecorded, IsSilent, flight, flying}
use Rattle.am_plays.proofs.OpenFlights.{key_of}
use Rattle.am_plays.proofs.Sound.{IsSound, kept-as, more, move-sound, moves, opening-sound, state-more}
use Rattle.am_plays.proofs.Timing.{next_before, none_before}
use Rattle.am_plays.proofs.Words.{if_at, if_each, some_of}

-- ---- words

unmapped : {X Y : Type 0} (f : X → Y) (xs : List X) → [] ≡ map f xs → xs ≡ []
unmapped f [] none = refl
unmapped f (x ∷ xs) none = absurd (cc)

deadline-after : MAX_TIME ≤ MAX_DEADLINE
deadline-after = omega arith

-- ---- a board's history, from its end

module _ (b : BoardData) (legal : IsLegal b.config b.id b.history) where
  abbrev past : List Record
  past = past_of b.history

  pub past-legal : IsLegalPast b.config b.id past
  past-legal = legal_past b.config b.id b.history legal

  pub state-is : state_at b ≡ state_after b.config past
  state-is = replay_is_past b.config b.history

  pub clock-is : (state_at b).clock ≡ time_at past
  clock-is = ap (λ (s : State). s.clock) state-is ∙ (finds_past b.config b.id past past-legal).clock

  pub open-is : (name : GroupName) → has_open name past ≡ is_flushing (state_at b).flushes name
  open-is name =
      open-group b.config (state_after b.config past) past (counts_past b.config b.id past past-legal) name ∙ ap (λ (s : State). is_flushing s.flushes name) (sym state-is)

  pub past-state : replay_past b.config past ≡ state_at b
  past-state = ap (replay b.config) (reverse-reverse b.history)

pub past-more : (b : BoardData) (x : Call) (p : Reply) → past_of (more b x p).history ≡ entry 0 x p ∷ past_of b.history
past-more b x p = reverse-append b.history (entry 0 x p ∷ [])

-- ---- how far time has come

module _ (r : Setting) where
  -- a scene's time, as far as it counts: up to the end of the rehearsal and the greatest time
  abbrev pub seen : ℕ → ℕ
  seen clock = min clock (min (r.until + 1) MAX_TIME)

  -- no group that is free is due before the scene's time, nor before the last record
  abbrev pub IsNotLate : BoardData → ℕ → Bool → Type 0
  IsNotLate b clock blocked =
      blocked ≡ false → (name : GroupName) → is_flushing (state_at b).flushes name ≡ false
      → IfSome (find (is_named name) (state_at b).groups) (λ g. seen clock ≤ max g.due (state_at b).clock)

  pub record IsPunctual (c : Scene) : Type 0 where
    pub sound : IsSound c
    pub late : IsNotLate c.board c.clock c.blocked
    pub passed : AtEach (PassesOverNone r c.board.config) (past_of c.board.history)

  -- so a record at such a time doesn't pass over the group
  comes_by : (last due at : ℕ) → seen at ≤ max due last → ComesBy r (max last due) (max last (min at MAX_TIME))
  comes_by last due at near = by (nat_le (r.until + 1) (max last due)) refl
    where
      by : (b : Bool) → nat_le (r.until + 1) (max last due) ≡ b → ComesBy r (max last due) (max last (min at MAX_TIME))
      by true is = let past : r.until + 1 ≤ max last due = leb-true (r.until + 1) (max last due) is in inr (omega (arith, past))
      by false is = let within : max last due < r.until + 1 = leb-false (r.until + 1) (max last due) is in inl (omega (arith, within, near))

  -- where a flush more is allowed, begins don't wait
  unblocked : (c : Scene) → IsPunctual c → has_place c.board.config (state_at c.board) ≡ true → c.blocked ≡ false
  unblocked c was place = by c.blocked refl (nat_le c.board.config.limits.groups c.board.config.limits.flushes) refl place
    where
      by : (blocked : Bool) → c.blocked ≡ blocked → (b : Bool) → nat_le c.board.config.limits.groups c.board.config.limits.flushes ≡ b
          → (b || nat_lt (length (state_at c.board).flushes) c.board.config.limits.flushes) ≡ true → blocked ≡ false
      by false is b most place = refl
      by true is true most place = sym is ∙ was.sound.free (leb-true c.board.config.limits.groups c.board.config.limits.flushes most)
      by true is false most place =
          let crowded = was.sound.crowded is in
          let few : length (state_at c.board).flushes < c.board.config.limits.flushes = grind (arith, nat_tests, place) in
          absurd (omega (arith, crowded, few, length-map (state_at c.board).flushes key_of))

  -- what comes at a time isn't after any free group is due, nor now, unless that is after the end
  abbrev IsAhead : Scene → ℕ → Type 0
  IsAhead c at =
      c.blocked ≡ false → (name : GroupName) (g : GroupState) → find (is_named name) (state_at c.board).groups ≡ Some g
      → is_flushing (state_at c.board).flushes name ≡ false → g.due ≤ MAX_DEADLINE → min at (r.until + 1) ≤ max g.due c.clock

  module _ (c d : Scene) (at : ℕ) (near : IsAhead c at) (was : IsPunctual c) where
    -- so it doesn't come late either
    ahead : IsNotLate c.board at c.blocked
    ahead free name idle =
        if_each (find (is_named name) (state_at c.board).groups) (λ g. seen at ≤ max g.due (state_at c.board).clock)
        (λ g found. by g found (if_at (find (is_named name) (state_at c.board).groups) g found (λ h. seen c.clock ≤ max h.due (state_at c.board).clock) (was.late free name idle)) (nat_le g.due MAX_DEADLINE) refl)
      where
        by : (g : GroupState) → find (is_named name) (state_at c.board).groups ≡ Some g → seen c.clock ≤ max g.due (state_at c.board).clock
            → (b : Bool) → nat_le g.due MAX_DEADLINE ≡ b → seen at ≤ max g.due (state_at c.board).clock
        by g found late true is = let before = near free name g found idle (leb-true g.due MAX_DEADLINE is) in omega (arith, before, late)
        by g found late false is = let far : MAX_DEADLINE < g.due = leb-false g.due MAX_DEADLINE is in omega (arith, far, deadline-after)

    -- a record passes over nothing
    passes : (x : Call) (p : Reply) → now_of x ≡ at → PassesOverNone r c.board.config (entry 0 x p) (past_of c.board.history)
    passes x p now place name closed =
        let b : BoardData = c.board in
        let legal = was.sound.legal in
        let same : replay_past b.config (past_of b.history) ≡ state_at b = past-state b legal in
        subst (λ (s : State). IfSome (find (is_named name) s.groups) (λ g. ComesBy r (max (time_at (past_of b.history)) g.due) (max (time_at (past_of b.history)) (min (now_of x) MAX_TIME)))) (sym same)
        (subst (λ (u : ℕ). IfSome (find (is_named name) (state_at b).groups) (λ g. ComesBy r (max (time_at (past_of b.history)) g.due) (max (time_at (past_of b.history)) (min u MAX_TIME)))) (sym now)
        (subst (λ (last : ℕ). IfSome (find (is_named name) (state_at b).groups) (λ g. ComesBy r (max last g.due) (max last (min at MAX_TIME)))) (clock-is b legal)
        (weaker (find (is_named name) (state_at b).groups)
        (ahead (unblocked c was (ap (has_place b.config) (sym same) ∙ place)) name (sym (open-is b legal name) ∙ closed)))))
      where
        weaker : (o : Option GroupState) → IfSome o (λ g. seen at ≤ max g.due (state_at c.board).clock)
            → IfSome o (λ g. ComesBy r (max (state_at c.board).clock g.due) (max (state_at c.board).clock (min at MAX_TIME)))
        weaker None near = tt
        weaker (Some g) near = comes_by (state_at c.board).clock g.due at near

    recorded : IsSound d → d.clock ≡ at → IsRecorded c d at → IsPunctual d
    recorded sound clock m =
        let b : BoardData = c.board in
        let x : Call = m.accepted in
        let p : Reply = m.returned in
        let since : (state_at (more b x p)).clock ≡ time (state_at b) at =
        ap (λ (s : State). s.clock) (state-more b x p) ∙ after_clock b.config (state_at b) x ∙ ap (time (state_at b)) m.now
        in
        record {
          sound = sound;
          late = subst (λ (e : BoardData). IsNotLate e d.clock d.blocked) (sym m.board)
              (subst (λ (t : ℕ). IsNotLate (more b x p) t d.blocked) (sym clock)
              (λ free name idle. if_each (find (is_named name) (state_at (more b x p)).groups) (λ g. seen at ≤ max g.due (state_at (more b x p)).clock) (λ g found. omega (arith, since))));
          passed = subst (λ (e : BoardData). AtEach (PassesOverNone r e.config) (past_of e.history)) (sym m.board)
              (subst (AtEach (PassesOverNone r b.config)) (sym (past-more b x p)) (passes x p m.now, was.passed));
        }

    silent : IsSound d → d.clock ≡ at → IsSilent c d at → IsPunctual d
    silent sound clock m =
        record {
          sound = sound;
          late = subst (λ (e : BoardData). IsNotLate e d.clock d.blocked) (sym m.board)
              (subst (λ (t : ℕ). IsNotLate c.board t d.blocked) (sym clock) (λ free name idle. ahead (before free) name idle));
          passed = subst (λ (e : BoardData). AtEach (PassesOverNone r e.config) (past_of e.history)) (sym m.board) was.passed;
        }
      where
        before : d.blocked ≡ false → c.blocked ≡ false
        before free = elim m.waits [ inl same ↦ sym same ∙ free | inr many ↦ absurd (true≢false (sym many.0 ∙ free)) ]

    punctual : IsMove c d at → IsPunctual d
    punctual m =
        elim m.does [
          | inl did ↦ recorded (move-sound c d was.sound at m) m.clock did
          | inr did ↦ silent (move-sound c d was.sound at m) m.clock did
        ]

  step-punctual : (c d : Scene) → IsPunctual c → Steps r c d → IsPunctual d
  step-punctual c d was steps =
      let m = some_of (next r c) (λ n. IsMove c d n.at) (moves r c d was.sound steps) in
      punctual c d m.0.at (λ free name g found idle come. if_at (next r c) m.0 m.1 (λ n. min n.at (r.until + 1) ≤ max g.due c.clock) (next_before r c free name g found idle come)) was m.2

  kept-punctual : (k : ℕ) (c d : Scene) → IsPunctual c → LeadsIn r k c d → IsPunctual d
  kept-punctual zero c d was same = subst IsPunctual same was
  kept-punctual (suc k) c d was led = step-punctual led.0 d (kept-punctual k c led.0 was led.1) led.2

  opening-punctual : (config : Config) (plans : List TimedAction) → IsPunctual (opening_scene r config plans)
  opening-punctual config plans = record { sound = opening-sound r config plans; late = λ free name idle. tt; passed = tt }

  -- ---- where nothing comes next

  module _ (c : Scene) (over : next r c ≡ None) (was : IsPunctual c) where
    none_flying : flying c ≡ []
    none_flying = ap (λ (ss : List SendingData). map flight ss) (next_none r c over).0

    pub none_open : (state_at c.board).flushes ≡ []
    none_open = unmapped key_of (state_at c.board).flushes (sym none_flying ∙ was.sound.airborne)

    pub none_left : r.until < MAX_TIME → has_place c.board.config (state_at c.board) ≡ true → (name : GroupName)
        → IfSome (find (is_named name) (state_at c.board).groups) (λ g. r.until < max (time_at (past_of c.board.history)) g.due)
    none_left ends place name =
        if_each (find (is_named name) (state_at c.board).groups) (λ g. r.until < max (time_at (past_of c.board.history)) g.due)
        (λ g found. by g found (if_at (find (is_named name) (state_at c.board).groups) g found (λ h. seen c.clock ≤ max h.due (state_at c.board).clock) (was.late not_blocked name idle)) (nat_le g.due MAX_DEADLINE) refl)
      where
        not_blocked : c.blocked ≡ false
        not_blocked = unblocked c was place

        idle : is_flushing (state_at c.board).flushes name ≡ false
        idle = ap (λ (fs : List FlushState). is_flushing fs name) none_open

        last : (state_at c.board).clock ≡ time_at (past_of c.board.history)
        last = clock-is c.board was.sound.legal

        by : (g : GroupState) → find (is_named name) (state_at c.board).groups ≡ Some g → seen c.clock ≤ max g.due (state_at c.board).clock
            → (b : Bool) → nat_le g.due MAX_DEADLINE ≡ b → r.until < max (time_at (past_of c.board.history)) g.due
        by g found late true is =
            let before : r.until < max g.due c.clock = none_before r c not_blocked name g found idle (leb-true g.due MAX_DEADLINE is) over in
            omega (arith, before, late, ends, last)
        by g found late false is = let far : MAX_DEADLINE < g.due = leb-false g.due MAX_DEADLINE is in omega (arith, far, deadline-after, ends)

-- ---- the laws

module _ (r : Setting) (config : Config) (plans : List TimedAction) (board : BoardData) (events : List Event) (play : PlaysTo r config plans board events) where
  abbrev start : Scene
  start = opening_scene r config plans

  last : IsPunctual r play.last
  last = kept-punctual r play.reached.0 start play.last (opening-punctual r config plans) play.reached.1

  configured : play.last.board.config ≡ config
  configured = (kept-as r play.reached.0 start play.last (opening-sound r config plans) play.reached.1).0

  passed_over : NothingDueIsPassedOver r config board.history
  passed_over =
      subst (λ (b : BoardData). AtEach (PassesOverNone r config) (past_of b.history)) (sym play.board_is)
      (subst (λ (x : Config). AtEach (PassesOverNone r x) (past_of play.last.board.history)) configured last.passed)

  left : NothingDueIsLeft r config board.history
  left =
      subst (λ (b : BoardData). NothingDueIsLeft r config b.history) (sym play.board_is)
      (subst (λ (x : Config). NothingDueIsLeft r x play.last.board.history) configured
      (none_open r play.last play.over last, none_left r play.last play.over last))

pub nothing_due_is_passed_over : EveryPlay NothingDueIsPassedOver
nothing_due_is_passed_over r config plans board events play = passed_over r config plans board events play

pub nothing_due_is_left : EveryPlay NothingDueIsLeft
nothing_due_is_left r config plans board events play = left r config plans board events play
