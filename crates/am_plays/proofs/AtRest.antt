-- A group by a time: the records up to then, and that it has no open flush then and is due later.
use Rattle.std.proofs.Common.{◌≡◌, ℕ, ◌<◌, ◌≤◌, max, Bool, true, false, cond, ◌||◌, nat_le, nat_lt, List, [], ◌∷◌, ◌++◌, length, inl, inr, refl, sym, ap, ◌∙◌, subst, arith}
use Rattle.std.specs.Prelude.{find}
use Rattle.std.specs.Option.{IfSome}
use Rattle.std.proofs.lemmas.Bool.{le-leb, leb-true, leb-false}
use Rattle.std.proofs.lemmas.List.{reverse-reverse}
use Rattle.am_alerts.specs.declared.limits.TheConstants.{MAX_TIME}
use Rattle.am_board.specs.History.{BoardData}
use Rattle.am_model.specs.declared.config.Config.{Config}
use Rattle.am_model.specs.declared.group.GroupName.{GroupName}
use Rattle.am_model.specs.declared.record.Record.{Record}
use Rattle.am_model.specs.Replay.{IsLegal, replay}
use Rattle.am_model.specs.State.{FlushState, State, is_flushing, is_named}
use Rattle.am_model.specs.look_back.Laws.{has_open}
use Rattle.am_model.specs.look_back.Past.{AtEach, past_of, replay_past, time_at}
use Rattle.am_model.proofs.looking_back.Pasts.{legal_past, replay_is_past, state_after}
use Rattle.am_model.proofs.looking_back.flushes.FlushesOnce.{open-group}
use Rattle.am_paging.specs.InTime.{AtSome, ended_at, past_until}
use Rattle.am_paging.proofs.Counted.{counts_past}
use Rattle.am_simulation.specs.Play.{PlaysTo}
use Rattle.am_simulation.specs.Scene.{Setting}
use Rattle.am_simulation.specs.declared.limits.TheConstants.{BOARD_ID}
use Rattle.am_terms.specs.declared.event.Event.{Event}
use Rattle.am_terms.specs.declared.rehearsal.TimedAction.{TimedAction}
use Rattle.am_plays.specs.Plays.{ComesBy, has_place}
use Rattle.am_plays.proofs.PassedOver.{nothing_due_is_left}
use Rattle.am_plays.proofs.Served.{Due, Still, due-play}
use Rattle.am_plays.proofs.Sound.{plays_are_legal}
use Rattle.am_plays.proofs.Words.{if_weaker}

pub not-open : (b : Bool) → (b ≡ true → ⊥) → b ≡ false
not-open true isnt = absurd (isnt refl)
not-open false isnt = refl

-- ---- the records up to a time

module _ (x : ℕ) where
  -- they come by then
  pub until-before : (past : List Record) → time_at (past_until x past) ≤ x
  until-before [] = omega arith
  until-before (q ∷ past) = by (nat_le (time_at (q ∷ past)) x) refl (until-before past)
    where
      by : (b : Bool) → nat_le (time_at (q ∷ past)) x ≡ b → time_at (past_until x past) ≤ x → time_at (cond b (q ∷ past) (past_until x past)) ≤ x
      by true is before = leb-true (time_at (q ∷ past)) x is
      by false is before = before

  -- and the others after them
  pub until-front : (past : List Record) → (front : List Record) × (past ≡ front ++ past_until x past)
  until-front [] = ([], refl)
  until-front (q ∷ past) = by (nat_le (time_at (q ∷ past)) x) (until-front past)
    where
      by : (b : Bool) → (front : List Record) × (past ≡ front ++ past_until x past) → (front : List Record) × ((q ∷ past) ≡ front ++ cond b (q ∷ past) (past_until x past))
      by true before = ([], refl)
      by false before = (q ∷ before.0, ap (λ (l : List Record). q ∷ l) before.1)

  pub each-until : (P : Record → List Record → Type 0) (past : List Record) → AtEach P past → AtEach P (past_until x past)
  each-until P [] each = tt
  each-until P (q ∷ past) each = by (nat_le (time_at (q ∷ past)) x) (each-until P past each.1)
    where
      by : (b : Bool) → AtEach P (past_until x past) → AtEach P (cond b (q ∷ past) (past_until x past))
      by true before = each
      by false before = before

  pub some-until : (P : Record → List Record → Type 0) (past : List Record) → AtSome P (past_until x past) → AtSome P past
  some-until P [] some = some
  some-until P (q ∷ past) some = by (nat_le (time_at (q ∷ past)) x) some (λ some. some-until P past some)
    where
      by : (b : Bool) → AtSome P (cond b (q ∷ past) (past_until x past)) → (AtSome P (past_until x past) → AtSome P past) → AtSome P (q ∷ past)
      by true some later = some
      by false some later = inr (later some)

  -- of a past that comes by then, what holds up to then holds
  pub each-within : (P : Record → List Record → Type 0) (past : List Record) → time_at past ≤ x → AtEach (λ q past. time_at (q ∷ past) ≤ x → P q past) past → AtEach P past
  each-within P [] within each = tt
  each-within P (q ∷ past) within each = (each.0 within, each-within P past (omega (arith, within)) each.1)

-- a time that comes first
pub until-twice : (x y : ℕ) → x ≤ y → (past : List Record) → past_until x (past_until y past) ≡ past_until x past
until-twice x y before [] = refl
until-twice x y before (q ∷ past) = by (nat_le (time_at (q ∷ past)) y) refl (nat_le (time_at (q ∷ past)) x) refl (until-twice x y before past)
  where
    by : (b : Bool) → nat_le (time_at (q ∷ past)) y ≡ b → (a : Bool) → nat_le (time_at (q ∷ past)) x ≡ a → past_until x (past_until y past) ≡ past_until x past
        → past_until x (cond b (q ∷ past) (past_until y past)) ≡ cond a (q ∷ past) (past_until x past)
    by true is a of_x rest = ap (λ b. cond b (q ∷ past) (past_until x past)) of_x
    by false is true of_x rest =
        let late : y < time_at (q ∷ past) = leb-false (time_at (q ∷ past)) y is in
        let early : time_at (q ∷ past) ≤ x = leb-true (time_at (q ∷ past)) x of_x in
        absurd (omega (arith, late, early, before))
    by false is false of_x rest = rest

module _ (r : Setting) (config : Config) (id : ℕ) (name : GroupName) (y : ℕ) (by_end : y ≤ r.until) where
  -- ---- at a time by the end to which time moves on while a flush is open, the group has no open flush, and is due later

  pub record IsAtRest (past : List Record) : Type 0 where
    pub closed : has_open name past ≡ false
    pub later : IfSome (find (is_named name) (replay_past config past).groups) (λ g. y < max g.due (ended_at name past))

  -- before a record after it
  rest-before : (late : ℕ) → late ≤ y → (q : Record) (past : List Record) → Still r config id name late q past → Due r config id name q past → y < time_at (q ∷ past) → time_at past ≤ y → IsAtRest past
  rest-before late soon q past still due after within =
      let closed : has_open name past ≡ false = not-open (has_open name past) (λ opened. let unmoved : time_at (q ∷ past) ≤ max (time_at past) late = still opened in absurd (omega (arith, unmoved, after, within, soon))) in
      record {
        closed = closed;
        later = if_weaker (find (is_named name) (replay_past config past).groups) (λ g. ComesBy r (max g.due (ended_at name past)) (time_at (q ∷ past)))
            (λ g. y < max g.due (ended_at name past)) (λ g h. by (max g.due (ended_at name past)) h) (due closed);
      }
    where
      by : (bound : ℕ) → ComesBy r bound (time_at (q ∷ past)) → y < bound
      by bound (inl come) = omega (arith, come, after)
      by bound (inr past_end) = omega (arith, past_end, by_end)

  rests : (late : ℕ) → late ≤ y → (past : List Record) → AtEach (Still r config id name late) past → AtEach (Due r config id name) past → (time_at past ≤ y → IsAtRest past) → IsAtRest (past_until y past)
  rests late soon [] still due last = last (omega arith)
  rests late soon (q ∷ past) still due last =
      by (nat_le (time_at (q ∷ past)) y) refl (λ before. rests late soon past still.1 due.1 before)
    where
      by : (b : Bool) → nat_le (time_at (q ∷ past)) y ≡ b → ((time_at past ≤ y → IsAtRest past) → IsAtRest (past_until y past)) → IsAtRest (cond b (q ∷ past) (past_until y past))
      by true is earlier = last (leb-true (time_at (q ∷ past)) y is)
      by false is earlier = earlier (λ within. rest-before late soon q past still.0 due.0 (leb-false (time_at (q ∷ past)) y is) within)

-- ---- a play

module _ (r : Setting) (config : Config) (plans : List TimedAction) (board : BoardData) (events : List Event) (play : PlaysTo r config plans board events)
    (name : GroupName) (y : ℕ) (by_end : y ≤ r.until) (ends : r.until < MAX_TIME) (places : config.limits.groups ≤ config.limits.flushes) where
  legal : IsLegal config BOARD_ID board.history
  legal = plays_are_legal r config plans board events play

  left : ((replay config board.history).flushes ≡ [])
      × (r.until < MAX_TIME → has_place config (replay config board.history) ≡ true
      → (n : GroupName) → IfSome (find (is_named n) (replay config board.history).groups) (λ g. r.until < max (time_at (past_of board.history)) g.due))
  left = nothing_due_is_left r config plans board events play

  last-rest : time_at (past_of board.history) ≤ y → IsAtRest r config BOARD_ID name y by_end (past_of board.history)
  last-rest within =
      record {
        closed = open-group config (state_after config (past_of board.history)) (past_of board.history) (counts_past config BOARD_ID (past_of board.history) (legal_past config BOARD_ID board.history legal)) name
            ∙ ap (λ (s : State). is_flushing s.flushes name) (sym (replay_is_past config board.history)) ∙ ap (λ (fs : List FlushState). is_flushing fs name) left.0;
        later = subst (λ (s : State). IfSome (find (is_named name) s.groups) (λ g. y < max g.due (ended_at name (past_of board.history)))) (sym (ap (replay config) (reverse-reverse board.history)))
            (if_weaker (find (is_named name) (replay config board.history).groups) (λ g. r.until < max (time_at (past_of board.history)) g.due)
            (λ g. y < max g.due (ended_at name (past_of board.history))) (λ g h. let after : r.until < max (time_at (past_of board.history)) g.due = h in omega (arith, after, within, by_end))
            (left.1 ends (ap (λ b. b || nat_lt (length (replay config board.history).flushes) config.limits.flushes) (le-leb config.limits.groups config.limits.flushes places)) name));
      }

  -- so it is in a play
  pub play-rests : (late : ℕ) → late ≤ y → AtEach (Still r config BOARD_ID name late) (past_of board.history) → IsAtRest r config BOARD_ID name y by_end (past_until y (past_of board.history))
  play-rests late soon still =
      rests r config BOARD_ID name y by_end late soon (past_of board.history) still (due-play r config plans board events play name places) last-rest
