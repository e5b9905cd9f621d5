-- What is true in each scene that a play reaches: its history is legal, its flushes in flight are the open ones, and begins wait only where
-- as many are open as the limit allows.
use Rattle.std.proofs.Common.{◌≡◌, ℕ, zero, suc, ◌≤◌, Bool, true, false, true≢false, List, [], ◌∷◌, length, Option, Some, None, inl, inr, refl, sym, ap, ◌∙◌, subst, arith, if◌then◌else◌, ◌&&◌, nat_le}
use Rattle.std.specs.Option.{IsSomeAnd}
use Rattle.std.proofs.lemmas.Bool.{leb-true}
use Rattle.std.proofs.lemmas.List.{length-append, length-map}
use Rattle.am_board.specs.History.{BoardData, records_at, state_at, with_record}
use Rattle.am_model.proofs.legal.Consistent.{consistent_replay}
use Rattle.am_model.proofs.legal.FewGroups.{few_inserted, few_others}
use Rattle.am_model.proofs.legal.Histories.{legal_appends, replay_appends}
use Rattle.am_model.proofs.legal.NeverWait.{flushes_never_wait}
use Rattle.am_model.specs.declared.config.Config.{Config}
use Rattle.am_model.specs.declared.fault.Fault.{Fault}
use Rattle.am_model.specs.declared.fault.Fault.TheVariants as fault
use Rattle.am_model.specs.declared.record.Call.{Call}
use Rattle.am_model.specs.declared.record.Call.TheVariants as call
use Rattle.am_model.specs.declared.record.Reply.{Reply}
use Rattle.am_model.specs.declared.record.Reply.TheVariants as reply
use Rattle.am_model.specs.Causes.{is_alert_too_many, is_full, opens_by}
use Rattle.am_model.specs.Begin.{taken}
use Rattle.am_model.specs.Laws.{IsConsistent}
use Rattle.am_model.specs.Records.{entry}
use Rattle.am_model.specs.Replay.{IsLegal, after_call, reply as reply_to}
use Rattle.am_model.specs.State.{State, time}
use Rattle.am_simulation.specs.Next.{next}
use Rattle.am_simulation.specs.Play.{LeadsIn}
use Rattle.am_simulation.specs.Scene.{Scene, Setting, opening_scene}
use Rattle.am_simulation.specs.Steps.{Steps}
use Rattle.am_simulation.specs.Taking.{cause_of_none}
use Rattle.am_simulation.specs.declared.limits.TheConstants.{BOARD_ID}
use Rattle.am_terms.specs.declared.rehearsal.TimedAction.{TimedAction}
use Rattle.am_plays.specs.Plays.{EveryPlay, IsLegalPlay, NothingBlocks}
use Rattle.am_plays.proofs.Words.{some_of}
use Rattle.am_plays.proofs.Moves.{IsInsertAllowed, IsMove, IsRecorded, IsSilent, flying, step_moves, waits_after}
use Rattle.am_plays.proofs.OpenFlights.{Key, key_of, keys_after, keys-step, open_keys}

-- ---- a board after a record more

module _ (b : BoardData) (x : Call) (p : Reply) where
  abbrev pub more : BoardData
  more = with_record b (entry 0 x p)

  pub state-more : state_at more ≡ after_call b.config (state_at b) x
  state-more = replay_appends b.config b.history (entry 0 x p)

  pub legal-more : IsLegal b.config b.id b.history → reply_to b.config b.id (state_at b) x ≡ Some p → IsLegal b.config b.id more.history
  legal-more legal is = (legal_appends b.config b.id b.history (entry 0 x p)).1 (legal, is)

  pub keys-more : reply_to b.config b.id (state_at b) x ≡ Some p → open_keys (state_at more) ≡ keys_after x p (open_keys (state_at b))
  keys-more is = ap open_keys state-more ∙ keys-step b.config b.id (state_at b) x p is

-- a call that isn't a finish leaves as many flushes open, at least
no-fewer : (x : Call) (p : Reply) (ks : List Key) (n : ℕ) → n ≤ length ks → waits_after x true ≡ true → n ≤ length (keys_after x p ks)
no-fewer (call.Insert now alert) p ks n most waits = most
no-fewer (call.Silence now id matchers start end) p ks n most waits = most
no-fewer (call.Finish now number outcomes) p ks n most waits = absurd (true≢false (sym waits))
no-fewer (call.Maintain now) p ks n most waits = most
no-fewer (call.RemoveEmptyGroups now) p ks n most waits = most
no-fewer (call.Forget now) p ks n most waits = most
no-fewer (call.Load now row) p ks n most waits = most
no-fewer (call.Note now number integration outcome) p ks n most waits = most
no-fewer (call.Begin now) (reply.Flush group opened) ks n most waits = omega (arith, most, length-append ks ((opened.number, group) ∷ []))
no-fewer (call.Begin now) (reply.Inserted inserted) ks n most waits = most
no-fewer (call.Begin now) (reply.Silenced silenced) ks n most waits = most
no-fewer (call.Begin now) reply.NothingDue ks n most waits = most
no-fewer (call.Begin now) (reply.Quiet group removed) ks n most waits = most
no-fewer (call.Begin now) (reply.Finished finished) ks n most waits = most
no-fewer (call.Begin now) (reply.Maintained maintained) ks n most waits = most
no-fewer (call.Begin now) (reply.EmptyGroupsRemoved removed) ks n most waits = most
no-fewer (call.Begin now) (reply.Forgotten forgotten) ks n most waits = most
no-fewer (call.Begin now) (reply.Loaded loaded) ks n most waits = most
no-fewer (call.Begin now) reply.Noted ks n most waits = most

-- whoever waits after a call that isn't a finish waited before
waited-before : (x : Call) (blocked : Bool) → waits_after x blocked ≡ true → (blocked ≡ true) × (waits_after x true ≡ true)
waited-before (call.Insert now alert) blocked waits = (waits, refl)
waited-before (call.Silence now id matchers start end) blocked waits = (waits, refl)
waited-before (call.Begin now) blocked waits = (waits, refl)
waited-before (call.Finish now number outcomes) blocked waits = absurd (true≢false (sym waits))
waited-before (call.Maintain now) blocked waits = (waits, refl)
waited-before (call.RemoveEmptyGroups now) blocked waits = (waits, refl)
waited-before (call.Forget now) blocked waits = (waits, refl)
waited-before (call.Load now row) blocked waits = (waits, refl)
waited-before (call.Note now number integration outcome) blocked waits = (waits, refl)

-- a call makes no more groups than the limit
few-more : (b : BoardData) (x : Call) → IsInsertAllowed b x → length (state_at b).groups ≤ b.config.limits.groups → length (after_call b.config (state_at b) x).groups ≤ b.config.limits.groups
few-more b (call.Insert now alert) allowed few =
    few_inserted b.config (state_at b) (time (state_at b) now) alert (is_alert_too_many b.config (state_at b) alert) (unfull (is_full b.config (records_at b) (state_at b) 1) _ allowed)
  where
    unfull : (full : Bool) (rest : Option Fault) → (if full then Some fault.HistoryFull else rest) ≡ None → rest ≡ None
    unfull true rest none = absurd (cc)
    unfull false rest none = none
few-more b (call.Silence now id matchers start end) allowed few = omega (arith, few, few_others b.config (state_at b) (call.Silence now id matchers start end) refl)
few-more b (call.Begin now) allowed few = omega (arith, few, few_others b.config (state_at b) (call.Begin now) refl)
few-more b (call.Finish now number outcomes) allowed few = omega (arith, few, few_others b.config (state_at b) (call.Finish now number outcomes) refl)
few-more b (call.Maintain now) allowed few = omega (arith, few, few_others b.config (state_at b) (call.Maintain now) refl)
few-more b (call.RemoveEmptyGroups now) allowed few = omega (arith, few, few_others b.config (state_at b) (call.RemoveEmptyGroups now) refl)
few-more b (call.Forget now) allowed few = omega (arith, few, few_others b.config (state_at b) (call.Forget now) refl)
few-more b (call.Load now row) allowed few = omega (arith, few, few_others b.config (state_at b) (call.Load now row) refl)
few-more b (call.Note now number integration outcome) allowed few =
    omega (arith, few, few_others b.config (state_at b) (call.Note now number integration outcome) refl)

-- ---- each scene

-- what is true of a board, of the flushes in flight, and of whether begins wait
pub record IsSoundWith (b : BoardData) (flights : List Key) (blocked : Bool) : Type 0 where
  pub legal : IsLegal b.config b.id b.history
  pub airborne : flights ≡ open_keys (state_at b)
  pub few : length (state_at b).groups ≤ b.config.limits.groups
  pub crowded : blocked ≡ true → b.config.limits.flushes ≤ length (open_keys (state_at b))
  pub free : b.config.limits.groups ≤ b.config.limits.flushes → blocked ≡ false

abbrev pub IsSound : Scene → Type 0
IsSound c = IsSoundWith c.board (flying c) c.blocked

pub consistent : (b : BoardData) → IsConsistent (state_at b)
consistent b = consistent_replay b.config b.history

not-true : (b : Bool) → (b ≡ true → ⊥) → b ≡ false
not-true true isnt = absurd (isnt refl)
not-true false isnt = refl

module _ (c d : Scene) (sound : IsSound c) where
  recorded-sound : (at : ℕ) → IsRecorded c d at → IsSound d
  recorded-sound at m =
      let b : BoardData = c.board in
      let x : Call = m.accepted in
      let p : Reply = m.returned in
      let keys : open_keys (state_at (more b x p)) ≡ keys_after x p (open_keys (state_at b)) = keys-more b x p m.replied in
      let still : IsSoundWith (more b x p) (keys_after x p (flying c)) (waits_after x c.blocked) =
      record {
        legal = legal-more b x p sound.legal m.replied;
        airborne = ap (keys_after x p) sound.airborne ∙ sym keys;
        few = subst (λ (s : State). length s.groups ≤ b.config.limits.groups) (sym (state-more b x p)) (few-more b x m.allowed sound.few);
        crowded = λ waits.
            let was = waited-before x c.blocked waits in
            subst (λ (l : List Key). b.config.limits.flushes ≤ length l) (sym keys) (no-fewer x p (open_keys (state_at b)) b.config.limits.flushes (sound.crowded was.0) was.1);
        free = λ most. not-true (waits_after x c.blocked) (λ waits. true≢false (sym (waited-before x c.blocked waits).0 ∙ sound.free most));
      }
      in
      subst (λ (e : BoardData). IsSoundWith e (flying d) d.blocked) (sym m.board)
      (subst (λ (l : List Key). IsSoundWith (more b x p) l d.blocked) (sym m.flights) (subst (IsSoundWith (more b x p) (keys_after x p (flying c))) (sym m.waits) still))

  too-many : (at : ℕ) → cause_of_none c.board at ≡ Some fault.TooManyOpen → IsSoundWith c.board (flying c) true
  too-many at why =
      record {
        legal = sound.legal;
        airborne = sound.airborne;
        few = sound.few;
        crowded = λ _. by (is_full c.board.config (records_at c.board) s 2) (nat_le c.board.config.limits.flushes (length s.flushes)) refl (opens_by c.board.config s t (taken s t)) why;
        free = λ most. absurd (flushes_never_wait c.board.config (records_at c.board) s t (consistent c.board) sound.few most why);
      }
    where
      s : State
      s = state_at c.board

      t : ℕ
      t = time (state_at c.board) at

      by : (full many : Bool) → nat_le c.board.config.limits.flushes (length s.flushes) ≡ many → (opens : Bool)
          → (if full then Some fault.HistoryFull else (if many && opens then Some fault.TooManyOpen else None)) ≡ Some fault.TooManyOpen
          → c.board.config.limits.flushes ≤ length (open_keys s)
      by true many is opens e = absurd (cc)
      by false true is opens e =
          let most : c.board.config.limits.flushes ≤ length s.flushes = leb-true c.board.config.limits.flushes (length s.flushes) is in
          omega (arith, most, length-map s.flushes key_of)
      by false false is opens e = absurd (cc)

  silent-sound : (at : ℕ) → IsSilent c d at → IsSound d
  silent-sound at m =
      subst (λ (e : BoardData). IsSoundWith e (flying d) d.blocked) (sym m.board)
      (subst (λ (l : List Key). IsSoundWith c.board l d.blocked) (sym m.flights)
      (elim m.waits [
        | inl same ↦ subst (IsSoundWith c.board (flying c)) (sym same) sound
        | inr many ↦ subst (IsSoundWith c.board (flying c)) (sym many.0) (too-many at many.1)
      ]))

  pub move-sound : (at : ℕ) → IsMove c d at → IsSound d
  move-sound at m = elim m.does [ inl recorded ↦ recorded-sound at recorded | inr silent ↦ silent-sound at silent ]

-- each step is a move
pub moves : (r : Setting) (c d : Scene) → IsSound c → Steps r c d → IsSomeAnd (next r c) (λ n. IsMove c d n.at)
moves r c d sound steps = step_moves r c d sound.airborne (consistent c.board) steps

pub step-sound : (r : Setting) (c d : Scene) → IsSound c → Steps r c d → IsSound d
step-sound r c d sound steps =
    let m = some_of (next r c) (λ n. IsMove c d n.at) (moves r c d sound steps) in
    move-sound c d sound m.0.at m.2

pub opening-sound : (r : Setting) (config : Config) (plans : List TimedAction) → IsSound (opening_scene r config plans)
opening-sound r config plans =
    record {
      legal = tt;
      airborne = refl;
      few = omega arith;
      crowded = λ waits. absurd (true≢false (sym waits));
      free = λ most. refl;
    }

module _ (r : Setting) where
  pub kept-sound : (k : ℕ) (c d : Scene) → IsSound c → LeadsIn r k c d → IsSound d
  kept-sound zero c d sound same = subst IsSound same sound
  kept-sound (suc k) c d sound led = step-sound r led.0 d (kept-sound k c led.0 sound led.1) led.2

  -- the board keeps its configuration and its id
  abbrev pub IsAs : BoardData → BoardData → Type 0
  IsAs b e = (e.config ≡ b.config) × (e.id ≡ b.id)

  pub step-as : (c d : Scene) → IsSound c → Steps r c d → IsAs c.board d.board
  step-as c d sound steps =
      let m = some_of (next r c) (λ n. IsMove c d n.at) (moves r c d sound steps) in
      of-move m.0.at m.2
    where
      of-move : (at : ℕ) → IsMove c d at → IsAs c.board d.board
      of-move at m =
          elim m.does [
            | inl recorded ↦ subst (IsAs c.board) (sym recorded.board) (refl, refl)
            | inr silent ↦ subst (IsAs c.board) (sym silent.board) (refl, refl)
          ]

  pub kept-as : (k : ℕ) (c d : Scene) → IsSound c → LeadsIn r k c d → IsAs c.board d.board
  kept-as zero c d sound same = subst (λ (x : Scene). IsAs c.board x.board) same (refl, refl)
  kept-as (suc k) c d sound led =
      let before = kept-as k c led.0 sound led.1 in
      let now = step-as led.0 d (kept-sound k c led.0 sound led.1) led.2 in
      (now.0 ∙ before.0, now.1 ∙ before.1)

-- ---- the laws

pub nothing_blocks : NothingBlocks
nothing_blocks r config plans c most reached =
    let start : Scene = opening_scene r config plans in
    let own = kept-as r reached.0 start c (opening-sound r config plans) reached.1 in
    (kept-sound r reached.0 start c (opening-sound r config plans) reached.1).free
    (subst (λ (x : Config). x.limits.groups ≤ x.limits.flushes) (sym own.0) most)

pub plays_are_legal : EveryPlay IsLegalPlay
plays_are_legal r config plans board events play =
    let start : Scene = opening_scene r config plans in
    let own = kept-as r play.reached.0 start play.last (opening-sound r config plans) play.reached.1 in
    let sound = kept-sound r play.reached.0 start play.last (opening-sound r config plans) play.reached.1 in
    subst (λ (b : BoardData). IsLegal config BOARD_ID b.history) (sym play.board_is)
    (subst (λ (x : Config). IsLegal x BOARD_ID play.last.board.history) own.0 (subst (λ (i : ℕ). IsLegal play.last.board.config i play.last.board.history) own.1 sound.legal))
