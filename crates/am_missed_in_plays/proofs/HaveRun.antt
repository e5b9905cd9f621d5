-- The dispatchers of a rehearsal ran: each plays its part, its history is legal, and its inserts come by its end.
use Rattle.std.proofs.Common.{◌≡◌, ◌∙◌, ℕ, ◌+◌, ◌≤◌, suc, Bool, true, false, nat_le, List, [], ◌∷◌, ◌++◌, All, IfSome, length, map, slice_get, Option, Some, None, refl, sym, ap, subst, arith, if◌then◌else◌}
use Rattle.std.specs.List.{AllByRecursion, cons_option}
use Rattle.std.proofs.lemmas.Bool.{leb-true}
use Rattle.am_alerts.specs.AlertData.{AlertData}
use Rattle.am_alerts.specs.declared.limits.TheConstants.{MAX_TIME}
use Rattle.am_board.specs.History.{BoardData}
use Rattle.am_model.specs.declared.config.Config.{Config}
use Rattle.am_model.specs.declared.record.Call.{Call}
use Rattle.am_model.specs.declared.record.Call.TheVariants as call
use Rattle.am_model.specs.declared.record.Record.{Record}
use Rattle.am_model.specs.Records.{now_of}
use Rattle.am_model.specs.Replay.{IsLegal}
use Rattle.am_model.specs.look_back.Entry.{alert_in}
use Rattle.am_model.proofs.legal.EachCall.{inside}
use Rattle.am_model.proofs.lists.Distinct.{all_from}
use Rattle.am_simulation.specs.Parts.{PartData, after, cut_at, parts_from, whole_part}
use Rattle.am_simulation.specs.Planned.{call_of, input_of, inputs_in, planned}
use Rattle.am_simulation.specs.Play.{PlaysTo}
use Rattle.am_simulation.specs.Playing.{ArePlayed, PlaysPart, loaded_plans, setting_of_part}
use Rattle.am_simulation.specs.Scene.{Setting}
use Rattle.am_simulation.specs.declared.limits.TheConstants.{BOARD_ID}
use Rattle.am_simulation.specs.declared.playing.PlayedPart.{PlayedPart}
use Rattle.am_simulation.proofs.Keeping.{play_configured, play_planned}
use Rattle.am_terms.specs.declared.dispatcher_change.DispatcherChange.{DispatcherChange}
use Rattle.am_terms.specs.declared.event.Event.{Event}
use Rattle.am_terms.specs.declared.rehearsal.Action.{Action}
use Rattle.am_terms.specs.declared.rehearsal.Action.TheVariants.{Insert, Silence, Load}
use Rattle.am_terms.specs.declared.rehearsal.Outage.{Outage}
use Rattle.am_terms.specs.declared.rehearsal.Rehearsal.{Rehearsal}
use Rattle.am_terms.specs.declared.rehearsal.TheConstants.{MAX_UNTIL}
use Rattle.am_terms.specs.declared.rehearsal.TimedAction.{TimedAction}
use Rattle.am_terms.specs.declared.rehearsal.Upkeep.{Upkeep}
use Rattle.am_timeline.specs.Playback.{PlaybackData}
use Rattle.am_missed.specs.Causes.{HasRun}
use Rattle.am_missed.proofs.Came.{causes_came}
use Rattle.am_missed.proofs.Causes.{missed_spans_have_causes}
use Rattle.am_plays.proofs.Sound.{plays_are_legal}
use Rattle.am_missed_in_plays.specs.Rehearsals.{RehearsalsHaveCauses, RehearsalsHaveRun, RehearsalsShowCauses, parts_with, playback_of}

-- ---- when inserts come

-- each part ends by the end of the first
ends-by : (most : ℕ) (p : PartData) (hs : List DispatcherChange) → p.until ≤ most → AllByRecursion (λ q. q.until ≤ most) (parts_from p hs)
ends-by most p [] by = (by, tt)
ends-by most p (h ∷ hs) by = (omega (arith, by), ends-by most (after h p) hs by)

abbrev ComesBy : ℕ → Call → Type 0
ComesBy until c = now_of c ≤ until

-- what is planned comes by the end
plans-by : (until : ℕ) (plans : List TimedAction) → AllByRecursion (ComesBy until) (planned until plans)
plans-by until [] = tt
plans-by until (p ∷ ps) = by (nat_le p.at until) refl (plans-by until ps)
  where
    now : (act : Action) → p.at ≤ until → now_of (call_of p.at act) ≤ until
    now (Insert alert) come = come
    now (Silence silence) come = come
    now (Load row) come = come

    by : (b : Bool) → nat_le p.at until ≡ b → AllByRecursion (ComesBy until) (planned until ps) → AllByRecursion (ComesBy until) (if b then call_of p.at p.act ∷ planned until ps else [])
    by true is rest = (now p.act (leb-true p.at until is), rest)
    by false is rest = tt

abbrev IsInTime : Record → Type 0
IsInTime r = IfSome (alert_in r.call) (λ a. now_of r.call ≤ MAX_TIME)

-- so no insert comes after the greatest time
inserts-by : (until : ℕ) → until ≤ MAX_TIME → (history : List Record) → AllByRecursion (ComesBy until) (inputs_in history) → AllByRecursion IsInTime history
inserts-by until most [] all = tt
inserts-by until most (r ∷ rs) all = by r.call all (λ rest. inserts-by until most rs rest)
  where
    by : (c : Call) → AllByRecursion (ComesBy until) (cons_option (input_of c) (inputs_in rs)) → (AllByRecursion (ComesBy until) (inputs_in rs) → AllByRecursion IsInTime rs)
        → IfSome (alert_in c) (λ a. now_of c ≤ MAX_TIME) × AllByRecursion IsInTime rs
    by (call.Insert now alert) all rest = let come : now ≤ until = all.0 in (omega (arith, come, most), rest all.1)
    by (call.Silence now id matchers start end) all rest = (tt, rest all.1)
    by (call.Begin now) all rest = (tt, rest all)
    by (call.Finish now number outcomes) all rest = (tt, rest all)
    by (call.Maintain now) all rest = (tt, rest all)
    by (call.RemoveEmptyGroups now) all rest = (tt, rest all)
    by (call.Forget now) all rest = (tt, rest all)
    by (call.Load now row) all rest = (tt, rest all.1)
    by (call.Note now number integration outcome) all rest = (tt, rest all)

-- ---- a dispatcher that played

-- it plays with its board's configuration
pub own-play : (r : Setting) (config : Config) (plans : List TimedAction) (board : BoardData) (events : List Event) → PlaysTo r config plans board events → PlaysTo r board.config plans board events
own-play r config plans board events play = subst (λ c. PlaysTo r c plans board events) (sym (play_configured r config plans board events play)) play

-- the greatest end of a rehearsal is before the greatest time
early : (until : ℕ) → until ≤ MAX_UNTIL → until ≤ MAX_TIME
early until most = omega (arith, most)

-- it ran
pub has-run : (upkeep : Upkeep) (outages : List Outage) (before : Option BoardData) (p : PartData) (q : PlayedPart) → p.until ≤ MAX_TIME → PlaysPart upkeep outages before p q → HasRun (playback_of q)
has-run upkeep outages before p q most part =
    let r = setting_of_part upkeep outages p in
    let plans = loaded_plans before p in
    let board : BoardData = q.played.value.board in
    let events = q.played.value.events.items in
    record {
      id = BOARD_ID;
      legal = plays_are_legal r board.config plans board events (own-play r p.config plans board events part.plays);
      begins = q.played.value.previews;
      times = all_from IsInTime board.history
          (inserts-by p.until most board.history
          (subst (AllByRecursion (ComesBy p.until)) (sym (play_planned r p.config plans board events part.plays)) (plans-by p.until plans)));
    }

module _ (upkeep : Upkeep) (outages : List Outage) where
  -- so does each
  all-run : (before : Option BoardData) (parts : List PartData) (played : List PlayedPart) → AllByRecursion (λ p. p.until ≤ MAX_UNTIL) parts → ArePlayed upkeep outages before parts played
      → AllByRecursion HasRun (map playback_of played)
  all-run before [] [] most are = tt
  all-run before [] (q ∷ qs) most are = absurd are
  all-run before (p ∷ ps) [] most are = absurd are
  all-run before (p ∷ ps) (q ∷ qs) most are =
      (has-run upkeep outages before p q (early p.until most.0) are.0, all-run (Some q.played.value.board) ps qs most.1 are.1)

  -- the dispatcher at a place plays the part at this place
  pub record IsAtPlace (p : PartData) (playback : PlaybackData) : Type 0 where
    pub before : Option BoardData
    pub played : PlayedPart
    pub is : playback_of played ≡ playback
    pub plays : PlaysPart upkeep outages before p played

  pub at-place : (before : Option BoardData) (parts : List PartData) (played : List PlayedPart) → ArePlayed upkeep outages before parts played
      → (front : List PlaybackData) (playback : PlaybackData) (rest : List PlaybackData) (p : PartData) → map playback_of played ≡ front ++ playback ∷ rest → slice_get parts (length front) ≡ Some p → IsAtPlace p playback
  at-place before [] [] are front playback rest p is at = absurd (none-is front is)
    where
      none-is : (front : List PlaybackData) → [] ≡ front ++ playback ∷ rest → ⊥
      none-is [] e = cc
      none-is (x ∷ xs) e = cc
  at-place before [] (q ∷ qs) are front playback rest p is at = absurd are
  at-place before (x ∷ ps) [] are front playback rest p is at = absurd are
  at-place before (x ∷ ps) (q ∷ qs) are [] playback rest p is at =
      let own : playback_of q ≡ playback = cc in
      record { before = before; played = q; is = own; plays = subst (λ y. PlaysPart upkeep outages before y q) (inside x p at) are.0 }
  at-place before (x ∷ ps) (q ∷ qs) are (f ∷ fs) playback rest p is at =
      let more : map playback_of qs ≡ fs ++ playback ∷ rest = cc in
      at-place (Some q.played.value.board) ps qs are.1 fs playback rest p more at

-- ---- the laws

pub rehearsals_have_run : RehearsalsHaveRun
rehearsals_have_run rehearsal changes played are =
    let parts = parts_with rehearsal changes in
    all_from HasRun (map playback_of played)
    (all-run rehearsal.upkeep rehearsal.outages.items None parts played
    (ends-by MAX_UNTIL (whole_part rehearsal.config rehearsal.until rehearsal.plans.items) changes rehearsal.ends) are)

pub rehearsals_have_causes : RehearsalsHaveCauses
rehearsals_have_causes rehearsal changes played are = missed_spans_have_causes (map playback_of played) (rehearsals_have_run rehearsal changes played are)

pub rehearsals_show_causes : RehearsalsShowCauses
rehearsals_show_causes rehearsal changes played are = causes_came (map playback_of played) (rehearsals_have_run rehearsal changes played are)
