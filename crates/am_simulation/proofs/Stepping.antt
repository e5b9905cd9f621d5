-- The next step, when it is done.
use Rattle.std.proofs.Common.{◌≡◌, ℕ, ◌<◌, zero, suc, false, length, arith, List, [], ◌∷◌, ◌++◌, Option, Some, None, Result, Ok, Err, OnOk, refl, sym, ap, ◌∙◌, subst}
use Rattle.std.specs.Prelude.{remove, slice_get, slice_set, if◌then◌else◌}
use Rattle.std.specs.Option.{IsSomeAnd}
use Rattle.std.proofs.lemmas.List.{length-set, set-set}
use Rattle.std.proofs.lemmas.Option.{slice_get_within}
use Rattle.am_board.specs.History.{BoardData}
use Rattle.am_model.specs.declared.record.Call.TheVariants as call
use Rattle.am_model.specs.Ticket.{TicketData}
use Rattle.am_simulation.proofs.Coming.{next_there}
use Rattle.am_simulation.proofs.Scenes.{same_scene, scene_of}
use Rattle.am_pool.specs.Sendings.{later}
use Rattle.am_simulation.specs.FlightKeys.{IsEndTaken, IsReported}
use Rattle.am_simulation.specs.Simulations.{IsThereFor}
use Rattle.am_simulation.specs.Next.{next}
use Rattle.am_simulation.specs.Planned.{call_of}
use Rattle.am_simulation.specs.Play.{Reaches}
use Rattle.am_simulation.specs.Scene.{Scene, SendingData, Setting}
use Rattle.am_simulation.specs.Steps.{IsDone, IsPlanDone, Steps, after_end, after_end_of, after_finish, after_maintenance, after_plan, after_removal, is_success, sent_events, with_call, with_note, with_report}
use Rattle.am_terms.specs.declared.event.Event.{Event}
use Rattle.am_simulation.specs.declared.next.End.{End}
use Rattle.am_simulation.specs.declared.next.Next.{Next}
use Rattle.am_simulation.specs.declared.next.Step.{Step}
use Rattle.am_simulation.specs.declared.next.Step.TheVariants as step
use Rattle.am_terms.specs.declared.rehearsal.TimedAction.{TimedAction}

module _ (r : Setting) (c : Scene) (n : Next) (what : Step) (comes : next r c ≡ Some n) (is : n.what ≡ what) where
  -- what it is about is there
  pub there_for : IsThereFor r c n what
  there_for = subst (IsThereFor r c n) is (next_there r c n comes)

  -- it leads on
  pub steps_by : (d : Scene) → IsDone r c n.at d what → Steps r c d
  unfolding Steps
  steps_by d done =
      subst (λ (o : Option Next). IsSomeAnd o (λ m. IsDone r c m.at d m.what)) (sym comes) (subst (IsDone r c n.at d) (sym is) done)

-- what follows from two facts of a success
pub on_ok_both : {T E P Q R : Type 0} (r : Result T E) → (P → Q → R) → OnOk r P → OnOk r Q → OnOk r R
on_ok_both (Ok x) both p q = both p q
on_ok_both (Err e) both p q = tt

-- the first of these plans is done
pub plan_done : (c d : Scene) (ps rest : List TimedAction) (p : TimedAction) → ps ≡ p ∷ rest → IsPlanDone c d (p ∷ rest) → IsPlanDone c d ps
plan_done c d ps rest p is done = subst (IsPlanDone c d) (sym is) done

module _ {X : Type 0} (xs : List X) (k : ℕ) (P : X → Type 0) where
  -- where something is said of an item, it is there
  pub within_some : IsSomeAnd (slice_get xs k) P → k < length xs
  within_some said = by (slice_get xs k) refl said
    where
      by : (o : Option X) → slice_get xs k ≡ o → IsSomeAnd o P → k < length xs
      by None is h = absurd h
      by (Some x) is h = slice_get_within xs k x is

  -- and it is said of that item
  pub said_of : (x : X) → slice_get xs k ≡ Some x → IsSomeAnd (slice_get xs k) P → P x
  said_of x is said = subst (λ (o : Option X). IsSomeAnd o P) is said

-- one step more
pub one_more : (r : Setting) (c d e : Scene) → Reaches r c d → Steps r d e → Reaches r c e
one_more r c d e reached steps = (suc reached.0, (d, reached.1, steps))

-- the end at an index of the flush at a position has come, whose flush was first `taken` and then `last`
module _ (r : Setting) (c : Scene) (position index : ℕ) (s taken last : SendingData) (e : End) (b : BoardData) (es : List Event) (ss : List SendingData) where
  pub end_done : slice_get c.sendings position ≡ Some s → slice_get s.ends index ≡ Some e
      → taken ≡ record s { ends = remove s.ends index }
      → last ≡ record taken { ticket = with_report e.report taken.ticket }
      → ss ≡ slice_set c.sendings position last
      → b ≡ (if is_success e.report then with_note e.at (with_report e.report taken.ticket) e.index c.board else c.board)
      → es ≡ c.events ++ sent_events taken.begin e.report
      → IsDone r c 0 (scene_of b es c.plans ss e.at c.maintenance c.begins c.blocked) (step.End position index)
  end_done here there took reported sendings board events =
      let all : last ≡ after_end_of s index e.report =
      reported ∙ ap (λ (t : SendingData). let u : SendingData = record t { ticket = with_report e.report t.ticket } in u) took
      in
      let is : scene_of b es c.plans ss e.at c.maintenance c.begins c.blocked ≡ after_end c position s index e =
      same_scene c.plans e.at c.maintenance c.begins c.blocked
      (board ∙ ap (λ (t : SendingData). if is_success e.report then with_note e.at (with_report e.report t.ticket) e.index c.board else c.board) took)
      (events ∙ ap (λ (t : SendingData). c.events ++ sent_events t.begin e.report) took)
      (sendings ∙ ap (slice_set c.sendings position) all)
      in
      subst (λ (o : Option SendingData). IsSomeAnd o (λ t. IsSomeAnd (slice_get t.ends index) (λ x. scene_of b es c.plans ss e.at c.maintenance c.begins c.blocked ≡ after_end c position t index x))) (sym here)
      (subst (λ (o : Option End). IsSomeAnd o (λ x. scene_of b es c.plans ss e.at c.maintenance c.begins c.blocked ≡ after_end c position s index x)) (sym there) is)

-- what was set at a position is there
set_here : (ss : List SendingData) (position : ℕ) (t : SendingData) → position < length ss → slice_get (slice_set ss position t) position ≡ Some t
set_here [] position t within = absurd (omega (arith, within))
set_here (s ∷ ss) zero t within = refl
set_here (s ∷ ss) (suc position) t within = set_here ss position t (omega (arith, within))

module _ (c : Scene) (position index : ℕ) (e : End) (mids : List SendingData) where
  -- the flush of an end that was taken is there
  pub end_within : IsSomeAnd (slice_get c.sendings position) (IsEndTaken c.sendings position index e mids) → position < length mids
  end_within taken = by (slice_get c.sendings position) refl taken
    where
      by : (o : Option SendingData) → slice_get c.sendings position ≡ o → IsSomeAnd o (IsEndTaken c.sendings position index e mids) → position < length mids
      by None is h = absurd h
      by (Some s) is h =
          let t : SendingData = record s { ends = remove s.ends index } in
          let same : length mids ≡ length c.sendings = ap length h.1 ∙ length-set c.sendings position t in
          omega (arith, same, slice_get_within c.sendings position s is)

  -- an end was taken and reported, so it is done
  pub end_done_by : (r : Setting) (b : BoardData) (es : List Event) (ss : List SendingData)
      → IsSomeAnd (slice_get c.sendings position) (IsEndTaken c.sendings position index e mids)
      → IsSomeAnd (slice_get mids position) (IsReported mids c.board c.events position e ss b es)
      → IsDone r c 0 (scene_of b es c.plans ss e.at c.maintenance c.begins c.blocked) (step.End position index)
  end_done_by r b es ss taken reported = by (slice_get c.sendings position) refl taken
    where
      by : (o : Option SendingData) → slice_get c.sendings position ≡ o → IsSomeAnd o (IsEndTaken c.sendings position index e mids)
          → IsDone r c 0 (scene_of b es c.plans ss e.at c.maintenance c.begins c.blocked) (step.End position index)
      by None is h = absurd h
      by (Some s) is h =
          let t : SendingData = record s { ends = remove s.ends index } in
          let last : SendingData = record t { ticket = with_report e.report t.ticket } in
          let here : slice_get mids position ≡ Some t =
          ap (λ (l : List SendingData). slice_get l position) h.1 ∙ set_here c.sendings position t (slice_get_within c.sendings position s is)
          in
          let said : IsReported mids c.board c.events position e ss b es t = said_of mids position (IsReported mids c.board c.events position e ss b es) t here reported in
          end_done r c position index s t last e b es ss is h.0 refl refl
          (said.sendings ∙ ap (λ (l : List SendingData). slice_set l position last) h.1 ∙ set-set c.sendings position t last)
          said.board said.events_are

-- the flush at a position is finished
pub finish_done : (r : Setting) (c : Scene) (position : ℕ) (s : SendingData) (t : TicketData) (b : BoardData) (es : List Event) (ss : List SendingData)
    → slice_get c.sendings position ≡ Some s → s.ticket ≡ t → b ≡ with_call c.board (call.Finish c.clock t.number t.outcomes) → es ≡ c.events
    → ss ≡ remove c.sendings position
    → IsDone r c 0 (scene_of b es c.plans ss c.clock c.maintenance c.begins false) (step.Finish position)
finish_done r c position s t b es ss here ticket board events sendings =
    subst (λ (o : Option SendingData). IsSomeAnd o (λ x. scene_of b es c.plans ss c.clock c.maintenance c.begins false ≡ after_finish c position x)) (sym here)
    (same_scene c.plans c.clock c.maintenance c.begins false
    (board ∙ ap (λ (u : TicketData). with_call c.board (call.Finish c.clock u.number u.outcomes)) (sym ticket)) events sendings)

-- a planned action is done
pub plan_is : (c : Scene) (p : TimedAction) (ps : List TimedAction) (b : BoardData) (es : List Event) → b ≡ with_call c.board (call_of p.at p.act) → es ≡ c.events
    → scene_of b es ps c.sendings p.at c.maintenance c.begins c.blocked ≡ after_plan c p ps
plan_is c p ps b es board events = same_scene ps p.at c.maintenance c.begins c.blocked board events refl

-- maintenance is made
pub maintenance_is : (r : Setting) (c : Scene) (at next : ℕ) (b : BoardData) (es : List Event) → b ≡ with_call c.board (call.Maintain at) → es ≡ c.events
    → next ≡ later at r.maintain → scene_of b es c.plans c.sendings at next c.begins c.blocked ≡ after_maintenance r c at
maintenance_is r c at next b es board events due = λ i. scene_of (board i) (events i) c.plans c.sendings at (due i) c.begins c.blocked

-- empty groups are removed
pub removal_is : (c : Scene) (at : ℕ) (b : BoardData) (es : List Event) → b ≡ with_call c.board (call.RemoveEmptyGroups at) → es ≡ c.events
    → scene_of b es c.plans c.sendings at c.maintenance c.begins c.blocked ≡ after_removal c at
removal_is c at b es board events = same_scene c.plans at c.maintenance c.begins c.blocked board events refl
