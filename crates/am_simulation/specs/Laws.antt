-- Laws: what follows from the definitions of a rehearsal.
use Rattle.std.specs.Prelude.{◌≡◌, ◌≤◌, ◌<◌, ℕ, max, IfSome, List, Some}
use Rattle.am_model.specs.declared.config.Config.{Config}
use Rattle.am_board.specs.History.{BoardData}
use Rattle.am_model.specs.Notice.{NoticeData}
use Rattle.am_simulation.specs.Answers.{IsEndOf, answer_of}
use Rattle.am_simulation.specs.Planned.{inputs_in, planned}
use Rattle.am_simulation.specs.Play.{PlaysTo}
use Rattle.am_simulation.specs.Scene.{Setting}
use Rattle.am_simulation.specs.declared.next.End.{End}
use Rattle.am_terms.specs.declared.event.Event.{Event}
use Rattle.am_terms.specs.declared.rehearsal.Outage.{Outage}
use Rattle.am_terms.specs.declared.rehearsal.TimedAction.{TimedAction}

-- law: a rehearsal plays to one board and one list of events
abbrev pub RehearsalsHaveOnePlay : Type 0
RehearsalsHaveOnePlay =
    (r : Setting) (config : Config) (plans : List TimedAction) (one other : BoardData) (events others : List Event)
    → PlaysTo r config plans one events → PlaysTo r config plans other others
    → (one ≡ other) × (events ≡ others)

-- law: a play has its configuration, and its inserts, silences and loads are the planned ones, in order and at their times, up to the
-- first plan that is after its end
abbrev pub PlaysHaveTheirInputs : Type 0
PlaysHaveTheirInputs =
    (r : Setting) (config : Config) (plans : List TimedAction) (board : BoardData) (events : List Event)
    → PlaysTo r config plans board events
    → (board.config ≡ config) × (inputs_in board.history ≡ planned r.until plans)

-- the sending of a notice from a time on ends by the cut, or at once if that is later; where an attempt was made, it ends by the cut
abbrev pub EndsByCut : ℕ → ℕ → End → Type 0
EndsByCut cut at e = (e.at ≤ max at cut) × IfSome e.report (λ r. 0 < r.attempts → r.ended ≤ cut)

-- law: where a dispatcher is stopped at a cut, each sending ends by the cut
abbrev pub SendingsEndByCut : Type 0
SendingsEndByCut =
    (cut : ℕ) (outages : List Outage) (receiver : List ℕ) (at index : ℕ) (n : NoticeData) (e : End)
    → IsEndOf (answer_of (Some cut) outages receiver) (Some cut) at index n e → EndsByCut cut at e
