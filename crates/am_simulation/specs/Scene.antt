-- Scene: how far a rehearsal has come.
use Rattle.std.specs.Prelude.{ℕ, Bool, false, List, []}
use Rattle.am_model.specs.declared.config.Config.{Config}
use Rattle.am_model.specs.Ticket.{TicketData}
use Rattle.am_board.specs.History.{BoardData, opening}
use Rattle.am_pool.specs.Sendings.{later}
use Rattle.am_terms.specs.declared.event.Event.{Event}
use Rattle.am_simulation.specs.declared.limits.TheConstants.{BOARD_ID}
use Rattle.am_simulation.specs.declared.next.End.{End}
use Rattle.am_simulation.specs.declared.span.Span.{Span}
use Rattle.am_terms.specs.declared.rehearsal.Outage.{Outage}
use Rattle.am_terms.specs.declared.rehearsal.TimedAction.{TimedAction}
use Rattle.am_terms.specs.declared.rehearsal.Upkeep.{Upkeep}

-- what doesn't change in a rehearsal: its end, the time between two maintenances, that between two ticks, at which empty groups are
-- removed, its outages, and since when and up to which cut its dispatcher runs
pub record Setting : Type 0 where
  pub until : ℕ
  pub maintain : ℕ
  pub tick : ℕ
  pub outages : List Outage
  pub span : Span

-- the setting with this end, this upkeep, these outages and this span
abbrev pub setting_with : ℕ → Upkeep → List Outage → Span → Setting
setting_with until upkeep outages span =
    record { until = until; maintain = upkeep.maintain; tick = upkeep.remove_empty_groups; outages = outages; span = span }

-- a flush whose notices are in flight: its ticket, which of the begins that took a group opened it, and the ends still to come, by index
pub record SendingData : Type 0 where
  pub ticket : TicketData
  pub begin : ℕ
  pub ends : List End

-- the board, the events so far, the plans still to come, the flushes in flight in the order of their begins, the time, the time of the
-- next maintenance, whether a begin has just taken a group, and whether begins wait for a finish
pub record Scene : Type 0 where
  pub board : BoardData
  pub events : List Event
  pub plans : List TimedAction
  pub sendings : List SendingData
  pub clock : ℕ
  pub maintenance : ℕ
  pub begins : Bool
  pub blocked : Bool

-- the scene at the start, with these plans: the first maintenance comes its time after the dispatcher's start
abbrev pub opening_scene : Setting → Config → List TimedAction → Scene
opening_scene r config plans =
    record {
      board = opening config BOARD_ID;
      events = [];
      plans = plans;
      sendings = [];
      clock = r.span.since;
      maintenance = later r.span.since r.maintain;
      begins = false;
      blocked = false;
    }
