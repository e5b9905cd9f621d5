-- Parts: a rehearsal whose dispatcher is reloaded or restarted, as a list of parts, one for each dispatcher.
use Rattle.std.specs.Prelude.{ℕ, ◌-◌, Bool, nat_lt, List, [], ◌∷◌, ◌++◌, drop, min, Some, None}
use Rattle.std.specs.List.{prefix_len, take_while}
use Rattle.am_model.specs.declared.config.Config.{Config}
use Rattle.am_simulation.specs.DispatcherChange.{set_again}
use Rattle.am_simulation.specs.Play.{whole}
use Rattle.am_simulation.specs.declared.span.Span.{Span}
use Rattle.am_terms.specs.declared.dispatcher_change.DispatcherChange.{DispatcherChange}
use Rattle.am_terms.specs.declared.dispatcher_change.Carryover.{Carryover}
use Rattle.am_terms.specs.declared.dispatcher_change.Carryover.TheVariants.{Nothing}
use Rattle.am_terms.specs.declared.rehearsal.TimedAction.{TimedAction}

-- what one dispatcher has of a rehearsal: its configuration, when it runs, the last time of its plans, maintenances, removals and begins,
-- its plans without the loads of the log rows that it takes over, and what it keeps of the dispatcher before it
pub record PartData : Type 0 where
  pub config : Config
  pub span : Span
  pub until : ℕ
  pub plans : List TimedAction
  pub carryover : Carryover

-- whether a plan comes before a time
abbrev pub is_before : ℕ → TimedAction → Bool
is_before at p = nat_lt p.at at

-- the plans up to the first that is at a time or after it
abbrev pub plans_before : ℕ → List TimedAction → List TimedAction
plans_before at plans = take_while (is_before at) plans

-- the plans from the first on that is at a time or after it
abbrev pub plans_from : ℕ → List TimedAction → List TimedAction
plans_from at plans = drop (prefix_len (is_before at) plans) plans

-- the part of a dispatcher that runs from the start, and isn't stopped
abbrev pub whole_part : Config → ℕ → List TimedAction → PartData
whole_part config until plans = record { config = config; span = whole; until = until; plans = plans; carryover = Nothing }

-- the part that is left to a dispatcher that is stopped at a time: what comes before it
abbrev pub cut_at : ℕ → PartData → PartData
cut_at at p =
    record {
      config = p.config;
      span = record { since = p.span.since; cut = Some at };
      until = min p.until (at - 1);
      plans = plans_before at p.plans;
      carryover = p.carryover;
    }

-- the part of the dispatcher that follows at a change of the dispatcher: what is set again, and what comes from then on
abbrev pub after : DispatcherChange → PartData → PartData
after h p =
    record {
      config = h.config;
      span = record { since = h.at; cut = None };
      until = p.until;
      plans = set_again h.carryover h.at (plans_before h.at p.plans) ++ plans_from h.at p.plans;
      carryover = h.carryover;
    }

-- parts_from: the parts of a rehearsal whose first dispatcher has this part if nothing stops it
abbrev pub parts_from : PartData → List DispatcherChange → List PartData
parts_from p [] = p ∷ []
parts_from p (h ∷ hs) = cut_at h.at p ∷ parts_from (after h p) hs
