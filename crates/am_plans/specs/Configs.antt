-- Configs: the configurations under which a story runs.
use Rattle.std.specs.Prelude.{List, ◌∷◌, map}
use Rattle.am_model.specs.declared.config.Config.{Config}
use Rattle.am_plans.specs.declared.configs.Configs.{Configs}
use Rattle.am_terms.specs.declared.dispatcher_change.DispatcherChange.{DispatcherChange}

-- the one with which it starts, and those of its reloads and restarts
abbrev pub configs_of : Config → List DispatcherChange → List Config
configs_of config dispatcher_changes = config ∷ map (λ (h : DispatcherChange). h.config) dispatcher_changes

abbrev pub configs_in : Configs → List Config
configs_in configs = configs_of configs.own.now configs.later.now
