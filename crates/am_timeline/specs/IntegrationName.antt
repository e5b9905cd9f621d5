-- IntegrationName: what Alertmanager calls an integration of a receiver (notify.Integration.String).
use Rattle.std.specs.Prelude.{◌≡◌, ℕ, ◌<◌, List, ◌++◌, length, codes, decimal, Some}
use Rattle.am_model.specs.Carry.{index_at, position_of}
use Rattle.am_model.specs.Config.{kind_at}
use Rattle.am_model.specs.Configured.{integrations_named, route_of}
use Rattle.am_model.specs.declared.config.Config.{Config}
use Rattle.am_model.specs.declared.config.Integration.{Integration}
use Rattle.am_model.specs.declared.group.GroupName.{GroupName}

-- a kind and an index among the integrations of this kind, such as `slack[0]`
abbrev pub name_text : List ℕ → ℕ → List ℕ
name_text kind index = kind ++ codes "[" ++ decimal index ++ codes "]"

-- the name of the integration at a position: its kind, and how many of its kind are before it
abbrev pub integration_name : List Integration → ℕ → List ℕ
integration_name integrations position = name_text (kind_at integrations position) (index_at integrations position)

-- the name of an integration of a group's receiver
abbrev pub target_name : Config → GroupName → ℕ → List ℕ
target_name config group position = integration_name (integrations_named (route_of config group).receiver config.receivers) position

-- the kind and the index in the name of an integration are those of no other integration of its receiver
abbrev pub NamesFindPositions : Type 0
NamesFindPositions =
    (integrations : List Integration) (position : ℕ) → position < length integrations
    → position_of (kind_at integrations position) (index_at integrations position) 0 integrations ≡ Some position
