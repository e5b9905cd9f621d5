-- The limits, the default and the faults' numbers, by their values.
use Rattle.std.specs.Prelude.{◌≡◌, [], ◌∷◌}
use Rattle.am_model.specs.declared.config.ConfigFault.{ConfigFault}
use Rattle.am_model.specs.declared.config.ConfigFault.TheVariants as config
use Rattle.am_model.specs.declared.config.TheConstants.{MAX_RECEIVERS, MAX_INTEGRATIONS, MAX_RULES}
use Rattle.am_model.specs.declared.config.TheConstants.{MAX_ALERTS, MAX_GROUPS, MAX_SILENCES, MAX_FLUSHES, MAX_HISTORY, MAX_HANDED}
use Rattle.am_model.specs.declared.fault.BoardFault.TheVariants as board
use Rattle.am_model.specs.declared.fault.Fault.TheVariants as call
use Rattle.am_model.specs.declared.fault.LoadFault.TheVariants as load
use Rattle.am_model.specs.declared.fault.NoteFault.TheVariants as note
use Rattle.am_model.specs.declared.fault.ReportFault.TheVariants as report
use Rattle.am_model.specs.declared.fault.TakeFault.TheVariants as taking
use Rattle.am_model.specs.declared.law.TheConstants.{CALL_FAULTS, NOTE_FAULTS, LOAD_FAULTS, CONFIG_FAULTS, TAKE_FAULTS, REPORT_FAULTS}
use Rattle.am_model.specs.declared.notice.TheConstants.{MIN_FLUSH_TIMEOUT, MAX_DEADLINE}
use Rattle.am_model.specs.Config.{default_limits, greatest_limits}
use Rattle.am_model.specs.Faults.{board_fault_number}

-- law: 4,096 receivers of 64 integrations, 4,096 rules; 4,000,000 known alerts, 500,000 groups, 65,536 silences, as many open flushes
-- as groups, 64,000,000 records that are kept, 10^15 that are handed out
abbrev pub LimitsAre : Type 0
LimitsAre =
    (MAX_RECEIVERS ≡ 4_096)
    × (MAX_INTEGRATIONS ≡ 64)
    × (MAX_RULES ≡ 4_096)
    × (MAX_ALERTS ≡ 4_000_000)
    × (MAX_GROUPS ≡ 500_000)
    × (MAX_SILENCES ≡ 65_536)
    × (MAX_FLUSHES ≡ 500_000)
    × (MAX_HISTORY ≡ 64_000_000)
    × (MAX_HANDED ≡ 1_000_000_000_000_000)

-- law: the default of the limits
abbrev pub DefaultIs : Type 0
DefaultIs =
    default_limits ≡ record { alerts = 65_536; groups = 4_096; silences = 1_024; flushes = 64; history = 1_048_576 }

-- law: the greatest limits
abbrev pub GreatestIs : Type 0
GreatestIs =
    greatest_limits ≡ record { alerts = 4_000_000; groups = 500_000; silences = 65_536; flushes = 500_000; history = 64_000_000 }

-- law: a flush has 10 s at least, and a deadline is at most 10^15 + 10^12 ms
abbrev pub TimesAre : Type 0
TimesAre = (MIN_FLUSH_TIMEOUT ≡ 10_000) × (MAX_DEADLINE ≡ 1_001_000_000_000_000)

-- law: the numbers of the faults of an insert, a silence, a begin, a maintenance or a forgetting
abbrev pub CallFaultsAre : Type 0
CallFaultsAre =
    CALL_FAULTS
    ≡ (call.NoMemory, 1) ∷ (call.TooManyAlerts, 2) ∷ (call.TooManyGroups, 3)
    ∷ (call.TooManySilences, 4) ∷ (call.TooManyOpen, 5) ∷ (call.HistoryFull, 6) ∷ []

-- law: the numbers of the faults of a note
abbrev pub NoteFaultsAre : Type 0
NoteFaultsAre =
    NOTE_FAULTS
    ≡ (note.NoMemory, 1) ∷ (note.HistoryFull, 6) ∷ (note.Foreign, 7)
    ∷ (note.NotOpen, 8) ∷ (note.NotReady, 9) ∷ (note.Already, 10) ∷ []

-- law: the numbers of the faults of a load
abbrev pub LoadFaultsAre : Type 0
LoadFaultsAre =
    LOAD_FAULTS
    ≡ (load.NoMemory, 1) ∷ (load.HistoryFull, 6) ∷ (load.NoIntegration, 11)
    ∷ (load.Unordered, 12) ∷ (load.Ahead, 13) ∷ []

-- law: the numbers of the faults of a configuration
abbrev pub ConfigFaultsAre : Type 0
ConfigFaultsAre =
    CONFIG_FAULTS
    ≡ (config.UnknownReceiver, 1) ∷ (config.ReceiverTwice, 2) ∷ (config.TooManyReceivers, 3) ∷ (config.TooManyIntegrations, 4)
    ∷ (config.BadKind, 5) ∷ (config.TooManyRules, 6) ∷ (config.BadRetention, 7) ∷ (config.BadLimit, 8) ∷ []

-- law: the numbers of the faults for which no board is made
abbrev pub BoardFaultsAre : Type 0
BoardFaultsAre =
    (board_fault_number board.NoMemory ≡ 1) × ((fault : ConfigFault) → board_fault_number (board.BadConfig fault) ≡ 2)

-- law: the numbers of the faults for which a history isn't handed out
abbrev pub TakeFaultsAre : Type 0
TakeFaultsAre = TAKE_FAULTS ≡ (taking.NoMemory, 1) ∷ (taking.TooManyCalls, 2) ∷ []

-- law: the numbers of the faults of a report
abbrev pub ReportFaultsAre : Type 0
ReportFaultsAre = REPORT_FAULTS ≡ (report.Stranger, 1) ∷ (report.Twice, 2) ∷ []
