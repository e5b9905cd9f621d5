-- What follows from the definitions of a scenario.
use Rattle.std.specs.Prelude.{◌≡◌, ℕ, List}
use Rattle.std.specs.List.{AllZip}
use Rattle.am_model.specs.Notice.{NoticeData}
use Rattle.am_model.specs.declared.notice.Report.{Report}
use Rattle.am_scenario.specs.Scripts.{IsAsPlanned}
use Rattle.am_pool.specs.Sendings.{IsSentFrom}
use Rattle.am_scenario.specs.declared.scenario.script.Script.{Script}

-- law: scripts determine the reports on notices that are sent from one time on
abbrev pub ScriptsDetermineReports : Type 0
ScriptsDetermineReports =
    (scripts : List Script) (start : ℕ) (notices : List NoticeData) (one other : List Report)
    → AllZip (IsSentFrom (IsAsPlanned scripts) start) notices one
    → AllZip (IsSentFrom (IsAsPlanned scripts) start) notices other
    → one ≡ other
