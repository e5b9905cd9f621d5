-- The faults' numbers, by their values, and what the log has without loads.
use Rattle.std.specs.Prelude.{◌≡◌, ℕ, IsTrue, All, List, [], ◌∷◌, None}
use Rattle.am_model.specs.declared.config.Config.{Config}
use Rattle.am_model.specs.declared.config.ConfigFault.{ConfigFault}
use Rattle.am_model.specs.declared.record.Record.{Record}
use Rattle.am_model.specs.look_back.Entry.{row_in}
use Rattle.am_model.specs.look_back.Laws.{was_delivered}
use Rattle.am_model.specs.look_back.Past.{past_of}
use Rattle.am_model.specs.Replay.{IsLegal, replay}
use Rattle.am_desk.specs.Faults.{open_fault_number, close_cause_number}
use Rattle.am_desk.specs.declared.law.TheConstants.{BLANK_FAULTS}
use Rattle.am_desk.specs.declared.fault.BlankFault.TheVariants as blank
use Rattle.am_desk.specs.declared.fault.OpenFault.TheVariants as opening
use Rattle.am_desk.specs.declared.fault.CloseCause.TheVariants as close

-- law: the numbers of the faults of blanks
abbrev pub BlankFaultsAre : Type 0
BlankFaultsAre = BLANK_FAULTS ≡ (blank.NoMemory, 1) ∷ (blank.BadCount, 2) ∷ []

-- law: the numbers of the faults of openings, whatever is wrong with the configuration
abbrev pub OpenFaultsAre : Type 0
OpenFaultsAre = (open_fault_number opening.NoMemory ≡ 1) × ((reason : ConfigFault) → open_fault_number (opening.BadConfig reason) ≡ 2)

-- law: the numbers of the causes for which a desk isn't closed, however many flushes are open
abbrev pub CloseCausesAre : Type 0
CloseCausesAre = (close_cause_number close.Missing ≡ 1) × ((count : ℕ) → close_cause_number (close.OpenFlush count) ≡ 2)

-- no record hands a row in
abbrev pub HandsNoRowIn : List Record → Type 0
HandsNoRowIn history = All (λ r. row_in r.call ≡ None) history

-- each row of the log comes from a notice that was reported delivered, or had nothing to send, at the row's time
abbrev pub EachRowWasDelivered : Config → List Record → Type 0
EachRowWasDelivered config history = All (λ row. IsTrue (was_delivered row (past_of history))) (replay config history).rows

-- law: so it is after each legal history without loads
abbrev pub UnloadedRowsWereDelivered : Type 0
UnloadedRowsWereDelivered =
    (config : Config) (id : ℕ) (history : List Record)
    → IsLegal config id history → HandsNoRowIn history → EachRowWasDelivered config history
