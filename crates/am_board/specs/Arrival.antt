-- Arrival: what an insert of an alert that comes does to the stored state.
use Rattle.std.specs.Prelude.{◌≡◌, ℕ, None, Result, MatchResult, vec_len}
use Rattle.am_model.specs.Causes.{insert_cause}
use Rattle.am_model.specs.Records.{entry}
use Rattle.am_model.specs.declared.config.Config.{Config}
use Rattle.am_model.specs.declared.fault.Fault.{Fault}
use Rattle.am_model.specs.declared.record.Call.TheVariants.{Insert}
use Rattle.am_model.specs.declared.record.Inserted.{Inserted}
use Rattle.am_model.specs.declared.record.Record.{Record}
use Rattle.am_model.specs.declared.record.Reply.TheVariants as replies
use Rattle.am_board.specs.Refinement.{state_of}
use Rattle.am_board.specs.Step.{AppliesCall, LeavesUnchanged, IsAnswer}
use Rattle.am_board.specs.declared.insert.Arrival.{Arrival}
use Rattle.am_board.specs.declared.state.State.{State}

-- the record of an arrival that was accepted
abbrev pub insert_record : Arrival → Inserted → Record
insert_record arrival inserted = entry arrival.pass (Insert arrival.time arrival.alert) (replies.Inserted inserted)

-- an insert was accepted and its record is kept, or it was refused with its cause
abbrev pub Puts : Config → State → State → Arrival → Result Inserted Fault → Type 0
Puts config old new arrival result =
    MatchResult result
    (λ inserted. (insert_cause config (vec_len old.history) (state_of old) arrival.alert ≡ None)
    × ((id : ℕ) → AppliesCall config id (insert_record arrival inserted) old new))
    (λ fault. IsAnswer (insert_cause config (vec_len old.history) (state_of old) arrival.alert) fault × LeavesUnchanged config old new)
