use Rattle.std.proofs.Common.{◌≡◌, refl}
use Rattle.am_model.specs.declared.fault.Fault.{Fault}
use Rattle.am_model.specs.declared.fault.Fault.TheVariants.{NoMemory, TooManyAlerts, TooManyGroups, TooManySilences, TooManyOpen, HistoryFull}
use Rattle.am_simulation.specs.Faults.{fault_of_call}
use Rattle.am_simulation.specs.declared.play.PlayFault.TheVariants as play
use Rattle.am_simulation.proofs.play.full_or_memory.Goals as goal

-- all but lack of memory is a limit
limit_reached : (fault : Fault) → (fault ≡ NoMemory → ⊥) → play.Full ≡ fault_of_call fault
limit_reached NoMemory other = absurd (other refl)
limit_reached TooManyAlerts other = refl
limit_reached TooManyGroups other = refl
limit_reached TooManySilences other = refl
limit_reached TooManyOpen other = refl
limit_reached HistoryFull other = refl

pub returns-in_default : goal.returns-in_default
returns-in_default c = limit_reached c.args.fault c.in_default.not-NoMemory
