-- Endings: what the status of a story says of how its run ended.
use Rattle.std.proofs.Common.{◌≡◌, ◌≢◌, inl, inr, Result, Ok, Err, arith, refl, subst}
use Rattle.std.specs.Prelude.{IfErr, IsTrue, OnOk, ◌↔◌}
use Rattle.serde_json.specs.Data.{Data}
use Rattle.am_command_line.specs.declared.exit_status.ExitStatus.{ExitStatus}
use Rattle.am_command_line.specs.declared.exit_status.ExitStatus.TheVariants as status
use Rattle.am_console.specs.Complaints.{is_rejection}
use Rattle.am_input.specs.declared.input.Changes.{Changes}
use Rattle.am_rehearse.specs.Ended.{EndsWith, IsRefused}
use Rattle.am_render.specs.Faults.{FaultEndsWith, Refuses, status_of}
use Rattle.am_render.specs.declared.fault.RehearseFault.{RehearseFault}
use Rattle.am_render.specs.declared.fault.RehearseFault.TheVariants as rehearse

-- the status of a rejection is none of these
pub no_done : (s : ExitStatus) → IsTrue (is_rejection s) → s ≡ status.Done → ⊥
no_done s so is =
    let so_too : IsTrue (is_rejection status.Done) = subst (λ (x : ExitStatus). IsTrue (is_rejection x)) is so in
    cc

pub no_unmet : (s : ExitStatus) → IsTrue (is_rejection s) → s ≡ status.Unmet → ⊥
no_unmet s so is =
    let so_too : IsTrue (is_rejection status.Unmet) = subst (λ (x : ExitStatus). IsTrue (is_rejection x)) is so in
    cc

-- where the status is `Done`, the run came to no fault
no_fault : (fault : RehearseFault) (end : ExitStatus) → FaultEndsWith fault end → end ≡ status.Done → ⊥
no_fault (rehearse.Refused pointer fault_kind) end (inl ends) is = cc
no_fault (rehearse.Refused pointer fault_kind) end (inr ends) is = cc
no_fault (rehearse.AllRefused faults) end (inl ends) is = cc
no_fault (rehearse.AllRefused faults) end (inr ends) is = cc
no_fault rehearse.NoMemory end ends is = cc
no_fault rehearse.Unwritable end ends is = cc
no_fault rehearse.Unmet end (inl ends) is = cc
no_fault rehearse.Unmet end (inr ends) is = cc

pub done_by : {X : Type 0} (P : Type 0) (ended : Result X RehearseFault) (end : ExitStatus) → EndsWith ended end → end ≡ status.Done
    → OnOk ended P → P
done_by P (Ok x) end ends is so = so
done_by P (Err fault) end ends is so = absurd (no_fault fault end ends is)

-- where it is `Unmet`, an expectation wasn't met
unmet_fault : (fault : RehearseFault) (end : ExitStatus) → FaultEndsWith fault end → end ≡ status.Unmet → fault ≡ rehearse.Unmet
unmet_fault (rehearse.Refused pointer fault_kind) end (inl ends) is = absurd (cc)
unmet_fault (rehearse.Refused pointer fault_kind) end (inr ends) is = absurd (cc)
unmet_fault (rehearse.AllRefused faults) end (inl ends) is = absurd (cc)
unmet_fault (rehearse.AllRefused faults) end (inr ends) is = absurd (cc)
unmet_fault rehearse.NoMemory end ends is = absurd (cc)
unmet_fault rehearse.Unwritable end ends is = absurd (cc)
unmet_fault rehearse.Unmet end ends is = refl

pub unmet_by : {X : Type 0} (P : Type 0) (ended : Result X RehearseFault) (end : ExitStatus) → EndsWith ended end → end ≡ status.Unmet
    → IfErr ended (λ fault. fault ≡ rehearse.Unmet → P) → P
unmet_by P (Ok x) end (inl ends) is so = absurd (cc)
unmet_by P (Ok x) end (inr ends) is so = absurd (cc)
unmet_by P (Err fault) end ends is so = so (unmet_fault fault end ends is)

-- where it is `Rejected`, the value was refused
refused_fault : (fault : RehearseFault) (end : ExitStatus) → FaultEndsWith fault end → end ≡ status.Rejected → status_of fault ≡ 2
refused_fault (rehearse.Refused pointer fault_kind) end ends is = refl
refused_fault (rehearse.AllRefused faults) end ends is = refl
refused_fault rehearse.NoMemory end ends is = absurd (cc)
refused_fault rehearse.Unwritable end ends is = absurd (cc)
refused_fault rehearse.Unmet end (inl ends) is = absurd (cc)
refused_fault rehearse.Unmet end (inr ends) is = absurd (cc)

pub refused_by : {X : Type 0} (changes : Changes) (value : Data) (ended : Result X RehearseFault) (end : ExitStatus) → EndsWith ended end
    → end ≡ status.Rejected → IfErr ended (λ fault. status_of fault ≡ 2 → Refuses changes value fault) → IsRefused changes value
refused_by changes value (Ok x) end (inl ends) is so = absurd (cc)
refused_by changes value (Ok x) end (inr ends) is so = absurd (cc)
refused_by changes value (Err fault) end ends is so =
    let rejects : status_of fault ≡ 2 = refused_fault fault end ends is in
    record { fault = fault; rejects = rejects; refuses = so rejects }

-- and then nothing was written
not_unwritable : (fault : RehearseFault) → status_of fault ≡ 2 → fault ≢ rehearse.Unwritable
not_unwritable (rehearse.Refused pointer fault_kind) two is = cc
not_unwritable (rehearse.AllRefused faults) two is = cc
not_unwritable rehearse.NoMemory two is = cc
not_unwritable rehearse.Unwritable two is = omega arith
not_unwritable rehearse.Unmet two is = cc

not_unmet : (fault : RehearseFault) → status_of fault ≡ 2 → fault ≢ rehearse.Unmet
not_unmet (rehearse.Refused pointer fault_kind) two is = cc
not_unmet (rehearse.AllRefused faults) two is = cc
not_unmet rehearse.NoMemory two is = cc
not_unmet rehearse.Unwritable two is = cc
not_unmet rehearse.Unmet two is = omega arith

pub silent_by : {X : Type 0} (P : Type 0) (ended : Result X RehearseFault) (end : ExitStatus) → EndsWith ended end → end ≡ status.Rejected
    → IfErr ended (λ fault. fault ≢ rehearse.Unwritable → fault ≢ rehearse.Unmet → P) → P
silent_by P (Ok x) end (inl ends) is so = absurd (cc)
silent_by P (Ok x) end (inr ends) is so = absurd (cc)
silent_by P (Err fault) end ends is so =
    let rejects : status_of fault ≡ 2 = refused_fault fault end ends is in
    so (not_unwritable fault rejects) (not_unmet fault rejects)

-- it is `Unwritable` exactly where a write failed
unwritable_run : {X : Type 0} (ended : Result X RehearseFault) (end : ExitStatus) → EndsWith ended end → end ≡ status.Unwritable
    → ended ≡ Err rehearse.Unwritable
unwritable_run (Ok x) end (inl ends) is = absurd (cc)
unwritable_run (Ok x) end (inr ends) is = absurd (cc)
unwritable_run (Err (rehearse.Refused pointer fault_kind)) end (inl ends) is = absurd (cc)
unwritable_run (Err (rehearse.Refused pointer fault_kind)) end (inr ends) is = absurd (cc)
unwritable_run (Err (rehearse.AllRefused faults)) end (inl ends) is = absurd (cc)
unwritable_run (Err (rehearse.AllRefused faults)) end (inr ends) is = absurd (cc)
unwritable_run (Err rehearse.NoMemory) end ends is = absurd (cc)
unwritable_run (Err rehearse.Unwritable) end ends is = refl
unwritable_run (Err rehearse.Unmet) end (inl ends) is = absurd (cc)
unwritable_run (Err rehearse.Unmet) end (inr ends) is = absurd (cc)

unwritable_end : {X : Type 0} (ended : Result X RehearseFault) (end : ExitStatus) → EndsWith ended end → ended ≡ Err rehearse.Unwritable
    → end ≡ status.Unwritable
unwritable_end (Ok x) end ends is = absurd (cc)
unwritable_end (Err (rehearse.Refused pointer fault_kind)) end ends is = absurd (cc)
unwritable_end (Err (rehearse.AllRefused faults)) end ends is = absurd (cc)
unwritable_end (Err rehearse.NoMemory) end ends is = absurd (cc)
unwritable_end (Err rehearse.Unwritable) end ends is = ends
unwritable_end (Err rehearse.Unmet) end ends is = absurd (cc)

pub unwritable_by : {X : Type 0} (P : Type 0) (ended : Result X RehearseFault) (end : ExitStatus) → EndsWith ended end
    → (ended ≡ Err rehearse.Unwritable) ↔ P → (end ≡ status.Unwritable) ↔ P
unwritable_by P ended end ends so = (λ is. so.0 (unwritable_run ended end ends is), λ p. unwritable_end ended end ends (so.1 p))
