-- What is made unless there is a fault.
use Rattle.std.proofs.Common.{◌≡◌, Option, Some, None, Ok, Err, refl}
use Rattle.std.specs.Prelude.{IfSome}
use Rattle.am_alerts.specs.Fault.{ok_unless}

-- what was made is the value
pub made_is : {F T : Type 0} (fault : Option F) (value made : T) → Ok made ≡ ok_unless fault value → made ≡ value
made_is None value made is = cc
made_is (Some f) value made is = absurd (cc)

-- what was made has no fault
pub made_well : {F T : Type 0} (fault : Option F) (value made : T) → Ok made ≡ ok_unless fault value → fault ≡ None
made_well None value made is = refl
made_well (Some f) value made is = absurd (cc)

-- what has no fault is made
pub unmade : {F T : Type 0} (fault : Option F) (value : T) (f : F) → Err f ≡ ok_unless fault value → fault ≡ None → ⊥
unmade None value f is none = absurd (cc)
unmade (Some g) value f is none = absurd (cc)

-- what is made where a fault would refuse it
pub no_fault : {F T : Type 0} (fault : Option F) (made : T) → IfSome fault (λ f. Ok made ≡ Err f) → fault ≡ None
no_fault None made refused = refl
no_fault (Some f) made refused = absurd (cc)
