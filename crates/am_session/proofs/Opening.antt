-- A board that isn't opened, since memory lacks for the names of its routes.
use Rattle.std.proofs.Common.{◌≡◌, Result, Ok, Err, inl, refl}
use Rattle.std.specs.Prelude.{IfErr, IsErrAnd}
use Rattle.am_model.specs.declared.config.Config.{Config}
use Rattle.am_protocol.specs.declared.fault.LineFault.{LineFault}
use Rattle.am_protocol.specs.declared.fault.LineFault.TheVariants.{NoMemory}
use Rattle.am_protocol.specs.declared.opening.Opening.{Opening}
use Rattle.am_protocol.specs.declared.request.Request.TheVariants.{Open}
use Rattle.am_session.specs.Refusal.{IsCauseOfUnopened}
use Rattle.am_session.specs.Session.{Leaves}
use Rattle.am_session.specs.declared.session.Session.{Session}
use Rattle.am_session.proofs.Leaving.{memory_leaves}

-- it is the cause
pub lacking : {T : Type 0} (r : Result T LineFault) (config : Config) → IsErrAnd r (λ f. f ≡ NoMemory) → IfErr r (IsCauseOfUnopened config)
lacking (Ok made) config is = tt
lacking (Err f) config is = inl is

-- and all stays as it was
pub lacking_leaves : {T : Type 0} (r : Result T LineFault) (old : Session) (x : Opening) → IsErrAnd r (λ f. f ≡ NoMemory)
    → IfErr r (Leaves old (Open x) old)
lacking_leaves (Ok made) old x is = tt
lacking_leaves (Err f) old x is = memory_leaves f old old (Open x) is (inl is) (refl, refl)
