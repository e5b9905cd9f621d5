use Rattle.std.proofs.Common.{◌≡◌, ◌∙◌, sym, subst, true}
use Rattle.am_model.specs.State.{same_name}
use Rattle.am_model.proofs.states.Alike.{same_name_equiv, same_name-is}
use Rattle.am_terms.proofs.like.is_same_group.Goals as goal

pub returns : goal.returns
returns c = (
  λ h. same_name-is _ _ (sym c.eq.ensures ∙ h),
  λ e. c.eq.ensures ∙ subst (λ n. same_name c.args.one.now n ≡ true) e (same_name_equiv.refl c.args.one.now),
)
