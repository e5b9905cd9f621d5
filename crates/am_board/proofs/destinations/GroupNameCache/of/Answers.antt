use Rattle.std.proofs.Common.{◌≡◌, ◌<◌, ◌∙◌, ℕ, Option, Some, None, List, length, get_or, sym, subst}
use Rattle.std.specs.Borrow.{Bor}
use Rattle.std.specs.Prelude.{IfSome, option_copied}
use Rattle.std.specs.List.{position}
use Rattle.am_alerts.specs.AlertData.{AlertData}
use Rattle.am_alerts.specs.Labels.{same_label_set}
use Rattle.am_alerts.specs.declared.labels.Label.{Label}
use Rattle.am_model.specs.Insert.{names_for}
use Rattle.am_model.specs.declared.config.Config.{Config}
use Rattle.am_model.specs.declared.group.GroupName.{GroupName}
use Rattle.am_board.specs.GroupNameCache.{AreKept}
use Rattle.am_board.proofs.lemmas.invariant.GroupNameCache.{kept_of}
use Rattle.am_board.proofs.destinations.GroupNameCache.of.Goals as goal

module _ (config : Config) (known : List AlertData) (labels : List Label) (kept : List (Option (List GroupName))) (i : ℕ) where
  -- what is lent of the entry at an index
  lent : (r : Option (Bor (List GroupName))) (entry : Option (List GroupName)) → AreKept config known kept → Some i ≡ position (λ a. same_label_set labels a.labels) known → i < length kept → entry ≡ get_or kept i entry → option_copied r ≡ entry → IfSome r (λ names. names.now ≡ names_for config labels)
  lent None entry are at within is copied = tt
  lent (Some names) entry are at within is copied =
      kept_of config known kept labels i names.now are at (within, subst (λ (o : Option (List GroupName)). o ≡ get_or kept i o) (sym copied) is)

pub returns : goal.returns
returns c config known labels are at =
    let kept : List (Option (List GroupName)) = c.args.self.now in
    let same = c.as_slice.ensures.value ∙ c.self.view_is in
    let entry : Option (List GroupName) = c.in_ok-names.names.now in
    let held = subst (λ (names : List (Option (List GroupName))). entry ≡ get_or names c.in_ok-index.field-0 entry) same c.in_ok-names.ensures.lookup.1 in
    let within = subst (λ (names : List (Option (List GroupName))). c.in_ok-index.field-0 < length names) same c.in_ok-names.ensures.lookup.3.0 in
    lent config known labels kept c.in_ok-index.field-0 c.as_ref.result entry are (sym c.in_ok-index.was ∙ at) within held c.as_ref.ensures.value
