-- What was found for a target is what the rule finds.
use Rattle.std.proofs.Common.{◌≡◌, ℕ, Bool, true, false, true≢false, Option, Some, None, List, take, drop, find, is_some, option_copied, refl, sym, ap}
use Rattle.std.proofs.Common.{◌∙◌, if◌then◌else◌}
use Rattle.std.specs.Borrow.{Bor}
use Rattle.std.specs.Option.{option_or}
use Rattle.std.proofs.lemmas.List.{take-append-drop}
use Rattle.std.proofs.lemmas.List.Folds.{find-append}
use Rattle.am_alerts.specs.AlertData.{AlertData}
use Rattle.am_alerts.specs.declared.labels.Label.{Label}
use Rattle.am_mute.specs.Inhibit.{RuleData, inhibits, is_inhibited_by, source_for}
use Rattle.am_mute.specs.Target.{TargetData, IsTargetOf}
use Rattle.am_mute.proofs.Firsts.{is_some-source_for}

none_copied : {X : Type 0} (found : Option (Bor X)) → is_some found ≡ false → option_copied found ≡ None
none_copied None e = refl
none_copied (Some x) e = absurd (true≢false e)

some_first : {X : Type 0} (found : Option (Bor X)) (o : Option X) → is_some found ≡ true → option_or (option_copied found) o ≡ option_copied found
some_first None o e = absurd (true≢false (sym e))
some_first (Some x) o e = refl

module _ {X : Type 0} (test : X → Bool) (n : ℕ) (xs : List X) (found : Option (Bor X)) (first : option_copied found ≡ find test (take n xs)) where
  split : find test xs ≡ option_or (option_copied found) (find test (drop n xs))
  split =
      ap (find test) (sym (take-append-drop n xs))
      ∙ (find-append test (take n xs) (drop n xs) ∙ ap (λ o. option_or o (find test (drop n xs))) (sym first))

  -- where none of the first elements passes, the first that does is among the others
  pub behind_first : is_some found ≡ false → find test (drop n xs) ≡ find test xs
  behind_first none = sym (split ∙ ap (λ o. option_or o (find test (drop n xs))) (none_copied found none))

  -- what was found among the first elements is the first of the list
  pub of_first : is_some found ≡ true → option_copied found ≡ find test xs
  of_first some = sym (split ∙ some_first found (find test (drop n xs)) some)

copied-some : {X : Type 0} (found : Option (Bor X)) → is_some found ≡ is_some (option_copied found)
copied-some None = refl
copied-some (Some x) = refl

module _ (rule : RuleData) (labels : List Label) (t : ℕ) (known : List AlertData) (target : TargetData)
    (is : IsTargetOf rule labels t (Some target)) where
  -- the first source for the target is the rule's
  pub source_is : (found : Option (Bor AlertData)) → option_copied found ≡ find (is_inhibited_by target.rule target.t target.labels) known
      → option_copied found ≡ source_for rule t known labels
  source_is found e =
      e ∙ (ap (λ (x : TargetData). find (is_inhibited_by x.rule x.t x.labels) known) is.1
      ∙ sym (ap (λ b. if b then find (is_inhibited_by rule t labels) known else None) is.0))

  -- it is there exactly where the rule mutes
  pub source_is-some : (found : Option (Bor AlertData))
      → option_copied found ≡ find (is_inhibited_by target.rule target.t target.labels) known → is_some found ≡ inhibits rule t known labels
  source_is-some found e = copied-some found ∙ (ap is_some (source_is found e) ∙ is_some-source_for rule t known labels)
