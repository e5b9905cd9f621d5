-- Lists of causes, as loops make them.
use Rattle.std.proofs.Common.{◌≡◌, ℕ, ◌+◌, ◌<◌, ◌≤◌, Bool, true, false, cond, List, [], ◌∷◌, ◌++◌, length, get_or, map, filter, find}
use Rattle.std.proofs.Common.{take, Some, None, Option, option_map, sym, ap, ◌∙◌, refl, arith}
use Rattle.std.specs.List.{slice_get}
use Rattle.std.specs.Option.{option_or}
use Rattle.std.proofs.lemmas.List.{append_assoc, append-nil, length-take-le, take_all, take_more}
use Rattle.am_alerts.specs.AlertData.{AlertData}
use Rattle.am_alerts.specs.declared.labels.Label.{Label}
use Rattle.am_mute.specs.Causes.{inhibition_by, inhibitions_from, mute_causes_of, silence_causes}
use Rattle.am_mute.specs.Inhibit.{RuleData, source_for}
use Rattle.am_mute.specs.Mute.{inhibition_from, mute_cause_of}
use Rattle.am_mute.specs.Silence.{SilenceData, silence_mutes}
use Rattle.am_mute.specs.declared.mute.MuteCause.TheVariants.{Inhibited, Silenced}

module _ (labels : List Label) (t : ℕ) (known : List AlertData) where
  -- ---- rules

  -- rules behind others are numbered on
  inhibitions-append : (n : ℕ) (xs ys : List RuleData) → inhibitions_from n labels t known (xs ++ ys)
      ≡ inhibitions_from n labels t known xs ++ inhibitions_from (n + length xs) labels t known ys
  inhibitions-append n [] ys = ap (λ m. inhibitions_from m labels t known ys) (omega arith)
  inhibitions-append n (r ∷ rules) ys =
      ap (λ rest. inhibition_by n (source_for r t known labels) ++ rest) (inhibitions-append (n + 1) rules ys
      ∙ ap (λ m. inhibitions_from (n + 1) labels t known rules ++ inhibitions_from m labels t known ys) (omega arith))
      ∙ sym (append_assoc (inhibition_by n (source_for r t known labels)) (inhibitions_from (n + 1) labels t known rules)
      (inhibitions_from (n + length (r ∷ rules)) labels t known ys))

  -- one rule more
  pub inhibited_more : (rules : List RuleData) (i : ℕ) (r : RuleData) → i < length rules → r ≡ get_or rules i r
      → inhibitions_from 0 labels t known (take (i + 1) rules)
      ≡ inhibitions_from 0 labels t known (take i rules) ++ inhibition_by i (source_for r t known labels)
  inhibited_more rules i r within here =
      let counted : 0 + length (take i rules) ≡ i = omega (arith, length-take-le i rules) in
      ap (inhibitions_from 0 labels t known) (take_more rules i r within ∙ ap (λ y. take i rules ++ (y ∷ [])) (sym here))
      ∙ (inhibitions-append 0 (take i rules) (r ∷ [])
      ∙ ap (λ rest. inhibitions_from 0 labels t known (take i rules) ++ rest)
      (append-nil (inhibition_by (0 + length (take i rules)) (source_for r t known labels))
      ∙ ap (λ m. inhibition_by m (source_for r t known labels)) counted))

  -- ---- silences and rules

  -- the causes after one rule more
  pub causes_more : (silences : List SilenceData) (rules : List RuleData) (i : ℕ) (r : RuleData) → i < length rules
      → r ≡ get_or rules i r
      → mute_causes_of labels t silences (take (i + 1) rules) known
      ≡ mute_causes_of labels t silences (take i rules) known ++ inhibition_by i (source_for r t known labels)
  causes_more silences rules i r within here =
      ap (λ rest. silence_causes labels t silences ++ rest) (inhibited_more rules i r within here)
      ∙ sym (append_assoc (silence_causes labels t silences) (inhibitions_from 0 labels t known (take i rules))
      (inhibition_by i (source_for r t known labels)))

  -- the causes after a rule that doesn't mute
  pub causes_same : (silences : List SilenceData) (rules : List RuleData) (i : ℕ) (r : RuleData) → i < length rules
      → r ≡ get_or rules i r → source_for r t known labels ≡ None
      → mute_causes_of labels t silences (take (i + 1) rules) known ≡ mute_causes_of labels t silences (take i rules) known
  causes_same silences rules i r within here none =
      causes_more silences rules i r within here
      ∙ (ap (λ o. mute_causes_of labels t silences (take i rules) known ++ inhibition_by i o) none
      ∙ append-nil (mute_causes_of labels t silences (take i rules) known))

  -- all rules were asked
  pub causes_all : (silences : List SilenceData) (rules : List RuleData) (i : ℕ) → length rules ≤ i
      → mute_causes_of labels t silences (take i rules) known ≡ mute_causes_of labels t silences rules known
  causes_all silences rules i past = ap (λ rs. mute_causes_of labels t silences rs known) (take_all i rules past)

  -- ---- the first

  first_of_both : {X : Type 0} (xs ys : List X) → slice_get (xs ++ ys) 0 ≡ option_or (slice_get xs 0) (slice_get ys 0)
  first_of_both [] ys = refl
  first_of_both (x ∷ xs) ys = refl

  first_kept : {X Y : Type 0} (f : X → Y) (p : X → Bool) (xs : List X)
      → slice_get (map f (filter p xs)) 0 ≡ option_map f (find p xs)
  first_kept f p [] = refl
  first_kept f p (x ∷ xs) =
      elim (p x) as (λ b. slice_get (map f (cond b (x ∷ filter p xs) (filter p xs))) 0 ≡ option_map f (cond b (Some x) (find p xs))) [
        | true ↦ refl
        | false ↦ first_kept f p xs
      ]

  first_by : (n : ℕ) (o : Option AlertData) → slice_get (inhibition_by n o) 0 ≡ option_map (λ (a : AlertData). Inhibited n a.labels) o
  first_by n None = refl
  first_by n (Some a) = refl

  first_inhibition : (n : ℕ) (rules : List RuleData)
      → slice_get (inhibitions_from n labels t known rules) 0 ≡ inhibition_from n labels t known rules
  first_inhibition n [] = refl
  first_inhibition n (r ∷ rules) =
      first_of_both (inhibition_by n (source_for r t known labels)) (inhibitions_from (n + 1) labels t known rules)
      ∙ (ap (λ o. option_or o (slice_get (inhibitions_from (n + 1) labels t known rules) 0))
      (first_by n (source_for r t known labels))
      ∙ ap (option_or (option_map (λ (a : AlertData). Inhibited n a.labels) (source_for r t known labels)))
      (first_inhibition (n + 1) rules))

  -- the first of all causes is the cause
  pub first_cause : (silences : List SilenceData) (rules : List RuleData)
      → slice_get (mute_causes_of labels t silences rules known) 0 ≡ mute_cause_of labels t silences rules known
  first_cause silences rules =
      first_of_both (silence_causes labels t silences) (inhibitions_from 0 labels t known rules)
      ∙ (ap (λ o. option_or o (slice_get (inhibitions_from 0 labels t known rules) 0))
      (first_kept (λ (x : SilenceData). Silenced x.id x.end) (λ (x : SilenceData). silence_mutes x t labels) silences)
      ∙ ap (option_or (option_map (λ (s : SilenceData). Silenced s.id s.end) (find (λ (x : SilenceData). silence_mutes x t labels) silences)))
      (first_inhibition 0 rules))
