-- What mutes a label set, and what mutes one that no silence mutes: the rules alone.
use Rattle.std.proofs.Common.{◌≡◌, ℕ, Bool, true, false, cond, ◌||◌, Option, Some, None, List, [], ◌∷◌, length, refl, sym, ap, ◌∙◌, arith}
use Rattle.std.specs.Prelude.{find, is_some}
use Rattle.std.specs.List.{list_any}
use Rattle.std.specs.Option.{option_map, option_or}
use Rattle.am_alerts.specs.AlertData.{AlertData}
use Rattle.am_alerts.specs.declared.labels.Label.{Label}
use Rattle.am_mute.specs.Inhibit.{RuleData, is_inhibited}
use Rattle.am_mute.proofs.Firsts.{is_some-find, is_some-inhibition_from}
use Rattle.am_mute.specs.Mute.{inhibition_from, is_muted, mute_cause_of, silence_for}
use Rattle.am_mute.specs.Silence.{SilenceData, is_silenced, silence_mutes}
use Rattle.am_mute.specs.declared.mute.MuteCause.TheVariants.{Silenced}

either-some : {X Y : Type 0} (f : X → Y) (o : Option X) (p : Option Y) → is_some (option_or (option_map f o) p) ≡ is_some o || is_some p
either-some f (Some x) p = refl
either-some f None p = refl

-- something mutes a label set exactly where it is muted
pub is_some-cause : (labels : List Label) (t : ℕ) (silences : List SilenceData) (rules : List RuleData) (known : List AlertData)
    → is_some (mute_cause_of labels t silences rules known) ≡ is_muted labels t silences rules known
is_some-cause labels t silences rules known =
    either-some (λ (s : SilenceData). Silenced s.id s.end) (silence_for labels t silences) (inhibition_from 0 labels t known rules)
    ∙ ap (λ b. b || is_some (inhibition_from 0 labels t known rules)) (is_some-find (λ (s : SilenceData). silence_mutes s t labels) silences)
    ∙ ap (λ b. is_silenced labels t silences || b) (is_some-inhibition_from 0 labels t known rules)

find-nothing : {X : Type 0} (test : X → Bool) (xs : List X) → list_any test xs ≡ false → find test xs ≡ None
find-nothing test [] none = refl
find-nothing test (x ∷ xs) none = by (test x) none (find-nothing test xs)
  where
    by : (b : Bool) → (b || list_any test xs) ≡ false → (list_any test xs ≡ false → find test xs ≡ None) → cond b (Some x) (find test xs) ≡ None
    by true e rest = absurd (cc)
    by false e rest = rest e

module _ (labels : List Label) (t : ℕ) (silences : List SilenceData) (rules : List RuleData) (known : List AlertData) (unsilenced : is_silenced labels t silences ≡ false) where
  pub unsilenced_cause : mute_cause_of labels t [] rules known ≡ mute_cause_of labels t silences rules known
  unsilenced_cause =
      sym (ap (λ (o : Option SilenceData). option_or (option_map (λ s. Silenced s.id s.end) o) (inhibition_from 0 labels t known rules))
      (find-nothing (λ s. silence_mutes s t labels) silences unsilenced))

  pub unsilenced_muted : is_muted labels t [] rules known ≡ is_muted labels t silences rules known
  unsilenced_muted = sym (ap (λ b. b || is_inhibited labels t rules known) unsilenced)

-- no silence mutes a label set where there is none
pub none-silence : (labels : List Label) (t : ℕ) (silences : List SilenceData) → length silences ≡ 0 → is_silenced labels t silences ≡ false
none-silence labels t [] none = refl
none-silence labels t (s ∷ silences) none = absurd (omega (arith, none))
