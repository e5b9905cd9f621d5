-- What was learnt of the known alerts stays true: a call puts an alert in the place of one with its labels alone, or adds it.
use Rattle.std.proofs.Common.{◌≡◌, ℕ, zero, suc, ◌<◌, ◌≤◌, true, false, List, [], ◌∷◌, length, refl, sym, ap, ◌∙◌, subst, arith, if◌then◌else◌}
use Rattle.am_alerts.specs.AlertData.{AlertData}
use Rattle.am_alerts.specs.LabelOrder.{same_label_set-decides}
use Rattle.am_mute.specs.Inhibit.{RuleData}
use Rattle.am_mute.specs.SourceIndex.{SourceIndex}
use Rattle.am_mute.specs.Sources.{AreLearnt, HasKeys, HasSources, IsAt}
use Rattle.am_model.specs.declared.config.Config.{Config}
use Rattle.am_model.specs.declared.record.Call.{Call}
use Rattle.am_model.specs.declared.record.Call.TheVariants.{Insert, Silence, Begin, Finish, Maintain, RemoveEmptyGroups, Forget, Load, Note}
use Rattle.am_model.specs.Insert.{same_alert}
use Rattle.am_model.specs.Lists.{upsert}
use Rattle.am_model.specs.Replay.{after_call}
use Rattle.am_model.specs.State.{State}
use Rattle.am_model.proofs.legal.FewKnown.{IsForget, known_others}

module _ (alert : AlertData) where
  abbrev pub put : List AlertData → List AlertData
  put known = upsert same_alert alert known

  pub no_fewer : (known : List AlertData) → length known ≤ length (put known)
  no_fewer [] = omega arith
  no_fewer (y ∷ ys) =
      elim (same_alert alert y) as (λ b. length (y ∷ ys) ≤ length (if b then alert ∷ ys else y ∷ put ys)) [
        | true ↦ omega arith
        | false ↦ omega (arith, no_fewer ys)
      ]

  -- an alert of these labels was there before
  abbrev pub WasAt : List AlertData → ℕ → AlertData → Type 0
  WasAt known i a = (b : AlertData) × IsAt known i b × (b.labels ≡ a.labels)

  behind : (y : AlertData) (ys : List AlertData) (i : ℕ) (a : AlertData) → WasAt ys i a → WasAt (y ∷ ys) (suc i) a
  behind y ys i a was = (was.0, (omega (arith, was.1.0), was.1.1), was.2)

  pub was_at : (known : List AlertData) (i : ℕ) (a : AlertData) → IsAt (put known) i a → i < length known → WasAt known i a
  was_at [] i a at less = absurd (omega (arith, less))
  was_at (y ∷ ys) zero a at less =
      elim (same_alert alert y) as (λ b. same_alert alert y ≡ b → IsAt (if b then alert ∷ ys else y ∷ put ys) 0 a → WasAt (y ∷ ys) 0 a) [
        | true ↦ λ e is. (y, (omega arith, refl), sym ((same_label_set-decides alert.labels y.labels).0 e) ∙ sym (ap (λ (x : AlertData). x.labels) is.1))
        | false ↦ λ e is. (y, (omega arith, refl), sym (ap (λ (x : AlertData). x.labels) is.1))
      ] refl at
  was_at (y ∷ ys) (suc i) a at less =
      elim (same_alert alert y) as (λ b. IsAt (if b then alert ∷ ys else y ∷ put ys) (suc i) a → WasAt (y ∷ ys) (suc i) a) [
        | true ↦ λ is. behind y ys i a (a, (omega (arith, less), is.1), refl)
        | false ↦ λ is. behind y ys i a (was_at ys i a (omega (arith, is.0), is.1) (omega (arith, less)))
      ] at

  learnt_put : (rules : List RuleData) (known : List AlertData) (index : SourceIndex) → AreLearnt rules known index → AreLearnt rules (put known) index
  learnt_put rules known index learnt =
      record {
        learnt = omega (arith, learnt.learnt, no_fewer known);
        sources = sources;
      }
    where
      sources : (number : ℕ) (rule : RuleData) → IsAt rules number rule → HasSources number rule (put known) index
      sources number rule at i a is less =
          let was = was_at known i a is (omega (arith, less, learnt.learnt)) in
          subst (λ labels. HasKeys number rule i labels index) was.2 (learnt.sources number rule at i was.0 was.1 less)

module _ (config : Config) (s : State) where
  -- what was learnt is of the known alerts after a call too, unless it forgets some
  pub learnt_after : (call : Call) (index : SourceIndex) → IsForget call ≡ false → AreLearnt config.rules s.known index → AreLearnt config.rules (after_call config s call).known index
  learnt_after (Insert now alert) index e learnt = learnt_put alert config.rules s.known index learnt
  learnt_after (Silence now number matchers start end) index e learnt = learnt
  learnt_after (Begin now) index e learnt = subst (λ known. AreLearnt config.rules known index) (sym (known_others config s (Begin now) refl refl refl).0) learnt
  learnt_after (Finish now number outcomes) index e learnt = subst (λ known. AreLearnt config.rules known index) (sym (known_others config s (Finish now number outcomes) refl refl refl).0) learnt
  learnt_after (Maintain now) index e learnt = learnt
  learnt_after (RemoveEmptyGroups now) index e learnt = learnt
  learnt_after (Forget now) index e learnt = absurd (cc)
  learnt_after (Load now row) index e learnt = learnt
  learnt_after (Note now number integration outcome) index e learnt = subst (λ known. AreLearnt config.rules known index) (sym (known_others config s (Note now number integration outcome) refl refl refl).0) learnt
