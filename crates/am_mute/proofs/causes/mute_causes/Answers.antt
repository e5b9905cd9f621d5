use Rattle.std.proofs.Common.{[], ◌∷◌, ◌++◌, List, Option, sym, ap, ◌∙◌, arith, option_copied, take}
use Rattle.std.specs.List.{slice_get}
use Rattle.am_alerts.specs.AlertData.{AlertData}
use Rattle.am_alerts.specs.declared.labels.Label.{Label}
use Rattle.am_mute.specs.Causes.{inhibition_by, mute_causes_of}
use Rattle.am_mute.specs.declared.mute.MuteCause.{MuteCause}
use Rattle.am_mute.specs.declared.mute.MuteCause.TheVariants.{Inhibited}
use Rattle.am_mute.proofs.CauseLists.{causes_all, causes_more, causes_same, first_cause}
use Rattle.am_mute.proofs.causes.mute_causes.Goals as goal
use Rattle.am_mute.proofs.causes.mute_causes.Goals.{in-Some+in_ok-by+in_ok-push, in_default}

pub loop-rule-preserved : goal.loop-rule-preserved
loop-rule-preserved c =
    let labels = c.args.labels.now in
    let known = c.args.known.now in
    let i = c.loop-rule.rule in
    elim c.match-source.branch [
      | in-Some+in_ok-by+in_ok-push w ↦
          ap (λ causes. causes.items) w.causes-is ∙ w.in_ok-push.ensures.items
          ∙ (ap (λ (causes : List MuteCause). causes ++ Inhibited i w.in_ok-by.by ∷ []) c.loop-rule.invariant
          ∙ (ap (λ (ls : List Label). mute_causes_of labels c.args.t c.args.silences.now (take i c.args.rules.now) known ++ Inhibited i ls ∷ [])
          (w.in_ok-by.ensures ∙ w.labels.ensures.labels)
          ∙ (ap (λ (o : Option AlertData). mute_causes_of labels c.args.t c.args.silences.now (take i c.args.rules.now) known ++ inhibition_by i o)
          (sym (sym c.in_ok-source.ensures.value ∙ ap option_copied w.in-Some.is))
          ∙ sym (causes_more labels c.args.t known c.args.silences.now c.args.rules.now i c.index-rules-rule.result (omega arith) c.index-rules-rule.is))))
      | in_default w ↦
          ap (λ causes. causes.items) w.causes-is ∙ c.loop-rule.invariant
          ∙ sym (causes_same labels c.args.t known c.args.silences.now c.args.rules.now i c.index-rules-rule.result (omega arith) c.index-rules-rule.is
          (sym c.in_ok-source.ensures.value ∙ ap option_copied w.in_default.is))
    ]

pub returns-clause-first : goal.returns-clause-first
returns-clause-first c =
    ap (λ (causes : List MuteCause). slice_get causes 0) (c.loop-rule.invariant
    ∙ causes_all c.args.labels.now c.args.t c.args.known.now c.args.silences.now c.args.rules.now c.loop-rule.rule (omega (arith, c.loop-rule-test.false)))
    ∙ first_cause c.args.labels.now c.args.t c.args.known.now c.args.silences.now c.args.rules.now
