use Rattle.std.proofs.Common.{◌≡◌, ℕ, List, Option, ap, ◌∙◌, arith, vec_len}
use Rattle.std.specs.List.{position}
use Rattle.am_alerts.specs.AlertData.{AlertData}
use Rattle.am_alerts.specs.Labels.{same_label_set}
use Rattle.am_alerts.specs.declared.labels.Label.{Label}
use Rattle.am_board.specs.Refinement.{state_of}
use Rattle.am_board.proofs.lemmas.insert.Inserting.{answer_names, names_many, names_few, names_known, none_negated}
use Rattle.am_board.proofs.insert.find_index.Goals as goal
use Rattle.am_board.proofs.insert.find_index.Goals.{else-is_none-via-then-is_none+else-len-config, else-is_none-via-else-is_none}
use Rattle.am_board.proofs.lemmas.invariant.Staying.{has_space}

abbrev found : List Label → List AlertData → Option ℕ
found labels alerts = position (λ a. same_label_set labels a.labels) alerts

-- the index is that of the alert's own labels
of_labels : (labels given : List Label) (known : List AlertData) (index : Option ℕ) → given ≡ labels → index ≡ found given known → index ≡ found labels known
of_labels labels given known index e is = is ∙ ap (λ l. found l known) e

pub returns-then-len-config : goal.returns-then-len-config
returns-then-len-config c =
    let index = of_labels c.args.alert.now.labels c.labels.result.now c.args.state.now.known.items _ c.labels.ensures.labels c.find-index.ensures.index in
    record {
      index = tt;
      within = tt;
      space = tt;
      names = tt;
      refused = answer_names c.args.config.now (vec_len c.args.state.now.history) (state_of c.args.state.now) c.args.alert.now
          (has_space c.args.config.now c.args.state.now (c.has_space.ensures.0 c.if-not-has_space.false))
          (names_many c.args.config.now (state_of c.args.state.now) c.args.alert.now c.find-index.result index (none_negated c.find-index.result c.is_none.result c.is_none.ensures ∙ c.if-is_none.true) (omega arith));
    }

pub returns-clause-index : goal.returns-clause-index
returns-clause-index c =
    of_labels c.args.alert.now.labels c.labels.result.now c.args.state.now.known.items _ c.labels.ensures.labels c.find-index.ensures.index

pub returns-clause-space : goal.returns-clause-space
returns-clause-space c = has_space c.args.config.now c.args.state.now (c.has_space.ensures.0 c.if-not-has_space.false)

pub returns-clause-names : goal.returns-clause-names
returns-clause-names c =
    let index = of_labels c.args.alert.now.labels c.labels.result.now c.args.state.now.known.items _ c.labels.ensures.labels c.find-index.ensures.index in
    elim c.else-is_none.branch [
      | else-is_none-via-then-is_none+else-len-config w ↦ names_few c.args.config.now (state_of c.args.state.now) c.args.alert.now (omega arith)
      | else-is_none-via-else-is_none w ↦ names_known c.args.config.now (state_of c.args.state.now) c.args.alert.now c.find-index.result index (none_negated c.find-index.result c.is_none.result c.is_none.ensures ∙ w.if-is_none.false)
    ]
