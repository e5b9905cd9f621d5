use Rattle.std.proofs.Common.{◌+◌, ◌<◌, ◌∷◌, length, drop, sym, ap, ◌∙◌, arith}
use Rattle.std.proofs.lemmas.List.{drop_more}
use Rattle.am_alerts.specs.declared.labels.Label.{Label}
use Rattle.am_alerts.specs.Labels.{label_in}
use Rattle.am_alerts.proofs.packed_labels.PairsIterator.next.Goals as goal

pub returns-clause-steps : goal.returns-clause-steps
returns-clause-steps c =
    let labels = c.self.inside.labels.now in
    let here : Label = label_in c.pair-pair.result in
    let within : c.self.inside.next < length labels = omega (arith, c.if-self-len.false, c.len.ensures) in
    sym c.self.view_is ∙ drop_more labels c.self.inside.next here within
    ∙ ap (λ l. l ∷ drop (c.self.inside.next + 1) labels) (sym (c.pair-pair.ensures here))
