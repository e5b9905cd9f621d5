use Rattle.std.proofs.Common.{◌≡◌, ◌∙◌, ℕ, ◌<◌, true, List, length, map, get_or, sym, ap, subst, arith}
use Rattle.std.specs.List.{IsDistinct}
use Rattle.std.specs.Map.{values_of}
use Rattle.am_alerts.specs.Labels.{same_label_set}
use Rattle.am_alerts.specs.LabelOrder.{same_label_set_equiv}
use Rattle.am_alerts.specs.declared.labels.Label.{Label}
use Rattle.am_board.specs.Members.{MemberList, labels_of}
use Rattle.am_board.specs.declared.group.Member.{Member}
use Rattle.am_board.proofs.lemmas.invariant.Alone.{found_value}
use Rattle.am_board.proofs.lemmas.invariant.Keyed.{length-values}
use Rattle.am_board.proofs.lemmas.invariant.Members.{labels_keyed}
use Rattle.am_board.proofs.members.Members.is_at.Goals as goal

pub returns : goal.returns
returns c is =
    let labels : List Label = c.args.labels.now in
    let j : ℕ = c.args.j in
    let items : List Member = c.args.self.now.items in
    let m : Member = c.index-as_slice-j.result in
    let es = c.self.inside.members.entries in
    let seen : values_of es ≡ items = ap (λ (k : MemberList). k.items) c.self.view_is in
    let keys = ap (map labels_of) (sym seen) ∙ labels_keyed es c.self.invariant.members.keyed in
    let apart : IsDistinct same_label_set (map labels_of items) = subst (IsDistinct same_label_set) (sym keys) c.len.ensures.unique in
    let within : j < length items = omega (arith, c.if-j-len.false, c.len.ensures.len, length-values es, ap (λ (xs : List Member). length xs) seen) in
    let there : m ≡ get_or items j m = c.index-as_slice-j.is ∙ ap (λ (xs : List Member). get_or xs j m) c.as_slice.ensures.value in
    let named : labels_of m ≡ c.labels.result.now = ap labels_of c.index-as_slice-j.is ∙ sym c.labels.ensures.labels in
    let passes : same_label_set labels (labels_of m) ≡ true = ap (same_label_set labels) named ∙ sym c.eq.ensures ∙ is in
    found_value same_label_set same_label_set_equiv labels_of labels items j m apart within there passes
