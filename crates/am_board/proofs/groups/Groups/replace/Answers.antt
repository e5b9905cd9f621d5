use Rattle.std.proofs.Common.{refl, sym, ap, ◌∙◌, map, arith}
use Rattle.std.specs.Map.{values_of}
use Rattle.indexmap.specs.IndexMap.{spare}
use Rattle.am_board.proofs.lemmas.insert.GroupSpace.{changes_at}
use Rattle.am_board.proofs.lemmas.invariant.DueKeys.{had_at, tied_change}
use Rattle.am_board.proofs.lemmas.invariant.GroupNames.{labels_set}
use Rattle.am_board.proofs.lemmas.invariant.Keyed.{value_at, values-set}
use Rattle.am_board.specs.Group.{Gets, label_sets}
use Rattle.am_board.specs.GroupList.{GroupList}
use Rattle.am_board.specs.Inserting.{stamped_alert}
use Rattle.am_board.proofs.lemmas.maintain.Empties.{bare-labels, counted_same}
use Rattle.am_board.proofs.groups.Groups.replace.Goals as goal

pub invariant_of-self : goal.invariant_of-self
invariant_of-self c =
    let es = c.self.inside.groups.entries in
    let i = c.args.spot.group in
    let was = c.index_mut-group.result.now in
    let group = c.replace.new.self in (
      tied_change c.self.inside.due c.change.new.self es i was group group.name group.due c.self.invariant.0 c.index_mut-group.ensures.value
          c.replace.ensures.name c.replace.ensures.name refl
          (λ closed. c.change.ensures.has (had_at c.self.inside.due es i was group.name c.self.invariant.0 c.index_mut-group.ensures.value c.replace.ensures.name (sym c.replace.ensures.opened ∙ closed))) c.change.ensures.keeps,
      counted_same c.self.inside.empty c.self.inside.groups.entries c.args.spot.group c.index_mut-group.result.now c.replace.new.self c.self.invariant.1 c.index_mut-group.ensures.value (bare-labels c.replace.new.self c.index_mut-group.result.now c.replace.ensures.labels),
    )

pub returns-clause-group : goal.returns-clause-group
returns-clause-group c =
    changes_at c.self.inside.groups.entries (spare c.self.inside.groups) c.args.self.now c.self.view_is c.args.spot.group c.index_mut-group.result.now c.index_mut-group.ensures.value
    (Gets (stamped_alert c.args.alert c.args.stamp) c.args.wait c.args.t) c.replace.new.self c.replace.ensures.name
    (record { is_open = c.replace.ensures.opened; space = omega (arith, c.replace.ensures.space); state = c.replace.ensures.state })

pub returns-clause-labels : goal.returns-clause-labels
returns-clause-labels c =
    let es = c.self.inside.groups.entries in
    let i = c.args.spot.group in
    let was = c.index_mut-group.result.now in
    ap (map label_sets) (values-set es i c.replace.new.self)
    ∙ labels_set (values_of es) i c.replace.new.self was (c.replace.ensures.labels ∙ ap label_sets (value_at (values_of es) i was c.index_mut-group.ensures.value).0)
    ∙ ap (λ (k : GroupList). map label_sets k.items) c.self.view_is
