use Rattle.std.proofs.Common.{◌≡◌, ◌∙◌, ◌<◌, List, length, sym, ap, subst, arith}
use Rattle.std.specs.List.{IsDistinct}
use Rattle.std.specs.Map.{values_of}
use Rattle.am_model.specs.State.{same_name}
use Rattle.am_board.specs.Group.{names_of}
use Rattle.am_board.specs.GroupList.{GroupList}
use Rattle.am_board.specs.declared.group.Group.{Group}
use Rattle.am_board.proofs.lemmas.insert.Spots.{is_spot}
use Rattle.am_board.proofs.lemmas.invariant.DueKeys.{names-keys}
use Rattle.am_board.proofs.lemmas.invariant.Keyed.{length-values}
use Rattle.am_board.proofs.groups.Groups.is_at.Goals as goal

pub returns-then-eq : goal.returns-then-eq
returns-then-eq c same =
    let items : List Group = c.args.self.now.items in
    let es = c.self.inside.groups.entries in
    let seen : values_of es ≡ items = ap (λ (k : GroupList). k.items) c.self.view_is in
    let names = ap names_of (sym seen) ∙ names-keys es c.self.invariant.0.keyed in
    let apart : IsDistinct same_name (names_of items) = subst (IsDistinct same_name) (sym names) c.self.invariant.0.distinct in
    let within : c.args.spot.group < length items = omega (arith, c.if-spot-len.false, c.len.ensures.len, length-values es, ap (λ (xs : List Group). length xs) seen) in
    is_spot items c.args.name.now c.args.labels.now c.args.spot c.at-group.result.now apart within c.at-group.ensures (sym c.eq.ensures ∙ c.if-eq.true) (c.is_at.ensures same)
