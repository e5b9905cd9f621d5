use Rattle.std.proofs.Common.{◌≡◌, ◌∙◌, Bor, List, Option, sym, subst}
use Rattle.std.specs.Prelude.{IfSome}
use Rattle.am_board.specs.Group.{AreRouted}
use Rattle.am_board.proofs.lemmas.insert.Again.{names_routed}
use Rattle.am_model.specs.Insert.{names_for}
use Rattle.am_model.specs.declared.config.Config.{Config}
use Rattle.am_model.specs.declared.group.GroupName.{GroupName}
use Rattle.am_board.proofs.insert.find_placements.Goals as goal

pub find_named-requires : goal.find_named-requires
find_named-requires c =
    let config : Config = c.args.config.now in
    let kept = subst (λ (o : Option (Bor (List GroupName))). IfSome o (λ names. names.now ≡ names_for config c.args.alert.now.labels)) c.in-Some.is c.requires.kept in
    subst (AreRouted config.routes) (sym (c.as_slice.ensures ∙ kept)) (names_routed config c.args.alert.now.labels)
