use Rattle.std.proofs.Common.{◌≡◌, ◌∙◌, sym, ap, subst}
use Rattle.std.specs.Prelude.{IfOk}
use Rattle.am_board.specs.declared.group.Group.{Group}
use Rattle.am_model.specs.declared.group.GroupName.{GroupName}
use Rattle.am_board.proofs.lemmas.insert.GroupSpace.{named_at}
use Rattle.am_board.proofs.insert.own_name.Goals as goal

pub returns-in-Some : goal.returns-in-Some
returns-in-Some c =
    let same = ap (λ (g : Group). g.name) c.at.ensures ∙ named_at c.args.name c.args.groups.now.items c.in-Some.i c.at.result.now (sym c.requires.index ∙ c.in-Some.is) in
    subst (λ (n : GroupName). IfOk c.copy.result (λ (own : GroupName). own ≡ n)) same c.copy.ensures
