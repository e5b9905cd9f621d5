use Rattle.std.proofs.Common.{◌∙◌, subst, sym}
use Rattle.am_config.specs.Times.{IsFoundAt, TimesData}
use Rattle.am_config.proofs.definitions.Defined.index_of.Goals as goal

pub returns : goal.returns
returns c =
    let name = c.args.name.now in
    subst (λ (t : TimesData). IsFoundAt t.named name c.copied.result) c.self.view_is
    (subst (λ o. IsFoundAt c.self.inside.list.items name o) (sym (c.copied.ensures ∙ c.get.ensures.value)) (c.self.invariant.found name))
