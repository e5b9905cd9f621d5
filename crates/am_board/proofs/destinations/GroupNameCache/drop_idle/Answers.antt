use Rattle.std.proofs.Common.{◌≡◌, ◌∙◌, refl, sym, subst, rules}
use Rattle.am_board.specs.Forgetting.{TestsFirst}
use Rattle.am_board.specs.GroupNameCache.{AreKept}
use Rattle.am_board.specs.contracts.destinations.fn.GroupNameCache.drop_idle.retain as closure
use Rattle.am_board.proofs.lemmas.forget.KeptNames.{kept_where, tested_first}
use Rattle.am_board.proofs.destinations.GroupNameCache.drop_idle.Goals as goal

pub returns : goal.returns
returns c config were =
    kept_where config c.args.sets.now.keys c.args.t _ (λ f ks. let l = closure.captures f in (l.rest.now ≡ ks) × (l.sets.now.keys ≡ c.args.sets.now.keys) × (l.t ≡ c.args.t))
    (λ f a others n b g at ran.
    let l = closure.captures f in
    let m = closure.captures g in
    let fact : TestsFirst l.sets.now.keys l.t l.rest.now b m.rest.now = search rules in
    let still : (m.sets.now.keys ≡ l.sets.now.keys) × (m.t ≡ l.t) = search rules in
    let first = tested_first l.sets.now.keys c.args.sets.now.keys l.t c.args.t l.rest.now a others b m.rest.now at.1 at.2 at.0 fact in
    (first.0, (first.1, still.0 ∙ at.1, still.1 ∙ at.2)))
    _ c.args.known.now c.self.inside.names.items _ (refl, refl, refl)
    (subst (AreKept config c.args.known.now) (sym c.self.view_is) were) c.retain.ensures.filtered
