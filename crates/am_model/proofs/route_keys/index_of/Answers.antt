use Rattle.std.proofs.Common.{◌≡◌, ◌∙◌, ◌++◌, ◌∷◌, ℕ, List, [], ap, if◌then◌else◌}
use Rattle.std.specs.Str.{bytes_eq}
use Rattle.am_model.specs.KeyIndex.{positions_at}
use Rattle.am_model.proofs.configuration.RouteKeys.{positions-more}
use Rattle.am_model.proofs.route_keys.index_of.Goals as goal

pub loop-i-preserved : goal.loop-i-preserved
loop-i-preserved c = λ key.
    let i = c.loop-i.i in
    let k = c.index-keys-i.result in
    let was = positions_at c.loop-i.index key in
    let now = positions_at c.put.new.index key in
    let added : now ≡ (if bytes_eq k key then was ++ i ∷ [] else was) =
    c.in_ok-put.ensures key ∙ ap (λ (x : List ℕ). if bytes_eq x key then was ++ i ∷ [] else was) c.in_ok-key.ensures in
    positions-more c.args.keys.now i k key was now c.loop-i-test.true c.index-keys-i.is (c.loop-i.invariant key) added
