use Rattle.std.proofs.Common.{◌≡◌, ◌∙◌, cond, eqb, ap, sym, Some, None, nat_eq}
use Rattle.std.specs.HashMap.{get}
use Rattle.am_mute.proofs.NotedPlaces.{noted-absent, none-there, ok-part}
use Rattle.am_mute.proofs.places.Places.add.Goals as goal

pub returns-else-is_err : goal.returns-else-is_err
returns-else-is_err c silences s behind own theirs whole =
    let was = get nat_eq c.args.self.now.places in
    let there : was s.id ≡ None = ap was own ∙ none-there (was c.args.id) (sym c.contains_key.ensures ∙ c.if-contains_key.false) in
    let put = ok-part c.insert.result (sym c.is_err.ensures.value ∙ c.if-is_err.false) c.insert.ensures.updates in
    noted-absent silences s was (get nat_eq c.insert.new.self) (theirs whole) there
    (λ id. put.0 id ∙ (λ i. cond (eqb (sym own i) id) (Some (sym behind i)) (was id)))
