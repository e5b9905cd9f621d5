use Rattle.std.proofs.Common.{◌≡◌, ◌∙◌, ◌++◌, ◌∷◌, [], List, Option, Some, Vec, ap, refl, sym, subst, if◌then◌else◌}
use Rattle.std.specs.Global.{Global}
use Rattle.std.specs.HashMap.{get}
use Rattle.std.specs.Option.{IsSome, option_map_or}
use Rattle.am_alerts.specs.declared.labels.Label.{Label}
use Rattle.am_model.specs.State.{same_name}
use Rattle.am_undelivered.proofs.Tables.{held_more}
use Rattle.am_undelivered.proofs.members.add_to.Goals as goal

pub returns-in_ok-push-in-Some : goal.returns-in_ok-push-in-Some
returns-in_ok-push-in-Some c =
    λ name l.
    let lists = c.args.lists.now in
    let new = c.push.new.self in
    let found : get same_name lists c.args.group ≡ Some c.in-Some.list.now = sym c.in-Some.ensures.value in
    let there : IsSome (get same_name lists c.args.group) =
    subst (λ (o : Option (Vec (List Label) Global)). IsSome o) c.in-Some.ensures.value refl in
    held_more (λ n. get same_name lists n) l c.args.labels.now c.args.group name c.in-Some.list.now.items
    (get same_name (c.get_mut.follows.lender new) name) new
    (ap (λ (o : Option (Vec (List Label) Global)). option_map_or (λ v. v.items) o []) found)
    (c.in_ok-push-in-Some.ensures.items ∙ ap (λ (x : List Label). c.in-Some.list.now.items ++ x ∷ []) c.in_ok-added.ensures)
    (((c.get_mut.follows.holds new).3 there).0 name)

pub returns-in_ok-insert-in-None : goal.returns-in_ok-insert-in-None
returns-in_ok-insert-in-None c =
    λ name l.
    let lists = c.args.lists.now in
    held_more (λ n. get same_name lists n) l c.args.labels.now c.args.group name []
    (get same_name c.insert.new.self name) c.in_ok-list-in-None.list
    (ap (λ (o : Option (Vec (List Label) Global)). option_map_or (λ v. v.items) o []) (sym c.in-None.ensures.value))
    (c.in_ok-list-in-None.ensures.items ∙ ap (λ (x : List Label). x ∷ []) c.in_ok-added.ensures)
    (c.in_ok-insert-in-None.ensures.updates.0 name
    ∙ ap (λ m. if same_name c.args.group name then Some c.in_ok-list-in-None.list else get same_name m name) c.get_mut.follows.holds-at-none)
