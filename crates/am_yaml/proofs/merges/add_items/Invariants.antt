use Rattle.std.proofs.Common.{◌≡◌, drop}
use Rattle.serde_json.specs.View.{items_view, members_view}
use Rattle.am_yaml.specs.Merges.{with_items}
use Rattle.am_yaml.proofs.merges.add_items.Given as goal

abbrev pub invariant-loop-item : goal.invariant-loop-item
invariant-loop-item l =
    with_items (members_view l.members.entries) (items_view (drop l.item-index l.item-items))
    ≡ with_items (members_view l.fn.members.entries) (items_view l.item-items)
