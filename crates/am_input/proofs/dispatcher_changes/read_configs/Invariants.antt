use Rattle.std.proofs.Common.{◌≡◌, None, codes, false, map, take, true}
use Rattle.std.specs.List.{list_all}
use Rattle.serde_json.specs.View.{members_view}
use Rattle.am_json.specs.Decoding.{HasNone}
use Rattle.am_input.proofs.DecodedDispatcherChanges.{reload_behind}
use Rattle.am_input.specs.Clocks.{AreClocksOf}
use Rattle.am_input.specs.Configured.{file_in}
use Rattle.am_input.specs.DispatcherChanges.{AreDecodedBy, IsConfigAt, is_ours}
use Rattle.am_plans.specs.DispatcherChange.{ItemData, item_of, reload_in}
use Rattle.am_input.proofs.dispatcher_changes.read_configs.Given as goal

-- what the items so far say was read
abbrev pub invariant-loop-item : goal.invariant-loop-item
invariant-loop-item g l = record {
  decoded : AreDecodedBy (IsConfigAt (AreClocksOf l.until (members_view l.top.members)) (file_in l.changes) l.top.mode (members_view l.top.members)) None (map item_of (take l.item-index l.items)) l.read.dispatcher_changes.items;
  last : reload_in l.last ≡ reload_behind None (map item_of (take l.item-index l.items));
  lacks : file_in l.changes ≡ None → HasNone (codes "alertmanager") (members_view l.top.members)
      → list_all (λ (i : ItemData). is_ours i.reload) (map item_of l.items) ≡ true → l.read.lacks_hours ≡ false;
}
