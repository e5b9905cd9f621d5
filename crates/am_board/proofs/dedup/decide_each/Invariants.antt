use Rattle.std.proofs.Common.{◌≡◌, [], filter, map, take, if◌then◌else◌}
use Rattle.std.specs.List.{enumerate_from}
use Rattle.am_model.specs.look_back.Reasons.{notifies}
use Rattle.am_board.specs.Beginning.{alert_sets_of, copies_of, update_of}
use Rattle.am_board.specs.Dedup.{reason_among}
use Rattle.am_board.specs.LogRows.{log_rows}
use Rattle.am_board.proofs.dedup.decide_each.Given as goal

-- the reasons of the integrations so far, if they are wanted, and those that are asked for them; the key is that of the next one
abbrev pub invariant-loop-integration : goal.invariant-loop-integration
invariant-loop-integration l = record {
  group : l.key.group ≡ l.group;
  integration : l.key.integration ≡ l.integration-index;
  reasons : l.reasons.items ≡ (if l.look.why then map (reason_among (log_rows l.look.state.now.log) l.group (alert_sets_of (copies_of l.look.t l.unmuted)) l.repeat_interval l.look.t) (enumerate_from 0 (take l.integration-index l.integrations)) else []);
  notified : l.notified.items ≡ map update_of (filter (λ i. notifies (reason_among (log_rows l.look.state.now.log) l.group (alert_sets_of (copies_of l.look.t l.unmuted)) l.repeat_interval l.look.t i)) (enumerate_from 0 (take l.integration-index l.integrations)));
}
