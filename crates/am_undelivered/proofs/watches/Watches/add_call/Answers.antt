use Rattle.std.proofs.Common.{◌∙◌, Option, true, ap}
use Rattle.std.specs.HashMap.{get}
use Rattle.std.specs.Option.{option_map_or}
use Rattle.am_alerts.specs.Labels.{same_label_set}
use Rattle.am_undelivered.proofs.Known.{known_inserted}
use Rattle.am_undelivered.proofs.Outcomes.{on_ok_both}
use Rattle.am_undelivered.specs.Spans.{MembersData, SpansData, is_known, with_member}
use Rattle.am_undelivered.proofs.watches.Watches.add_call.Goals as goal

pub returns-in-Insert-clause-known : goal.returns-in-Insert-clause-known
returns-in-Insert-clause-known c =
    λ known.
    let m = c.args.members.now in
    let a = c.in-Insert.alert in
    on_ok_both c.add_insert.result
    (λ members spans labels.
    ap (λ (n : MembersData). option_map_or (is_known n labels) (get same_label_set c.add_insert.new.self.spans labels) true) members
    ∙ ap (λ (o : Option SpansData). option_map_or (is_known (with_member a.labels m) labels) o true) (spans labels)
    ∙ known_inserted m labels m.config c.in-Insert.now a (get same_label_set c.args.self.now.spans labels) (known labels))
    c.add_insert.ensures.members c.add_insert.ensures.spans
