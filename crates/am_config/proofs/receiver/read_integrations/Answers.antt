use Rattle.std.proofs.Common.{◌<◌, [], false, length, arith}
use Rattle.serde_json.specs.View.{members_view}
use Rattle.am_settings.specs.declared.kinds.Kind.{Kind}
use Rattle.am_settings.specs.declared.settings.Part.TheVariants.{Global}
use Rattle.am_config.proofs.Integrations.{kinds_more}
use Rattle.am_config.proofs.receiver.read_integrations.Goals as goal

-- what is read past the end of the kinds, which no index is
abbrev none : Kind
none =
    record { list = record { ref_ptr = (0, 0); now = [] }; name = record { ref_ptr = (0, 0); now = [] }; part = Global; send_resolved = false }

pub loop-kind-preserved : goal.loop-kind-preserved
loop-kind-preserved c =
    let l = c.loop-kind in
    let all = c.all_kinds-all.result.now in
    let here : l.kind-index < length all = omega arith in
    kinds_more all l.kind-index none (members_view c.args.receiver.now.members) l.integrations.items c.in_ok-list.list.items c.append.new.self.items
    c.args.faults.now l.faults c.read_list.new.faults here l.invariant c.in_ok-list.ensures c.in_ok-append.ensures.items
