use Rattle.std.proofs.Common.{◌∙◌, ◌==◌, ◌&&◌, Bool, Some, ap, if◌then◌else◌}
use Rattle.std.specs.HashMap.{get}
use Rattle.am_model.specs.declared.group.GroupName.{GroupName}
use Rattle.am_model.specs.State.{same_name}
use Rattle.am_model.proofs.states.Alike.{same_name_equiv}
use Rattle.am_timeline.specs.Log.{same_log_key}
use Rattle.am_timeline.proofs.logbook.log.add_entry.Goals as goal

pub returns : goal.returns
returns c =
    λ name i.
    let old = get same_log_key c.args.logged.now (record { group = name; integration = i }) in
    c.in_ok-insert.ensures.updates.0 (record { group = name; integration = i })
    ∙ ap (λ (g : GroupName). if same_name g name && (c.args.integration == i) then Some c.args.entry else old) c.in_ok-copy.ensures
    ∙ ap (λ (b : Bool). if b && (c.args.integration == i) then Some c.args.entry else old) (same_name_equiv.symm c.args.group.now name)
