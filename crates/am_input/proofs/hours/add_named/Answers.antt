use Rattle.am_input.proofs.Clocked.{added_on}
use Rattle.am_input.proofs.hours.add_named.Goals as goal

pub loop-name-preserved : goal.loop-name-preserved
loop-name-preserved g c =
    let l = c.loop-name in
    added_on c.args.zones.now.items l.zones.items c.add_file.new.zones.items l.invariant c.in_ok-add_file.ensures
