use Rattle.am_config.proofs.Timed.{expanded}
use Rattle.am_config.proofs.clocks.expand.Goals as goal

pub returns : goal.returns
returns c =
    expanded c.expand_all.result c.as_slice.result.now c.in_ok-timed.timed.items c.args.placed.now c.expand_all.ensures.held c.as_slice.ensures.value
    c.in_ok-timed.ensures
