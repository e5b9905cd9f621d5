use Rattle.am_mute.proofs.mute.muted.Goals as goal

pub muted_with-requires : goal.muted_with-requires
muted_with-requires c = c.new-sources.ensures.nothing c.args.rules.now c.args.known.now
