use Rattle.am_mute.proofs.mute.mute_cause.Goals as goal

pub mute_cause_with-requires : goal.mute_cause_with-requires
mute_cause_with-requires c = c.new-sources.ensures.nothing c.args.rules.now c.args.known.now
