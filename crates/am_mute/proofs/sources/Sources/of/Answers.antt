use Rattle.am_mute.proofs.sources.Sources.of.Goals as goal

pub learn-requires : goal.learn-requires
learn-requires c = c.new-sources.ensures.nothing c.args.rules.now c.args.known.now
