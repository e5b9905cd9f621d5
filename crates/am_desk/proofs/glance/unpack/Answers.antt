use Rattle.am_desk.proofs.Packing.{unpacks}
use Rattle.am_desk.proofs.glance.unpack.Goals as goal

pub returns : goal.returns
returns c g space is = unpacks c.args.limits.now g c.args.word space is
