use Rattle.std.proofs.Common.{sym, subst, arith}
use Rattle.am_board.specs.GroupNameCache.{AreKept}
use Rattle.am_board.proofs.lemmas.invariant.GroupNameCache.{kept_more, kept_there}
use Rattle.am_board.proofs.destinations.GroupNameCache.put.Goals as goal

pub loop-self-preserved : goal.loop-self-preserved
loop-self-preserved c config known were within =
    let are = c.loop-self.invariant config known were within in
    subst (AreKept config known) (sym c.in_ok-push.ensures.items) (kept_more config known c.loop-self.self-inside.names.items are (omega (arith, c.loop-self-test.true, c.len.ensures, c.loop-self.self-inside.names.ok.0, within)))

pub returns-in_err-push : goal.returns-in_err-push
returns-in_err-push c config known were within returned =
    let are = c.loop-self.invariant config known were within in
    subst (AreKept config known) (sym c.in_err-push.ensures.items) are

pub returns : goal.returns
returns c config known were within returned =
    kept_there config known c.loop-self.self-inside.names.items c.args.index c.args.names (c.loop-self.invariant config known were within) (omega (arith, c.loop-self-test.false, c.len.ensures, c.loop-self.self-inside.names.ok.0)) returned
