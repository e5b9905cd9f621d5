use Rattle.std.proofs.Common.{sym}
use Rattle.am_board.specs.declared.flush.OpenFlush.{OpenFlush}
use Rattle.am_board.proofs.lemmas.begin.Causes.{one_of}
use Rattle.am_board.proofs.lemmas.note.Numbered.{numbered_at}
use Rattle.am_board.proofs.flush.find_flush.Goals as goal

pub returns-in-Some-clause-first : goal.returns-in-Some-clause-first
returns-in-Some-clause-first c =
    let fs = c.args.flushes.now.items in
    let d : OpenFlush = one_of fs c.in-Some.i c.in-Some.ensures.within in
    sym (numbered_at fs c.in-Some.i c.args.number d c.requires c.in-Some.ensures.within (c.in-Some.ensures.number d))
