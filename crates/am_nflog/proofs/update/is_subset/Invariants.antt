use Rattle.std.proofs.Common.{drop, map}
use Rattle.am_nflog.proofs.Subsets.{IsLeft}
use Rattle.am_nflog.proofs.update.is_subset.Given as goal

abbrev pub invariant-loop-next : goal.invariant-loop-next
invariant-loop-next g l = IsLeft g.N.PartialEq.eq g.N.Ord.cmp (map g.F.Lends.lent l.fn.some) l.all (map g.F.Lends.lent l.missing) (drop l.next-index l.all)
