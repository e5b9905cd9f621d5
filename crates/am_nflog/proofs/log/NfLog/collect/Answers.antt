use Rattle.std.proofs.Common.{length, arith, ap, subst, ◌∙◌}
use Rattle.am_nflog.proofs.CallerLemmas.{rows_of-collected}
use Rattle.am_nflog.proofs.Sweeps.{IsSwept-begin, length-IsSwept, IsSwept-count, IsSwept-goes, IsSwept-stays, IsSwept-end, IsSwept-distinct}
use Rattle.am_nflog.specs.Log.{rows_of, HasDistinctKeys}
use Rattle.am_nflog.proofs.log.NfLog.collect.Goals as goal
use Rattle.am_nflog.proofs.log.NfLog.collect.Goals.{then-is_expired, else-is_expired}

pub loop-i-init : goal.loop-i-init
loop-i-init g c = IsSwept-begin c.args.t _ _ c.self.view_is

pub index-requires : goal.index-requires
index-requires g c =
    let same = length-IsSwept c.args.t _ _ _ _ c.loop-i.invariant in
    omega (arith, same, ap length c.self.view_is)

pub index_mut-requires : goal.index_mut-requires
index_mut-requires g c =
    let same = length-IsSwept c.args.t _ _ _ _ c.loop-i.invariant in
    omega (arith, same, ap length c.self.view_is)

pub overflow_add-gone : goal.overflow_add-gone
overflow_add-gone g c =
    let few = IsSwept-count c.args.t _ _ _ _ c.loop-i.invariant in
    omega (arith, few)

pub loop-i-preserved : goal.loop-i-preserved
loop-i-preserved g c =
    elim c.if-is_expired.branch [
      | then-is_expired w ↦
          IsSwept-goes c.args.t _ _ _ _ c.loop-i.invariant _ c.index.ensures _ _ w.if-is_expired.ensures (ap (λ log. log.slots.entries) w.self-inside-is) w.gone-is
      | else-is_expired w ↦
          IsSwept-stays c.args.t _ _ _ _ c.loop-i.invariant _ c.index.ensures _ _ w.if-is_expired.ensures (ap (λ log. log.slots.entries) w.self-inside-is) w.gone-is
    ]

pub returns-clause-collected : goal.returns-clause-collected
returns-clause-collected g c = (IsSwept-end c.args.t _ _ _ _ c.loop-i.invariant (omega (arith, ap length c.self.view_is))).0

pub returns-clause-count : goal.returns-clause-count
returns-clause-count g c = (IsSwept-end c.args.t _ _ _ _ c.loop-i.invariant (omega (arith, ap length c.self.view_is))).1

pub returns-clause-order : goal.returns-clause-order
returns-clause-order g c =
    ap rows_of (IsSwept-end c.args.t _ _ _ _ c.loop-i.invariant (omega (arith, ap length c.self.view_is))).0
    ∙ rows_of-collected c.args.t c.args.self.now

pub invariant_of-self : goal.invariant_of-self
invariant_of-self g c =
    let distinct = subst (HasDistinctKeys g.G.PartialEq.eq) c.self.view_is c.self.invariant in
    IsSwept-distinct c.args.t _ _ _ _ c.loop-i.invariant g.G.PartialEq.eq distinct (omega (arith, ap length c.self.view_is))

pub returns-clause-distinct : goal.returns-clause-distinct
returns-clause-distinct g c = invariant_of-self g c
