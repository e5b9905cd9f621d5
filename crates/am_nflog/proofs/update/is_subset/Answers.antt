use Rattle.std.proofs.Common.{List, map, sym, ap, ◌∙◌, subst, drop, ◌+◌}
use Rattle.am_nflog.proofs.Subsets.{IsLeft, opened, left_Less, left_Equal, left_Greater, IsLeft-end, none_mapped}
use Rattle.am_nflog.proofs.update.is_subset.Goals as goal
use Rattle.am_nflog.proofs.update.is_subset.Goals.{in-Equal, in-Greater}

pub returns-in-Less : goal.returns-in-Less
returns-in-Less g c =
    let here = opened c.args.all.now _ _ _ _ _ c.loop-next.invariant (ap (map g.F.Lends.lent) c.in-Some.ensures.cases.0) c.next-item.is c.loop-next-test.true in
    sym (left_Less g.met.N.Ord.total g.met.N.Ord.matches_eq here (ap (λ (n : g.row.N.Denot). g.N.Ord.cmp n c.next-item.result) (sym c.lend.ensures) ∙ sym c.in-Less.ensures))

pub loop-next-preserved : goal.loop-next-preserved
loop-next-preserved g c =
    let lent = g.F.Lends.lent in
    let here = opened c.args.all.now _ _ _ _ _ c.loop-next.invariant (ap (map lent) c.in-Some.ensures.cases.0) c.next-item.is c.loop-next-test.true in
    let at = ap (λ (n : g.row.N.Denot). g.N.Ord.cmp n c.next-item.result) (sym c.lend.ensures) in
    let Goes = λ (missing : List g.row.N.Denot). IsLeft g.N.PartialEq.eq g.N.Ord.cmp (map lent c.args.some.now) c.args.all.now missing (drop (c.loop-next.next-index + 1) c.args.all.now) in
    elim c.match-cmp.branch [
      | in-Equal w ↦ subst Goes (ap (λ r. map lent r.now) (sym w.missing-is)) (left_Equal g.met.N.Ord.total g.met.N.Ord.matches_eq here (at ∙ sym w.in-Equal.ensures))
      | in-Greater w ↦ subst Goes (ap (map lent) (sym c.in-Some.ensures.cases.0) ∙ ap (λ r. map lent r.now) (sym w.missing-is)) (left_Greater g.met.N.Ord.total g.met.N.Ord.matches_eq here (at ∙ sym w.in-Greater.ensures))
    ]

pub returns : goal.returns
returns g c = c.is_empty.ensures ∙ sym (IsLeft-end c.args.all.now _ _ c.loop-next.invariant c.loop-next-test.false ∙ none_mapped g.F.Lends.lent c.loop-next.missing.now)
