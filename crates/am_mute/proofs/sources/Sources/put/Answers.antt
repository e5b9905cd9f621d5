use Rattle.std.proofs.Common.{subst, sym}
use Rattle.am_mute.specs.SourceIndex.{SourceIndex}
use Rattle.am_mute.specs.Sources.{Grows}
use Rattle.am_mute.proofs.Learning.{grows_all, grows_both}
use Rattle.am_mute.proofs.sources.Sources.put.Goals as goal
use Rattle.am_mute.proofs.sources.Sources.put.Goals.{In_ok-insert}

-- the index before
abbrev before : (c : In_ok-insert) → SourceIndex
before c =
    record { all = c.self.inside.all.keys; one_sided = c.self.inside.one_sided.keys; learnt = c.self.inside.learnt; seed = c.self.inside.seed }

-- the index with the key of a source
abbrev new : (c : In_ok-insert) → SourceIndex
new c =
    record { all = c.insert.new.self.keys; one_sided = c.self.inside.one_sided.keys; learnt = c.self.inside.learnt; seed = c.self.inside.seed }

grows : (c : In_ok-insert) → Grows c.args.self.now (new c)
grows c =
    subst (λ (s : SourceIndex). Grows s (new c)) c.self.view_is
    (grows_all c.args.key (before c) c.insert.new.self.keys c.in_ok-insert.ensures.updates.0)

pub returns-else-is_one_sided-clause-grows : goal.returns-else-is_one_sided-clause-grows
returns-else-is_one_sided-clause-grows c = grows (goal.at.returns-else-is_one_sided-clause-grows c).In_ok-insert

pub returns-in_err-insert-2-clause-grows : goal.returns-in_err-insert-2-clause-grows
returns-in_err-insert-2-clause-grows c =
    let all = c.insert.new.self.keys in
    subst (λ ks. Grows c.args.self.now (record { all = all; one_sided = ks; learnt = c.self.inside.learnt; seed = c.self.inside.seed }))
    (sym c.in_err-insert-2.ensures.err) (grows (goal.at.returns-in_err-insert-2-clause-grows c).In_ok-insert)

pub returns-in_ok-insert-2-clause-grows : goal.returns-in_ok-insert-2-clause-grows
returns-in_ok-insert-2-clause-grows c =
    let at = (goal.at.returns-in_ok-insert-2-clause-grows c).In_ok-insert in
    let all = c.insert.new.self.keys in
    let one_sided = c.insert-then-is_one_sided.new.self.keys in
    let both : SourceIndex =
    record { all = all; one_sided = one_sided; learnt = c.self.inside.learnt; seed = c.self.inside.seed } in
    subst (λ (s : SourceIndex). Grows s both) c.self.view_is
    (grows_both c.args.key (before at) all c.in_ok-insert.ensures.updates.0 one_sided c.in_ok-insert-2.ensures.updates.0)
