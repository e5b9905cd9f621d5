use Rattle.std.proofs.Common.{◌≡◌, ◌-◌, Some, map, drop, ap, sym, subst, ◌∙◌, arith}
use Rattle.std.specs.Prelude.{Option, slice_index_or}
use Rattle.am_model.specs.Begin.{due_cmp}
use Rattle.am_board.specs.Refinement.{group_state}
use Rattle.am_board.specs.declared.group.Group.{Group}
use Rattle.am_model.specs.Lists.{lesser}
use Rattle.am_model.specs.State.{GroupState, is_flushing}
use Rattle.am_board.specs.Beginning.{first_of, IsFirst}
use Rattle.am_board.proofs.lemmas.begin.FirstDue.{first_of-taken, first_of-passed, first_seen}
use Rattle.am_board.proofs.groups.first.first_by_walk.Goals as goal

pub loop-i-preserved-then-may_begin : goal.loop-i-preserved-then-may_begin
loop-i-preserved-then-may_begin c =
    record {
      within = c.earlier.ensures.within;
      first = λ fs returned d.
          first_of-taken fs c.args.t c.args.groups.now c.loop-i.i (c.loop-i.i - 1) d c.index-groups-i.result (omega arith) (omega arith) c.index-groups-i.is (sym (c.may_begin.ensures fs (subst (λ (g : Group). g.is_open ≡ is_flushing fs g.name) (sym c.index-groups-i.is) (returned (c.loop-i.i - 1) c.index-groups-i.result (omega arith)))) ∙ c.if-may_begin.true)
          ∙ sym
          (ap (λ g. Some g)
          (c.earlier.ensures.lesser d
          ∙ ap (λ o. lesser due_cmp (group_state (slice_index_or c.args.groups.now (c.loop-i.i - 1) d)) o) (first_seen c.args.groups.now c.loop-i.best (first_of fs c.args.t (map group_state (drop c.loop-i.i c.args.groups.now))) d (c.loop-i.invariant.first fs returned))));
    }

pub loop-i-preserved : goal.loop-i-preserved
loop-i-preserved c =
    record {
      within = c.loop-i.invariant.within;
      first = λ fs returned.
          subst (λ (o : Option GroupState). IsFirst c.args.groups.now c.loop-i.best o)
          (sym (first_of-passed fs c.args.t c.args.groups.now c.loop-i.i (c.loop-i.i - 1) c.index-groups-i.result (omega arith) (omega arith) c.index-groups-i.is (sym (c.may_begin.ensures fs (subst (λ (g : Group). g.is_open ≡ is_flushing fs g.name) (sym c.index-groups-i.is) (returned (c.loop-i.i - 1) c.index-groups-i.result (omega arith)))) ∙ c.if-may_begin.false)))
          (c.loop-i.invariant.first fs returned);
    }

pub returns-clause-first : goal.returns-clause-first
returns-clause-first c fs returned =
    let over : c.loop-i.i ≡ 0 = omega arith in
    subst (λ n. IsFirst c.args.groups.now c.loop-i.best (first_of fs c.args.t (map group_state (drop n c.args.groups.now)))) over (c.loop-i.invariant.first fs returned)
