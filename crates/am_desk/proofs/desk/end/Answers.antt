use Rattle.std.proofs.Common.{ℕ, All, refl, sym, ◌∙◌, subst, arith, rules, true≢false}
use Rattle.am_board.specs.History.{BoardData}
use Rattle.am_desk.specs.Desks.{Complete, AllLearned, IsPrefixViewOf}
use Rattle.am_desk.proofs.Closing.{prefix_view}
use Rattle.am_desk.proofs.desk.end.Goals as goal

pub returns-then-open-gt0-clause-refused : goal.returns-then-open-gt0-clause-refused
returns-then-open-gt0-clause-refused g c =
    let k = c.count_open-open.ensures in
    let l = c.learn_all.ensures in
    let whole : Complete c.args.desk.passes c.args.passes.items = c.is_complete.ensures.0 (search rules) in (
      subst (λ (n : ℕ). Complete n c.args.passes.items) c.args.desk.names.1 whole,
      (
        c.learn_all.new.keeper.history,
        sym k.count,
        omega (arith, c.if-open-gt0.true),
        k.legal,
        k.named,
        subst (λ (b : BoardData). AllLearned b.history c.args.passes.items c.learn_all.new.passes.items) (sym l.keeper) l.passes,
      ),
    )

pub returns-then-not-is_complete-clause-refused : goal.returns-then-not-is_complete-clause-refused
returns-then-not-is_complete-clause-refused g c =
    (refl, λ h. absurd (true≢false (sym (c.is_complete.ensures.1 (subst (λ (n : ℕ). Complete n c.args.passes.items) (sym c.args.desk.names.1) h)) ∙ c.if-not-is_complete.true)))

pub returns-clause-others : goal.returns-clause-others
returns-clause-others g c k more = c.count_open-open.ensures.named k more

pub returns-clause-complete : goal.returns-clause-complete
returns-clause-complete g c =
    subst (λ (n : ℕ). Complete n c.args.passes.items) c.args.desk.names.1 (c.is_complete.ensures.0 (search rules))

pub returns-clause-seen : goal.returns-clause-seen
returns-clause-seen g c =
    let l = c.learn_all.ensures in
    subst (λ (b : BoardData). All (λ p. IsPrefixViewOf p b.history) c.args.passes.items) (sym l.keeper) (prefix_view c.into_inner-keeper.result.history c.args.passes.items c.learn_all.new.passes.items l.passes)
