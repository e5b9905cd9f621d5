use Rattle.std.proofs.Common.{◌≡◌, ◌∙◌, ◌++◌, List, Vec, Global, vec_len, vec_capacity, ap, subst, arith}
use Rattle.am_model.specs.declared.record.Record.{Record}
use Rattle.am_board.specs.History.{BoardData}
use Rattle.am_board.proofs.lemmas.invariant.Sound.{all_counted, few_calls}
use Rattle.am_board.proofs.lemmas.invariant.Taking.{few_enough, seen_taken, sound_taken}
use Rattle.am_board.proofs.board.Board.take_history.Goals as goal

pub overflow_add-handed : goal.overflow_add-handed
overflow_add-handed c =
    omega (arith, all_counted c.self.inside c.self.invariant, few_calls c.self.inside c.self.invariant)

pub invariant_of-self : goal.invariant_of-self
invariant_of-self c =
    let b = c.self.inside in
    let fresh = c.in_ok-fresh.ensures in
    let none = ap (λ (v : Vec Record Global). v.items) c.replace-taken.ensures.after ∙ fresh.items in
    let empty = ap (λ (v : Vec Record Global). vec_len v) c.replace-taken.ensures.after ∙ fresh.len in
    let space = ap (λ (v : Vec Record Global). vec_capacity v) c.replace-taken.ensures.after in
    let past = c.add_all.ensures ∙ ap (λ (rs : List Record). b.past.items ++ rs) (c.as_slice.ensures.value ∙ ap (λ (v : Vec Record Global). v.items) c.replace-taken.ensures.value) in
    sound_taken b c.self.invariant c.args.self.now c.self.view_is c.replace-taken.new.dest c.add_all.new.self none past _ (omega arith) (omega (arith, c.if-handed-gt-MAX_HANDED.false)) empty (omega (arith, space, fresh.capacity))

pub returns-clause-records : goal.returns-clause-records
returns-clause-records c =
    subst (λ (d : BoardData). d.handed ++ c.replace-taken.result.items ≡ d.history) c.self.view_is
    (ap (λ (v : Vec Record Global). c.self.inside.past.items ++ v.items) c.replace-taken.ensures.value)

pub returns-clause-after : goal.returns-clause-after
returns-clause-after c =
    let b = c.self.inside in
    let none = ap (λ (v : Vec Record Global). v.items) c.replace-taken.ensures.after ∙ c.in_ok-fresh.ensures.items in
    let past = c.add_all.ensures ∙ ap (λ (rs : List Record). b.past.items ++ rs) (c.as_slice.ensures.value ∙ ap (λ (v : Vec Record Global). v.items) c.replace-taken.ensures.value) in
    seen_taken b c.self.invariant c.args.self.now c.self.view_is c.replace-taken.new.dest c.add_all.new.self none past

pub returns-clause-cause : goal.returns-clause-cause
returns-clause-cause c =
    few_enough c.self.inside c.self.invariant c.args.self.now c.self.view_is (omega (arith, c.if-handed-gt-MAX_HANDED.false))
