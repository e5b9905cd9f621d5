use Rattle.std.proofs.Common.{◌≡◌, ◌+◌, List, [], ◌∷◌, ◌++◌, map, rules, subst, sym, take}
use Rattle.std.proofs.lemmas.Result.{err_from_is_err_and}
use Rattle.am_alerts.specs.declared.matcher.MatcherParts.{MatcherParts}
use Rattle.am_commands.proofs.LabelWriting.{none_at, write_all, write_next}
use Rattle.am_commands.specs.LabelWords.{WriteLabels}
use Rattle.am_commands.proofs.label_words.parts_of.Goals as goal

pub loop-word-preserved : goal.loop-word-preserved
loop-word-preserved g c =
    let pushed : c.push.new.self.items ≡ c.loop-word.parts.items ++ c.in_ok-label.label ∷ [] = search rules in
    subst (λ (ms : List MatcherParts). WriteLabels (map (λ word. word.now) (take (c.loop-word.word-index + 1) c.args.words.now)) ms) (sym pushed)
    (write_next _ _ _ _ _ _ c.loop-word-test.true c.loop-word.invariant c.in_ok-label.ensures.written)

pub returns-clause-written : goal.returns-clause-written
returns-clause-written g c = write_all _ _ _ _ c.loop-word-test.false c.loop-word.invariant

pub returns-in_err-label-clause-rejected : goal.returns-in_err-label-clause-rejected
returns-in_err-label-clause-rejected g c =
    let p = err_from_is_err_and c.from_residual.result c.from_residual.ensures.1 in
    rw (p.1, p.2) (λ is. none_at _ _ _ _ c.loop-word-test.true (c.in_err-label.ensures.rejected is))
