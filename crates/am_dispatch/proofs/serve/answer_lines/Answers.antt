use Rattle.std.proofs.Common.{ap, arith, length, refl}
use Rattle.am_dispatch.proofs.Serving.{known_fault, line_breaks, serving_line, serving_part}
use Rattle.am_dispatch.proofs.serve.answer_lines.Goals as goal

pub loop-behind-preserved : goal.loop-behind-preserved
loop-behind-preserved g c =
    let whole = c.in-Some.ensures.whole in
    record {
      serving = λ first reads before.
          serving_line first _ _ reads _ _ _ _ _ _ _ _ (c.loop-behind.invariant.serving first reads before) whole.1 whole.2 (c.in-Some.ensures.known refl)
          c.in_ok-answer.ensures.answered c.clear.ensures.read c.clear.ensures.text;
      short = omega (arith, c.clear.new.self.text.ok.0, ap length c.clear.ensures.text);
    }

pub returns-in_err-answer-clause-stopped : goal.returns-in_err-answer-clause-stopped
returns-in_err-answer-clause-stopped g c =
    let whole = c.in-Some.ensures.whole in
    known_fault _ _ c.in_err-answer.field-0.0 c.from_residual.ensures.1 (λ first reads before.
    line_breaks _ first _ _ reads _ _ _ _ _ _ _ (c.loop-behind.invariant.serving first reads before) whole.1 whole.2 (c.in-Some.ensures.known refl)
    c.in_err-answer.ensures.broken)

pub returns-clause-serving : goal.returns-clause-serving
returns-clause-serving g c = λ first reads before.
    serving_part first _ reads _ _ _ _ (c.loop-behind.invariant.serving first reads before) (c.in_default.ensures.part refl) c.add.ensures.begun
