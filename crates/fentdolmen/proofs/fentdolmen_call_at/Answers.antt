use Rattle.std.proofs.Common.{◌∙◌, Some, ap, length, subst, sym}
use Rattle.am_session.specs.Line.{AnswersLine}
use Rattle.am_session.specs.Service.{text_of}
use Rattle.am_session.specs.declared.service.Service.{Service}
use Rattle.fentdolmen.specs.Calls.{Calls, written}
use Rattle.fentdolmen.proofs.fentdolmen_call_at.Goals as goal

-- by the service that the handle had, and that which it has
pub returns : goal.returns
returns c =
    let was = c.deref_mut.ensures.value in
    let text = c.bytes.ensures ∙ ap (λ (s : Service). text_of s.answer) c.deref.ensures in
    subst (λ old. Calls old c.args.line.now c.copy_from-length.result c.put.new.self.held.kept c.args.into.now c.copy_from-length.new.into)
    c.in-Some.ensures.taken
    (subst (λ new. Calls (Some c.in-Some.service.value) c.args.line.now c.copy_from-length.result new c.args.into.now c.copy_from-length.new.into)
    (sym c.put.ensures)
    (record {
      answered = subst (λ (s : Service). AnswersLine s.session c.args.line.now (text_of c.call.new.self.answer) c.call.new.self.session) was c.call.ensures.answered;
      seed = c.call.ensures.seed ∙ ap (λ (s : Service). s.seed) was;
      length = c.copy_from-length.ensures.whole ∙ ap length text;
      copied = c.copy_from-length.ensures.copied ∙ ap (λ t. written t 0 c.args.into.now) text;
    }))
