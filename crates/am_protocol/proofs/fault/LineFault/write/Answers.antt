use Rattle.std.proofs.Common.{◌∙◌, ◌++◌, ℕ, List, ap, codes}
use Rattle.am_protocol.specs.Answer.{text_member}
use Rattle.am_protocol.specs.Fault.{column_member, kind_of, message_of, pointer_of}
use Rattle.am_protocol.proofs.Pieces.{named_four}
use Rattle.am_protocol.proofs.fault.LineFault.write.Goals as goal

pub returns : goal.returns
returns c =
    let f = c.args.self.now in
    named_four c.end.result c.begin.new.answer c.put_text.new.self c.put_text-2.new.self c.put_column.new.answer c.put_text-3.new.self c.end.new.answer c.args.answer.now
    (codes "error") (text_member (codes "pointer") (pointer_of f)) (text_member (codes "kind") (kind_of f)) (column_member f) (text_member (codes "message") (message_of f))
    c.in_ok-begin.ensures
    (c.in_ok-put_text.ensures ∙ ap (λ (t : List ℕ). c.begin.new.answer ++ text_member (codes "pointer") t) c.pointer.ensures)
    (c.in_ok-put_text-2.ensures ∙ ap (λ (t : List ℕ). c.put_text.new.self ++ text_member (codes "kind") t) c.words.ensures.kind)
    c.in_ok-put_column.ensures
    (c.in_ok-put_text-3.ensures ∙ ap (λ (t : List ℕ). c.put_column.new.answer ++ text_member (codes "message") t) c.words.ensures.message)
    c.end.ensures
