use Rattle.std.proofs.Common.{[], ◌∷◌, ◌++◌, append_assoc}
use Rattle.json.specs.Token.{end_object}
use Rattle.am_protocol.specs.View.{due_tokens}
use Rattle.am_protocol.proofs.Pieces.{last_piece}
use Rattle.am_protocol.proofs.view.write_due.Goals as goal

pub returns : goal.returns
returns c =
    last_piece c.end.result c.end.new.answer c.put_optional.new.answer (end_object ∷ end_object ∷ []) (c.args.answer.now ++ due_tokens c.args.due)
    (rw (c.in_ok-put_optional.ensures, c.in_ok-begin.ensures) (simp append_assoc)) c.end.ensures
