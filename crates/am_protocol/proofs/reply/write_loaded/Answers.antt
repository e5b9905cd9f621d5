use Rattle.std.proofs.Common.{[], ◌∷◌, ◌++◌, append_assoc}
use Rattle.json.specs.Token.{end_object}
use Rattle.am_protocol.specs.Reply.{loaded_tokens}
use Rattle.am_protocol.proofs.Pieces.{last_piece}
use Rattle.am_protocol.proofs.reply.write_loaded.Goals as goal

pub returns : goal.returns
returns c =
    last_piece c.end.result c.end.new.answer c.put_text.new.self (end_object ∷ end_object ∷ []) (c.args.answer.now ++ loaded_tokens c.args.loaded)
    (rw (c.in_ok-put_text.ensures, c.in_ok-begin.ensures) (simp append_assoc cc)) c.end.ensures
