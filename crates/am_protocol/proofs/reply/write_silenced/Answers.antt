use Rattle.std.proofs.Common.{[], ◌∷◌, ◌++◌, append_assoc}
use Rattle.json.specs.Token.{end_object}
use Rattle.am_protocol.specs.Reply.{silenced_tokens}
use Rattle.am_protocol.proofs.Pieces.{last_piece}
use Rattle.am_protocol.proofs.reply.write_silenced.Goals as goal

pub returns : goal.returns
returns c =
    last_piece c.end.result c.end.new.answer c.put_flag.new.self (end_object ∷ end_object ∷ []) (c.args.answer.now ++ silenced_tokens c.args.silenced.now)
    (rw (c.in_ok-put_flag.ensures, c.in_ok-begin.ensures) (simp append_assoc)) c.end.ensures
