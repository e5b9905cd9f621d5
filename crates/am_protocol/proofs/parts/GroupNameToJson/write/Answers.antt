use Rattle.std.proofs.Common.{[], ◌∷◌, ◌++◌, append_assoc}
use Rattle.json.specs.Token.{end_object}
use Rattle.am_protocol.specs.Answer.{group_tokens}
use Rattle.am_protocol.proofs.Pieces.{last_piece}
use Rattle.am_protocol.proofs.parts.GroupNameToJson.write.Goals as goal

pub returns : goal.returns
returns c =
    last_piece c.close.result c.close.new.self c.put.new.self (end_object ∷ []) (c.args.answer.now ++ group_tokens c.args.config.now c.args.self.now)
    (rw (c.in_ok-put.ensures, c.in_ok-put_text.ensures, c.in_ok-open.ensures) (simp append_assoc cc)) c.close.ensures
