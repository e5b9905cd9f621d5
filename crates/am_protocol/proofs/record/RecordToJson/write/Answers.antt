use Rattle.std.proofs.Common.{[], ◌∷◌, ◌++◌, append_assoc}
use Rattle.json.specs.Token.{end_object}
use Rattle.am_protocol.specs.Record.{record_tokens}
use Rattle.am_protocol.proofs.Pieces.{last_piece}
use Rattle.am_protocol.proofs.record.RecordToJson.write.Goals as goal

pub returns : goal.returns
returns c =
    last_piece c.close.result c.close.new.self c.write_reply.new.answer (end_object ∷ []) (c.args.answer.now ++ record_tokens c.args.config.now c.args.self.now)
    (rw (c.in_ok-write_reply.ensures, c.in_ok-key-2.ensures, c.in_ok-write_call.ensures, c.in_ok-key.ensures, c.in_ok-open.ensures) (simp append_assoc cc)) c.close.ensures
