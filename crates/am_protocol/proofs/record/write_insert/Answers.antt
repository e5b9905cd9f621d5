use Rattle.std.proofs.Common.{[], ◌∷◌, ◌++◌, append_assoc}
use Rattle.json.specs.Token.{end_object}
use Rattle.am_protocol.specs.Record.{insert_tokens}
use Rattle.am_protocol.proofs.Pieces.{last_piece}
use Rattle.am_protocol.proofs.record.write_insert.Goals as goal

pub returns : goal.returns
returns c =
    last_piece c.end.result c.end.new.answer c.put_alert.new.answer (end_object ∷ end_object ∷ []) (c.args.answer.now ++ insert_tokens c.args.now c.args.alert.now)
    (rw (c.in_ok-put_alert.ensures, c.in_ok-put_number.ensures, c.in_ok-begin.ensures) (simp append_assoc cc)) c.end.ensures
