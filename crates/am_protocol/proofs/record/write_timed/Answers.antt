use Rattle.std.proofs.Common.{[], ◌∷◌, ◌++◌, append_assoc}
use Rattle.json.specs.Token.{end_object}
use Rattle.am_protocol.specs.Record.{timed_tokens}
use Rattle.am_protocol.proofs.Pieces.{last_piece}
use Rattle.am_protocol.proofs.record.write_timed.Goals as goal

pub returns : goal.returns
returns c =
    last_piece c.end.result c.end.new.answer c.put_number.new.self (end_object ∷ end_object ∷ []) (c.args.answer.now ++ timed_tokens c.args.name.now c.args.now)
    (rw (c.in_ok-put_number.ensures, c.in_ok-begin.ensures) (simp append_assoc)) c.end.ensures
