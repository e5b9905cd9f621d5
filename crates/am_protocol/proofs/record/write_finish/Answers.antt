use Rattle.std.proofs.Common.{[], ◌∷◌, ◌++◌, append_assoc}
use Rattle.json.specs.Token.{end_object}
use Rattle.am_protocol.specs.Record.{finish_tokens}
use Rattle.am_protocol.proofs.Pieces.{last_piece}
use Rattle.am_protocol.proofs.record.write_finish.Goals as goal

pub returns : goal.returns
returns c =
    last_piece c.end.result c.end.new.answer c.put_list.new.self (end_object ∷ end_object ∷ []) (c.args.answer.now ++ finish_tokens c.args.now c.args.ticket c.args.outcomes.now)
    (rw (c.in_ok-put_list.ensures, c.in_ok-put_number-2.ensures, c.in_ok-put_number.ensures, c.in_ok-begin.ensures) (simp append_assoc)) c.end.ensures
