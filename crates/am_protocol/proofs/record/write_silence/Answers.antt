use Rattle.std.proofs.Common.{[], ◌∷◌, ◌++◌, append_assoc}
use Rattle.json.specs.Token.{end_object}
use Rattle.am_protocol.specs.Record.{silence_tokens}
use Rattle.am_protocol.proofs.Pieces.{last_piece}
use Rattle.am_protocol.proofs.record.write_silence.Goals as goal

pub returns : goal.returns
returns c =
    last_piece c.end.result c.end.new.answer c.put_list.new.self (end_object ∷ end_object ∷ []) (c.args.answer.now ++ silence_tokens c.args.now c.args.id c.args.matchers.now c.args.times.0 c.args.times.1)
    (rw (c.in_ok-put_list.ensures, c.in_ok-put_number-4.ensures, c.in_ok-put_number-3.ensures, c.in_ok-put_number-2.ensures, c.in_ok-put_number.ensures, c.in_ok-begin.ensures) (simp append_assoc)) c.end.ensures
