use Rattle.std.proofs.Common.{[], ◌∷◌, ◌++◌, append_assoc}
use Rattle.json.specs.Token.{end_object}
use Rattle.am_protocol.specs.Record.{report_tokens}
use Rattle.am_protocol.proofs.Pieces.{last_piece}
use Rattle.am_protocol.proofs.record.write_report.Goals as goal

pub returns : goal.returns
returns c =
    last_piece c.close.result c.close.new.self c.write_outcome.new.answer (end_object ∷ []) (c.args.answer.now ++ report_tokens c.args.integration c.args.outcome)
    (rw (c.in_ok-write_outcome.ensures, c.in_ok-key.ensures, c.in_ok-put_number.ensures, c.in_ok-open.ensures) (simp append_assoc cc)) c.close.ensures
