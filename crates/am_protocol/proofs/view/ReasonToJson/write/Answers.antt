use Rattle.std.proofs.Common.{[], ◌∷◌, ◌++◌, append_assoc}
use Rattle.json.specs.Token.{end_object}
use Rattle.am_protocol.specs.View.{reason_tokens}
use Rattle.am_protocol.proofs.Pieces.{last_piece}
use Rattle.am_protocol.proofs.view.ReasonToJson.write.Goals as goal

pub returns : goal.returns
returns c =
    last_piece c.close.result c.close.new.self c.put_time.new.answer (end_object ∷ []) (c.args.answer.now ++ reason_tokens c.args.self.now)
    (rw (c.in_ok-put_time.ensures, c.in_ok-put_text.ensures, c.in_ok-put_flag.ensures, c.in_ok-open.ensures) (simp append_assoc cc)) c.close.ensures
