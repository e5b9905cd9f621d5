use Rattle.std.proofs.Common.{[], ◌∷◌, ◌++◌, append_assoc}
use Rattle.json.specs.Token.{end_object}
use Rattle.am_protocol.specs.Status.{route_status_tokens}
use Rattle.am_protocol.proofs.Pieces.{last_piece}
use Rattle.am_protocol.proofs.status.RouteStatusToJson.write.Goals as goal

pub returns : goal.returns
returns c =
    last_piece c.close.result c.close.new.self c.put_optional.new.answer (end_object ∷ []) (c.args.answer.now ++ route_status_tokens c.args.config.now c.args.self.now)
    (rw (c.in_ok-put_optional.ensures, c.in_ok-put_text.ensures, c.in_ok-open.ensures) (simp append_assoc cc)) c.close.ensures
