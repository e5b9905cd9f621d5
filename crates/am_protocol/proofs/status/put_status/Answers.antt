use Rattle.std.proofs.Common.{◌∷◌, ◌++◌, append_assoc, codes}
use Rattle.json.specs.Token.{key}
use Rattle.am_protocol.specs.Answer.{array}
use Rattle.am_protocol.specs.Status.{route_status_tokens, status_members}
use Rattle.am_protocol.proofs.Pieces.{last_piece}
use Rattle.am_protocol.proofs.status.put_status.Goals as goal

pub returns : goal.returns
returns c =
    last_piece c.put_list-2.result c.put_list-2.new.self c.put_list.new.self (key (codes "routes") ∷ array (route_status_tokens c.args.config.now) c.args.routes.now) (c.args.answer.now ++ status_members c.args.config.now c.args.time c.args.mutes.now c.args.routes.now)
    (rw (c.in_ok-put_list.ensures, c.in_ok-put_number.ensures) (simp append_assoc)) c.put_list-2.ensures
