use Rattle.std.proofs.Common.{◌∷◌, codes}
use Rattle.json.specs.Token.{key}
use Rattle.am_protocol.specs.Answer.{number_member}
use Rattle.am_protocol.specs.View.{row_tokens}
use Rattle.am_protocol.proofs.NamedPieces.{named_pieces}
use Rattle.am_protocol.proofs.record.write_load.Goals as goal

pub returns : goal.returns
returns c =
    named_pieces c.end.result c.begin.new.answer c.put_number.new.self c.put.new.self c.end.new.answer c.args.answer.now
    (codes "load") (number_member (codes "now") c.args.now) (key (codes "row") ∷ row_tokens c.args.config.now c.args.row.now)
    c.in_ok-begin.ensures c.in_ok-put_number.ensures c.in_ok-put.ensures c.end.ensures
