use Rattle.std.proofs.Common.{◌∷◌, codes}
use Rattle.json.specs.Token.{key}
use Rattle.am_protocol.specs.View.{row_tokens}
use Rattle.am_protocol.proofs.Pieces.{named_piece}
use Rattle.am_protocol.proofs.logged.write_noted.Goals as goal

pub returns : goal.returns
returns c =
    named_piece c.end.result c.begin.new.answer c.put.new.self c.end.new.answer c.args.answer.now
    (codes "noted") (key (codes "row") ∷ row_tokens c.args.config.now c.args.row.now)
    c.in_ok-begin.ensures c.in_ok-put.ensures c.end.ensures
