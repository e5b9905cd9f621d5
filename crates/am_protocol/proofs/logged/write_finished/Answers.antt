use Rattle.std.proofs.Common.{◌∷◌, codes}
use Rattle.json.specs.Token.{key}
use Rattle.am_protocol.specs.Answer.{array, number_member}
use Rattle.am_protocol.specs.View.{row_tokens}
use Rattle.am_protocol.proofs.NamedPieces.{named_three}
use Rattle.am_protocol.proofs.logged.write_finished.Goals as goal

pub returns : goal.returns
returns c =
    named_three c.end.result c.begin.new.answer c.put_number.new.self c.put_number-2.new.self c.put_list.new.self c.end.new.answer c.args.answer.now
    (codes "finished") (number_member (codes "logged") c.args.finished.logged) (number_member (codes "removed") c.args.finished.removed)
    (key (codes "rows") ∷ array (row_tokens c.args.config.now) c.args.rows.now)
    c.in_ok-begin.ensures c.in_ok-put_number.ensures c.in_ok-put_number-2.ensures c.in_ok-put_list.ensures c.end.ensures
