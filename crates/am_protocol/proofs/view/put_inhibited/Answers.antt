use Rattle.std.proofs.Common.{◌∷◌, ◌++◌, append_assoc, codes}
use Rattle.json.specs.Token.{key}
use Rattle.am_protocol.specs.Answer.{labels_tokens}
use Rattle.am_protocol.specs.View.{inhibited_members}
use Rattle.am_protocol.proofs.Pieces.{last_piece}
use Rattle.am_protocol.proofs.view.put_inhibited.Goals as goal

pub returns : goal.returns
returns c =
    last_piece c.put.result c.put.new.self c.put_number.new.self (key (codes "by") ∷ labels_tokens c.args.by.now) (c.args.answer.now ++ inhibited_members c.args.rule c.args.by.now)
    (rw (c.in_ok-put_number.ensures, c.in_ok-put_text.ensures) (simp append_assoc)) c.put.ensures
