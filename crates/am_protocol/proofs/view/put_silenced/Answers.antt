use Rattle.std.proofs.Common.{◌++◌, append_assoc, codes}
use Rattle.am_protocol.specs.Answer.{number_member}
use Rattle.am_protocol.specs.View.{silenced_members}
use Rattle.am_protocol.proofs.Pieces.{last_piece}
use Rattle.am_protocol.proofs.view.put_silenced.Goals as goal

pub returns : goal.returns
returns c =
    last_piece c.put_number-2.result c.put_number-2.new.self c.put_number.new.self (number_member (codes "until") c.args.until) (c.args.answer.now ++ silenced_members c.args.id c.args.until)
    (rw (c.in_ok-put_number.ensures, c.in_ok-put_text.ensures) (simp append_assoc)) c.put_number-2.ensures
