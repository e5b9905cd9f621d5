use Rattle.std.proofs.Common.{[], ◌∷◌, ◌++◌, append_assoc}
use Rattle.json.specs.Token.{end_array}
use Rattle.am_protocol.specs.Reply.{ignored_members}
use Rattle.am_protocol.proofs.Pieces.{last_piece}
use Rattle.am_protocol.proofs.reply.put_ignored.Goals as goal

pub returns : goal.returns
returns c =
    last_piece c.close_list.result c.close_list.new.self c.write_ignored.new.answer (end_array ∷ []) (c.args.answer.now ++ ignored_members c.args.ignored.now)
    (rw (c.in_ok-write_ignored.ensures, c.in_ok-open_list.ensures, c.in_ok-key.ensures) (simp append_assoc)) c.close_list.ensures
