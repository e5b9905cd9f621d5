use Rattle.std.proofs.Common.{◌∷◌, codes}
use Rattle.std.specs.Option.{option_copied}
use Rattle.json.specs.Token.{key}
use Rattle.am_protocol.specs.Answer.{group_tokens, number_member}
use Rattle.am_protocol.specs.Begun.{why_members}
use Rattle.am_protocol.proofs.NamedPieces.{named_three}
use Rattle.am_protocol.proofs.begun.write_quiet.Goals as goal

pub returns : goal.returns
returns c =
    named_three c.end.result c.begin.new.answer c.put.new.self c.put_number.new.self c.put_why.new.answer c.end.new.answer c.args.answer.now
    (codes "quiet") (key (codes "group") ∷ group_tokens c.args.config.now c.args.group.now) (number_member (codes "removed") c.args.removed)
    (why_members (option_copied c.args.preview))
    c.in_ok-begin.ensures c.in_ok-put.ensures c.in_ok-put_number.ensures c.in_ok-put_why.ensures c.end.ensures
