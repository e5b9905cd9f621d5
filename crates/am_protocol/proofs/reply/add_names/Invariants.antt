use Rattle.std.proofs.Common.{◌≡◌, ◌++◌, take}
use Rattle.std.specs.List.{flat_map}
use Rattle.am_protocol.specs.Reply.{route_name_tokens}
use Rattle.am_protocol.proofs.reply.add_names.Given as goal

-- the names so far were added
abbrev pub invariant-loop-child : goal.invariant-loop-child
invariant-loop-child l = l.answer ≡ l.fn.answer ++ flat_map (λ c. route_name_tokens c.route) (take l.child-index l.children)
