use Rattle.std.proofs.Common.{arith, length}
use Rattle.am_protocol.proofs.Members.{many_members, no_member, no_members_count, none_found, one_member}
use Rattle.am_protocol.proofs.call.only_member.Goals as goal

pub returns-then-count-gt1-clause-refused : goal.returns-then-count-gt1-clause-refused
returns-then-count-gt1-clause-refused c =
    many_members c.members-members.result.now.entries c.args.line.now.members c.refuse.result c.members-members.ensures (omega arith) c.refuse.ensures

pub returns-in-Some-clause-one : goal.returns-in-Some-clause-one
returns-in-Some-clause-one c =
    one_member c.members-members.result.now.entries c.args.line.now.members (c.in-Some.name.now, c.in-Some.value.now) c.as_str.result.now
    c.members-members.ensures c.in-Some.ensures.first (omega arith) c.as_str.ensures.value

pub returns-in-None-clause-refused : goal.returns-in-None-clause-refused
returns-in-None-clause-refused c =
    no_members_count c.args.line.now.members c.refuse-in-None.result (no_member c.members-members.result.now.entries c.args.line.now.members c.members-members.ensures (none_found c.first_key_value.result (length c.members-members.result.now.entries) c.in-None.is c.first_key_value.ensures.variant.1)) c.refuse-in-None.ensures
