use Rattle.std.proofs.Common.{◌≡◌, ◌∙◌, Some, ap, arith, sym}
use Rattle.serde_json.specs.Data.{no_members}
use Rattle.serde_json.specs.View.{members_view}
use Rattle.am_protocol.proofs.Members.{no_member}
use Rattle.am_protocol.proofs.Refusing.{some_members}
use Rattle.am_protocol.proofs.request.has_no_members.Goals as goal

pub returns-clause-none : goal.returns-clause-none
returns-clause-none c = λ _. sym c.in-Ok.ensures.members ∙ ap Some (no_member c.members-members.result.now.entries c.in-Ok.object.members c.members-members.ensures (omega arith))

pub returns-then-count-gt0-clause-some : goal.returns-then-count-gt0-clause-some
returns-then-count-gt0-clause-some c = λ is.
    let none : members_view c.in-Ok.object.members ≡ no_members = cc (c.in-Ok.ensures.members, is) in
    absurd (some_members c.members-members.result.now.entries c.in-Ok.object.members c.members-members.ensures (omega arith) none)
