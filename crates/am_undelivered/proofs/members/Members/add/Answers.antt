use Rattle.std.proofs.Common.{◌∙◌}
use Rattle.am_undelivered.proofs.Groups.{member_more}
use Rattle.am_undelivered.specs.Sets.{is_among}
use Rattle.am_undelivered.specs.Spans.{held}
use Rattle.am_undelivered.proofs.members.Members.add.Goals as goal

pub invariant_of-self-in-Ok : goal.invariant_of-self-in-Ok
invariant_of-self-in-Ok c =
    λ name l.
    member_more c.self.inside.config.now name c.args.labels.now l c.self.inside.added c.add.new.self c.as_slice.result.now
    (is_among l (held c.self.inside.lists name)) (is_among l (held c.add_to_all.new.lists name))
    (c.self.invariant name l) c.in_ok-add.ensures.added (c.as_slice.ensures.value ∙ c.in_ok-positions.ensures.value)
    (c.in-Ok.ensures name l)
