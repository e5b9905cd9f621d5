use Rattle.std.proofs.Common.{◌≡◌, ◌≤◌, ◌+◌, ◌++◌, vec_len, ◌-◌}
use Rattle.am_json.proofs.transfer.read_all.Given as goal

-- each read so far gave at least one byte and didn't fail
abbrev pub invariant-loop-given : goal.invariant-loop-given
invariant-loop-given g l =
    (vec_len l.input ≤ l.most)
    × (g.S.Source.given l.source ≡ g.S.Source.given l.fn.source ++ l.input.items)
    × (g.S.Source.failed l.source ≡ g.S.Source.failed l.fn.source)
    × (g.S.Source.ended l.source ≡ g.S.Source.ended l.fn.source)
    × (g.S.Source.reads l.source ≤ g.S.Source.reads l.fn.source + vec_len l.input)

abbrev pub decreases-loop-given : goal.decreases-loop-given
decreases-loop-given g l = l.most + 1 - vec_len l.input
