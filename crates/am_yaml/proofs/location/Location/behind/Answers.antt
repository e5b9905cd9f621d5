use Rattle.std.proofs.Common.{◌+◌, ◌∙◌, ℕ, ap, sym, arith}
use Rattle.am_yaml.proofs.Locations.{line_behind-break, line_behind-other, column_behind-break, column_behind-other}
use Rattle.am_yaml.proofs.location.Location.behind.Goals as goal
use Rattle.am_yaml.proofs.location.Location.behind.Goals.{then-byte-eq10, else-byte-eq10}

pub loop-byte-preserved : goal.loop-byte-preserved
loop-byte-preserved c =
    let bytes = c.args.bytes.now in
    let i = c.loop-byte.byte-index in
    let so_far = c.loop-byte.invariant in
    let here = c.loop-byte-test.true in
    elim c.if-byte-eq10.branch [
      | then-byte-eq10 w ↦ (
        w.line-is ∙ ap (λ (n : ℕ). n + 1) so_far.0 ∙ sym (line_behind-break bytes i here w.if-byte-eq10.true),
        w.column-is ∙ sym (column_behind-break bytes i here w.if-byte-eq10.true),
        omega (arith, w.column-is),
        omega (arith, w.line-is, w.column-is, so_far.2, so_far.3),
      )
      | else-byte-eq10 w ↦ (
        w.line-is ∙ so_far.0 ∙ sym (line_behind-other bytes i here w.if-byte-eq10.false),
        w.column-is ∙ ap (λ (n : ℕ). n + 1) so_far.1 ∙ sym (column_behind-other bytes i here w.if-byte-eq10.false),
        omega (arith, w.column-is),
        omega (arith, w.line-is, w.column-is, so_far.2, so_far.3),
      )
    ]
