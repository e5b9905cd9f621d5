use Rattle.std.proofs.Common.{◌≡◌, ◌<◌, true, false, is_some, length, Option, Some, None, sym, refl, ◌∙◌, arith, Bor}
use Rattle.std.specs.Option.{option_copied}
use Rattle.am_board.proofs.lemmas.invariant.Shown.{rows-added}
use Rattle.am_board.proofs.views.count_rows.Goals as goal
use Rattle.am_board.proofs.views.count_rows.Goals.{then-is_some, else-is_some}

is_some-copied : {X : Type 0} (o : Option (Bor X)) → is_some (option_copied o) ≡ is_some o
is_some-copied None = refl
is_some-copied (Some x) = refl

pub loop-i-preserved : goal.loop-i-preserved
loop-i-preserved c =
    let within : c.loop-i.i < length c.args.log.now = omega (arith, c.len-i-end.ensures.len, c.loop-i-test.true) in
    let fact : is_some (option_copied c.row.result.1) ≡ c.is_some.result = is_some-copied c.row.result.1 ∙ sym c.is_some.ensures in
    elim c.if-is_some.branch [
      | then-is_some w ↦
          let more = rows-added c.args.log.now c.loop-i.i c.row.result.0.now (option_copied c.row.result.1) true within c.row.ensures (fact ∙ w.if-is_some.true) in
          record { count = omega (arith, more, w.count-is, c.loop-i.invariant.count); within = omega (arith, w.count-is, c.loop-i.invariant.within) }
      | else-is_some w ↦
          let more = rows-added c.args.log.now c.loop-i.i c.row.result.0.now (option_copied c.row.result.1) false within c.row.ensures (fact ∙ w.if-is_some.false) in
          record { count = omega (arith, more, w.count-is, c.loop-i.invariant.count); within = omega (arith, w.count-is, c.loop-i.invariant.within) }
    ]
