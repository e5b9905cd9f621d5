use Rattle.std.proofs.Common.{◌≡◌, ◌∙◌, ◌≤◌, ◌&&◌, Bool, true, false, ℕ, sym, below_more}
use Rattle.am_yaml.specs.Spelling.{begins_line, is_marker}
use Rattle.am_yaml.proofs.spelling.Spelling.no_marker.Goals as goal

other_is_false : (a b : Bool) → (a && b) ≡ false → a ≡ true → b ≡ false
other_is_false true b none is = none
other_is_false false b none is = cc

pub loop-at-preserved : goal.loop-at-preserved
loop-at-preserved c = λ k low high begins.
    let text = c.args.self.now.text.now in
    below_more (λ (k : ℕ). c.args.from ≤ k → begins_line text k ≡ true → is_marker text k ≡ false) _
    (λ k h l. c.loop-at.invariant k l h)
    (λ l b. other_is_false _ _ (sym c.is_line_marker.ensures ∙ c.if-is_line_marker.false) b)
    k high low begins
