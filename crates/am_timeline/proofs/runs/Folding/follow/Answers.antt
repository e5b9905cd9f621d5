use Rattle.std.proofs.Common.{◌≡◌, ◌∙◌, ℕ, List, ap, subst}
use Rattle.std.specs.Prelude.{slice_get}
use Rattle.am_timeline.specs.Runs.{IsComparedAs, are_same_lines, lines_by}
use Rattle.am_timeline.proofs.Likeness.{lines-kept}
use Rattle.am_timeline.proofs.runs.Folding.follow.Goals as goal

pub returns-then-is_compared_as-clause-like : goal.returns-then-is_compared_as-clause-like
returns-then-is_compared_as-clause-like g c =
    let times = g.C.TimeFormat.times c.args.self.now.print.clock.now in
    let playback = c.args.self.now.print.playback.now in
    let begin = c.args.begin.now in
    let last = c.args.last.now in
    let index : c.last.inside.index ≡ last.0 = ap (λ l. l.0) c.last.view_is in
    let compared : IsComparedAs c.args.self.now.all playback begin last.0 =
    subst (λ (p : ℕ). IsComparedAs c.args.self.now.all playback begin p) index (c.is_compared_as.ensures c.if-is_compared_as.true) in
    let lines : last.1.0 ≡ lines_by c.args.self.now.all playback times begin =
    lines-kept (lines_by c.args.self.now.all playback times) (slice_get playback.begins last.0) last.1.0 _ c.requires (compared times) in
    c.follow_alike.ensures.like ∙ ap (λ (l : List ℕ). are_same_lines last.1.0 l) lines

pub returns-then-is_compared_as-clause-last : goal.returns-then-is_compared_as-clause-last
returns-then-is_compared_as-clause-last g c =
    let times = g.C.TimeFormat.times c.args.self.now.print.clock.now in
    let playback = c.args.self.now.print.playback.now in
    let begin = c.args.begin.now in
    let last = c.args.last.now in
    let index : c.last.inside.index ≡ last.0 = ap (λ l. l.0) c.last.view_is in
    let compared : IsComparedAs c.args.self.now.all playback begin last.0 =
    subst (λ (p : ℕ). IsComparedAs c.args.self.now.all playback begin p) index (c.is_compared_as.ensures c.if-is_compared_as.true) in
    let lines : last.1.0 ≡ lines_by c.args.self.now.all playback times begin =
    lines-kept (lines_by c.args.self.now.all playback times) (slice_get playback.begins last.0) last.1.0 _ c.requires (compared times) in
    c.follow_alike.ensures.last ∙ ap (λ (l : List ℕ). (c.args.index, (l, last.1.1))) lines
