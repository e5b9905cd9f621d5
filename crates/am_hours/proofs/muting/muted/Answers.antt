use Rattle.std.proofs.Common.{◌≡◌, ◌+◌, ℕ, List, length, map, vec_len, sym, ◌∙◌, arith}
use Rattle.std.proofs.lemmas.Grind.{common_steps}
use Rattle.std.specs.List.{sum_by}
use Rattle.am_alerts.specs.Spans.{is_muted}
use Rattle.am_alerts.specs.declared.spans.Span.{Span}
use Rattle.am_hours.specs.Muting.{is_muted_by_time}
use Rattle.am_hours.proofs.Late.{err_more, muted_as}
use Rattle.am_hours.proofs.muting.muted.Goals as goal

pub returns-clause-refused : goal.returns-clause-refused
returns-clause-refused c =
    let joined = c.in_ok-joined.joined in
    let mute : List (List Span) = map (λ s. s.now) c.args.mute.now in
    let active : List (List Span) = map (λ s. s.now) c.args.active.now in
    let same : (t : ℕ) → is_muted joined.items t ≡ is_muted_by_time c.args.horizon mute active t = λ t.
    muted_as c.args.horizon t mute active (is_muted c.in_ok-all_muted.all_muted.items t) (is_muted c.in_ok-open.open.items t)
    (is_muted c.in_ok-idle.idle.items t) (is_muted joined.items t)
    (grind (arith, common_steps)) (c.in_ok-all_muted.ensures.held t) (c.in_ok-open.ensures.held t)
    (grind (arith, common_steps)) (grind (arith, common_steps)) in
    err_more c.spans_of-2.result (vec_len joined)
    (sum_by (λ s. length s.now) c.args.mute.now + sum_by (λ s. length s.now) c.args.active.now + 1)
    (λ t. is_muted joined.items t) (λ t. is_muted_by_time c.args.horizon mute active t)
    (omega (arith, c.in_ok-joined.ensures.count, c.in_ok-all_muted.ensures.count, c.in_ok-idle.ensures.count, c.in_ok-open.ensures.count))
    (λ t h. sym (same t) ∙ h) c.spans_of-2.ensures.refused
