use Rattle.std.proofs.Common.{◌≡◌, ◌∙◌, ◌<◌, ℕ, List, ap, arith, get_or, length, subst, sym}
use Rattle.am_terms.specs.declared.event.Event.{Event}
use Rattle.am_timeline.specs.Playback.{PlaybackData}
use Rattle.am_timeline.specs.Tally.{CanGrow, tally_in, with_event}
use Rattle.am_timeline.proofs.Tallies.{tally-fits, tally-step}
use Rattle.am_timeline.proofs.tally.tallies.Goals as goal

pub add_event-requires : goal.add_event-requires
add_event-requires c =
    λ name.
    let playback : PlaybackData = c.args.playback.now in
    let same : c.playback.inside.events.now ≡ playback.events = ap (λ (p : PlaybackData). p.events) c.playback.view_is in
    let count : length c.playback.inside.events.now ≡ length playback.events = ap (λ (xs : List Event). length xs) same in
    let inside : c.loop-event.event-index < length playback.events = omega arith in
    subst (λ (n : ℕ). CanGrow n (tally_in c.loop-event.tallies name)) (sym count)
    (subst (CanGrow (length playback.events)) (sym (c.loop-event.invariant name)) (tally-fits playback name c.loop-event.event-index inside))

pub loop-event-preserved : goal.loop-event-preserved
loop-event-preserved c =
    λ name.
    let playback : PlaybackData = c.args.playback.now in
    let i : ℕ = c.loop-event.event-index in
    let e : Event = c.event-item.result in
    let same : c.playback.inside.events.now ≡ playback.events = ap (λ (p : PlaybackData). p.events) c.playback.view_is in
    let count : length c.playback.inside.events.now ≡ length playback.events = ap (λ (xs : List Event). length xs) same in
    let inside : i < length playback.events = omega arith in
    let is : e ≡ get_or playback.events i e = c.event-item.is ∙ ap (λ (xs : List Event). get_or xs i e) same in
    c.in_ok-add_event.ensures name ∙ ap (with_event playback name e) (c.loop-event.invariant name) ∙ tally-step playback name i e inside is
