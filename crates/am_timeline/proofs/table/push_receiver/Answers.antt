use Rattle.std.proofs.Common.{◌≡◌, ◌∙◌, ◌++◌, List, ℕ, ap, string_bytes}
use Rattle.std.proofs.lemmas.Result.{on_ok_weaker}
use Rattle.am_terms.specs.TimeFormatData.{TimeFormatData}
use Rattle.am_timeline.specs.Playback.{PlaybackData}
use Rattle.am_timeline.specs.Table.{receiver_line}
use Rattle.am_timeline.specs.Tally.{tally_line, tally_of}
use Rattle.am_timeline.proofs.Tallies.{line-is}
use Rattle.am_timeline.proofs.table.push_receiver.Goals as goal

pub returns : goal.returns
returns g c =
    let playback : PlaybackData = c.args.playback.now in
    let times : TimeFormatData = g.C.TimeFormat.times c.args.clock.now in
    let name : c.as_str-name.result.now ≡ c.args.receiver.now.name = c.as_str-name.ensures in
    let tally : c.tally_of-tally.result ≡ tally_of playback c.args.receiver.now.name playback.events =
    c.tally_of-tally.ensures ∙ c.requires c.as_str-name.result.now ∙ ap (λ (n : List ℕ). tally_of playback n playback.events) name in
    let line : tally_line times c.as_str-name.result.now c.tally_of-tally.result ≡ receiver_line playback times c.args.receiver.now =
    (λ i. tally_line times (name i) (tally i)) ∙ line-is playback times c.args.receiver.now in
    on_ok_weaker c.push_line.result (λ is. is ∙ ap (λ (l : List ℕ). string_bytes c.args.out.now ++ l) line) c.push_line.ensures
