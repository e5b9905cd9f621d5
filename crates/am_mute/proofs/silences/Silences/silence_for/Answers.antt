use Rattle.std.proofs.Common.{◌≡◌, true≢false, is_some, sym, ap, ◌∙◌}
use Rattle.am_mute.specs.Matching.{silences_compare_texts}
use Rattle.am_mute.specs.Mute.{silence_for}
use Rattle.am_mute.specs.Silence.{SilenceData, silence_mutes}
use Rattle.am_mute.specs.Silences.{SilenceList}
use Rattle.am_mute.proofs.Firsts.{is_some-find}
use Rattle.am_mute.proofs.FirstSilences.{silence-here, silence-none}
use Rattle.am_mute.proofs.silences.Silences.silence_for.Goals as goal
use Rattle.am_mute.proofs.silences.Silences.silence_for.Goals.{In_ok-first}

-- the silences of the list
items : (c : In_ok-first) → c.as_slice-silences.result.now ≡ c.args.self.now.items
items c = c.as_slice-silences.ensures.value ∙ ap (λ (s : SilenceList). s.items) c.self.view_is

pub returns-then-first-silences-clause-value : goal.returns-then-first-silences-clause-value
returns-then-first-silences-clause-value c =
    let at = (goal.at.returns-then-first-silences-clause-value c).In_ok-first in
    sym (ap (silence_for c.args.labels.now c.args.t) (sym (items at))
    ∙ silence-here c.args.labels.now c.args.t c.as_slice-silences.result.now c.in_ok-first.first c.in_ok-first.ensures.first
    c.index-silences-first.result c.if-first-silences.true c.index-silences-first.is)

pub returns-clause-value : goal.returns-clause-value
returns-clause-value c =
    let at = (goal.at.returns-clause-value c).In_ok-first in
    sym (ap (silence_for c.args.labels.now c.args.t) (sym (items at))
    ∙ silence-none c.args.labels.now c.args.t c.as_slice-silences.result.now c.in_ok-first.first c.in_ok-first.ensures.first
    c.if-first-silences.false)

pub returns-clause-some : goal.returns-clause-some
returns-clause-some c =
    let at = (goal.at.returns-clause-some c).In_ok-first in
    ap is_some (sym (ap (silence_for c.args.labels.now c.args.t) (sym (items at))
    ∙ silence-none c.args.labels.now c.args.t c.as_slice-silences.result.now c.in_ok-first.first c.in_ok-first.ensures.first
    c.if-first-silences.false))
    ∙ is_some-find (λ (s : SilenceData). silence_mutes s c.args.t c.args.labels.now) c.args.self.now.items

pub returns-in_err-first-clause-answers : goal.returns-in_err-first-clause-answers
returns-in_err-first-clause-answers c all =
    absurd (true≢false (sym (c.in_err-first.ensures.answers
    (ap silences_compare_texts (c.as_slice-silences.ensures.value ∙ ap (λ (s : SilenceList). s.items) c.self.view_is) ∙ all))))
