use Rattle.std.proofs.Common.{◌≡◌, ◌∙◌, List, ℕ, ap, if◌then◌else◌}
use Rattle.std.specs.Str.{bytes_eq}
use Rattle.std.proofs.lemmas.Result.{on_ok_weaker}
use Rattle.am_timeline.specs.declared.tally.Tally.{Tally}
use Rattle.am_timeline.specs.Tally.{tally_in, with_notice}
use Rattle.am_timeline.proofs.Tallies.{changed-at}
use Rattle.am_timeline.proofs.tally.add_sent.Goals as goal

pub returns : goal.returns
returns c =
    let bs : List ℕ = c.receiver_of-name.result.now in
    let tally : List ℕ → Tally = tally_in c.args.tallies.now in
    let put : c.with_notice-tally.result ≡ with_notice c.args.sent.now (tally bs) =
    c.with_notice-tally.ensures ∙ ap (with_notice c.args.sent.now) c.tally_of.ensures in
    on_ok_weaker c.put.result
    (λ h name.
    h name
    ∙ ap (λ (t : Tally). if bytes_eq bs name then t else tally name) put
    ∙ changed-at bs name tally (with_notice c.args.sent.now)
    ∙ ap (λ (n : List ℕ). if bytes_eq n name then with_notice c.args.sent.now (tally name) else tally name) c.receiver_of-name.ensures)
    c.put.ensures
