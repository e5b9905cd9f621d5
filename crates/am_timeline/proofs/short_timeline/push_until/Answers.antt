use Rattle.std.proofs.Common.{◌≡◌, ◌∙◌, ◌++◌, List, ℕ, ap, append_assoc, codes, string_bytes}
use Rattle.std.proofs.lemmas.Result.{on_ok_weaker}
use Rattle.am_timeline.proofs.short_timeline.push_until.Goals as goal

pub returns : goal.returns
returns g c =
    let text : List ℕ = (g.C.TimeFormat.times c.args.clock.now).text c.args.until in
    let first : string_bytes c.push_str.new.self ≡ string_bytes c.args.out.now ++ codes " flushes until " = c.in_ok-push_str.ensures.bytes in
    on_ok_weaker c.push_time.result
    (λ (e : string_bytes c.push_time.new.out ≡ string_bytes c.push_str.new.self ++ text).
    e ∙ ap (λ (t : List ℕ). t ++ text) first ∙ append_assoc (string_bytes c.args.out.now) (codes " flushes until ") text)
    c.push_time.ensures
