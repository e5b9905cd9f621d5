use Rattle.std.proofs.Common.{◌≡◌, ◌∙◌, ◌++◌, List, [], ℕ, ap, codes, length, string_bytes}
use Rattle.am_judge.specs.Expectation.{unmet_from}
use Rattle.am_judge.specs.Junit.{cases_text, suite_head}
use Rattle.am_judge.proofs.junit.junit_text.Goals as goal

pub returns : goal.returns
returns g c =
    let playbacks = c.args.judged.now.playbacks.now in
    let times = g.C.TimeFormat.times c.args.clock.now in
    let xs = c.args.judged.now.expectations.now in
    let unmet = c.in_ok-unmet.unmet in
    let head : List ℕ = suite_head (length xs) (length (unmet_from playbacks 0 xs)) in
    let cases : List ℕ = cases_text playbacks times 0 xs in
    let fails : unmet.len ≡ length (unmet_from playbacks 0 xs) = unmet.ok.0 ∙ ap length c.in_ok-unmet.ensures in
    let is_head : string_bytes c.push_head.new.out ≡ string_bytes c.new-out.result ++ head =
    c.in_ok-push_head.ensures
    ∙ ap (λ (n : ℕ). string_bytes c.new-out.result ++ suite_head (length xs) n) (c.len.ensures ∙ fails) in
    let from_none : string_bytes c.push_head.new.out ≡ [] ++ head = is_head ∙ ap (λ (t : List ℕ). t ++ head) c.new-out.ensures.bytes in
    c.in_ok-push_str.ensures.bytes
    ∙ ap (λ (t : List ℕ). t ++ codes "</testsuite>\n") (c.in_ok-push_cases.ensures ∙ ap (λ (t : List ℕ). t ++ cases) from_none)
