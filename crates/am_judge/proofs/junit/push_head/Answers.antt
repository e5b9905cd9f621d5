use Rattle.std.proofs.Common.{◌≡◌, ◌∙◌, ◌++◌, List, ℕ, ap, append_assoc, codes, string_bytes}
use Rattle.std.proofs.lemmas.Result.{on_ok_weaker}
use Rattle.am_judge.specs.Junit.{suite_counts}
use Rattle.am_judge.proofs.junit.push_head.Goals as goal

pub returns : goal.returns
returns c =
    let first : List ℕ = codes "<?xml version=\"1.0\" encoding=\"UTF-8\"?>\n<testsuite name=\"am-rehearse\" tests=\"" in
    let counts : List ℕ = suite_counts c.args.cases c.args.failures in
    let is_first : string_bytes c.push_str.new.self ≡ string_bytes c.args.out.now ++ first = c.in_ok-push_str.ensures.bytes in
    on_ok_weaker c.push_counts.result
    (λ (e : string_bytes c.push_counts.new.out ≡ string_bytes c.push_str.new.self ++ counts).
    e ∙ ap (λ (t : List ℕ). t ++ counts) is_first ∙ append_assoc (string_bytes c.args.out.now) first counts)
    c.push_counts.ensures
