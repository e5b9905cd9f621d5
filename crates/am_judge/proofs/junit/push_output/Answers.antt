use Rattle.std.proofs.Common.{◌∙◌, List, ℕ, codes, string_bytes}
use Rattle.am_timeline.specs.Escaped.{escaped}
use Rattle.am_timeline.proofs.Appended.{two_added}
use Rattle.am_judge.proofs.junit.push_output.Goals as goal

pub returns : goal.returns
returns c =
    let start : List ℕ = string_bytes c.args.out.now in
    let first : List ℕ = codes "><system-out>\n" in
    let text : List ℕ = escaped c.args.text.now in
    let last : List ℕ = codes "</system-out></testcase>\n" in
    c.in_ok-push_str-2.ensures.bytes
    ∙ two_added start first text last (string_bytes c.push_str.new.self) (string_bytes c.push_escaped.new.out) c.in_ok-push_str.ensures.bytes c.in_ok-push_escaped.ensures
