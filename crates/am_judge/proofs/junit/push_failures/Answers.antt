use Rattle.std.proofs.Common.{◌∙◌, List, ℕ, codes, string_bytes}
use Rattle.std.specs.Prelude.{decimal}
use Rattle.am_timeline.proofs.Appended.{two_added}
use Rattle.am_judge.proofs.junit.push_failures.Goals as goal

pub returns : goal.returns
returns c =
    let start : List ℕ = string_bytes c.args.out.now in
    let first : List ℕ = codes "\" failures=\"" in
    let number : List ℕ = decimal c.args.failures in
    let last : List ℕ = codes "\">\n" in
    c.in_ok-push_str-2.ensures.bytes
    ∙ two_added start first number last (string_bytes c.push_str.new.self) (string_bytes c.push_number.new.out) c.in_ok-push_str.ensures.bytes c.in_ok-push_number.ensures
