use Rattle.std.proofs.Common.{◌≡◌, ◌∙◌, ◌++◌, List, ℕ, ap, append_assoc, codes, decimal, string_bytes}
use Rattle.std.proofs.lemmas.Result.{on_ok_weaker}
use Rattle.am_render.specs.Head.{entries_word}
use Rattle.am_render.proofs.Tales.{when_ok}
use Rattle.am_render.proofs.head.push_of.Goals as goal

-- four texts that are added one after another
four : (o a b c d s t u v : List ℕ) → s ≡ o ++ a → t ≡ s ++ b → u ≡ t ++ c → v ≡ u ++ d → v ≡ o ++ (a ++ b ++ c ++ d)
four o a b c d s t u v one two three last =
    last ∙ ap (λ (x : List ℕ). x ++ d) (three ∙ ap (λ (x : List ℕ). x ++ c) (two ∙ ap (λ (x : List ℕ). x ++ b) one ∙ append_assoc o a b) ∙ append_assoc o (a ++ b) c)
    ∙ append_assoc o (a ++ b ++ c) d

pub returns : goal.returns
returns c =
    let numbered = string_bytes c.push_number.new.out in
    on_ok_weaker c.push_str-3.result
    (four (string_bytes c.args.out.now) (codes " of ") (decimal c.args.rows) (entries_word c.args.rows) (codes " taken over") (string_bytes c.push_str.new.self) numbered (string_bytes c.push_str-2.new.self) (string_bytes c.push_str-3.new.self)
    c.in_ok-push_str.ensures.bytes c.in_ok-push_number.ensures
    (c.in_ok-push_str-2.ensures.bytes ∙ ap (λ (w : List ℕ). numbered ++ w) c.entries_word.ensures))
    (when_ok c.push_str-3.result (string_bytes c.push_str-3.new.self) _ _ c.push_str-3.ensures.bytes)
