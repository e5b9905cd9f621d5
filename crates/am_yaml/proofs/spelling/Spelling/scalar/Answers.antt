use Rattle.std.proofs.Common.{◌∙◌, sym}
use Rattle.am_yaml.specs.Spelling.{plain, quoted}
use Rattle.am_yaml.proofs.Views.{view_string}
use Rattle.am_yaml.proofs.spelling.Spelling.scalar.Goals as goal

pub returns-then-is_quote : goal.returns-then-is_quote
returns-then-is_quote c = λ anchors.
    let text = rw (c.is_flow.ensures, c.floor_of.ensures) at c.in_ok-text.ensures in
    let quote = rw c.byte.ensures at (sym c.is_quote.ensures ∙ c.if-is_quote.true) in
    rw view_string (quoted _ _ _ _ _ _ _ _ c.in_ok-reach.ensures text quote)

pub returns-in-Some : goal.returns-in-Some
returns-in-Some c = λ anchors.
    let text = rw (c.is_flow.ensures, c.floor_of.ensures) at c.in_ok-text.ensures in
    let quote = rw c.byte.ensures at (sym c.is_quote.ensures ∙ c.if-is_quote.false) in
    let meant = rw c.meaning_at.ensures at c.in-Some.ensures in
    plain _ _ _ _ _ _ _ _ _ c.in_ok-reach.ensures text quote meant
