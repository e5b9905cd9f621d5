use Rattle.std.proofs.Common.{◌≡◌, ◌++◌, ◌∷◌, ◌∙◌, [], ap, sym, arith}
use Rattle.std.proofs.lemmas.Str.Pattern.{strip_suffix_char}
use Rattle.std.specs.Prelude.{None, Some}
use Rattle.am_config.specs.Matchers.{without_last}
use Rattle.am_config.proofs.Pieces.{last_cut, last_kept}
use Rattle.am_config.proofs.matchers.without_braces.Goals as goal

pub returns-in-None : goal.returns-in-None
returns-in-None c =
    let inner = c.without_opening-inner.result.now in
    last_kept 125 inner (strip_suffix_char 125 inner None c.in-None.ensures.cases (omega arith)) ∙ ap (without_last 125) c.without_opening-inner.ensures

pub returns-in-Some : goal.returns-in-Some
returns-in-Some c =
    let inner = c.without_opening-inner.result.now in
    let closed = c.in-Some.closed in
    let is : inner ≡ closed.now ++ 125 ∷ [] = strip_suffix_char 125 inner (Some closed) c.in-Some.ensures.cases (omega arith) in
    last_cut closed.now ∙ ap (without_last 125) (sym is ∙ c.without_opening-inner.ensures)
