use Rattle.std.proofs.Common.{◌≡◌, ◌∙◌, List, [], ◌∷◌, ◌++◌, ℕ, ap, subst}
use Rattle.json.specs.Lex.{tokens}
use Rattle.json.specs.Print.{ArePrintableOrBad, print}
use Rattle.json.specs.Token.{Token}
use Rattle.json.proofs.Numbered.{ArePrintableOrBad-tokens}
use Rattle.am_protocol.proofs.OneLine.{print_plain}
use Rattle.am_protocol.proofs.answer.Answer.into_line.Goals as goal

-- tokens that are read back can be written
printable : (ts : List Token) → tokens (print ts) ≡ ts → ArePrintableOrBad ts
printable ts back = subst ArePrintableOrBad back (ArePrintableOrBad-tokens (print ts))

pub returns-clause-one : goal.returns-clause-one
returns-clause-one c =
    let ts : List Token = c.self.inside.writer.tokens in (
      print ts,
      print_plain ts (printable ts c.into_inner-line.ensures.reads_back),
      c.in_ok-push.ensures.items
          ∙ ap (λ (u : List ℕ). u ++ 10 ∷ []) (c.into_inner-line.ensures.items ∙ ap (λ (b : List ℕ). b ++ print ts) c.self.invariant),
    )
