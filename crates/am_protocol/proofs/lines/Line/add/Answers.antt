use Rattle.std.proofs.Common.{◌∙◌, ◌+◌, ◌++◌, ◌∷◌, List, ℕ, ap, take}
use Rattle.am_protocol.proofs.Splitting.{feed_there, plain_all, plain_before, to_end}
use Rattle.am_protocol.proofs.lines.Line.add.Goals as goal

pub returns-in-Some-clause-whole : goal.returns-in-Some-clause-whole
returns-in-Some-clause-whole c =
    let bytes = c.args.bytes.now in
    let n = c.in-Some.length in (
      take n bytes,
      feed_there bytes n c.in-Some.ensures.first ∙ ap (λ (ys : List ℕ). take n bytes ++ 10 ∷ ys) (to_end (n + 1) bytes),
      record { plain = plain_before bytes n c.in-Some.ensures.first; keeps = c.keep-self.ensures.kept },
    )

pub returns-in-None-2-clause-part : goal.returns-in-None-2-clause-part
returns-in-None-2-clause-part c = λ _. record { plain = plain_all c.args.bytes.now c.in-None.ensures.first; keeps = c.keep-self-in-None-2.ensures.kept }
