use Rattle.std.proofs.Common.{◌≡◌, ◌∙◌, arith, length, sym, vec_len}
use Rattle.std.proofs.lemmas.Bool.{eqb-true}
use Rattle.serde_json.specs.View.{view}
use Rattle.am_protocol.proofs.CheckedParts.{not_none}
use Rattle.am_protocol.proofs.check.read_matchers.Goals as goal

pub returns-then-is_empty-clause-refused : goal.returns-then-is_empty-clause-refused
returns-then-is_empty-clause-refused c refusal x is =
    let ms = c.in_ok-matchers.matchers in
    let counted : vec_len ms ≡ 0 = eqb-true (vec_len ms) 0 (sym c.is_empty.ensures ∙ c.if-is_empty.true) in
    let none : length ms.items ≡ 0 = omega (arith, counted, ms.ok.0) in
    not_none c.args.reader.now.mode (view c.args.reader.now.value) ms.items x c.in_ok-matchers.ensures.decoded none is.0 is.1
