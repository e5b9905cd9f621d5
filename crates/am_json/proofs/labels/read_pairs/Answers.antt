use Rattle.std.proofs.Common.{◌≡◌, subst, sym}
use Rattle.std.specs.Prelude.{IfErr, IfOk}
use Rattle.serde_json.specs.View.{view}
use Rattle.am_json.specs.Configured.{DecodesToPairs}
use Rattle.am_json.specs.Read.{Excludes}
use Rattle.am_json.specs.declared.reader.Mode.{Mode}
use Rattle.am_json.specs.declared.reader.Mode.TheVariants.{Lenient, Strict}
use Rattle.am_json.proofs.labels.read_pairs.Goals as goal

pub returns-in-Lenient-clause-decoded : goal.returns-in-Lenient-clause-decoded
returns-in-Lenient-clause-decoded c =
    let mode : c.args.reader.now.mode ≡ Lenient = cc in
    subst (λ (d : Mode). IfOk c.read_lenient_pairs.result (λ pairs. DecodesToPairs d (view c.args.reader.now.value) pairs.items)) (sym mode)
    c.read_lenient_pairs.ensures.decoded

pub returns-in-Lenient-clause-refused : goal.returns-in-Lenient-clause-refused
returns-in-Lenient-clause-refused c =
    let mode : c.args.reader.now.mode ≡ Lenient = cc in
    subst (λ (d : Mode). IfErr c.read_lenient_pairs.result (Excludes (DecodesToPairs d (view c.args.reader.now.value)))) (sym mode)
    c.read_lenient_pairs.ensures.refused

pub returns-in-Strict-clause-decoded : goal.returns-in-Strict-clause-decoded
returns-in-Strict-clause-decoded c =
    let mode : c.args.reader.now.mode ≡ Strict = cc in
    subst (λ (d : Mode). IfOk c.read_strict_pairs.result (λ pairs. DecodesToPairs d (view c.args.reader.now.value) pairs.items)) (sym mode)
    c.read_strict_pairs.ensures.decoded

pub returns-in-Strict-clause-refused : goal.returns-in-Strict-clause-refused
returns-in-Strict-clause-refused c =
    let mode : c.args.reader.now.mode ≡ Strict = cc in
    subst (λ (d : Mode). IfErr c.read_strict_pairs.result (Excludes (DecodesToPairs d (view c.args.reader.now.value)))) (sym mode)
    c.read_strict_pairs.ensures.refused
