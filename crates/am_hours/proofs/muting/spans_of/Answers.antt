use Rattle.std.proofs.Common.{◌≡◌, inl, inr, refl, subst, sym, vec_len, arith}
use Rattle.std.specs.Prelude.{◌⊎◌, IfErr, IfSome, List, Option, None, Some, Result, Ok, Err}
use Rattle.am_alerts.specs.declared.spans.Span.{Span}
use Rattle.am_alerts.specs.declared.spans.SpansFault.{SpansFault}
use Rattle.am_alerts.specs.declared.spans.SpansFault.TheVariants.{NoMemory}
use Rattle.am_alerts.specs.Spans.{spans_fault}
use Rattle.am_hours.proofs.Late.{no_spans}
use Rattle.am_hours.proofs.muting.spans_of.Goals as goal

-- spans are refused for lack of memory, or for what is wrong with them
refused_for : (cause : Option SpansFault) (r : Result (List Span) SpansFault) → IfSome cause (λ f. r ≡ Err f)
    → (cause ≡ None → IfErr r (λ x. x ≡ NoMemory)) → IfErr r (λ x. (x ≡ NoMemory) ⊎ (cause ≡ Some x))
refused_for None (Ok s) refused others = tt
refused_for None (Err x) refused others = inl (others refl)
refused_for (Some f) r refused others =
    subst (λ (q : Result (List Span) SpansFault). IfErr q (λ x. (x ≡ NoMemory) ⊎ (Some f ≡ Some x))) (sym refused) (inr refl)

pub returns-in-Err-clause-refused : goal.returns-in-Err-clause-refused
returns-in-Err-clause-refused c =
    no_spans (vec_len c.args.list) c.args.list.items c.in-Err.fault c.from.result c.from.ensures c.requires.apart
    (omega (arith, c.requires.few))
    (refused_for (spans_fault c.args.list.items) (Err c.in-Err.fault) c.in-Err.ensures.refused c.in-Err.ensures.others)
