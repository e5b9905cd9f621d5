use Rattle.std.proofs.Common.{◌≡◌, rules}
use Rattle.std.specs.Result.{IfErr}
use Rattle.am_dispatch.specs.declared.fault.ServeFault.TheVariants.{Unwritable}
use Rattle.am_dispatch.proofs.Sending.{answered_echo, answered_text, broken_begun, broken_echo, broken_text}
use Rattle.am_dispatch.proofs.serve.answer.Goals as goal

pub returns-then-is_echoed-clause-answered : goal.returns-then-is_echoed-clause-answered
returns-then-is_echoed-clause-answered g c =
    answered_echo _ _ _ _ _ _ _ _ c.as_slice-text.ensures.value (c.is_echoed.ensures.echoed c.if-is_echoed.true) c.in_ok-write_all.ensures.whole
    c.write_all-then-is_echoed.ensures.whole

pub returns-then-is_echoed-clause-broken : goal.returns-then-is_echoed-clause-broken
returns-then-is_echoed-clause-broken g c =
    broken_echo _ _ _ _ _ _ _ _ c.as_slice-text.ensures.value (c.is_echoed.ensures.echoed c.if-is_echoed.true) c.in_ok-write_all.ensures.whole
    c.write_all-then-is_echoed.ensures.part c.write_all-then-is_echoed.ensures.fault

pub returns-clause-broken : goal.returns-clause-broken
returns-clause-broken g c =
    broken_text _ _ _ _ _ _ _ _ _ _ c.as_slice-text.ensures.value c.bytes.ensures c.answer_read-answer.ensures.answered c.write_all-2.ensures.part
    c.write_all-2.ensures.fault

pub returns-in_err-write_all-clause-broken : goal.returns-in_err-write_all-clause-broken
returns-in_err-write_all-clause-broken g c =
    let cause : IfErr c.from_residual.result (λ fault. fault ≡ Unwritable) = search (rules, c.in_err-write_all.ensures.fault) in
    broken_begun c.from_residual.result _ _ _ _ _ _ c.as_slice-text.ensures.value (c.is_echoed.ensures.echoed c.if-is_echoed.true)
    c.in_err-write_all.ensures.part cause

pub returns-clause-answered : goal.returns-clause-answered
returns-clause-answered g c =
    answered_text _ _ _ _ _ _ _ _ _ _ c.as_slice-text.ensures.value c.bytes.ensures c.answer_read-answer.ensures.answered c.write_all-2.ensures.whole
