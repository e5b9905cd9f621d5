use Rattle.std.proofs.Common.{◌≡◌, ◌∙◌, false, sym, arith}
use Rattle.std.proofs.lemmas.List.{take_all}
use Rattle.std.proofs.lemmas.List.Elements.{All-more, All-same}
use Rattle.am_pool.specs.Sendings.{IsNotStarved}
use Rattle.am_run.proofs.sending.none_starved.Goals as goal

pub loop-report-preserved : goal.loop-report-preserved
loop-report-preserved c =
    let all = c.args.reports.now in
    let i = c.loop-report.report-index in
    let fed : c.is_starved.result ≡ false = c.if-is_starved.false in
    All-more IsNotStarved all i _ (omega (arith, c.loop-report-test.true)) c.loop-report.invariant (sym c.is_starved.ensures ∙ fed)

pub returns : goal.returns
returns c _ =
    let all = c.args.reports.now in
    All-same IsNotStarved all _ (sym (take_all c.loop-report.report-index all (omega (arith, c.loop-report-test.false)))) c.loop-report.invariant
