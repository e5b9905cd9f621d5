use Rattle.std.proofs.Common.{◌≡◌, ◌∙◌, ℕ, ap, refl, subst}
use Rattle.std.proofs.lemmas.Result.{err_from_is_err_and}
use Rattle.am_model.specs.declared.config.Config.{Config}
use Rattle.am_model.specs.Replay.{IsLegal}
use Rattle.am_desk.specs.declared.word.Terms.{Terms}
use Rattle.am_run.specs.Report.{report_text}
use Rattle.am_run.proofs.run.report_on_run.Goals as goal

pub returns-clause-report : goal.returns-clause-report
returns-clause-report g c =
    let run = c.args.run in
    let closed = c.in_ok-closed.closed in
    let config : closed.config ≡ g.N.Name.terms.config = ap (λ (t : Terms). t.config) c.in_ok-closed.ensures.terms in
    let id : closed.id ≡ g.N.Name.terms.id = ap (λ (t : Terms). t.id) c.in_ok-closed.ensures.terms in
    let reports : c.in_ok-closed.reports ≡ run.reports = c.in_ok-closed.ensures.reports in
    record {
      history = closed.history;
      legal =
          subst (λ (k : Config). IsLegal k g.N.Name.terms.id closed.history) config (subst (λ (n : ℕ). IsLegal closed.config n closed.history) id c.report_of_closed.ensures.legal);
      is =
          c.in_ok-report_of_closed.ensures.text
          ∙ (ap (λ (k : Config). report_text k c.in_ok-closed.reports.items closed.history) config
          ∙ ap (λ rs. report_text g.N.Name.terms.config rs.items closed.history) reports);
      main = c.in_ok-closed.ensures.main;
      lanes = c.in_ok-closed.ensures.lanes;
      others = c.in_ok-closed.ensures.others;
    }

pub returns-in_err-report_of_closed-clause-refused : goal.returns-in_err-report_of_closed-clause-refused
returns-in_err-report_of_closed-clause-refused g c =
    let p = err_from_is_err_and c.from_residual-in_err-report_of_closed.result c.from_residual-in_err-report_of_closed.ensures.1 in
    rw (p.1, p.2) refl
