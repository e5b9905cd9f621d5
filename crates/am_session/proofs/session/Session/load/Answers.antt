use Rattle.std.proofs.Common.{[], inl, inr, ℕ, Ok, refl}
use Rattle.am_model.specs.declared.fault.LoadFault.TheVariants.{NoIntegration}
use Rattle.am_protocol.specs.declared.request.Request.TheVariants.{Load}
use Rattle.am_session.proofs.Leaving.{lacks_row, load_unmade, made_all, row_found, unmade_leaves}
use Rattle.am_session.proofs.Making.{loads, made}
use Rattle.am_session.proofs.session.Session.load.Goals as goal

pub returns-in-Ok-clause-answered : goal.returns-in-Ok-clause-answered
returns-in-Ok-clause-answered c =
    loads _ _ _ _ _ _ _
    (row_found c.args.self.now c.args.loading _ _ _ c.config.ensures.config c.in_ok-row.ensures c.in-Some.is)
    (made _ _ _ _ _ _ _ c.in-Ok.ensures.reply c.in-Ok.ensures.recorded c.answer_with.ensures.answered)

pub returns-in-Ok-clause-refused : goal.returns-in-Ok-clause-refused
returns-in-Ok-clause-refused c =
    let is = row_found c.args.self.now c.args.loading _ _ _ c.config.ensures.config c.in_ok-row.ensures c.in-Some.is in
    made_all _ c.args.self.now _ (Load c.args.loading) _ _
    (λ tokens makes. (loads {T = ℕ} {E = ℕ} (Ok 0) _ _ c.args.loading _ [] tokens is makes, refl)) (λ e. absurd (cc))
    c.in-Ok.ensures.reply c.in-Ok.ensures.recorded c.answer_with.ensures.untold

pub returns-in-Err-clause-refused : goal.returns-in-Err-clause-refused
returns-in-Err-clause-refused c =
    unmade_leaves _ c.args.self.now _ (Load c.args.loading) (load_unmade _ _ c.of_load-in-Err.ensures)
    (inr (inr record {
      row = _;
      named = row_found c.args.self.now c.args.loading _ _ _ c.config.ensures.config c.in_ok-row.ensures c.in-Some.is;
      answer = _;
      is = c.in-Err.ensures.cause;
      answered = c.of_load-in-Err.ensures;
    }))
    (c.in-Err.ensures.refused, refl)

pub returns-in_default-clause-refused : goal.returns-in_default-clause-refused
returns-in_default-clause-refused c =
    unmade_leaves _ _ _ (Load c.args.loading) (load_unmade NoIntegration _ c.of_load.ensures)
    (inr (inl (lacks_row c.args.self.now c.args.loading _ _ _ c.config.ensures.config c.in_ok-row.ensures c.in_default.is c.of_load.ensures))) (refl, refl)
