use Rattle.am_run.proofs.run.close_stopped.Goals as goal

pub returns-in-Ok-clause-full : goal.returns-in-Ok-clause-full
returns-in-Ok-clause-full g c refused = (
  refused,
  (
    c.in-Ok.closed.0.history,
    record {
      legal = c.in-Ok.ensures.legal;
      main = c.in-Ok.ensures.main;
      lanes = c.in-Ok.ensures.lanes;
      others = c.in-Ok.ensures.others;
    },
  ),
)
