use Rattle.am_rehearse.proofs.compare.played_under.Goals as goal

pub returns-in-Ok-clause-played : goal.returns-in-Ok-clause-played
returns-in-Ok-clause-played g c =
    record {
      input = c.in_ok-input.input;
      play = record { accepted = c.in_ok-input.ensures.accepted; plays = c.in-Ok.ensures.plays };
      started = c.in-Ok.ensures.started;
      changed = c.in-Ok.ensures.changed;
    }
