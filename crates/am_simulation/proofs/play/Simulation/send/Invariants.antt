use Rattle.am_simulation.proofs.play.Simulation.send.Given as goal

-- the outages, the receiver and the cut by which the courier answers
abbrev pub ghosts-ends_of : goal.ghosts-ends_of
ghosts-ends_of a = record { outages = a.outages.now; receiver = a.receiver.now; cut = a.cut }
