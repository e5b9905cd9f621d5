use Rattle.am_protocol.proofs.view.write_outlook.Goals as goal

pub returns-in-None : goal.returns-in-None
returns-in-None c = rw c.in-None.is c.write_named.ensures
