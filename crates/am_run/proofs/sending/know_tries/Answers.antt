use Rattle.am_run.proofs.sending.know_tries.Goals as goal

pub returns : goal.returns
returns g c = λ k d h. g.met.C.Answering.answered _
