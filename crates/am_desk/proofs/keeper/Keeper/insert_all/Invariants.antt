use Rattle.std.proofs.Common.{◌≡◌, length, vec_capacity, vec_len}
use Rattle.am_desk.specs.Batches.{AreAnswered}
use Rattle.am_desk.proofs.keeper.Keeper.insert_all.Given as goal

-- the alerts so far are answered, and there is space for the answers to all
abbrev pub invariant-loop-alert : goal.invariant-loop-alert
invariant-loop-alert g l = record {
  answered : AreAnswered g.K.Kind.takes g.N.Name.terms l.fn.now l.initial.pass l.yielded l.answers.items l.pass;
  space : vec_capacity l.answers ≡ length l.fn.alerts.items;
  count : vec_len l.answers ≡ length l.yielded;
}
