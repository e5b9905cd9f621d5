use Rattle.std.proofs.Common.{◌≡◌, ◌≤◌, length, vec_capacity, vec_len}
use Rattle.am_session.proofs.Inserting.{GoesOn}
use Rattle.am_session.proofs.session.Session.insert_all.Given as goal

-- those so far were made, and there is capacity for the ends of the others
abbrev pub invariant-loop-insert : goal.invariant-loop-insert
invariant-loop-insert l = record {
  count : vec_len l.ends ≡ length l.yielded;
  capacity : length l.fn.inserts.items ≤ vec_capacity l.ends;
  made : GoesOn l.fn.self l.fn.inserts.items l.self (length l.yielded) l.ends.items;
}
