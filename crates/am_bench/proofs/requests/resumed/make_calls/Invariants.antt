use Rattle.am_desk.specs.Terms.{resumed, terms}
use Rattle.am_bench.proofs.requests.resumed.make_calls.Given as goal

-- the blank of the desk that hands its history out, and what it is opened with
abbrev pub ghosts-open_lasting_on : goal.ghosts-open_lasting_on
ghosts-open_lasting_on g a = record { plan = a.blank; terms = terms a.config a.blank.id }

-- those of the desk that takes rows over
abbrev pub ghosts-make_calls_on : goal.ghosts-make_calls_on
ghosts-make_calls_on g a = record { plan = a.blank; terms = resumed a.config a.blank.id }
