use Rattle.am_desk.specs.Terms.{terms}
use Rattle.am_bench.proofs.requests.desk.make_calls.Given as goal

-- the desk's blank, and what it is opened with
abbrev pub ghosts-make_calls_on : goal.ghosts-make_calls_on
ghosts-make_calls_on g a = record { plan = a.blank; terms = terms a.config a.blank.id }
