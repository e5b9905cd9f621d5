use Rattle.am_desk.specs.Terms.{terms}
use Rattle.am_bench.proofs.lanes.run_lanes.Given as goal

-- the desk's blank, and what it is opened with
abbrev pub ghosts-run_on : goal.ghosts-run_on
ghosts-run_on g a = record { plan = a.blank; terms = terms a.config a.blank.id }
