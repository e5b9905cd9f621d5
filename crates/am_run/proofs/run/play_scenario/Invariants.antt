use Rattle.am_desk.specs.Terms.{terms}
use Rattle.am_run.proofs.run.play_scenario.Given as goal

-- the desk's blank, and what it is opened with
abbrev pub ghosts-play_on-N-Name : goal.ghosts-play_on-N-Name
ghosts-play_on-N-Name g a = record { plan = a.blank; terms = terms a.scenario.config a.blank.id }

-- the scripts that the couriers answer by
abbrev pub ghosts-play_on-S-Scripts : goal.ghosts-play_on-S-Scripts
ghosts-play_on-S-Scripts g a = record { scripts = a.scenario.scripts.items }
