use Rattle.am_desk.specs.Terms.{terms}
use Rattle.am_code_tests.proofs.tests.waiting.one_that_sleeps_on_is_woken.Given as goal

-- the desk's blank and configuration
abbrev pub ghosts-sleep_on : goal.ghosts-sleep_on
ghosts-sleep_on g a = record { plan = a.blank; terms = terms a.config a.blank.id }
