use Rattle.am_desk.specs.Terms.{terms}
use Rattle.am_code_tests.proofs.tests.waiting.no_wake_up_is_lost.Given as goal

-- the desk's blank and configuration
abbrev pub ghosts-wake_on : goal.ghosts-wake_on
ghosts-wake_on g a = record { plan = a.blank; terms = terms a.config a.blank.id }
