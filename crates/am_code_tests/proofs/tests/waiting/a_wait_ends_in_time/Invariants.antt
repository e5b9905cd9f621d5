use Rattle.am_desk.specs.Terms.{terms}
use Rattle.am_code_tests.proofs.tests.waiting.a_wait_ends_in_time.Given as goal

-- the desk's blank and configuration
abbrev pub ghosts-wait_alone_on : goal.ghosts-wait_alone_on
ghosts-wait_alone_on g a = record { plan = a.blank; terms = terms a.config a.blank.id }
