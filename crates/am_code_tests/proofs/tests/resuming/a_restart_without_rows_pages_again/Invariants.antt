use Rattle.am_desk.specs.Terms.{terms}
use Rattle.am_code_tests.proofs.tests.resuming.a_restart_without_rows_pages_again.Given as goal

-- the blank and the configuration of each of the two desks
abbrev pub ghosts-page_on : goal.ghosts-page_on
ghosts-page_on g a = record { plan = a.blank; terms = terms a.config a.blank.id }
