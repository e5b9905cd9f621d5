use Rattle.am_desk.specs.Terms.{resumed, terms}
use Rattle.am_code_tests.proofs.tests.resuming.a_restart_pages_nobody_again.Given as goal

-- the blank and the configuration of the first desk
abbrev pub ghosts-page_on : goal.ghosts-page_on
ghosts-page_on g a = record { plan = a.blank; terms = terms a.config a.blank.id }

-- those of the desk that takes its rows over
abbrev pub ghosts-resume_on : goal.ghosts-resume_on
ghosts-resume_on g a = record { plan = a.blank; terms = resumed a.config a.blank.id }
