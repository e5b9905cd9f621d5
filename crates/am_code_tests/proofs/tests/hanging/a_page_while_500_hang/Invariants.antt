use Rattle.am_desk.specs.Terms.{terms}
use Rattle.am_code_tests.proofs.tests.hanging.a_page_while_500_hang.Given as goal

-- the desk's blank and configuration
abbrev pub ghosts-page_on : goal.ghosts-page_on
ghosts-page_on g a = record { plan = a.blank; terms = terms a.config a.blank.id }
