use Rattle.am_desk.specs.Terms.{terms}
use Rattle.am_code_tests.proofs.tests.counts.a_thousand_inserts_each.Given as goal

-- the desk's blank and configuration
abbrev pub ghosts-a_thousand_inserts_on : goal.ghosts-a_thousand_inserts_on
ghosts-a_thousand_inserts_on g a = record { plan = a.blank; terms = terms a.config a.blank.id }
