use Rattle.am_desk.specs.Terms.{terms}
use Rattle.am_code_tests.proofs.tests.taking.a_history_is_handed_out.Given as goal

-- the desk's blank and configuration
abbrev pub ghosts-hand_out_on : goal.ghosts-hand_out_on
ghosts-hand_out_on g a = record { plan = a.blank; terms = terms a.config a.blank.id }
