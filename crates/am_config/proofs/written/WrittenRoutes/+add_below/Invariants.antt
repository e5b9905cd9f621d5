use Rattle.am_config.proofs.written.WrittenRoutes.+add_below.Given as goal

-- the levels that may still be
abbrev pub decreases-add_below : goal.decreases-add_below
decreases-add_below l = l.levels
