-- The definitions, run on rows with several routes, groups and alerts.
use Rattle.std.proofs.Common.{◌≡◌, ℕ, false, List, [], ◌∷◌, ◌++◌, refl}
use Rattle.std.specs.Prelude.{codes}
use Rattle.am_alerts.specs.AlertData.{AlertData}
use Rattle.am_model.specs.declared.group.GroupName.{GroupName}
use Rattle.am_model.specs.declared.record.Record.{Record}
use Rattle.am_model.specs.Replay.{IsLegal, replay}
use Rattle.am_model.specs.Views.{group_views}
use Rattle.am_model.proofs.examples.Base.{base, configured, with_children, critical, named, instance, fires, group, group_a, a, insert, nothing_due, quiet, flush_hook}

abbrev at_route : ℕ → GroupName
at_route route = record { route = route; labels = named (codes "A") }

two_routes_legal : IsLegal with_children 7 (insert 0 critical 1 2 2 ∷ flush_hook 30_000 1 (at_route 1) 330_000 (critical ∷ []) [] ∷ flush_hook 30_000 2 (at_route 2) 330_000 (critical ∷ []) [] ∷ nothing_due 30_000 ∷ [])
two_routes_legal = (refl, (refl, (refl, (refl, tt))))

-- a receiver without integrations
no_integrations_legal : IsLegal (configured [] [] 432_000_000) 7 (insert 0 a 1 1 1 ∷ quiet 30_000 group_a 0 ∷ [])
no_integrations_legal = (refl, (refl, tt))

-- groups are taken by name where they are due together
abbrev b : AlertData
b = fires (named (codes "B")) 0

by_name_legal : IsLegal base 7 (insert 0 b 1 1 1 ∷ insert 0 a 2 1 1 ∷ flush_hook 30_000 1 group_a 330_000 (a ∷ []) [] ∷ flush_hook 30_000 2 (group (codes "B")) 330_000 (b ∷ []) [] ∷ [])
by_name_legal = (refl, (refl, (refl, (refl, tt))))

-- and by due time before that
by_due_legal : IsLegal base 7 (insert 0 b 1 1 1 ∷ insert 1 (fires (named (codes "A")) 1) 2 1 1 ∷ flush_hook 40_000 1 (group (codes "B")) 340_000 (b ∷ []) [] ∷ flush_hook 40_000 2 group_a 340_000 (fires (named (codes "A")) 1 ∷ []) [] ∷ [])
by_due_legal = (refl, (refl, (refl, (refl, tt))))

-- alerts are listed by their labels
abbrev inst : List ℕ → AlertData
inst name = fires (instance (codes "A") name) 0

abbrev two_instances : List Record
two_instances = insert 0 (inst (codes "2")) 1 1 1 ∷ insert 0 (inst (codes "1")) 2 1 0 ∷ []

by_labels_legal : IsLegal base 7 (two_instances ++ flush_hook 30_000 1 group_a 330_000 (inst (codes "1") ∷ inst (codes "2") ∷ []) [] ∷ [])
by_labels_legal = (refl, (refl, (refl, tt)))

by_labels_view : group_views (replay base two_instances) ≡ record { group = group_a; due = 30_000; flushed = false; alerts = inst (codes "1") ∷ inst (codes "2") ∷ [] } ∷ []
by_labels_view = refl
