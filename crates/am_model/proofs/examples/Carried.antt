-- The definitions, run on rows that are carried over to another configuration.
use Rattle.std.proofs.Common.{◌≡◌, ℕ, true, false, [], ◌∷◌, refl}
use Rattle.std.specs.Prelude.{codes}
use Rattle.am_model.specs.declared.config.Config.{Config}
use Rattle.am_model.specs.declared.views.RowView.{RowView}
use Rattle.am_model.specs.Carry.{carried}
use Rattle.am_model.proofs.examples.Base.{base, with_mail, with_children, configured, integration, named, group_a, critical, row}

-- what an integration of the root was notified of A
abbrev sent_row : ℕ → RowView
sent_row i = row group_a i 30_000 28_830_000 (named (codes "A") ∷ []) []

-- ---- integrations go by kind and index

-- `mail/0` and `hook/1`, and two hooks before a mail
abbrev swapped : Config
swapped = configured [] (integration (codes "mail") true ∷ integration (codes "hook") false ∷ []) 432_000_000

abbrev two_hooks : Config
two_hooks = configured [] (integration (codes "hook") true ∷ integration (codes "hook") true ∷ integration (codes "mail") true ∷ []) 432_000_000

hook_moves : carried with_mail swapped (sent_row 0) ≡ sent_row 1 ∷ []
hook_moves = refl

mail_moves : carried with_mail two_hooks (sent_row 1) ≡ sent_row 2 ∷ []
mail_moves = refl

first_stays_first : carried base two_hooks (sent_row 0) ≡ sent_row 0 ∷ []
first_stays_first = refl

second_goes : carried two_hooks with_mail (sent_row 1) ≡ []
second_goes = refl

mail_goes : carried with_mail base (sent_row 1) ≡ []
mail_goes = refl

-- ---- routes go by the row's alerts

-- an alert for the children `db` and `crit`, as one of them, or the root, reported it
abbrev sent_by : ℕ → RowView
sent_by route = row (record { route = route; labels = named (codes "A") }) 0 30_000 28_830_000 (critical.labels ∷ []) []

-- children are put in: both that get the alert take the row over
to_children : carried base with_children (sent_by 0) ≡ sent_by 1 ∷ sent_by 2 ∷ []
to_children = refl

-- they are taken out
to_root : carried with_children base (sent_by 2) ≡ sent_by 0 ∷ []
to_root = refl

-- where they stay each keeps its own
own_alone : carried with_children with_children (sent_by 2) ≡ sent_by 2 ∷ []
own_alone = refl

-- what the root reported of A goes to no child
root_stays : carried base with_children (sent_row 0) ≡ sent_row 0 ∷ []
root_stays = refl

-- a row of another group's labels goes nowhere
other_labels : carried base base (row (record { route = 0; labels = named (codes "B") }) 0 30_000 28_830_000 (named (codes "A") ∷ []) []) ≡ []
other_labels = refl
