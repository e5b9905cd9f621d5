-- What is unmuted as it is in a group, against what a flush copies of it.
use Rattle.std.proofs.Common.{◌≡◌, ℕ, ◌∷◌, [], List, Bor, IsTrue, map, refl, sym, subst}
use Rattle.am_alerts.specs.Labels.{label_set_cmp}
use Rattle.am_alerts.specs.declared.labels.Label.{Label}
use Rattle.am_nflog.specs.Members.{is_ascending, is_empty}
use Rattle.am_model.specs.Begin.{label_sets}
use Rattle.am_model.proofs.states.InOrder.{labels-copied}
use Rattle.am_board.specs.Beginning.{copies_at, lent_labels}
use Rattle.am_board.specs.declared.group.Member.{Member}

-- the label sets that are lent are those of the copies
pub labels-lent : (t : ℕ) (ms : List (Bor Member)) → map lent_labels ms ≡ label_sets (copies_at t ms)
labels-lent t [] = refl
labels-lent t (m ∷ ms) = (λ i. sym (labels-copied t m.now.alert) i ∷ labels-lent t ms i)

-- they rise where those of the copies do
pub lent-rise : (t : ℕ) (ms : List (Bor Member)) → IsTrue (is_ascending label_set_cmp (label_sets (copies_at t ms)))
    → IsTrue (is_ascending label_set_cmp (map lent_labels ms))
lent-rise t ms rise = subst (λ (l : List (List Label)). IsTrue (is_ascending label_set_cmp l)) (sym (labels-lent t ms)) rise

-- there are copies where there are members
pub empty-copies : (t : ℕ) (ms : List (Bor Member)) → is_empty (copies_at t ms) ≡ is_empty ms
empty-copies t [] = refl
empty-copies t (m ∷ ms) = refl
