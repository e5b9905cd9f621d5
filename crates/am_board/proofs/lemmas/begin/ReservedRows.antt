-- Making log keys known: the rows stay, and so do the known keys.
use Rattle.std.proofs.Common.{◌≡◌, ℕ, ◌+◌, ◌<◌, ◌||◌, List, length, get_or, IsTrue, inl, inr, sym, ap, subst, ◌∙◌, arith}
use Rattle.std.proofs.Math.Bool.{or-true}
use Rattle.std.proofs.lemmas.Bool.{cases_lt}
use Rattle.std.proofs.lemmas.List.{get_or_default}
use Rattle.am_alerts.specs.declared.labels.Label.{Label}
use Rattle.am_nflog.proofs.CallerLemmas.{is_known-with_key, key_eq-laws}
use Rattle.am_nflog.specs.Log.{Slots, key_eq, is_known, with_key}
use Rattle.am_nflog.specs.declared.key.LogKey.{LogKey}
use Rattle.am_board.specs.LogRows.{log_rows}
use Rattle.am_model.specs.State.{same_name}
use Rattle.am_board.specs.declared.flush.Notified.{Notified}
use Rattle.am_model.specs.declared.group.GroupName.{GroupName}
use Rattle.am_model.proofs.states.Alike.{same_name_equiv}
use Rattle.am_board.proofs.lemmas.invariant.LogRows.{log_rows-with_key}

-- a known key stays known
pub known-with_key : (log : Slots GroupName (List Label)) (key q : LogKey GroupName) → IsTrue (is_known same_name log q) → IsTrue (is_known same_name (with_key same_name log key) q)
known-with_key log key q known = is_known-with_key same_name log same_name_equiv key q ∙ ap (λ b. b || key_eq same_name q key) known

-- the key is known
pub known-itself : (log : Slots GroupName (List Label)) (key : LogKey GroupName) → IsTrue (is_known same_name (with_key same_name log key) key)
known-itself log key =
    is_known-with_key same_name log same_name_equiv key key ∙ ap (λ b. is_known same_name log key || b) ((key_eq-laws same_name_equiv).refl key) ∙ or-true (is_known same_name log key)

-- what a walk over the integrations that a flush of this group notifies, which makes their keys known, has done up to an index
pub record ReservingRows (from log : Slots GroupName (List Label)) (items : List Notified) (group : GroupName) (upto : ℕ) : Type 0 where
  pub rows : log_rows log ≡ log_rows from
  pub known : (key : LogKey GroupName) → IsTrue (is_known same_name from key) → IsTrue (is_known same_name log key)
  pub notified : (k : ℕ) (d : Notified) → k < upto → (get_or items k d).key.group ≡ group → IsTrue (is_known same_name log (get_or items k d).key)

-- one key more is made known
pub reserving_rows_step : (from log : Slots GroupName (List Label)) (items : List Notified) (group : GroupName) (upto : ℕ) (key : LogKey GroupName) (a : Notified)
    → upto < length items → a ≡ get_or items upto a → key ≡ record { group = group; integration = a.key.integration }
    → ReservingRows from log items group upto → ReservingRows from (with_key same_name log key) items group (upto + 1)
reserving_rows_step from log items group upto key a within is keyed before =
    record {
      rows = log_rows-with_key same_name log key ∙ before.rows;
      known = λ q h. known-with_key log key q (before.known q h);
      notified = λ k d less same.
          elim (cases_lt k upto) [
            | inl below ↦ known-with_key log key (get_or items k d).key (before.notified k d below same)
            | inr not_below ↦
                let last : k ≡ upto = omega arith in
                let here : get_or items k d ≡ a = ap (λ n. get_or items n d) last ∙ get_or_default items upto d a within ∙ sym is in
                let one : (get_or items k d).key ≡ key = ap (λ g. record { group = g; integration = (get_or items k d).key.integration }) same ∙ ap (λ (x : Notified). record { group = group; integration = x.key.integration }) here ∙ sym keyed in
                subst (λ q. IsTrue (is_known same_name (with_key same_name log key) q)) (sym one) (known-itself log key)
          ];
    }
