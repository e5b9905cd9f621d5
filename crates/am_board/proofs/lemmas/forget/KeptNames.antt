-- Which cached names a forgetting leaves: those of the alerts that stay, in their order.
use Rattle.std.proofs.Common.{◌≡◌, ℕ, zero, suc, true, false, Bool, cond, not, Option, Some, List, [], ◌∷◌, length, sym, subst, arith}
use Rattle.std.specs.List.{items_where_true}
use Rattle.std.specs.List.Retain.{IsFiltered, ReturnsInTurn}
use Rattle.am_alerts.specs.AlertData.{AlertData}
use Rattle.am_alerts.specs.declared.labels.Label.{Label}
use Rattle.am_mute.specs.Sources.{IsAt}
use Rattle.am_model.specs.declared.config.Config.{Config}
use Rattle.am_model.specs.declared.group.GroupName.{GroupName}
use Rattle.am_model.specs.Insert.{names_for}
use Rattle.am_model.specs.Lists.{without}
use Rattle.am_board.specs.Forgetting.{is_idle_but_for, TestsFirst}
use Rattle.am_board.specs.GroupNameCache.{AreKept}
use Rattle.am_board.proofs.lemmas.invariant.GroupNameCache.{kept_none}

module _ (config : Config) (a : AlertData) (others : List AlertData) (n : Option (List GroupName)) (ns : List (Option (List GroupName))) (were : AreKept config (a ∷ others) (n ∷ ns)) where
  -- the names of the alerts after the first
  kept_rest : AreKept config others ns
  kept_rest =
      record {
        within = omega (arith, were.within);
        names = λ i b names is at. were.names (suc i) b names (omega (arith, is.0), is.1) (omega (arith, at.0), at.1);
      }

  -- those of the first, and of others
  named_at : (bs : List AlertData) (ms : List (Option (List GroupName))) → AreKept config bs ms → (i : ℕ) (b : AlertData) (names : List GroupName) → IsAt (a ∷ bs) i b → IsAt (n ∷ ms) i (Some names) → names ≡ names_for config b.labels
  named_at bs ms are zero b names is at = were.names 0 b names (omega arith, is.1) (omega arith, at.1)
  named_at bs ms are (suc i) b names is at = are.names i b names (omega (arith, is.0), is.1) (omega (arith, at.0), at.1)

  kept_first : (bs : List AlertData) (ms : List (Option (List GroupName))) → AreKept config bs ms → AreKept config (a ∷ bs) (n ∷ ms)
  kept_first bs ms are = record { within = omega (arith, are.within); names = named_at bs ms are }

module _ (config : Config) (sets : List (List Label)) (t : ℕ) where
  abbrev stay : List AlertData → List AlertData
  stay known = without (is_idle_but_for sets t) known

  one_more : (a : AlertData) (others : List AlertData) (n : Option (List GroupName)) (ns : List (Option (List GroupName))) (b : Bool) (bs : List Bool) → b ≡ not (is_idle_but_for sets t a) → AreKept config (a ∷ others) (n ∷ ns)
      → AreKept config (stay others) (items_where_true bs ns) → AreKept config (stay (a ∷ others)) (items_where_true (b ∷ bs) (n ∷ ns))
  one_more a others n ns b bs tested were rest =
      elim (is_idle_but_for sets t a) as (λ idle. b ≡ not idle → AreKept config (cond (not idle) (a ∷ stay others) (stay others)) (items_where_true (b ∷ bs) (n ∷ ns))) [
        | true ↦ λ e. subst (λ x. AreKept config (stay others) (items_where_true (x ∷ bs) (n ∷ ns))) (sym e) rest
        | false ↦ λ e. subst (λ x. AreKept config (a ∷ stay others) (items_where_true (x ∷ bs) (n ∷ ns))) (sym e) (kept_first config a others n ns were (stay others) (items_where_true bs ns) rest)
      ] tested

  -- a closure that tests the alerts one by one, where At says which are left
  module _ {F : Type 0} (R : F → Option (List GroupName) → Bool → F → Type 0) (At : F → List AlertData → Type 0)
      (step : (f : F) (a : AlertData) (others : List AlertData) (n : Option (List GroupName)) (b : Bool) (g : F) → At f (a ∷ others) → R f n b g → (b ≡ not (is_idle_but_for sets t a)) × At g others) where
    in_turn : (bs : List Bool) (ns : List (Option (List GroupName))) (known : List AlertData) (f g : F) → At f known → length bs ≡ length ns → ReturnsInTurn R f bs ns g → AreKept config known ns → AreKept config (stay known) (items_where_true bs ns)
    in_turn [] ns known f g at same ran were = kept_none config (stay known)
    in_turn (b ∷ bs) [] known f g at same ran were = absurd ran
    in_turn (b ∷ bs) (n ∷ ns) [] f g at same ran were = absurd (omega (arith, were.within))
    in_turn (b ∷ bs) (n ∷ ns) (a ∷ others) f g at same ran were =
        let next = step f a others n b ran.0 at ran.1 in
        one_more a others n ns b bs next.0 were (in_turn bs ns others ran.0 g next.1 (omega (arith, same)) ran.2 (kept_rest config a others n ns were))

    pub kept_where : (f : F) (known : List AlertData) (ns left : List (Option (List GroupName))) → At f known → AreKept config known ns → IsFiltered R f ns left → AreKept config (stay known) left
    kept_where f known ns left at were ran =
        subst (AreKept config (stay known)) (sym ran.4) (in_turn ran.0 ns known f ran.1 at ran.2 ran.3 were)

-- what was said of the first alert, where it is known which one it is
pub tested_first : (s sets : List (List Label)) (u t : ℕ) (left : List AlertData) (a : AlertData) (others : List AlertData) (b : Bool) (next : List AlertData) → s ≡ sets → u ≡ t → left ≡ a ∷ others → TestsFirst s u left b next
    → (b ≡ not (is_idle_but_for sets t a)) × (next ≡ others)
tested_first s sets u t left a others b next e f h returned =
    subst (λ known. TestsFirst sets t known b next) h (subst (λ v. TestsFirst sets v left b next) f (subst (λ ss. TestsFirst ss u left b next) e returned))
