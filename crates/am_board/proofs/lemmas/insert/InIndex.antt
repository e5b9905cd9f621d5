-- A value that is written where the one of its key is: in a table, in the alerts of a group, and in the groups.
use Rattle.std.proofs.Common.{◌≡◌, ℕ, Bool, true, false, Some, List, slice_get, map, sym, ap, ◌∙◌, subst}
use Rattle.std.specs.List.{position}
use Rattle.std.specs.Map.{values_of}
use Rattle.indexmap.specs.IndexMap.{insert_entry}
use Rattle.indexmap.specs.Layout.{set_value_at}
use Rattle.am_alerts.specs.Labels.{same_label_set}
use Rattle.am_alerts.specs.declared.labels.Label.{Label}
use Rattle.am_model.specs.Insert.{same_member}
use Rattle.am_model.specs.Lists.{upsert}
use Rattle.am_board.specs.Keyed.{AreKeyed}
use Rattle.am_board.specs.Members.{labels_of, index_of, AreMembers}
use Rattle.am_board.specs.Refinement.{member_state}
use Rattle.am_board.specs.declared.group.Member.{Member}
use Rattle.am_board.proofs.lemmas.invariant.DueKeys.{keys_set}
use Rattle.am_board.proofs.lemmas.invariant.Keyed.{index_of-keys, set-insert, same_key, upsert-entries, value_at, AreKeyed-insert}
use Rattle.am_board.proofs.lemmas.invariant.Members.{are_put, labels_keyed, members_put}

module _ {K X : Type 0} (eq : K → K → Bool) (key : X → K) (x : X) (es : List (K × X)) (items : List X) (i : ℕ) where
  -- where its key is found the value is put in
  pub put_there : AreKeyed key es → values_of es ≡ items → Some i ≡ position (λ y. eq (key x) (key y)) items → set_value_at es i x ≡ insert_entry eq es (key x) x
  put_there keyed seen at =
      set-insert eq key x es i keyed
      (at ∙ ap (position (λ y. eq (key x) (key y))) (sym seen) ∙ sym (index_of-keys eq key (key x) es keyed))

  pub values_put_there : AreKeyed key es → values_of es ≡ items → Some i ≡ position (λ y. eq (key x) (key y)) items → values_of (set_value_at es i x) ≡ upsert (same_key eq key) x items
  values_put_there keyed seen at =
      ap values_of (put_there keyed seen at) ∙ upsert-entries eq key x es keyed ∙ ap (upsert (same_key eq key) x) seen

  pub keyed_there : ((a b : K) → eq a b ≡ true → a ≡ b) → AreKeyed key es → values_of es ≡ items → Some i ≡ position (λ y. eq (key x) (key y)) items → AreKeyed key (set_value_at es i x)
  keyed_there decides keyed seen at =
      subst (AreKeyed key) (sym (put_there keyed seen at)) (AreKeyed-insert eq key decides x es keyed)

module _ (m : Member) (es : List (List Label × Member)) (items : List Member) (j : ℕ) (h : AreMembers es) (seen : values_of es ≡ items) (at : index_of m.alert.labels items ≡ Some j) where
  there : set_value_at es j m ≡ insert_entry same_label_set es m.alert.labels m
  there = put_there same_label_set labels_of m es items j h.keyed seen (sym at)

  -- the alerts of a group where one was written
  pub are_written : m.leaves ≡ false → AreMembers (set_value_at es j m)
  are_written off = subst AreMembers (sym there) (are_put m es h off)

  pub members_written : map member_state (values_of (set_value_at es j m)) ≡ upsert same_member (member_state m) (map member_state items)
  members_written = ap (λ fs. map member_state (values_of fs)) there ∙ members_put m es h ∙ ap (λ ms. upsert same_member (member_state m) (map member_state ms)) seen

  pub labels_written : m.leaves ≡ false → map labels_of (values_of (set_value_at es j m)) ≡ map labels_of items
  labels_written off =
      labels_keyed (set_value_at es j m) (are_written off).keyed
      ∙ keys_set es j m
      ∙ sym (labels_keyed es h.keyed)
      ∙ ap (map labels_of) seen

-- an alert that is in a group isn't being taken out
pub unmarked_at : (es : List (List Label × Member)) (j : ℕ) (m : Member) → AreMembers es → slice_get (values_of es) j ≡ Some m → m.leaves ≡ false
unmarked_at es j m h at =
    let holds = value_at (values_of es) j m at in
    ap (λ (n : Member). n.leaves) holds.0 ∙ h.unmarked j m holds.1
