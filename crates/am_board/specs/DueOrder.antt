-- The keys of the set of due times: their order, and its laws.
use Rattle.std.specs.Borrow.{Bor}
use Rattle.std.specs.Prelude.{◌≡◌, ◌⊎◌, ℕ, Bool, true, List, [], ◌&&◌, ◌==◌, Option, None, Some}
use Rattle.std.specs.Cmp.{IsPartialOrder, IsTotalOrder, back_total, both_tied, nat_eq_equiv, po, unsigned_ties}
use Rattle.std.specs.List.{list_any}
use Rattle.std.specs.List.Sorted.{IsStrictlySortedBy}
use Rattle.std.specs.Ordering.{eq_by_cmp, is_eq, on, flip_args, then_cmp, nat_cmp}
use Rattle.std.specs.declared.cmp.Ordering.{Ordering}
use Rattle.std.specs.declared.cmp.Ordering.TheVariants.{Less}
use Rattle.std.proofs.Common.{◌∙◌}
use Rattle.std.proofs.lemmas.Cmp.{nat_cmp_total, on_total, then_total}
use Rattle.am_alerts.specs.LabelOrder.{label_set_cmp_total, same_label_set-cmp, same_label_set_equiv}
use Rattle.am_alerts.specs.Labels.{label_set_cmp}
use Rattle.am_model.specs.State.{name_cmp, same_name}
use Rattle.am_model.specs.declared.group.GroupName.{GroupName}
use Rattle.am_board.specs.declared.due.DueKey.{DueKey}

-- the order of keys: by due time, then by name, in reverse
abbrev pub key_cmp : DueKey → DueKey → Ordering
key_cmp = flip_args (then_cmp (on (λ k. k.due) nat_cmp) (on (λ k. k.name) name_cmp))

-- whether a key is among these
abbrev pub has_key : List DueKey → DueKey → Bool
has_key keys key = list_any (λ k. is_eq (key_cmp key k)) keys

-- the key of the group of a name that is due at this time
abbrev pub key_at : GroupName → ℕ → DueKey
key_at name due = record { due = due; name = name }

-- the keys rise: the one that is due first comes first
abbrev pub AreRising : List DueKey → Type 0
AreRising = IsStrictlySortedBy (flip_args key_cmp)

-- the key q is k, or due after it
abbrev pub IsKeyBehind : DueKey → DueKey → Type 0
IsKeyBehind k q = (q ≡ k) ⊎ (key_cmp q k ≡ Less)

-- this key of a list is due first, or there is none
abbrev pub IsFront : List DueKey → Option (Bor DueKey) → Type 0
IsFront keys None = keys ≡ []
IsFront keys (Some k) = (q : DueKey) → has_key keys q ≡ true → IsKeyBehind k.now q

name_cmp_total : IsTotalOrder name_cmp
name_cmp_total =
    then_total (on_total (λ (n : GroupName). n.route) nat_cmp_total) (on_total (λ (n : GroupName). n.labels) label_set_cmp_total)

pub key_cmp_total : IsTotalOrder key_cmp
key_cmp_total =
    back_total (then_total (on_total (λ (k : DueKey). k.due) nat_cmp_total) (on_total (λ (k : DueKey). k.name) name_cmp_total))

-- names are the same where the reverse order has them equal
same_name-ties : (a b : GroupName) → same_name a b ≡ eq_by_cmp name_cmp b a
same_name-ties a b =
    both_tied _ _ (nat_cmp b.route a.route) (label_set_cmp b.labels a.labels)
    (nat_eq_equiv.symm a.route b.route ∙ unsigned_ties b.route a.route)
    (same_label_set_equiv.symm a.labels b.labels ∙ same_label_set-cmp b.labels a.labels)

-- keys are the same where their times and names are
abbrev pub same_key : DueKey → DueKey → Bool
same_key a b = (a.due == b.due) && same_name a.name b.name

pub same_key-ties : (a b : DueKey) → same_key a b ≡ eq_by_cmp key_cmp a b
same_key-ties a b =
    both_tied _ _ (nat_cmp b.due a.due) (name_cmp b.name a.name)
    (nat_eq_equiv.symm a.due b.due ∙ unsigned_ties b.due a.due)
    (same_name-ties a.name b.name)

pub key_po : IsPartialOrder same_key (λ a b. Some (key_cmp a b))
key_po = po key_cmp_total same_key-ties
