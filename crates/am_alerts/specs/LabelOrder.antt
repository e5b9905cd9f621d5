-- The laws of the order of label sets, and what they feed a hasher.
use Rattle.std.specs.Prelude.{◌≡◌, ℕ, true, List, [], ◌∷◌, ◌++◌, ◌↔◌, Decides, Some, refl}
use Rattle.std.specs.declared.cmp.Ordering.TheVariants.{Less, Equal}
use Rattle.std.specs.Cmp.{IsTotalOrder, IsEquivalence, IsPartialOrder, Equal-is, po, both_tied}
use Rattle.std.specs.Cmp.Lexicographic.{lists_total, lists_equiv, lists_ties, texts_ties, nat_list_cmp_total, nat_list_eq_equiv}
use Rattle.std.specs.Cmp.Lexicographic.{pointwise_decides, bytes_decides}
use Rattle.std.specs.Hash as fed
use Rattle.std.specs.Ordering.{eq_by_cmp, ordering_then}
use Rattle.std.proofs.Common.{sym, ap, ◌∙◌, rules}
use Rattle.std.proofs.lemmas.Cmp.{then_total, on_total, on_equiv, and_equiv, tied_itself}
use Rattle.am_alerts.specs.declared.labels.Label.{Label}
use Rattle.am_alerts.specs.Packing.{packed, run_hash}
use Rattle.am_alerts.specs.Labels.{label_cmp, label_set_cmp, same_label, same_label_set, text_cmp}

-- two label sets tie where they are the same list of labels, and only there
abbrev pub TiesAreEqual : Type 0
TiesAreEqual = (a b : List Label) → (label_set_cmp a b ≡ Equal) ↔ (a ≡ b)

-- the equality test of two label sets is true exactly if they are the same list of labels
abbrev pub TestsEquality : Type 0
TestsEquality = (a b : List Label) → (same_label_set a b ≡ true) ↔ (a ≡ b)

-- a proper prefix comes first
abbrev pub PrefixFirst : Type 0
PrefixFirst = (a : List Label) (l : Label) (rest : List Label) → label_set_cmp a (a ++ l ∷ rest) ≡ Less

pub label_cmp_total : IsTotalOrder label_cmp
label_cmp_total = then_total (on_total (λ (l : Label). l.name) nat_list_cmp_total) (on_total (λ (l : Label). l.value) nat_list_cmp_total)

pub label_set_cmp_total : IsTotalOrder label_set_cmp
label_set_cmp_total = lists_total label_cmp_total

same_label_equiv : IsEquivalence same_label
same_label_equiv = and_equiv (on_equiv (λ (l : Label). l.name) nat_list_eq_equiv) (on_equiv (λ (l : Label). l.value) nat_list_eq_equiv)

pub same_label_set_equiv : IsEquivalence same_label_set
same_label_set_equiv = lists_equiv same_label_equiv

same_label-cmp : (a b : Label) → same_label a b ≡ eq_by_cmp label_cmp a b
same_label-cmp a b =
    both_tied _ _ (text_cmp a.name b.name) (text_cmp a.value b.value) (texts_ties a.name b.name) (texts_ties a.value b.value)

pub same_label_set-cmp : (a b : List Label) → same_label_set a b ≡ eq_by_cmp label_set_cmp a b
same_label_set-cmp = lists_ties label_cmp same_label-cmp

pub label_set_po : IsPartialOrder same_label_set (λ a b. Some (label_set_cmp a b))
label_set_po = po label_set_cmp_total same_label_set-cmp

-- labels are the same where their names and values are
same_label-decides : (a b : Label) → Decides (same_label a b) (a ≡ b)
same_label-decides a b = search (rules, bytes_decides)

pub same_label_set-decides : TestsEquality
same_label_set-decides a b = pointwise_decides same_label-decides a b

pub label_set_cmp-equal : TiesAreEqual
label_set_cmp-equal a b =
    let tied = same_label_set-cmp a b in
    let same = same_label_set-decides a b in
    let fact = Equal-is (label_set_cmp a b) in
    (λ e. same.0 (tied ∙ fact.1 e), λ e. fact.0 (sym tied ∙ same.1 e))

pub label_set_cmp-prefix : PrefixFirst
label_set_cmp-prefix [] l rest = refl
label_set_cmp-prefix (m ∷ a) l rest =
    ap (λ o. ordering_then o (label_set_cmp a (a ++ l ∷ rest))) (tied_itself label_cmp_total m) ∙ label_set_cmp-prefix a l rest

-- the hash of a label set: that of its packed form
abbrev pub label_set_hash : List Label → ℕ
label_set_hash labels = run_hash (packed labels)

-- what a label set feeds a hasher: its packed form, in one write
abbrev pub label_set_writes : List Label → fed.HashWrites
label_set_writes labels = packed labels ∷ []

pub label_set_writes-alike : (a b : List Label) → same_label_set a b ≡ true → label_set_writes a ≡ label_set_writes b
label_set_writes-alike a b same = ap label_set_writes ((same_label_set-decides a b).0 same)
