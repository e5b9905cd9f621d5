-- Delivered notices in their order: only equal ones tie.
use Rattle.std.proofs.Common.{◌≡◌, ◌∙◌, Bool, List, refl, sym, ap, subst}
use Rattle.std.specs.Cmp.{IsTotalOrder}
use Rattle.std.specs.Cmp.Lexicographic.{slice_cmp}
use Rattle.std.specs.Ordering.{is_eq, nat_cmp, ordering_then}
use Rattle.std.specs.Prelude.{◌↔◌, IsPermutation, true}
use Rattle.std.specs.declared.cmp.Ordering.{Ordering}
use Rattle.std.specs.declared.cmp.Ordering.TheVariants.{Less, Equal, Greater}
use Rattle.std.proofs.lemmas.Bool.{false≢true}
use Rattle.std.proofs.lemmas.Cmp.{nat_cmp_total, nat_list_cmp_total, on_total, then_total, tied_itself}
use Rattle.std.proofs.lemmas.Map.Lookups.{CmpEqualImpliesEq, exact_bytes, exact_unsigned}
use Rattle.am_timeline.specs.Comparison.{DeliveredNotice, notice_cmp}

pub notice_cmp_total : IsTotalOrder notice_cmp
notice_cmp_total =
    then_total
    (then_total (on_total (λ (n : DeliveredNotice). n.target) nat_list_cmp_total) (on_total (λ (n : DeliveredNotice). n.alerts) nat_list_cmp_total))
    (on_total (λ (n : DeliveredNotice). n.at) nat_cmp_total)

both_tie : (o p : Ordering) → ordering_then o p ≡ Equal → (o ≡ Equal) × (p ≡ Equal)
both_tie Less p h = absurd (cc)
both_tie Equal p h = (refl, h)
both_tie Greater p h = absurd (cc)

pub notice_cmp_exact : CmpEqualImpliesEq notice_cmp
notice_cmp_exact a b h =
    let targets : Ordering = slice_cmp nat_cmp a.target b.target in
    let alerts : Ordering = slice_cmp nat_cmp a.alerts b.alerts in
    let outer : (ordering_then targets alerts ≡ Equal) × (nat_cmp a.at b.at ≡ Equal) = both_tie (ordering_then targets alerts) (nat_cmp a.at b.at) h in
    let inner : (targets ≡ Equal) × (alerts ≡ Equal) = both_tie targets alerts outer.0 in
    let at : a.at ≡ b.at = exact_unsigned a.at b.at outer.1 in
    let target : a.target ≡ b.target = exact_bytes a.target b.target inner.0 in
    let says : a.alerts ≡ b.alerts = exact_bytes a.alerts b.alerts inner.1 in
    λ i. record { at = at i; target = target i; alerts = says i }

is_tie : (o : Ordering) → is_eq o ≡ true → o ≡ Equal
is_tie Less h = absurd (false≢true h)
is_tie Equal h = refl
is_tie Greater h = absurd (false≢true h)

-- notices tie exactly if they are equal
pub ties_are_equal : (a b : DeliveredNotice) → (is_eq (notice_cmp a b) ≡ true) ↔ (a ≡ b)
ties_are_equal a b = (
  λ h. notice_cmp_exact a b (is_tie (notice_cmp a b) h),
  λ e. ap (λ (n : DeliveredNotice). is_eq (notice_cmp a n)) (sym e) ∙ ap is_eq (tied_itself notice_cmp_total a),
)

-- what is decided of some lists is decided of lists that are equal to them
pub decided : (same : Bool) (xs ys us vs : List DeliveredNotice) → xs ≡ us → ys ≡ vs → ((same ≡ true) ↔ IsPermutation xs ys)
    → (same ≡ true) ↔ IsPermutation us vs
decided same xs ys us vs one other is =
    subst (λ (l : List DeliveredNotice). (same ≡ true) ↔ IsPermutation l vs) one
    (subst (λ (l : List DeliveredNotice). (same ≡ true) ↔ IsPermutation xs l) other is)
