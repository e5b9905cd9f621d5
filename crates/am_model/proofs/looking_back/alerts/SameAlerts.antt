-- Lists of a group's alerts in which each label set finds the same are one list in another order.
use Rattle.std.proofs.Common.{◌≡◌, Bool, true, false, cond, not, Option, Some, None, List, [], ◌∷◌, refl, sym, ap, ◌∙◌, subst}
use Rattle.std.specs.Prelude.{IsPermutation}
use Rattle.std.specs.List.{AllByRecursion, IsDistinct}
use Rattle.std.proofs.lemmas.List.Sorted.{IsPermutation-refl, IsPermutation-sym, IsPermutation-cons, IsPermutation-trans}
use Rattle.std.proofs.lemmas.Map.Keys.{IsDistinct-head, IsDistinct-tail}
use Rattle.am_alerts.specs.LabelOrder.{same_label_set_equiv}
use Rattle.am_alerts.specs.declared.labels.Label.{Label}
use Rattle.am_model.specs.Insert.{same_member}
use Rattle.am_model.specs.Lists.{without}
use Rattle.am_model.specs.look_back.Laws.{member_with}
use Rattle.am_model.specs.State.{MemberState}
use Rattle.am_model.proofs.lists.Distinct.{IsDistinct-filter, all-find, all-weaker}
use Rattle.am_model.proofs.lists.Exchanges.{two_exchanged}
use Rattle.am_model.proofs.looking_back.PastWords.{unless, has_labels, member-without}
use Rattle.am_model.proofs.lists.Alone.{find-none, without-none}

-- an alert that is found goes to the front
pulled : (m : MemberState) (ms : List MemberState) → IsDistinct same_member ms → member_with m.alert.labels ms ≡ Some m → IsPermutation ms (m ∷ without (same_member m) ms)
pulled m [] h e = absurd (cc)
pulled m (n ∷ ms) h e = by (same_member m n) refl e (pulled m ms (IsDistinct-tail same_member n ms h))
  where
    by : (b : Bool) → same_member m n ≡ b → cond b (Some n) (member_with m.alert.labels ms) ≡ Some m → (member_with m.alert.labels ms ≡ Some m → IsPermutation ms (m ∷ without (same_member m) ms))
        → IsPermutation (n ∷ ms) (m ∷ cond (not b) (n ∷ without (same_member m) ms) (without (same_member m) ms))
    by true own is before =
        let same : n ≡ m = cc in
        let none = without-none (same_member m) ms (all-weaker (λ k. same_member n k ≡ false) (λ k. same_member m k ≡ false) (λ k apart. same_label_set_equiv.congr m.alert.labels n.alert.labels k.alert.labels own ∙ apart) ms (IsDistinct-head same_member n ms h)) in
        subst (IsPermutation (n ∷ ms)) (ap (λ k. k ∷ ms) same ∙ ap (λ ks. m ∷ ks) (sym none)) (IsPermutation-refl (n ∷ ms))
    by false other is before =
        IsPermutation-trans (n ∷ ms) (n ∷ m ∷ without (same_member m) ms) (m ∷ n ∷ without (same_member m) ms)
        (IsPermutation-cons n ms (m ∷ without (same_member m) ms) (before is)) (two_exchanged n m (without (same_member m) ms))

pub same-members : (xs ys : List MemberState) → IsDistinct same_member xs → IsDistinct same_member ys → ((labels : List Label) → member_with labels xs ≡ member_with labels ys) → IsPermutation xs ys
same-members [] [] apart also same = IsPermutation-refl []
same-members [] (y ∷ ys) apart also same =
    let there : None ≡ Some y = same y.alert.labels ∙ ap (λ b. cond b (Some y) (member_with y.alert.labels ys)) (same_label_set_equiv.refl y.alert.labels) in
    absurd (cc)
same-members (x ∷ xs) ys apart also same =
    let there : member_with x.alert.labels ys ≡ Some x = sym (same x.alert.labels) ∙ ap (λ b. cond b (Some x) (member_with x.alert.labels xs)) (same_label_set_equiv.refl x.alert.labels) in
    let rest = without (same_member x) ys in
    IsPermutation-trans (x ∷ xs) (x ∷ rest) ys
    (IsPermutation-cons x xs rest
    (same-members xs rest (IsDistinct-tail same_member x xs apart) (IsDistinct-filter same_member (λ y. not (same_member x y)) ys also)
    (λ labels.
    by labels (has_labels labels x) refl
    ∙ ap (unless (same_member x)) (same labels)
    ∙ sym (member-without labels (same_member x) ys also))))
    (IsPermutation-sym ys (x ∷ rest) (pulled x ys also there))
  where
    head : AllByRecursion (λ z. same_member x z ≡ false) xs
    head = IsDistinct-head same_member x xs apart

    stays : (labels : List Label) (o : Option MemberState) → member_with labels xs ≡ o → o ≡ unless (same_member x) o
    stays labels None is = refl
    stays labels (Some n) is = sym (ap (λ b. cond b None (Some n)) (all-find (λ z. same_member x z ≡ false) (has_labels labels) n xs head is))

    by : (labels : List Label) (b : Bool) → has_labels labels x ≡ b → member_with labels xs ≡ unless (same_member x) (cond b (Some x) (member_with labels xs))
    by labels true own =
        find-none (has_labels labels) xs (all-weaker (λ z. same_member x z ≡ false) (λ z. has_labels labels z ≡ false) (λ z e. same_label_set_equiv.congr labels x.alert.labels z.alert.labels own ∙ e) xs head)
        ∙ sym (ap (λ b. cond b None (Some x)) (same_label_set_equiv.refl x.alert.labels))
    by labels false other = stays labels (member_with labels xs) refl
