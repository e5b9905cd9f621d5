use Rattle.std.proofs.Common.{◌≡◌, Bor, List, map, subst, true}
use Rattle.std.specs.Prelude.{◌↔◌}
use Rattle.am_timeline.specs.Comparison.{DeliveredNotice, notice_cmp, notice_of}
use Rattle.am_timeline.specs.declared.sent_notice.SentNotice.{SentNotice}
use Rattle.am_timeline.proofs.Comparisons.{notice_cmp_exact, notice_cmp_total}
use Rattle.am_timeline.proofs.Sorted.{same_sorted}
use Rattle.am_timeline.proofs.sent_notice.are_same.Goals as goal

abbrev shown : List (Bor SentNotice) → List DeliveredNotice
shown notices = map (λ (n : Bor SentNotice). notice_of n.now) notices

pub returns : goal.returns
returns c =
    let old : List (Bor SentNotice) = c.in_ok-old.old.items in
    let new : List (Bor SentNotice) = c.in_ok-new.new.items in
    let equal : (c.are_equal.result ≡ true) ↔ (shown old ≡ shown new) =
    subst (λ (l : List (Bor SentNotice)). (c.are_equal.result ≡ true) ↔ (shown l ≡ shown new)) c.as_slice.ensures.value
    (subst (λ (l : List (Bor SentNotice)). (c.are_equal.result ≡ true) ↔ (shown c.as_slice.result.now ≡ shown l)) c.as_slice-2.ensures.value
    c.are_equal.ensures) in
    let sorted = same_sorted notice_cmp notice_cmp_total notice_cmp_exact (map notice_of c.args.old_notices.now) (map notice_of c.args.new_notices.now) (shown old) (shown new)
    c.in_ok-old.ensures.moved c.in_ok-new.ensures.moved c.in_ok-old.ensures.sorted c.in_ok-new.ensures.sorted in
    (λ h. sorted.0 (equal.0 h), λ p. equal.1 (sorted.1 p))
