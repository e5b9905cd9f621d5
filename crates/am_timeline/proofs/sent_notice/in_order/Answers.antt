use Rattle.std.proofs.Common.{Bor, map, subst, rules}
use Rattle.std.specs.Prelude.{IsPermutation}
use Rattle.std.proofs.lemmas.List.Sorted.{IsPermutation-map}
use Rattle.am_timeline.specs.Comparison.{notice_cmp, notice_of}
use Rattle.am_timeline.specs.declared.sent_notice.SentNotice.{SentNotice}
use Rattle.am_timeline.proofs.Comparisons.{notice_cmp_total}
use Rattle.am_timeline.proofs.Sorted.{sorted_by_keys}
use Rattle.am_timeline.proofs.sent_notice.in_order.Goals as goal

pub returns-clause-moved : goal.returns-clause-moved
returns-clause-moved c =
    subst (λ l. IsPermutation l (map (λ (n : Bor SentNotice). notice_of n.now) c.sort_unstable_by.new.self.items)) c.in_ok-found.ensures
    (IsPermutation-map (λ (n : Bor SentNotice). notice_of n.now) c.in_ok-found.found.items c.sort_unstable_by.new.self.items c.sort_unstable_by.ensures.permutation)

pub returns-clause-sorted : goal.returns-clause-sorted
returns-clause-sorted c =
    sorted_by_keys notice_cmp notice_cmp_total (λ (n : Bor SentNotice). notice_of n.now) c.sort_unstable_by.new.self.items c.sort_unstable_by.ensures.sorted (λ a r f' k. search rules)
