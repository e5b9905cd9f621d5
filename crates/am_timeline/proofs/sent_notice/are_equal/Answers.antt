use Rattle.std.proofs.Common.{◌≡◌, ◌∙◌, ℕ, Bor, List, ap, arith, length, min, refl, sym}
use Rattle.std.specs.Iterator.Adapters.{zip_first, zip_second}
use Rattle.std.specs.Slice.Iter.{iter_rest}
use Rattle.std.proofs.lemmas.Bool.{false≢true}
use Rattle.std.proofs.lemmas.Slice.Zip.{zip_end, zip_turn}
use Rattle.am_timeline.specs.Comparison.{DeliveredNotice, notice_of}
use Rattle.am_timeline.specs.declared.sent_notice.SentNotice.{SentNotice}
use Rattle.am_timeline.proofs.Sorted.{keys_there, same_keys}
use Rattle.am_timeline.proofs.sent_notice.are_equal.Goals as goal

abbrev shown : Bor SentNotice → DeliveredNotice
shown n = notice_of n.now

pub returns-then-not-is_equal : goal.returns-then-not-is_equal
returns-then-not-is_equal c =
    let olds : List (Bor SentNotice) = c.args.old.now in
    let news : List (Bor SentNotice) = c.args.new.now in
    let i : ℕ = length c.loop-one.yielded in
    let d : Bor SentNotice = c.in-Some.one.now in
    let begins = c.into_iter-one-iterator.ensures.into_iter_gives in
    let turn = zip_turn olds news c.loop-one.yielded c.into_iter-one-iterator.result c.loop-one.one-iterator c.next.new.self c.next.result
    (ap (λ z. iter_rest (zip_first z)) begins ∙ ap iter_rest c.zip-one-items.ensures.first ∙ c.iter.ensures.rest)
    (ap (λ z. iter_rest (zip_second z)) begins ∙ c.zip-one-items.ensures.second.0)
    c.loop-one.yielded_by (c.in-Some.one, c.in-Some.other) c.in-Some.is c.next.ensures.steps in (
      λ h. absurd (false≢true h),
      λ same.
          sym c.if-not-is_equal.true
          ∙ c.is_equal.ensures.1 (ap shown (turn.2 d) ∙ keys_there shown olds news i d same turn.0 turn.1 ∙ sym (ap shown (turn.3 d))),
    )

pub returns : goal.returns
returns c =
    let olds : List (Bor SentNotice) = c.args.old.now in
    let news : List (Bor SentNotice) = c.args.new.now in
    let begins = c.into_iter-one-iterator.ensures.into_iter_gives in
    let count : length olds ≡ length news = omega arith in
    let all : length c.loop-one.yielded ≡ min (length olds) (length news) =
    zip_end olds news c.loop-one.yielded c.into_iter-one-iterator.result c.loop-one.one-iterator c.next.new.self c.next.result
    (ap (λ z. iter_rest (zip_first z)) begins ∙ ap iter_rest c.zip-one-items.ensures.first ∙ c.iter.ensures.rest)
    (ap (λ z. iter_rest (zip_second z)) begins ∙ c.zip-one-items.ensures.second.0)
    c.loop-one.yielded_by c.in-None.is c.next.ensures.steps in
    (λ h. same_keys shown olds news count (λ k d below. c.loop-one.invariant k d (omega arith)), λ same. refl)
