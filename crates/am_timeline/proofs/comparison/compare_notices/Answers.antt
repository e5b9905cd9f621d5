use Rattle.std.proofs.Common.{◌∙◌, List, ap, length, map, refl, sym}
use Rattle.std.proofs.lemmas.Bool.{false≢true}
use Rattle.std.proofs.lemmas.List.{length-map}
use Rattle.am_timeline.specs.Comparison.{DeliveredNotice, no_difference_text, notice_of}
use Rattle.am_timeline.specs.declared.sent_notice.SentNotice.{SentNotice}
use Rattle.am_timeline.proofs.Comparisons.{decided}
use Rattle.am_timeline.proofs.comparison.compare_notices.Goals as goal

pub returns-then-same-clause-differs : goal.returns-then-same-clause-differs
returns-then-same-clause-differs g c =
    let shown : List SentNotice → List DeliveredNotice = map notice_of in
    let old = ap shown c.as_slice-old_slice.ensures.value ∙ c.in_ok-old_notices.ensures in
    let new = ap shown c.as_slice-new_slice.ensures.value ∙ c.in_ok-new_notices.ensures in
    let same = decided c.in_ok-same.same _ _ _ _ old new c.in_ok-same.ensures in
    (λ h. same.0 c.if-same.true, λ p. refl)

pub returns-then-same-clause-text : goal.returns-then-same-clause-text
returns-then-same-clause-text g c h =
    c.in_ok-text.ensures
    ∙ ap no_difference_text
    (ap (λ (l : List SentNotice). length l) c.as_slice-old_slice.ensures.value
    ∙ sym (length-map c.in_ok-old_notices.old_notices.items notice_of)
    ∙ ap (λ (l : List DeliveredNotice). length l) c.in_ok-old_notices.ensures)

pub returns-clause-differs : goal.returns-clause-differs
returns-clause-differs g c =
    let shown : List SentNotice → List DeliveredNotice = map notice_of in
    let old = ap shown c.as_slice-old_slice.ensures.value ∙ c.in_ok-old_notices.ensures in
    let new = ap shown c.as_slice-new_slice.ensures.value ∙ c.in_ok-new_notices.ensures in
    let same = decided c.in_ok-same.same _ _ _ _ old new c.in_ok-same.ensures in
    (λ h. absurd (false≢true (sym h)), λ p. absurd (false≢true (sym c.if-same.false ∙ same.1 p)))

pub returns-clause-text : goal.returns-clause-text
returns-clause-text g c h = absurd (false≢true (sym h))
