-- Answers: how integrations answer in a rehearsal, and how the sendings of a flush end.
use Rattle.std.specs.Prelude.{◌≡◌, ◌==◌, ◌&&◌, ℕ, ◌+◌, min, max, Bool, true, false, not, nat_le, nat_lt}
use Rattle.std.specs.Prelude.{List, [], ◌∷◌, Option, Some, None, if◌then◌else◌}
use Rattle.std.specs.List.{find}
use Rattle.std.specs.Str.{bytes_eq}
use Rattle.am_model.specs.Notice.{NoticeData, is_nothing}
use Rattle.am_model.specs.declared.notice.Report.{Report}
use Rattle.am_retry.specs.declared.outcome.Answer.TheVariants.{Done, Never}
use Rattle.am_pool.specs.Delivery.{with_deadline}
use Rattle.am_pool.specs.Sendings.{IsAnsweredBy, IsSentFrom, end_on, later}
use Rattle.am_pool.specs.declared.courier.Sent.{Sent}
use Rattle.am_simulation.specs.declared.next.End.{End}
use Rattle.am_terms.specs.declared.rehearsal.Outage.{Outage}

-- whether an outage of one integration, or of all, is of this one
abbrev pub is_for : ℕ → Option ℕ → Bool
is_for integration None = true
is_for integration (Some position) = position == integration

-- whether a span that ends at some time, or never, is over
abbrev pub is_over : ℕ → Option ℕ → Bool
is_over at None = false
is_over at (Some to) = nat_le to at

-- whether an outage covers an attempt at a time for this integration of this receiver
abbrev pub covers : List ℕ → ℕ → ℕ → Outage → Bool
covers receiver integration at o =
    is_for integration o.integration && nat_le o.from at && not (is_over at o.to) && bytes_eq o.receiver receiver

-- how an attempt at a time goes that an outage covers; one that none covers is done at once
abbrev pub sent_by : ℕ → Option Outage → Sent
sent_by at None = record { answer = Done; ended = at }
sent_by at (Some o) = record { answer = o.answer; ended = later at o.takes }

-- how an attempt at a time goes, where the dispatcher can be stopped: one that would end after the cut ends there, and isn't made again
-- (Alertmanager's Dispatcher.Stop, which cancels what is in flight)
abbrev pub cut_short : Option ℕ → ℕ → Sent → Sent
cut_short None at sent = sent
cut_short (Some cut) at sent = if nat_lt cut sent.ended then record { answer = Never; ended = max at cut } else sent

-- how the attempts for a receiver go: the first outage counts that covers them, and none ends after the cut
abbrev pub answer_of : Option ℕ → List Outage → List ℕ → ℕ → ℕ → ℕ → ℕ → Sent
answer_of cut outages receiver ticket integration attempt at =
    cut_short cut at (sent_by at (find (covers receiver integration at) outages))

-- up to when a notice is tried: up to its deadline, or up to the cut if that is sooner
abbrev pub tried_until : Option ℕ → ℕ → ℕ
tried_until None deadline = deadline
tried_until (Some cut) deadline = min deadline cut

-- a notice as it is sent, where no attempt is to begin after the cut
abbrev pub tried_by : Option ℕ → NoticeData → NoticeData
tried_by cut n = with_deadline (tried_until cut n.deadline) n

-- with attempts that go so, the report of the sending of a notice from a time on; none where there is nothing to send
abbrev pub IsOutcome : (ℕ → ℕ → ℕ → ℕ → Sent) → Option ℕ → ℕ → NoticeData → Option Report → Type 0
IsOutcome answer cut at n None = is_nothing n ≡ true
IsOutcome answer cut at n (Some report) = (is_nothing n ≡ false) × IsSentFrom (IsAnsweredBy answer) at (tried_by cut n) report

-- the end of the notice at an index of a ticket that was sent from a time on: when its sending is over
abbrev pub IsEndOf : (ℕ → ℕ → ℕ → ℕ → Sent) → Option ℕ → ℕ → ℕ → NoticeData → End → Type 0
IsEndOf answer cut at index n e = (e.index ≡ index) × (e.at ≡ end_on at e.report) × IsOutcome answer cut at n e.report

-- the ends of notices, the first of which is at this index
abbrev pub AreEndsOf : (ℕ → ℕ → ℕ → ℕ → Sent) → Option ℕ → ℕ → ℕ → List NoticeData → List End → Type 0
AreEndsOf answer cut at index [] [] = Unit {0}
AreEndsOf answer cut at index [] (e ∷ es) = ⊥
AreEndsOf answer cut at index (n ∷ ns) [] = ⊥
AreEndsOf answer cut at index (n ∷ ns) (e ∷ es) = IsEndOf answer cut at index n e × AreEndsOf answer cut at (index + 1) ns es
