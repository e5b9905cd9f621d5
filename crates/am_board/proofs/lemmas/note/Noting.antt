-- An integration that a kept flush notified, and what a note makes of it.
use Rattle.std.proofs.Common.{◌≡◌, ℕ, ◌==◌, Option, Some, None, List, [], ◌∷◌, map, get_or, refl, ap, ◌∙◌}
use Rattle.std.specs.Prelude.{position, slice_get}
use Rattle.std.specs.Option.{option_map, option_and_then}
use Rattle.am_retry.specs.declared.outcome.Outcome.{Outcome}
use Rattle.am_model.specs.Causes.{notified_cause, notice_cause, flush_cause}
use Rattle.am_model.specs.Notice.{NoticeData}
use Rattle.am_model.specs.Ticket.{TicketData, outcome_of}
use Rattle.am_model.specs.declared.config.Config.{Config}
use Rattle.am_model.specs.declared.fault.NoteFault.TheVariants as note
use Rattle.am_board.specs.Refinement.{notified_state_of, flush_state}
use Rattle.am_model.specs.Note.{notified_by}
use Rattle.am_model.specs.State.{NotifiedState, FlushState, State, flush_numbered}
use Rattle.am_board.specs.declared.flush.Notified.{Notified}
use Rattle.am_board.specs.declared.flush.OpenFlush.{OpenFlush}
use Rattle.am_model.proofs.lists.Alone.{find-position, find-no_position, find-mapped}

module _ (f : OpenFlush) (integration : ℕ) where
  pub notified-missing : position (λ x. x.key.integration == integration) f.notified.items ≡ None → notified_by (flush_state f) integration ≡ None
  notified-missing at =
      find-mapped (λ (a : NotifiedState). a.integration == integration) notified_state_of f.notified.items
      ∙ ap (option_map notified_state_of) (find-no_position (λ (x : Notified). x.key.integration == integration) f.notified.items at)

  pub notified-found : (a : ℕ) (d : Notified) → position (λ x. x.key.integration == integration) f.notified.items ≡ Some a → notified_by (flush_state f) integration ≡ Some (notified_state_of (get_or f.notified.items a d))
  notified-found a d at =
      find-mapped (λ (a : NotifiedState). a.integration == integration) notified_state_of f.notified.items
      ∙ ap (option_map notified_state_of) (find-position (λ (x : Notified). x.key.integration == integration) f.notified.items a d at)

-- ---- why a notice isn't noted

pub flush-missing : (flushes : List OpenFlush) (number : ℕ) → position (λ f. f.number == number) flushes ≡ None → flush_numbered (map flush_state flushes) number ≡ None
flush-missing flushes number at =
    find-mapped (λ (f : FlushState). f.number == number) flush_state flushes
    ∙ ap (option_map flush_state) (find-no_position (λ (f : OpenFlush). f.number == number) flushes at)

pub flush-found : (flushes : List OpenFlush) (number f : ℕ) (d : OpenFlush) → position (λ f. f.number == number) flushes ≡ Some f → flush_numbered (map flush_state flushes) number ≡ Some (flush_state (get_or flushes f d))
flush-found flushes number f d at =
    find-mapped (λ (f : FlushState). f.number == number) flush_state flushes
    ∙ ap (option_map flush_state) (find-position (λ (f : OpenFlush). f.number == number) flushes f d at)

module _ (config : Config) (records : ℕ) (s : State) (ticket : TicketData) (f : FlushState) where
  pub notice-missing : (o : Option NoticeData) → option_map (λ (n : NoticeData). n.integration) o ≡ None → notice_cause config records s ticket o f ≡ Some note.NotReady
  notice-missing None h = refl
  notice-missing (Some n) h = absurd (cc)

  pub notice-found : (o : Option NoticeData) (i : ℕ) → option_map (λ (n : NoticeData). n.integration) o ≡ Some i → notice_cause config records s ticket o f ≡ notified_cause config records s (outcome_of ticket.outcomes i) (notified_by f i)
  notice-found None i h = absurd (cc)
  notice-found (Some n) i h = let is : n.integration ≡ i = cc in ap (λ j. notified_cause config records s (outcome_of ticket.outcomes j) (notified_by f j)) is

pub outcome-found : (outcomes : List (ℕ × Outcome)) (o : Option NoticeData) (i : ℕ) → option_map (λ (n : NoticeData). n.integration) o ≡ Some i → option_and_then (λ (n : NoticeData). outcome_of outcomes n.integration) o ≡ outcome_of outcomes i
outcome-found outcomes None i h = absurd (cc)
outcome-found outcomes (Some n) i h = let is : n.integration ≡ i = cc in ap (outcome_of outcomes) is

-- a flush that is open, and a ticket that has no notice at the index
pub not-ready : (config : Config) (records : ℕ) (s : State) (ticket : TicketData) (index : ℕ) (flushes : List OpenFlush) (f : ℕ) → s.flushes ≡ map flush_state flushes → position (λ f. f.number == ticket.number) flushes ≡ Some f
    → option_map (λ (n : NoticeData). n.integration) (slice_get ticket.notices index) ≡ None → flush_cause config records s ticket index (flush_numbered s.flushes ticket.number) ≡ Some note.NotReady
not-ready config records s ticket index [] f kept at missing = absurd (cc)
not-ready config records s ticket index (o ∷ os) f kept at missing =
    let found : flush_numbered s.flushes ticket.number ≡ Some (flush_state (get_or (o ∷ os) f o)) = ap (λ fs. flush_numbered fs ticket.number) kept ∙ flush-found (o ∷ os) ticket.number f o at in
    ap (flush_cause config records s ticket index) found ∙ notice-missing config records s ticket (flush_state (get_or (o ∷ os) f o)) (slice_get ticket.notices index) missing
