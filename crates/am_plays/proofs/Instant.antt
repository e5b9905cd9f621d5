-- A sending to a receiver that no outage names is over at once, and is a success.
use Rattle.std.proofs.Common.{◌≡◌, ℕ, ◌≤◌, max, min, Bool, true, false, not, ◌&&◌, nat_le, nat_lt, List, [], ◌∷◌, Option, Some, None, refl, sym, ap, ◌∙◌, arith, if◌then◌else◌}
use Rattle.std.specs.Prelude.{find}
use Rattle.std.specs.List.{AllByRecursion, list_all}
use Rattle.std.specs.Str.{bytes_eq}
use Rattle.std.proofs.lemmas.Bool.{and_parts, not-true}
use Rattle.std.proofs.lemmas.Bool.Decides.{nat_tests}
use Rattle.std.proofs.lemmas.List.Elements.{All-cons, All-nil}
use Rattle.am_retry.specs.Attempts.{latest}
use Rattle.am_retry.specs.declared.outcome.Answer.TheVariants.{Done, Never}
use Rattle.am_retry.specs.declared.outcome.Outcome.TheVariants.{Delivered}
use Rattle.am_model.specs.declared.config.Config.{Config}
use Rattle.am_model.specs.declared.config.Integration.{Integration}
use Rattle.am_model.specs.declared.notice.Report.{Report}
use Rattle.am_model.specs.declared.record.Reply.{Reply}
use Rattle.am_model.specs.declared.record.Reply.TheVariants as reply
use Rattle.am_model.specs.Begin.{begun, notice_for, notified_of, reply_notifying, reply_taking, taken}
use Rattle.am_model.specs.Finish.{is_delivered}
use Rattle.am_model.specs.Notice.{NoticeData}
use Rattle.am_model.specs.State.{GroupState, State}
use Rattle.am_model.proofs.lists.Distinct.{all-map}
use Rattle.am_pool.proofs.Determined.{same_report}
use Rattle.am_pool.specs.Sendings.{IsAnsweredBy, IsSentFrom, end_on}
use Rattle.am_pool.specs.declared.courier.Sent.{Sent}
use Rattle.am_simulation.specs.Answers.{IsOutcome, answer_of, covers, cut_short, is_for, is_over, sent_by, tried_by}
use Rattle.am_simulation.specs.Steps.{is_success}
use Rattle.am_terms.specs.declared.rehearsal.Outage.{Outage}
use Rattle.am_plays.specs.PlaysInTime.{has_no_outage, runs_past}

-- ---- no outage covers an attempt

and-false : (a b c : Bool) → (a && b && c && false) ≡ false
and-false true true true = refl
and-false true true false = refl
and-false true false c = refl
and-false false b c = refl

uncovered : (receiver : List ℕ) (outages : List Outage) → has_no_outage receiver outages ≡ true → (integration at : ℕ) → find (covers receiver integration at) outages ≡ None
uncovered receiver [] none integration at = refl
uncovered receiver (o ∷ os) none integration at =
    let parts = and_parts (not (bytes_eq o.receiver receiver)) (list_all (λ p. not (bytes_eq p.receiver receiver)) os) none in
    let other : covers receiver integration at o ≡ false =
    ap (λ b. is_for integration o.integration && nat_le o.from at && not (is_over at o.to) && b) (not-true (bytes_eq o.receiver receiver) parts.0)
    ∙ and-false (is_for integration o.integration) (nat_le o.from at) (not (is_over at o.to))
    in
    ap (λ b. if b then Some o else find (covers receiver integration at) os) other ∙ uncovered receiver os parts.1 integration at

-- done, at once
abbrev pub done_at : ℕ → Sent
done_at at = record { answer = Done; ended = at }

uncut : (until at : ℕ) (cut : Option ℕ) → at ≤ until → runs_past until cut ≡ true → cut_short cut at (done_at at) ≡ done_at at
uncut until at None within runs = refl
uncut until at (Some cut) within runs =
    let later : nat_lt cut at ≡ false = grind (arith, nat_tests, within, runs) in
    ap (λ b. if b then record { answer = Never; ended = max at cut } else done_at at) later

-- so it is done at once
pub answer-done : (until at ticket integration attempt : ℕ) (cut : Option ℕ) (outages : List Outage) (receiver : List ℕ) → at ≤ until → runs_past until cut ≡ true
    → has_no_outage receiver outages ≡ true → answer_of cut outages receiver ticket integration attempt at ≡ done_at at
answer-done until at ticket integration attempt cut outages receiver within runs none =
    ap (λ (o : Option Outage). cut_short cut at (sent_by at o)) (uncovered receiver outages none integration at) ∙ uncut until at cut within runs

-- ---- the end of a notice's sending

module _ (answer : ℕ → ℕ → ℕ → ℕ → Sent) (cut : Option ℕ) (at : ℕ) where
  -- a notice whose first attempt is done at once, before its deadline
  pub record IsDoneAtOnce (n : NoticeData) : Type 0 where
    pub early : nat_lt at (tried_by cut n).deadline ≡ true
    pub answers : answer n.ticket n.integration 1 at ≡ done_at at

  -- its report
  abbrev expected : NoticeData → Report
  expected n = record { board_id = n.board_id; ticket = n.ticket; integration = n.integration; outcome = Delivered; attempts = 1; ended = at }

  expected-sent : (n : NoticeData) → IsDoneAtOnce n → IsSentFrom (IsAnsweredBy answer) at (tried_by cut n) (expected n)
  expected-sent n h = (
    record {
      names = (refl, refl, refl);
      responses = record { answer = Done; ended = at } ∷ [];
      answered = All-cons (IsAnsweredBy answer) _ [] (sym h.answers) (All-nil (IsAnsweredBy answer));
      has = ap (λ b. b && true) h.early;
      attempts_are = refl;
      end_is = ends;
    },
    refl,
  )
    where
      ends : at ≡ max at (min at latest)
      ends = omega arith

  pub outcome-instant : (n : NoticeData) → IsDoneAtOnce n → (o : Option Report) → IsOutcome answer cut at n o → (end_on at o ≡ at) × (is_success o ≡ true)
  outcome-instant n h None is = (refl, refl)
  outcome-instant n h (Some report) is =
      let same : report ≡ expected n = same_report answer at (tried_by cut n) report (expected n) is.1 (expected-sent n h) in
      (ap (λ (p : Report). p.ended) same, ap (λ (p : Report). is_delivered (Some p.outcome)) same)

-- ---- whose a begin's notices are

pub all-of : {X : Type 0} (P : X → Type 0) → ((x : X) → P x) → (xs : List X) → AllByRecursion P xs
all-of P each [] = tt
all-of P each (x ∷ xs) = (each x, all-of P each xs)

-- each notice of a reply is of this board and of the reply's flush
abbrev pub AreOwn : ℕ → Reply → Type 0
AreOwn id (reply.Flush group opened) = AllByRecursion (λ (n : NoticeData). (n.board_id ≡ id) × (n.ticket ≡ opened.number)) opened.notices
AreOwn id (reply.Inserted inserted) = Unit {0}
AreOwn id (reply.Silenced silenced) = Unit {0}
AreOwn id reply.NothingDue = Unit {0}
AreOwn id (reply.Quiet group removed) = Unit {0}
AreOwn id (reply.Finished finished) = Unit {0}
AreOwn id (reply.Maintained maintained) = Unit {0}
AreOwn id (reply.EmptyGroupsRemoved removed) = Unit {0}
AreOwn id (reply.Forgotten forgotten) = Unit {0}
AreOwn id (reply.Loaded loaded) = Unit {0}
AreOwn id reply.Noted = Unit {0}

module _ (config : Config) (id : ℕ) (s : State) (t : ℕ) where
  own-notifying : (g : GroupState) (notified : List (ℕ × Integration)) → AreOwn id (reply_notifying config id s t g notified)
  own-notifying g [] = tt
  own-notifying g (i ∷ is) =
      all-map (notice_for config id s t g) (λ n. (n.board_id ≡ id) × (n.ticket ≡ s.next_number)) (i ∷ is)
      (all-of (λ (j : ℕ × Integration). (id ≡ id) × (s.next_number ≡ s.next_number)) (λ j. (refl, refl)) (i ∷ is))

  own-taking : (o : Option GroupState) → AreOwn id (reply_taking config id s t o)
  own-taking None = tt
  own-taking (Some g) = own-notifying g (notified_of config s t g)

  pub begun-own : AreOwn id (begun config id s t)
  begun-own = own-taking (taken s t)
