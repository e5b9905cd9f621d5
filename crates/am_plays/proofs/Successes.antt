-- A flush in flight of which each sending is a success: once no end is to come, each of its notices is reported delivered.
use Rattle.std.proofs.Common.{◌≡◌, ℕ, zero, suc, ◌+◌, Bool, true, false, not, ◌&&◌, ◌||◌, List, [], ◌∷◌, ◌++◌, map, remove, Option, Some, None, refl, sym, ap, ◌∙◌, subst, if◌then◌else◌}
use Rattle.std.specs.Prelude.{◌==◌, is_some, slice_get}
use Rattle.std.specs.List.{AllByRecursion, list_all, list_any}
use Rattle.std.proofs.lemmas.Bool.{false≢true, and_from, eqb-true, or_left, or_right}
use Rattle.std.proofs.lemmas.Cmp.{nat_eq_equiv}
use Rattle.am_retry.specs.declared.outcome.Outcome.{Outcome}
use Rattle.am_model.proofs.legal.EachCall.{inside}
use Rattle.am_model.proofs.lists.Distinct.{all-both, all-push, all-weaker}
use Rattle.am_model.specs.declared.fault.ReportFault.TheVariants.{Stranger, Twice}
use Rattle.am_model.specs.declared.notice.Report.{Report}
use Rattle.am_model.specs.Finish.{is_delivered}
use Rattle.am_model.specs.Notice.{NoticeData, has_something_for, is_nothing}
use Rattle.am_model.specs.Ticket.{TicketData, is_of_ticket, outcome_of, recorded, report_fault}
use Rattle.am_pool.specs.declared.courier.Sent.{Sent}
use Rattle.am_simulation.specs.Answers.{AreEndsOf, IsOutcome}
use Rattle.am_simulation.specs.Next.{none_left}
use Rattle.am_simulation.specs.Scene.{SendingData}
use Rattle.am_simulation.specs.Steps.{after_end_of, is_success, with_report}
use Rattle.am_plays.specs.PlaysDeliver.{reports_delivered}
use Rattle.am_plays.proofs.Words.{all-get, all-remove}

-- ---- words

and-three : (a b c : Bool) → a ≡ true → b ≡ true → c ≡ true → (a && b && c) ≡ true
and-three true true c x y z = z
and-three true false c x y z = absurd (false≢true y)
and-three false b c x y z = absurd (false≢true x)

-- one of three stays, with another in front of the last or in its place
or-in : (a b c : Bool) → (a || b) ≡ true → (a || (b || c)) ≡ true
or-in true b c e = refl
or-in false true c e = refl
or-in false false c e = absurd (false≢true e)

or-last : (a b c : Bool) → (a || c) ≡ true → (a || (b || c)) ≡ true
or-last true b c e = refl
or-last false b c e = or_right b c e

pub same-is : (m n : ℕ) → m ≡ n → (m == n) ≡ true
same-is m n is = subst (λ (k : ℕ). (m == k) ≡ true) is (nat_eq_equiv.refl m)

all-list : {X : Type 0} (test : X → Bool) (xs : List X) → AllByRecursion (λ x. test x ≡ true) xs → list_all test xs ≡ true
all-list test [] all = refl
all-list test (x ∷ xs) all = and_from (test x) (list_all test xs) all.0 (all-list test xs all.1)

-- one that doesn't pass may go
any-stays : {X : Type 0} (test : X → Bool) (xs : List X) (index : ℕ) (x : X) → slice_get xs index ≡ Some x → test x ≡ false → list_any test xs ≡ true → list_any test (remove xs index) ≡ true
any-stays test [] index x is fails e = absurd (cc)
any-stays test (y ∷ ys) zero x is fails e =
    let first : test y ≡ false = ap test (inside y x is) ∙ fails in
    sym (ap (λ b. b || list_any test ys) first) ∙ e
any-stays test (y ∷ ys) (suc index) x is fails e =
    elim (test y) as (λ b. (b || list_any test ys) ≡ true → (b || list_any test (remove ys index)) ≡ true) [
      | true ↦ λ _. refl
      | false ↦ λ rest. any-stays test ys index x is fails rest
    ] e

-- ---- outcomes

-- this outcome is Delivered
abbrev IsDelivered : ℕ × Outcome → Type 0
IsDelivered o = is_delivered (Some o.1) ≡ true

outcome-delivered : (os : List (ℕ × Outcome)) (i : ℕ) → AllByRecursion IsDelivered os → is_some (outcome_of os i) ≡ true → is_delivered (outcome_of os i) ≡ true
outcome-delivered [] i all e = absurd (false≢true e)
outcome-delivered (o ∷ os) i all e =
    elim (o.0 == i) as (λ b. is_some (if b then Some o.1 else outcome_of os i) ≡ true → is_delivered (if b then Some o.1 else outcome_of os i) ≡ true) [
      | true ↦ λ _. all.0
      | false ↦ λ later. outcome-delivered os i all.1 later
    ] e

-- an outcome more is there, and the others stay
reported-now : (os : List (ℕ × Outcome)) (i : ℕ) (o : Outcome) → is_some (outcome_of (os ++ (i, o) ∷ []) i) ≡ true
reported-now [] i o = ap (λ b. is_some (if b then Some o else None)) (nat_eq_equiv.refl i)
reported-now (x ∷ xs) i o =
    elim (x.0 == i) as (λ b. is_some (if b then Some x.1 else outcome_of (xs ++ (i, o) ∷ []) i) ≡ true) [
      | true ↦ refl
      | false ↦ reported-now xs i o
    ]

reported-still : (os : List (ℕ × Outcome)) (i : ℕ) (more : ℕ × Outcome) → is_some (outcome_of os i) ≡ true → is_some (outcome_of (os ++ more ∷ []) i) ≡ true
reported-still [] i more e = absurd (false≢true e)
reported-still (x ∷ xs) i more e =
    elim (x.0 == i) as (λ b. is_some (if b then Some x.1 else outcome_of xs i) ≡ true → is_some (if b then Some x.1 else outcome_of (xs ++ more ∷ []) i) ≡ true) [
      | true ↦ λ _. refl
      | false ↦ λ later. reported-still xs i more later
    ] e

-- ---- a flush in flight

-- whether a report is of an integration
abbrev is_report_of : ℕ → Option Report → Bool
is_report_of i None = false
is_report_of i (Some p) = p.integration == i

-- whether an integration's report is to come
abbrev is_coming : List (Option Report) → ℕ → Bool
is_coming os i = list_any (is_report_of i) os

-- whether a notice has nothing to send, or is reported, or its report is to come
abbrev is_cared_for : TicketData → List (Option Report) → NoticeData → Bool
is_cared_for t os n = is_nothing n || (is_some (outcome_of t.outcomes n.integration) || is_coming os n.integration)

-- a report is of a notice of the ticket, and says Delivered
abbrev IsOwnReport : TicketData → Option Report → Type 0
IsOwnReport t None = Unit {0}
IsOwnReport t (Some p) = (is_of_ticket t p ≡ true) × (is_delivered (Some p.outcome) ≡ true)

-- with these reports still to come, each sending of a ticket is a success
pub record IsSucceeding (t : TicketData) (os : List (Option Report)) : Type 0 where
  outcomes : AllByRecursion IsDelivered t.outcomes
  reports : AllByRecursion (IsOwnReport t) os
  notices : AllByRecursion (λ n. is_cared_for t os n ≡ true) t.notices

-- so once none is to come, each notice is reported delivered
pub all-delivered : (t : TicketData) → IsSucceeding t [] → list_all (reports_delivered t.outcomes) t.notices ≡ true
all-delivered t h =
    all-list (reports_delivered t.outcomes) t.notices
    (all-weaker (λ n. is_cared_for t [] n ≡ true) (λ n. reports_delivered t.outcomes n ≡ true) (λ n e. each n (is_nothing n) e) t.notices h.notices)
  where
    or-false : (b : Bool) → (b || false) ≡ true → b ≡ true
    or-false true e = refl
    or-false false e = e

    each : (n : NoticeData) (nothing : Bool) → (nothing || (is_some (outcome_of t.outcomes n.integration) || false)) ≡ true → (nothing || is_delivered (outcome_of t.outcomes n.integration)) ≡ true
    each n true e = refl
    each n false e = outcome-delivered t.outcomes n.integration h.outcomes (or-false (is_some (outcome_of t.outcomes n.integration)) e)

-- ---- a report that comes

module _ (t : TicketData) (os : List (Option Report)) (index : ℕ) (o : Option Report) (there : slice_get os index ≡ Some o) where
  abbrev rest : List (Option Report)
  rest = remove os index

  -- whoever it isn't of is cared for as before
  cared-still : (n : NoticeData) → is_report_of n.integration o ≡ false → is_cared_for t os n ≡ true → is_cared_for t rest n ≡ true
  cared-still n other e = by (is_nothing n) (is_some (outcome_of t.outcomes n.integration)) e
    where
      by : (a b : Bool) → (a || (b || is_coming os n.integration)) ≡ true → (a || (b || is_coming rest n.integration)) ≡ true
      by true b e = refl
      by false true e = refl
      by false false e = any-stays (is_report_of n.integration) os index o there other e

  module _ (h : IsSucceeding t os) where
    reports-still : AllByRecursion (IsOwnReport t) rest
    reports-still = all-remove (IsOwnReport t) os index h.reports

    -- nothing was to send
    nothing-sent : o ≡ None → IsSucceeding t rest
    nothing-sent none =
        record {
          outcomes = h.outcomes;
          reports = reports-still;
          notices = all-weaker (λ n. is_cared_for t os n ≡ true) (λ n. is_cared_for t rest n ≡ true) (λ n e. cared-still n (ap (is_report_of n.integration) none) e) t.notices h.notices;
        }

    module _ (p : Report) (is : o ≡ Some p) where
      own : IsOwnReport t (Some p)
      own = subst (IsOwnReport t) is (all-get (IsOwnReport t) os index o there h.reports)

      -- whoever it is of is cared for by an outcome, the others as before
      cared : (u : TicketData) → is_some (outcome_of u.outcomes p.integration) ≡ true → ((i : ℕ) → is_some (outcome_of t.outcomes i) ≡ true → is_some (outcome_of u.outcomes i) ≡ true)
          → (n : NoticeData) → is_cared_for t os n ≡ true → is_cared_for u rest n ≡ true
      cared u now still n e = by (p.integration == n.integration) refl
        where
          more : (nothing b d c : Bool) → (b ≡ true → d ≡ true) → (nothing || (b || c)) ≡ true → (nothing || (d || c)) ≡ true
          more true b d c up e = refl
          more false true d c up e = or_left d c (up refl)
          more false false d c up e = or_right d c e

          by : (b : Bool) → (p.integration == n.integration) ≡ b → is_cared_for u rest n ≡ true
          by true same =
              let there_now : is_some (outcome_of u.outcomes n.integration) ≡ true =
              subst (λ (i : ℕ). is_some (outcome_of u.outcomes i) ≡ true) (eqb-true p.integration n.integration same) now
              in
              or_right (is_nothing n) (is_some (outcome_of u.outcomes n.integration) || is_coming rest n.integration)
              (or_left (is_some (outcome_of u.outcomes n.integration)) (is_coming rest n.integration) there_now)
          by false other =
              more (is_nothing n) (is_some (outcome_of t.outcomes n.integration)) (is_some (outcome_of u.outcomes n.integration)) (is_coming rest n.integration) (still n.integration)
              (cared-still n (ap (is_report_of n.integration) is ∙ other) e)

      -- the ticket takes the report, unless it has an outcome there
      taken-is : is_some (report_fault t p) ≡ is_some (outcome_of t.outcomes p.integration)
      taken-is =
          ap (λ b. is_some (if b then (if is_some (outcome_of t.outcomes p.integration) then Some Twice else None) else Some Stranger)) own.0
          ∙ elim (is_some (outcome_of t.outcomes p.integration)) as (λ b. is_some (if b then Some Twice else None) ≡ b) [ true ↦ refl | false ↦ refl ]

      own-still : (q : Option Report) → IsOwnReport t q → IsOwnReport (recorded t p) q
      own-still None e = tt
      own-still (Some q) e = e

      with-own : (twice : Bool) → is_some (outcome_of t.outcomes p.integration) ≡ twice → IsSucceeding (if twice then t else recorded t p) rest
      with-own true twice =
          record {
            outcomes = h.outcomes;
            reports = reports-still;
            notices = all-weaker (λ n. is_cared_for t os n ≡ true) (λ n. is_cared_for t rest n ≡ true) (cared t twice (λ i e. e)) t.notices h.notices;
          }
      with-own false first =
          record {
            outcomes = all-push IsDelivered t.outcomes (p.integration, p.outcome) h.outcomes own.1;
            reports = all-weaker (IsOwnReport t) (IsOwnReport (recorded t p)) own-still rest reports-still;
            notices = all-weaker (λ n. is_cared_for t os n ≡ true) (λ n. is_cared_for (recorded t p) rest n ≡ true)
                (cared (recorded t p) (reported-now t.outcomes p.integration p.outcome) (λ i e. reported-still t.outcomes i (p.integration, p.outcome) e)) t.notices h.notices;
          }

      one-sent : IsSucceeding (with_report (Some p) t) rest
      one-sent = subst (λ b. IsSucceeding (if b then t else recorded t p) rest) (sym taken-is) (with-own (is_some (outcome_of t.outcomes p.integration)) refl)

    pub after-one : IsSucceeding (with_report o t) rest
    after-one = by o refl
      where
        by : (q : Option Report) → o ≡ q → IsSucceeding (with_report q t) rest
        by None is = nothing-sent is
        by (Some p) is = one-sent p is

-- ---- a flush that is begun

-- a notice is of a ticket
pub record IsOfTicket (t : TicketData) (n : NoticeData) : Type 0 where
  pub board : n.board_id ≡ t.board_id
  pub number : n.ticket ≡ t.number

-- notices that have something to send are there
are-there : (ns : List NoticeData) → AllByRecursion (λ n. is_nothing n ≡ false → has_something_for ns n.integration ≡ true) ns
are-there [] = tt
are-there (n ∷ ns) = (
  λ some. or_left ((n.integration == n.integration) && not (is_nothing n)) (has_something_for ns n.integration)
      (and_from (n.integration == n.integration) (not (is_nothing n)) (nat_eq_equiv.refl n.integration) (ap not some)),
  all-weaker (λ m. is_nothing m ≡ false → has_something_for ns m.integration ≡ true) (λ m. is_nothing m ≡ false → has_something_for (n ∷ ns) m.integration ≡ true)
      (λ m there some. or_right ((n.integration == m.integration) && not (is_nothing n)) (has_something_for ns m.integration) (there some)) ns (are-there ns),
)

module _ (answer : ℕ → ℕ → ℕ → ℕ → Sent) (cut : Option ℕ) (at : ℕ) where
  -- a notice has nothing to send, or a report of its own
  cared-first : (n : NoticeData) (o : Option Report) → IsOutcome answer cut at n o → (is_nothing n || is_report_of n.integration o) ≡ true
  cared-first n None is = or_left (is_nothing n) false is
  cared-first n (Some p) is = or_right (is_nothing n) (p.integration == n.integration) (same-is p.integration n.integration is.1.0.names.2)

  cared-each : (index : ℕ) (ns : List NoticeData) (es : List _) → AreEndsOf answer cut at index ns es
      → AllByRecursion (λ n. (is_nothing n || is_coming (map (λ e. e.report) es) n.integration) ≡ true) ns
  cared-each index [] [] are = tt
  cared-each index [] (e ∷ es) are = absurd are
  cared-each index (n ∷ ns) [] are = absurd are
  cared-each index (n ∷ ns) (e ∷ es) are = (
    or-in (is_nothing n) (is_report_of n.integration e.report) (is_coming (map (λ x. x.report) es) n.integration) (cared-first n e.report are.0.2),
    all-weaker (λ m. (is_nothing m || is_coming (map (λ x. x.report) es) m.integration) ≡ true) (λ m. (is_nothing m || is_coming (map (λ x. x.report) (e ∷ es)) m.integration) ≡ true)
        (λ m c. or-last (is_nothing m) (is_report_of m.integration e.report) (is_coming (map (λ x. x.report) es) m.integration) c) ns (cared-each (index + 1) ns es are.1),
  )

  module _ (t : TicketData) where
    -- a notice is of the ticket, and among its notices, if it has something to send
    abbrev IsIn : NoticeData → Type 0
    IsIn n = IsOfTicket t n × (is_nothing n ≡ false → has_something_for t.notices n.integration ≡ true)

    own-first : (n : NoticeData) (o : Option Report) → IsOutcome answer cut at n o → IsIn n → is_success o ≡ true → IsOwnReport t o
    own-first n None is belongs success = tt
    own-first n (Some p) is belongs success =
        let names = is.1.0.names in (
          and-three (p.board_id == t.board_id) (p.ticket == t.number) (has_something_for t.notices p.integration) (same-is p.board_id t.board_id (names.0 ∙ belongs.0.board))
              (same-is p.ticket t.number (names.1 ∙ belongs.0.number)) (subst (λ (i : ℕ). has_something_for t.notices i ≡ true) (sym names.2) (belongs.1 is.0)),
          success,
        )

    own-each : (index : ℕ) (ns : List NoticeData) (es : List _) → AreEndsOf answer cut at index ns es → AllByRecursion IsIn ns → AllByRecursion (λ e. is_success e.report ≡ true) es
        → AllByRecursion (IsOwnReport t) (map (λ e. e.report) es)
    own-each index [] [] are belong success = tt
    own-each index [] (e ∷ es) are belong success = absurd are
    own-each index (n ∷ ns) [] are belong success = absurd are
    own-each index (n ∷ ns) (e ∷ es) are belong success = (own-first n e.report are.0.2 belong.0 success.0, own-each (index + 1) ns es are.1 belong.1 success.1)

    pub just-begun : (es : List _) → AreEndsOf answer cut at 0 t.notices es → t.outcomes ≡ [] → AllByRecursion (IsOfTicket t) t.notices → AllByRecursion (λ e. is_success e.report ≡ true) es
        → IsSucceeding t (map (λ e. e.report) es)
    just-begun es are none belong success =
        record {
          outcomes = subst (AllByRecursion IsDelivered) (sym none) tt;
          reports = own-each 0 t.notices es are
              (all-both (IsOfTicket t) (λ n. is_nothing n ≡ false → has_something_for t.notices n.integration ≡ true) IsIn (λ n own there. (own, there)) t.notices belong (are-there t.notices)) success;
          notices = all-weaker (λ n. (is_nothing n || is_coming (map (λ e. e.report) es) n.integration) ≡ true) (λ n. is_cared_for t (map (λ e. e.report) es) n ≡ true)
              (λ n e. or-last (is_nothing n) (is_some (outcome_of t.outcomes n.integration)) (is_coming (map (λ x. x.report) es) n.integration) e) t.notices (cared-each 0 t.notices es are);
        }

-- ---- the reports of ends

map-remove : {X Y : Type 0} (f : X → Y) (xs : List X) (index : ℕ) → map f (remove xs index) ≡ remove (map f xs) index
map-remove f [] zero = refl
map-remove f [] (suc index) = refl
map-remove f (x ∷ xs) zero = refl
map-remove f (x ∷ xs) (suc index) = ap (λ l. f x ∷ l) (map-remove f xs index)

map-get : {X Y : Type 0} (f : X → Y) (xs : List X) (index : ℕ) (x : X) → slice_get xs index ≡ Some x → slice_get (map f xs) index ≡ Some (f x)
map-get f [] index x is = absurd (cc)
map-get f (y ∷ ys) zero x is = ap (λ z. Some (f z)) (inside y x is)
map-get f (y ∷ ys) (suc index) x is = map-get f ys index x is

-- those of a flush in flight
abbrev pub reports_of : SendingData → List (Option Report)
reports_of s = map (λ e. e.report) s.ends

-- none is left without ends
pub none-reported : (s : SendingData) → none_left s.ends ≡ true → reports_of s ≡ []
none-reported s = by s.ends
  where
    by : (es : List _) → none_left es ≡ true → map (λ e. e.report) es ≡ []
    by [] none = refl
    by (e ∷ es) none = absurd (false≢true none)

-- one that comes
pub after-end : (s : SendingData) (index : ℕ) (x : _) → slice_get s.ends index ≡ Some x → IsSucceeding s.ticket (reports_of s) → IsSucceeding (with_report x.report s.ticket) (reports_of (after_end_of s index x.report))
after-end s index x there h =
    subst (IsSucceeding (with_report x.report s.ticket)) (sym (map-remove (λ e. e.report) s.ends index))
    (after-one s.ticket (reports_of s) index x.report (map-get (λ e. e.report) s.ends index x there) h)
