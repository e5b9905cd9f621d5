-- How attempts are answered determines the report on a notice that is sent.
use Rattle.std.proofs.Common.{◌≡◌, ℕ, zero, suc, ◌+◌, false, All, List, [], ◌∷◌, ◌++◌, length, map, refl, sym, ap, ◌∙◌, subst, append_assoc, arith}
use Rattle.std.proofs.lemmas.List.{map-append}
use Rattle.std.proofs.lemmas.List.Elements.{All-cons, All-head, All-nil, All-tail}
use Rattle.am_model.specs.Notice.{NoticeData}
use Rattle.am_model.specs.declared.notice.Report.{Report}
use Rattle.am_retry.specs.Attempts.{Response, Try, attempt_after, end_after, tries_of}
use Rattle.am_retry.specs.Outcome.{HasOutcome}
use Rattle.am_retry.specs.declared.outcome.Outcome.{Outcome}
use Rattle.am_retry.specs.declared.outcome.Outcome.TheVariants.{Starved}
use Rattle.am_retry.proofs.Fronts.{has_front, never_both}
use Rattle.am_retry.proofs.Tries.{one_more_try}
use Rattle.am_pool.specs.Delivery.{is_starved}
use Rattle.am_pool.specs.Tries.{all_tried_for, tried_for}
use Rattle.am_pool.specs.Sendings.{IsAnsweredBy, IsSentFrom}
use Rattle.am_pool.specs.declared.courier.Sent.{Sent}

-- a list that isn't empty ends with an item
last_of : {X : Type 0} (n : ℕ) (xs : List X) → length xs ≡ suc n → (front : List X) × (x : X) × (xs ≡ front ++ x ∷ []) × (length front ≡ n)
last_of n [] long = absurd (omega (arith, long))
last_of zero (x ∷ []) long = ([], x, refl, refl)
last_of zero (x ∷ y ∷ ys) long = absurd (omega (arith, long))
last_of {X} (suc n) (x ∷ xs) long =
    let later = last_of n xs (omega (arith, long)) in
    (x ∷ later.0, later.1, ap (λ (l : List X). x ∷ l) later.2, omega (arith, later.3))

no_items : {X : Type 0} (xs : List X) → length xs ≡ 0 → xs ≡ []
no_items [] none = refl
no_items (x ∷ xs) none = absurd (omega (arith, none))

-- two numbers are the same, or the one is more or the other
pub apart : (k n : ℕ) (P : Type 0) → (k ≡ n → P) → ((d : ℕ) → n ≡ suc (d + k) → P) → ((d : ℕ) → k ≡ suc (d + n) → P) → P
apart zero zero P same more less = same refl
apart zero (suc n) P same more less = more n (omega arith)
apart (suc k) zero P same more less = less k (omega arith)
apart (suc k) (suc n) P same more less = apart k n P (λ e. same (ap suc e)) (λ d e. more d (omega (arith, e))) (λ d e. less d (omega (arith, e)))

module _ {X : Type 0} (P : X → Type 0) where
  -- what holds of all holds of those in front
  pub all_front : (xs ys : List X) → All P (xs ++ ys) → All P xs
  all_front [] ys all = All-nil P
  all_front (x ∷ xs) ys all = All-cons P x xs (All-head P x (xs ++ ys) all) (all_front xs ys (All-tail P x (xs ++ ys) all))

  -- and of those behind
  pub all_behind : (xs ys : List X) → All P (xs ++ ys) → All P ys
  all_behind [] ys all = all
  all_behind (x ∷ xs) ys all = all_behind xs ys (All-tail P x (xs ++ ys) all)

module _ (answer : ℕ → ℕ → ℕ → ℕ → Sent) (start : ℕ) (notice : NoticeData) where
  -- what is answered to the attempt after these answers
  abbrev next_response : List Response → Response
  next_response responses =
      let sent = answer notice.ticket notice.integration (length responses + 1) (attempt_after start responses) in
      record { answer = sent.answer; ended = sent.ended }

  -- the first so many answers
  abbrev first_responses : ℕ → List Response
  first_responses zero = []
  first_responses (suc k) = first_responses k ++ next_response (first_responses k) ∷ []

  abbrev AreAnswered : List Response → Type 0
  AreAnswered responses = All (IsAnsweredBy answer) (all_tried_for notice (tries_of start responses))

  abbrev Has : List Response → Outcome → Type 0
  Has responses outcome = HasOutcome start notice.deadline responses outcome

  -- answers that are so are the first of them
  are_first : (n : ℕ) (responses : List Response) → length responses ≡ n → AreAnswered responses → responses ≡ first_responses n
  are_first zero responses none answered = no_items responses none
  are_first (suc n) responses long answered =
      let split = last_of n responses long in
      let us = split.0 in
      let t = split.1 in
      let last : Try = record { attempt = length us + 1; at = attempt_after start us; answer = t.answer; ended = t.ended } in
      let tries : all_tried_for notice (tries_of start (us ++ t ∷ [])) ≡ all_tried_for notice (tries_of start us) ++ tried_for notice last ∷ [] =
      ap (map (tried_for notice)) (one_more_try start us t) ∙ map-append (tried_for notice) (tries_of start us) (last ∷ [])
      in
      let all = subst (All (IsAnsweredBy answer)) tries (subst AreAnswered split.2 answered) in
      let before : us ≡ first_responses n = are_first n us split.3 (all_front (IsAnsweredBy answer) (all_tried_for notice (tries_of start us)) (tried_for notice last ∷ []) all) in
      let here : IsAnsweredBy answer (tried_for notice last) =
      All-head (IsAnsweredBy answer) (tried_for notice last) [] (all_behind (IsAnsweredBy answer) (all_tried_for notice (tries_of start us)) (tried_for notice last ∷ []) all)
      in
      let same : t ≡ next_response us = ap (λ (s : Sent). record { answer = s.answer; ended = s.ended }) here in
      split.2 ∙ (ap (λ (x : Response). us ++ x ∷ []) same ∙ ap (λ (xs : List Response). xs ++ next_response xs ∷ []) before)

  -- more of them begin with fewer
  more_responses : (d k n : ℕ) → n ≡ suc (d + k) → (rest : List Response) × (first_responses n ≡ first_responses k ++ next_response (first_responses k) ∷ rest)
  more_responses zero k n is =
      let next : n ≡ suc k = omega (arith, is) in
      ([], ap first_responses next)
  more_responses (suc d) k n is =
      let later = more_responses d (suc k) n (omega (arith, is)) in (
        next_response (first_responses (suc k)) ∷ later.0,
        later.1 ∙ append_assoc (first_responses k) (next_response (first_responses k) ∷ []) (next_response (first_responses (suc k)) ∷ later.0),
      )

  -- where more of them have an outcome, fewer ask for an attempt more
  asks_more : (d k n : ℕ) (outcome : Outcome) → n ≡ suc (d + k) → Has (first_responses n) outcome → Has (first_responses k) Starved
  asks_more d k n outcome is has =
      let more = more_responses d k n is in
      has_front start notice.deadline (first_responses k) (next_response (first_responses k)) more.0 outcome (subst (λ (responses : List Response). Has responses outcome) more.1 has)

  not_fewer : (d k n : ℕ) (one other : Outcome) → is_starved one ≡ false → n ≡ suc (d + k) → Has (first_responses k) one → Has (first_responses n) other → ⊥
  not_fewer d k n one other fed is has later =
      let starved = never_both start notice.deadline (first_responses k) one Starved has (asks_more d k n other is later) in
      absurd (cc (ap is_starved starved, fed))

  -- two reports that are so sent are one
  pub same_report : (one other : Report) → IsSentFrom (IsAnsweredBy answer) start notice one → IsSentFrom (IsAnsweredBy answer) start notice other → one ≡ other
  same_report one other a b =
      let first = a.0 in
      let second = b.0 in
      let k = length first.responses in
      let n = length second.responses in
      let responses : first.responses ≡ first_responses k = are_first k first.responses refl first.answered in
      let says : second.responses ≡ first_responses n = are_first n second.responses refl second.answered in
      let has : Has (first_responses k) one.outcome = subst (λ (ts : List Response). Has ts one.outcome) responses first.has in
      let got : Has (first_responses n) other.outcome = subst (λ (ts : List Response). Has ts other.outcome) says second.has in
      let count : k ≡ n =
      apart k n (k ≡ n)
      (λ e. e)
      (λ d e. absurd (not_fewer d k n one.outcome other.outcome a.1 e has got))
      (λ d e. absurd (not_fewer d n k other.outcome one.outcome b.1 e got has))
      in
      let same : first.responses ≡ second.responses = responses ∙ (ap first_responses count ∙ sym says) in
      let outcome = never_both start notice.deadline first.responses one.outcome other.outcome first.has (subst (λ (ts : List Response). Has ts other.outcome) (sym same) second.has) in
      let attempts = first.attempts_are ∙ (ap (λ (ts : List Response). length ts) same ∙ sym second.attempts_are) in
      let ended = first.end_is ∙ (ap (λ (ts : List Response). end_after start ts) same ∙ sym second.end_is) in
      let board_id = first.names.0 ∙ sym second.names.0 in
      let ticket = first.names.1 ∙ sym second.names.1 in
      let integration = first.names.2 ∙ sym second.names.2 in
      λ i. record {
        board_id = board_id i;
        ticket = ticket i;
        integration = integration i;
        outcome = outcome i;
        attempts = attempts i;
        ended = ended i;
      }
