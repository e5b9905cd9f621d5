-- A list of answers, one by one: where it leads the machine.
use Rattle.std.proofs.Common.{◌≡◌, ◌≢◌, ℕ, ◌+◌, List, [], ◌∷◌, ◌++◌, length, refl, sym, ap, ◌∙◌, subst, ◌⊎◌, inl, inr}
use Rattle.std.proofs.lemmas.List.{append-nil, append_assoc}
use Rattle.am_retry.specs.declared.outcome.Outcome.{Outcome}
use Rattle.am_retry.specs.declared.outcome.Outcome.TheVariants.{Starved}
use Rattle.am_retry.specs.declared.retry.Step.{Step}
use Rattle.am_retry.specs.declared.retry.Step.TheVariants.{Attempt, Over}
use Rattle.am_retry.specs.Attempts.{Response, end_of, wait_of, attempt_after, end_after}
use Rattle.am_retry.specs.Outcome.{HasOutcome}
use Rattle.am_retry.specs.Progress.{Progress, due, step_after, answered_all, run, IsAfterResponses}
use Rattle.am_retry.specs.Laws.{Concludes, OverExactly, WaitsExactly, ContinuesExactly}
use Rattle.am_retry.proofs.Fronts.{never_both, has_front}
use Rattle.am_retry.proofs.Steps.{holds_started, holds_taken}

-- how far the attempts have come, by its parts
abbrev pub progress : ℕ → ℕ → ℕ → Step → Progress
progress d k e s = record { deadline = d; attempts = k; ended = e; step = s }

-- the machine took a front of the answers, and all of them unless it is over
record Reaches (start deadline : ℕ) (done responses : List Response) (p : Progress) : Type 0 where
  taken : List Response
  rest : List Response
  front : responses ≡ taken ++ rest
  holds : IsAfterResponses start deadline (done ++ taken) p
  whole : (rest ≡ []) ⊎ ((o : Outcome) × (p.step ≡ Over o))

over_stays : (responses : List Response) (d k e : ℕ) (o : Outcome) → answered_all (progress d k e (Over o)) responses ≡ progress d k e (Over o)
over_stays [] d k e o = refl
over_stays (t ∷ responses) d k e o = over_stays responses d k e o

reaches : (start : ℕ) (done responses : List Response) (d k e : ℕ) (s : Step) → IsAfterResponses start d done (progress d k e s) → Reaches start d done responses (answered_all (progress d k e s) responses)
reaches start done [] d k e s holds =
    record { taken = []; rest = []; front = refl; holds = subst (λ (l : List Response). IsAfterResponses start d l (progress d k e s)) (sym (append-nil done)) holds; whole = inl refl }
reaches start done (t ∷ responses) d k e (Attempt at) holds =
    let more = holds_taken start d k e at done t holds in
    let r = reaches start (done ++ t ∷ []) responses d (k + 1) (end_of at t.ended) (step_after t.answer (end_of at t.ended) (wait_of k) d) more in
    record {
      taken = t ∷ r.taken;
      rest = r.rest;
      front = ap (λ (l : List Response). t ∷ l) r.front;
      holds = subst (λ (l : List Response). IsAfterResponses start d l (answered_all (progress d (k + 1) (end_of at t.ended) (step_after t.answer (end_of at t.ended) (wait_of k) d)) responses)) (append_assoc done (t ∷ []) r.taken) r.holds;
      whole = r.whole;
    }
reaches start done (t ∷ responses) d k e (Over o) holds =
    let over = over_stays responses d k e o in
    subst (λ (p : Progress). Reaches start d done (t ∷ responses) p) (sym over) (record {
      taken = [];
      rest = t ∷ responses;
      front = refl;
      holds = subst (λ (l : List Response). IsAfterResponses start d l (progress d k e (Over o))) (sym (append-nil done)) holds;
      whole = inr (o, refl);
    })

run_reaches : (start deadline : ℕ) (responses : List Response) → Reaches start deadline [] responses (run start deadline responses)
run_reaches start deadline responses = reaches start [] responses deadline 0 start (due start deadline) (holds_started start deadline)

-- all that is known of such a machine
pinned : (start d k e : ℕ) (responses : List Response) (s s' : Step) → IsAfterResponses start d responses (progress d k e s) → s ≡ s' → progress d k e s ≡ progress d (length responses) (end_after start responses) s'
pinned start d k e responses s s' holds same =
    ap (λ (n : ℕ). progress d n e s) holds.attempts
    ∙ ap (λ (n : ℕ). progress d (length responses) n s) holds.ended
    ∙ ap (λ (x : Step). progress d (length responses) (end_after start responses) x) same

-- once some front of the answers has an outcome, the machine is over with it
concluded : (start d k e : ℕ) (done responses rest : List Response) (s : Step) (o : Outcome) → IsAfterResponses start d done (progress d k e s) → HasOutcome start d (done ++ responses) o → o ≢ Starved
    → answered_all (progress d k e s) (responses ++ rest) ≡ progress d (length (done ++ responses)) (end_after start (done ++ responses)) (Over o)
concluded start d k e done [] rest (Attempt at) o holds has not_starved =
    let here : HasOutcome start d done o = subst (λ (l : List Response). HasOutcome start d l o) (append-nil done) has in
    absurd (not_starved (never_both start d done o Starved here holds.step.0))
concluded start d k e done [] rest (Over o') o holds has not_starved =
    let here : HasOutcome start d done o = subst (λ (l : List Response). HasOutcome start d l o) (append-nil done) has in
    over_stays rest d k e o'
    ∙ pinned start d k e done (Over o') (Over o) holds (ap (λ (x : Outcome). Over x) (never_both start d done o' o holds.step.0 here))
    ∙ ap (λ (l : List Response). progress d (length l) (end_after start l) (Over o)) (sym (append-nil done))
concluded start d k e done (t ∷ responses) rest (Attempt at) o holds has not_starved =
    let more = holds_taken start d k e at done t holds in
    let joined : (done ++ t ∷ []) ++ responses ≡ done ++ t ∷ responses = append_assoc done (t ∷ []) responses in
    concluded start d (k + 1) (end_of at t.ended) (done ++ t ∷ []) responses rest (step_after t.answer (end_of at t.ended) (wait_of k) d) o more
    (subst (λ (l : List Response). HasOutcome start d l o) (sym joined) has) not_starved
    ∙ ap (λ (l : List Response). progress d (length l) (end_after start l) (Over o)) joined
concluded start d k e done (t ∷ responses) rest (Over o') o holds has not_starved =
    absurd (holds.step.1 (never_both start d done o' Starved holds.step.0 (has_front start d done t responses o has)))

-- while the answers let another attempt follow, the machine waits for it
waits : (start d k e : ℕ) (done responses : List Response) (s : Step) → IsAfterResponses start d done (progress d k e s) → HasOutcome start d (done ++ responses) Starved
    → answered_all (progress d k e s) responses ≡ progress d (length (done ++ responses)) (end_after start (done ++ responses)) (Attempt (attempt_after start (done ++ responses)))
waits start d k e done [] (Attempt at) holds has =
    pinned start d k e done (Attempt at) (Attempt (attempt_after start done)) holds (ap (λ (x : ℕ). Attempt x) holds.step.1)
    ∙ ap (λ (l : List Response). progress d (length l) (end_after start l) (Attempt (attempt_after start l))) (sym (append-nil done))
waits start d k e done [] (Over o') holds has =
    let here : HasOutcome start d done Starved = subst (λ (l : List Response). HasOutcome start d l Starved) (append-nil done) has in
    absurd (holds.step.1 (never_both start d done o' Starved holds.step.0 here))
waits start d k e done (t ∷ responses) (Attempt at) holds has =
    let more = holds_taken start d k e at done t holds in
    let joined : (done ++ t ∷ []) ++ responses ≡ done ++ t ∷ responses = append_assoc done (t ∷ []) responses in
    waits start d (k + 1) (end_of at t.ended) (done ++ t ∷ []) responses (step_after t.answer (end_of at t.ended) (wait_of k) d) more
    (subst (λ (l : List Response). HasOutcome start d l Starved) (sym joined) has)
    ∙ ap (λ (l : List Response). progress d (length l) (end_after start l) (Attempt (attempt_after start l))) joined
waits start d k e done (t ∷ responses) (Over o') holds has =
    absurd (holds.step.1 (never_both start d done o' Starved holds.step.0 (has_front start d done t responses Starved has)))

over_forth : (start deadline attempts ended : ℕ) (responses : List Response) (o : Outcome) → run start deadline responses ≡ progress deadline attempts ended (Over o) → Concludes start deadline responses o attempts ended
over_forth start deadline attempts ended responses o is =
    let r = run_reaches start deadline responses in
    let holds : IsAfterResponses start deadline r.taken (progress deadline attempts ended (Over o)) = subst (λ (p : Progress). IsAfterResponses start deadline r.taken p) is r.holds in
    record {
      taken = r.taken;
      rest = r.rest;
      front = r.front;
      has = holds.step.0;
      not_starved = holds.step.1;
      attempts_are = holds.attempts;
      end_is = holds.ended;
    }

over_back : (start deadline attempts ended : ℕ) (responses : List Response) (o : Outcome) → Concludes start deadline responses o attempts ended → run start deadline responses ≡ progress deadline attempts ended (Over o)
over_back start deadline attempts ended responses o c =
    ap (λ (l : List Response). run start deadline l) c.front
    ∙ concluded start deadline 0 start [] c.taken c.rest (due start deadline) o (holds_started start deadline) c.has c.not_starved
    ∙ ap (λ (n : ℕ). progress deadline n (end_after start c.taken) (Over o)) (sym c.attempts_are)
    ∙ ap (λ (n : ℕ). progress deadline attempts n (Over o)) (sym c.end_is)

pub over_exactly : OverExactly
over_exactly start deadline attempts ended responses o =
    (over_forth start deadline attempts ended responses o, over_back start deadline attempts ended responses o)

-- a front with an outcome leaves nothing to follow
closed : (start deadline : ℕ) (taken rest responses : List Response) (o : Outcome) → responses ≡ taken ++ rest → HasOutcome start deadline taken o → o ≢ Starved → HasOutcome start deadline responses Starved → ⊥
closed start deadline taken [] responses o front has not_starved open_ =
    let here : HasOutcome start deadline taken Starved = subst (λ (l : List Response). HasOutcome start deadline l Starved) (front ∙ append-nil taken) open_ in
    not_starved (never_both start deadline taken o Starved has here)
closed start deadline taken (t ∷ rest) responses o front has not_starved open_ =
    let whole : HasOutcome start deadline (taken ++ t ∷ rest) Starved = subst (λ (l : List Response). HasOutcome start deadline l Starved) front open_ in
    not_starved (never_both start deadline taken o Starved has (has_front start deadline taken t rest Starved whole))

-- what was taken is all, where the machine waits
waits_forth : (start deadline attempts ended at : ℕ) (responses : List Response) → run start deadline responses ≡ progress deadline attempts ended (Attempt at)
    → HasOutcome start deadline responses Starved × (attempts ≡ length responses) × (ended ≡ end_after start responses) × (at ≡ attempt_after start responses)
waits_forth start deadline attempts ended at responses is =
    let r = run_reaches start deadline responses in
    let rest_is : r.rest ≡ [] = elim r.whole [ inl none ↦ none | inr over ↦ let other : Attempt at ≡ Over over.0 = ap (λ (p : Progress). p.step) (sym is) ∙ over.1 in cc ] in
    let all : r.taken ≡ responses = sym (r.front ∙ ap (λ (l : List Response). r.taken ++ l) rest_is ∙ append-nil r.taken) in
    let there : IsAfterResponses start deadline r.taken (progress deadline attempts ended (Attempt at)) = subst (λ (p : Progress). IsAfterResponses start deadline r.taken p) is r.holds in
    let holds : IsAfterResponses start deadline responses (progress deadline attempts ended (Attempt at)) = subst (λ (l : List Response). IsAfterResponses start deadline l (progress deadline attempts ended (Attempt at))) all there in
    (holds.step.0, holds.attempts, holds.ended, holds.step.1)

waits_back : (start deadline attempts ended at : ℕ) (responses : List Response) → HasOutcome start deadline responses Starved × (attempts ≡ length responses) × (ended ≡ end_after start responses) × (at ≡ attempt_after start responses)
    → run start deadline responses ≡ progress deadline attempts ended (Attempt at)
waits_back start deadline attempts ended at responses h =
    waits start deadline 0 start [] responses (due start deadline) (holds_started start deadline) h.0
    ∙ ap (λ (n : ℕ). progress deadline n (end_after start responses) (Attempt (attempt_after start responses))) (sym h.1)
    ∙ ap (λ (n : ℕ). progress deadline attempts n (Attempt (attempt_after start responses))) (sym h.2)
    ∙ ap (λ (n : ℕ). progress deadline attempts ended (Attempt n)) (sym h.3)

pub waits_exactly : WaitsExactly
waits_exactly start deadline attempts ended at responses =
    (waits_forth start deadline attempts ended at responses, waits_back start deadline attempts ended at responses)

-- with no outcome so far, the step can only be an attempt
still_open : (start deadline : ℕ) (responses : List Response) (p : Progress) (s : Step) → p.step ≡ s → run start deadline responses ≡ p → p.deadline ≡ deadline
    → ((o : Outcome) (attempts ended : ℕ) → Concludes start deadline responses o attempts ended → ⊥) → HasOutcome start deadline responses Starved
still_open start deadline responses p (Attempt at) is runs kept none =
    let same : p ≡ progress deadline p.attempts p.ended (Attempt at) = ap (λ (n : ℕ). progress n p.attempts p.ended p.step) kept ∙ ap (λ (x : Step). progress deadline p.attempts p.ended x) is in
    (waits_forth start deadline p.attempts p.ended at responses (runs ∙ same)).0
still_open start deadline responses p (Over o) is runs kept none =
    let same : p ≡ progress deadline p.attempts p.ended (Over o) = ap (λ (n : ℕ). progress n p.attempts p.ended p.step) kept ∙ ap (λ (x : Step). progress deadline p.attempts p.ended x) is in
    absurd (none o p.attempts p.ended (over_forth start deadline p.attempts p.ended responses o (runs ∙ same)))

pub continues_exactly : ContinuesExactly
continues_exactly start deadline responses = (
  λ open_ o attempts ended c. closed start deadline c.taken c.rest responses o c.front c.has c.not_starved open_,
  λ none. still_open start deadline responses (run start deadline responses) (run start deadline responses).step refl refl (run_reaches start deadline responses).holds.until none,
)
