-- After the outages of a receiver, pages come: those of a flush, and of whoever is due a page from a time on.
use Rattle.std.proofs.Common.{◌≡◌, ℕ, ◌+◌, ◌<◌, ◌≤◌, max, Bool, true, false, cond, nat_le, All, Option, Some, None, ◌⊎◌, inl, inr, List, [], ◌∷◌, refl, ap, ◌∙◌, subst, arith}
use Rattle.std.specs.List.{AllByRecursion}
use Rattle.std.specs.Option.{IfSome}
use Rattle.std.proofs.lemmas.Bool.{leb-true, leb-false}
use Rattle.am_alerts.specs.declared.labels.Label.{Label}
use Rattle.am_board.specs.History.{BoardData}
use Rattle.am_model.specs.declared.config.Config.{Config}
use Rattle.am_model.specs.declared.config.Integration.{Integration}
use Rattle.am_model.specs.declared.group.GroupName.{GroupName}
use Rattle.am_model.specs.declared.record.Record.{Record}
use Rattle.am_model.specs.Configured.{integrations_of, route_of}
use Rattle.am_model.specs.Insert.{wait_of}
use Rattle.am_model.specs.Replay.{IsLegal}
use Rattle.am_model.specs.State.{GroupState, MemberState}
use Rattle.am_model.specs.look_back.Interval.{found_empty}
use Rattle.am_model.specs.look_back.Laws.{IsOneFlushAtATime, begun_at, has_open}
use Rattle.am_model.specs.look_back.Past.{AtEach, past_of, takes, time_at}
use Rattle.am_model.specs.look_back.Presence.{presence}
use Rattle.am_model.proofs.lists.Distinct.{all-both, all-weaker, all_from, all_to}
use Rattle.am_model.proofs.looking_back.LooksBack.{histories_look_back}
use Rattle.am_model.proofs.looking_back.Pasts.{IsLegalPast, legal_past}
use Rattle.am_paging.specs.InTime.{AtSome, HearsBy, IsBegunFor, begun_by, ended_at, is_finish_of, latest, past_until}
use Rattle.am_paging.specs.Paging.{HasHeard, Pages, is_due_a_page, pages}
use Rattle.am_paging.proofs.Dropped.{no_page_is_dropped}
use Rattle.am_paging.proofs.DueTimes.{IsDueBy, due-later, due-step, due-within}
use Rattle.am_paging.proofs.GroupSteps.{group_after}
use Rattle.am_paging.proofs.Standing.{IsAsBegun, as-begun, ended-before, not-found_empty, not-missing, open-begun}
use Rattle.am_simulation.specs.Play.{PlaysTo}
use Rattle.am_simulation.specs.Scene.{Setting}
use Rattle.am_simulation.specs.declared.limits.TheConstants.{BOARD_ID}
use Rattle.am_terms.specs.declared.event.Event.{Event}
use Rattle.am_terms.specs.declared.rehearsal.TimedAction.{TimedAction}
use Rattle.am_plays.specs.PlaysRecover.{HearsFrom, IsRecovering, PagesComeAfterOutages, PlaysDeliverAfterOutages, Sends, SomeThenEach, StaysDue, recovered_by}
use Rattle.am_plays.specs.Plays.{ComesBy, EveryPlay}
use Rattle.am_plays.proofs.AtRest.{IsAtRest, each-until, play-rests, some-until, until-before, until-twice}
use Rattle.am_plays.proofs.FlushesEnd.{Ended, flushes_end}
use Rattle.am_plays.proofs.InFlight.{time_is_still}
use Rattle.am_plays.proofs.Phases.{Facts, due-again, due-there, earlier, group-there, hears, of-group}
use Rattle.am_plays.proofs.Recovering.{ComesUp, recovery-promise}
use Rattle.am_plays.proofs.Served.{Due, Still, due-play, open-since}
use Rattle.am_plays.proofs.Sound.{plays_are_legal}

-- ---- words

-- each of a list is so where all of it are
each-of : {A : Type 0} {X : Type 0} (F : A → X → Type 0) (xs : List X) → AllByRecursion (λ x. (a : A) → AllByRecursion (F a) xs → F a x) xs
each-of F [] = tt
each-of {A} F (x ∷ xs) = (
  λ a all. all.0,
  all-weaker (λ y. (a : A) → AllByRecursion (F a) xs → F a y) (λ y. (a : A) → AllByRecursion (F a) (x ∷ xs) → F a y) (λ y h a all. h a all.1) xs (each-of F xs),
)

-- ---- the records up to a time

module _ (y : ℕ) where
  until-legal : (config : Config) (id : ℕ) (past : List Record) → IsLegalPast config id past → IsLegalPast config id (past_until y past)
  until-legal config id [] legal = tt
  until-legal config id (q ∷ past) legal = by (nat_le (time_at (q ∷ past)) y) (until-legal config id past legal.1)
    where
      by : (b : Bool) → IsLegalPast config id (past_until y past) → IsLegalPast config id (cond b (q ∷ past) (past_until y past))
      by true rest = legal
      by false rest = rest

  until-facts : (r : Setting) (config : Config) (id : ℕ) (name : GroupName) (late : ℕ) (past : List Record) → Facts r config id name late past → Facts r config id name late (past_until y past)
  until-facts r config id name late past f =
      record {
        legal = until-legal config id past f.legal;
        once = each-until y IsOneFlushAtATime past f.once;
        paged = each-until y (Pages config) past f.paged;
        still = each-until y (Still r config id name late) past f.still;
        due = each-until y (Due r config id name) past f.due;
        ended = each-until y (Ended config name late (ComesUp late)) past f.ended;
      }

  then-until : (name : GroupName) (labels : List Label) (i v : ℕ) (Later : Record → List Record → Type 0) → v ≤ y → (past : List Record)
      → SomeThenEach (Sends name i labels v) Later past → SomeThenEach (Sends name i labels v) Later (past_until y past)
  then-until name labels i v Later within [] some = some
  then-until name labels i v Later within (q ∷ past) some = by (λ rest. then-until name labels i v Later within past rest) (nat_le (time_at (q ∷ past)) y) refl some
    where
      by : (SomeThenEach (Sends name i labels v) Later past → SomeThenEach (Sends name i labels v) Later (past_until y past)) → (b : Bool) → nat_le (time_at (q ∷ past)) y ≡ b
          → SomeThenEach (Sends name i labels v) Later (q ∷ past) → SomeThenEach (Sends name i labels v) Later (cond b (q ∷ past) (past_until y past))
      by up true is some = some
      by up false is (inl sends) =
          let after : y < time_at (q ∷ past) = leb-false (time_at (q ∷ past)) y is in
          let now : time_at (q ∷ past) ≡ v = sends.at in
          absurd (omega (arith, after, now, within))
      by up false is (inr later) = up later.1

-- ---- the first begin after a time

-- by when a group is begun that has an alert from s on, and was begun last so
abbrev next_by : Config → GroupName → ℕ → ℕ → Option ℕ → ℕ
next_by config name late s last = max (max s (latest config name 0 s last)) late

module _ (r : Setting) (config : Config) (id : ℕ) (name : GroupName) (late s : ℕ) where
  -- it is due by then
  due-then : (last : Option ℕ) (past : List Record) (g : GroupState) → IsLegalPast config id past → group_after config id name past ≡ Some g → begun_at config name past ≡ last
      → (last ≡ None → IsDueBy (s + wait_of config name) (group_after config id name past)) → g.due ≤ next_by config name late s last
  due-then None past g legal is begun due =
      let fresh : g.flushed ≡ false = subst (IsAsBegun config name None) is (subst (λ o. IsAsBegun config name o (group_after config id name past)) begun (as-begun config id name past legal)) in
      let soon : g.due ≤ s + wait_of config name = subst (IsDueBy (s + wait_of config name)) is (due refl) fresh in
      omega (arith, soon)
  due-then (Some u) past g legal is begun due =
      let again : g.due ≡ u + (route_of config name).group_interval = due-again config id name past g u legal is begun in
      omega (arith, again)

  -- and time hasn't moved on further while a flush is open
  open-then : (last : Option ℕ) (past : List Record) → Facts r config id name late past → begun_at config name past ≡ last → has_open name past ≡ true → time_at past ≤ next_by config name late s last
  open-then None past f begun opens = absurd (open-begun config id name past f.legal opens begun)
  open-then (Some u) past f begun opens =
      let moved : time_at past ≤ max u late = subst (λ o. IfSome o (λ t. time_at past ≤ max t late)) begun (open-since r config id name late past f.legal f.still opens) in
      omega (arith, moved)

  module _ (y : ℕ) (by_end : y ≤ r.until) (labels : List Label) (last : Option ℕ) (in_time : next_by config name late s last ≤ y) where
    abbrev by : ℕ
    by = next_by config name late s last

    -- what is known of the group while no record after s takes it
    record IsStanding (past : List Record) : Type 0 where
      begun : begun_at config name past ≡ last
      due : last ≡ None → IsDueBy (s + wait_of config name) (group_after config id name past)
      ended : ended_at name past ≤ by

    abbrev Begun : List Record → Type 0
    Begun past = AtSome (IsBegunFor config name labels s by) past

    abbrev DueThen : Record → List Record → Type 0
    DueThen q past = s < time_at (q ∷ past) → time_at (q ∷ past) ≤ y → is_due_a_page config name labels (time_at (q ∷ past)) past ≡ true

    at-start : (past : List Record) → IsLegalPast config id past → time_at past ≤ s → begun_at config name past ≡ last → IsStanding past
    at-start past legal come begun =
        let over = ended-before config id name past in
        record {
          begun = begun;
          due = λ none. due-later (time_at past + wait_of config name) (s + wait_of config name) (omega (arith, come)) (group_after config id name past) (due-within config id name past legal);
          ended = omega (arith, over, come);
        }

    -- a record after s
    step : (q : Record) (past : List Record) → Facts r config id name late (q ∷ past) → s < time_at (q ∷ past) → is_due_a_page config name labels (time_at (q ∷ past)) past ≡ true → IsStanding past → IsStanding (q ∷ past) ⊎ Begun (q ∷ past)
    step q past f after due p = take (takes name q.reply) refl
      where
        there : (m : MemberState) × (presence config name labels past ≡ Some m)
        there = due-there config name labels (time_at (q ∷ past)) past (omega arith) due

        group : (g : GroupState) × (group_after config id name past ≡ Some g)
        group = group-there config id name labels there.0 past f.legal.1 there.1

        held : time_at (q ∷ past) ≤ by
        held = if_open (has_open name past) refl
          where
            in_bound : (bound : ℕ) → bound ≤ by → ComesBy r bound (time_at (q ∷ past)) → time_at (q ∷ past) ≤ by
            in_bound bound most (inl come) = omega (arith, come, most)
            in_bound bound most (inr past_end) = absurd (omega (arith, past_end, most, in_time, by_end))

            if_open : (b : Bool) → has_open name past ≡ b → time_at (q ∷ past) ≤ by
            if_open true opens =
                let moved : time_at (q ∷ past) ≤ max (time_at past) late = f.still.0 opens in
                let before = open-then last past (earlier r config id name late q past f) p.begun opens in
                omega (arith, moved, before)
            if_open false closed =
                let g = group.0 in
                let due_by = due-then last past g f.legal.1 group.1 p.begun p.due in
                let over = p.ended in
                in_bound (max g.due (ended_at name past)) (omega (arith, due_by, over))
                (of-group config id name (λ h. ComesBy r (max h.due (ended_at name past)) (time_at (q ∷ past))) past g group.1 (f.due.0 closed))

        ended : ended_at name (q ∷ past) ≤ by
        ended = of_finish (is_finish_of name past q.call)
          where
            of_finish : (b : Bool) → cond b (time_at (q ∷ past)) (ended_at name past) ≤ by
            of_finish true = held
            of_finish false = p.ended

        take : (b : Bool) → takes name q.reply ≡ b → IsStanding (q ∷ past) ⊎ Begun (q ∷ past)
        take true taken = inr (inl (record { taken = taken; after = after; in_time = held; reached = f.paged.0 name labels taken due }))
        take false untaken =
            inl (record {
              begun =
                  ap (λ b. cond b (Some (time_at (q ∷ past))) (cond (found_empty config name q past) None (begun_at config name past))) untaken
                  ∙ ap (λ b. cond b None (begun_at config name past)) (not-found_empty config id name labels there.0 q past there.1)
                  ∙ p.begun;
              due = λ none. due-step config id name (s + wait_of config name) q past f.legal (p.due none) (λ missing. absurd (not-missing config id name labels there.0 past f.legal.1 there.1 missing));
              ended = ended;
            })

    standing_or_begun : (past : List Record) → Facts r config id name late past → time_at past ≤ y → AtEach DueThen past → begun_at config name (past_until s past) ≡ last → IsStanding past ⊎ Begun past
    standing_or_begun [] f within due begun = inl (at-start [] tt (omega arith) begun)
    standing_or_begun (q ∷ past) f within due begun =
        choose (λ before. standing_or_begun past (earlier r config id name late q past f) (omega (arith, within)) due.1 before) (nat_le (time_at (q ∷ past)) s) refl begun
      where
        next : s < time_at (q ∷ past) → IsStanding past ⊎ Begun past → IsStanding (q ∷ past) ⊎ Begun (q ∷ past)
        next after (inl standing) = step q past f after (due.0 after within) standing
        next after (inr came) = inr (inr came)

        choose : (begun_at config name (past_until s past) ≡ last → IsStanding past ⊎ Begun past) → (b : Bool) → nat_le (time_at (q ∷ past)) s ≡ b
            → begun_at config name (cond b (q ∷ past) (past_until s past)) ≡ last → IsStanding (q ∷ past) ⊎ Begun (q ∷ past)
        choose up true is begun = inl (at-start (q ∷ past) f.legal (leb-true (time_at (q ∷ past)) s is) begun)
        choose up false is begun = next (leb-false (time_at (q ∷ past)) s is) (up begun)

    -- when the group is at rest, a begin came
    begins : (past : List Record) → Facts r config id name late past → time_at past ≤ y → AtEach DueThen past → begun_at config name (past_until s past) ≡ last
        → IsAtRest r config id name y by_end past → is_due_a_page config name labels y past ≡ true → Begun past
    begins past f within due begun rest due_then = at_end (standing_or_begun past f within due begun)
      where
        at_end : IsStanding past ⊎ Begun past → Begun past
        at_end (inr came) = came
        at_end (inl standing) =
            let there = due-there config name labels y past within due_then in
            let group = group-there config id name labels there.0 past f.legal there.1 in
            let due_by = due-then last past group.0 f.legal group.1 standing.begun standing.due in
            let later : y < max (group.0).due (ended_at name past) = of-group config id name (λ h. y < max h.due (ended_at name past)) past group.0 group.1 rest.later in
            let over = standing.ended in
            absurd (omega (arith, due_by, later, over, in_time))

    -- ---- from that begin on

    abbrev is : List (ℕ × Integration)
    is = integrations_of config name

    -- an integration hears, or a flush since then notifies it
    abbrev Next : List Record → ℕ × Integration → Type 0
    Next past i =
        AtSome (HearsBy config name i.0 labels s by) past
        ⊎ ((v : ℕ) × (s < v) × (v ≤ by) × (v ≤ time_at past) × SomeThenEach (Sends name i.0 labels v) (StaysDue config name labels y) past)

    sends : (past : List Record) → AtEach DueThen past → Begun past → AllByRecursion (Next past) is
    sends [] due begun = absurd begun
    sends (q ∷ past) due (inl here) =
        let Reached : ℕ × Integration → Type 0 = λ i. (pages i.0 labels q.reply ≡ true) ⊎ HasHeard config name i.0 labels (time_at (q ∷ past)) past in
        all-weaker Reached (Next (q ∷ past)) (λ i h. of_reached i h) is (all_to Reached is here.reached)
      where
        of_reached : (i : ℕ × Integration) → (pages i.0 labels q.reply ≡ true) ⊎ HasHeard config name i.0 labels (time_at (q ∷ past)) past → Next (q ∷ past) i
        of_reached i (inl paged) = inr (time_at (q ∷ past), here.after, here.in_time, omega arith, inl (record { taken = here.taken; pages = paged; at = refl }))
        of_reached i (inr heard) = inl (inl (record { after = here.after; in_time = here.in_time; reached = inr (here.taken, heard) }))
    sends (q ∷ past) due (inr there) = all-weaker (Next past) (Next (q ∷ past)) (λ i h. more i h) is (sends past due.1 there)
      where
        more : (i : ℕ × Integration) → Next past i → Next (q ∷ past) i
        more i (inl heard) = inl (inr heard)
        more i (inr sent) =
            let after : s < sent.0 = sent.1 in
            let before : sent.0 ≤ time_at past = sent.3 in
            inr (sent.0, sent.1, sent.2, omega (arith, before), inr (λ within. due.0 (omega (arith, after, before)) within, sent.4))

-- ---- a play

module _ (r : Setting) (config : Config) (plans : List TimedAction) (board : BoardData) (events : List Event) (play : PlaysTo r config plans board events)
    (name : GroupName) (x d : ℕ) (recovering : IsRecovering r config name x d) where
  abbrev late : ℕ
  late = recovered_by x d

  legal : IsLegal config BOARD_ID board.history
  legal = plays_are_legal r config plans board events play

  still : AtEach (Still r config BOARD_ID name late) (past_of board.history)
  still = time_is_still r config name late (ComesUp late) (recovery-promise r config name x d recovering) plans board events play

  facts : Facts r config BOARD_ID name late (past_of board.history)
  facts =
      record {
        legal = legal_past config BOARD_ID board.history legal;
        once = (histories_look_back config BOARD_ID board.history legal).once;
        paged = no_page_is_dropped config BOARD_ID board.history legal;
        still = still;
        due = due-play r config plans board events play name recovering.places;
        ended = flushes_end r config name late (ComesUp late) (recovery-promise r config name x d recovering) plans board events play;
      }

  module _ (y : ℕ) (by_end : y ≤ r.until) (soon : late ≤ y) (labels : List Label) (due_then : is_due_a_page config name labels y (past_until y (past_of board.history)) ≡ true) where
    abbrev upto : List Record
    upto = past_until y (past_of board.history)

    rest : IsAtRest r config BOARD_ID name y by_end upto
    rest = play-rests r config plans board events play name y by_end recovering.ends recovering.places late soon still

    -- what a begin does for an integration
    abbrev Reached : Record × List Record → ℕ × Integration → Type 0
    Reached a i = (pages i.0 labels (a.0).reply ≡ true) ⊎ HasHeard config name i.0 labels (time_at (a.0 ∷ a.1)) a.1

    abbrev Selects : ℕ × Integration → Type 0
    Selects i = (a : Record × List Record) → AllByRecursion (Reached a) (integrations_of config name) → Reached a i

    -- an integration that a flush notifies hears
    one-hears : (i : ℕ × Integration) → Selects i → (v : ℕ) → max v late ≤ y → SomeThenEach (Sends name i.0 labels v) (StaysDue config name labels y) (past_of board.history)
        → AtSome (HearsFrom config name i.0 labels v (max v late)) (past_of board.history)
    one-hears i selects v in_time some =
        some-until y (HearsFrom config name i.0 labels v (max v late)) (past_of board.history)
        (hears r config BOARD_ID name late y by_end labels i.0 v in_time
        (λ q past paged taken due. selects (q, past) (all_to (Reached (q, past)) (integrations_of config name) (paged name labels taken due)))
        upto (until-facts y r config BOARD_ID name late (past_of board.history) facts) (until-before y (past_of board.history)) rest due_then
        (then-until y name labels i.0 v (StaysDue config name labels y) (omega (arith, in_time)) (past_of board.history) some))

    pub pages-come : (v : ℕ) → max v late ≤ y
        → All (λ i. SomeThenEach (Sends name i.0 labels v) (StaysDue config name labels y) (past_of board.history)
        → AtSome (HearsFrom config name i.0 labels v (max v late)) (past_of board.history)) (integrations_of config name)
    pages-come v in_time =
        let Heard : ℕ × Integration → Type 0 = λ i. SomeThenEach (Sends name i.0 labels v) (StaysDue config name labels y) (past_of board.history)
        → AtSome (HearsFrom config name i.0 labels v (max v late)) (past_of board.history)
        in
        all_from Heard (integrations_of config name) (all-weaker Selects Heard (λ i selects some. one-hears i selects v in_time some) (integrations_of config name) (each-of Reached (integrations_of config name)))

    module _ (s : ℕ) (due : AtEach (λ q past. s < time_at (q ∷ past) → time_at (q ∷ past) ≤ y → is_due_a_page config name labels (time_at (q ∷ past)) past ≡ true) (past_of board.history))
        (in_time : max (begun_by config name 0 s (past_of board.history)) late ≤ y) where
      abbrev last : Option ℕ
      last = begun_at config name (past_until s (past_of board.history))

      abbrev hears_by : ℕ
      hears_by = max (begun_by config name 0 s (past_of board.history)) late

      came : AtSome (IsBegunFor config name labels s hears_by) (past_of board.history)
      came =
          some-until y (IsBegunFor config name labels s hears_by) (past_of board.history)
          (begins r config BOARD_ID name late s y by_end labels last in_time upto (until-facts y r config BOARD_ID name late (past_of board.history) facts) (until-before y (past_of board.history))
          (each-until y (λ q past. s < time_at (q ∷ past) → time_at (q ∷ past) ≤ y → is_due_a_page config name labels (time_at (q ∷ past)) past ≡ true) (past_of board.history) due)
          (ap (begun_at config name) (until-twice s y (omega (arith, in_time)) (past_of board.history))) rest due_then)

      next-hears : (i : ℕ × Integration) → Selects i → Next r config BOARD_ID name late s y by_end labels last in_time (past_of board.history) i
          → AtSome (HearsBy config name i.0 labels s hears_by) (past_of board.history)
      next-hears i selects (inl heard) = heard
      next-hears i selects (inr sent) =
          let after : s < sent.0 = sent.1 in
          let most : sent.0 ≤ hears_by = sent.2 in
          within (past_of board.history) (one-hears i selects sent.0 (omega (arith, most, in_time)) sent.4)
        where
          within : (past : List Record) → AtSome (HearsFrom config name i.0 labels sent.0 (max sent.0 late)) past → AtSome (HearsBy config name i.0 labels s hears_by) past
          within [] some = absurd some
          within (q ∷ past) (inl here) =
              let after : s < sent.0 = sent.1 in
              let most : sent.0 ≤ hears_by = sent.2 in
              let since = here.since in
              let in_bound = here.in_time in
              inl (record { after = omega (arith, after, since); in_time = omega (arith, in_bound, most); reached = here.reached })
          within (q ∷ past) (inr there) = inr (within past there)

      pub all-hear : All (λ i. AtSome (HearsBy config name i.0 labels s hears_by) (past_of board.history)) (integrations_of config name)
      all-hear =
          let Heard : ℕ × Integration → Type 0 = λ i. AtSome (HearsBy config name i.0 labels s hears_by) (past_of board.history) in
          all_from Heard (integrations_of config name)
          (all-both Selects (Next r config BOARD_ID name late s y by_end labels last in_time (past_of board.history)) Heard (λ i selects next. next-hears i selects next) (integrations_of config name)
          (each-of Reached (integrations_of config name)) (sends r config BOARD_ID name late s y by_end labels last in_time (past_of board.history) due came))

pub pages_come_after_outages : EveryPlay PagesComeAfterOutages
pages_come_after_outages r config plans board events play name labels v x d y recovering by_end in_time due_then =
    pages-come r config plans board events play name x d recovering y by_end (omega (arith, in_time)) labels due_then v in_time

pub plays_deliver_after_outages : EveryPlay PlaysDeliverAfterOutages
plays_deliver_after_outages r config plans board events play name labels s x d y recovering by_end due in_time =
    all-hear r config plans board events play name x d recovering y by_end (omega (arith, in_time)) labels due.last s due.each in_time
