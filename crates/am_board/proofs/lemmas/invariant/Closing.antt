-- What a board says of a finish.
use Rattle.std.proofs.Common.{◌≡◌, ℕ, ◌+◌, Bool, eqb-true, Option, Some, None, List, [], ◌∷◌, get_or, refl, sym, ap, ◌∙◌, subst, arith}
use Rattle.std.specs.Prelude.{◌==◌, Ok, position}
use Rattle.std.specs.Option.{option_map}
use Rattle.std.proofs.lemmas.List.Quantifiers.{position-Some}
use Rattle.std.specs.VecDeque.{deque_len}
use Rattle.am_retry.specs.declared.outcome.Outcome.{Outcome}
use Rattle.am_board.specs.declared.board.Board.TheInside.{Inside}
use Rattle.am_model.specs.declared.config.Config.{Config}
use Rattle.am_board.specs.declared.flush.OpenFlush.{OpenFlush}
use Rattle.am_model.specs.declared.record.Call.{Call}
use Rattle.am_model.specs.declared.record.Call.TheVariants.{Finish}
use Rattle.am_model.specs.declared.record.Finished.{Finished}
use Rattle.am_model.specs.declared.record.Reply.TheVariants as replies
use Rattle.am_board.specs.declared.state.State as kept
use Rattle.am_board.specs.Board.{IsSound}
use Rattle.am_model.specs.Ticket.{TicketData}
use Rattle.am_board.specs.History.{BoardData, IsReplyAt, with_record, state_at}
use Rattle.am_model.specs.Records.{entry}
use Rattle.am_board.specs.Refinement.{flush_state}
use Rattle.am_model.specs.State.{FlushState, State, flush_numbered}
use Rattle.am_board.specs.Step.{StateInvariant, AppliesCall}
use Rattle.am_model.proofs.lists.Alone.{find-mapped, find-no_position}
use Rattle.am_board.proofs.lemmas.invariant.Calls.{recorded, seen, returned_now}
use Rattle.am_board.proofs.lemmas.invariant.Sound.{few_after, good, sound_then}

-- an element of a list in which an index is found
first_of : {X : Type 0} (p : X → Bool) (xs : List X) (i : ℕ) → position p xs ≡ Some i → X
first_of p [] i e = absurd (cc)
first_of p (x ∷ xs) i e = x

-- what is answered isn't reported of nothing
pub not_none : {X Y : Type 0} (f : X → Y) (o : Option X) (y : Y) → option_map f o ≡ Some y → o ≡ None → ⊥
not_none f None y t e = absurd (cc)
not_none f (Some x) y t e = absurd (cc)

module _ (b : Inside) (sound : IsSound b) (now : BoardData) (view_is : seen b b.state ≡ now) where
  -- no flush of a number is open, at the state after the history too
  pub none_open : (number : ℕ) → None ≡ position (λ (flush : OpenFlush). flush.number == number) b.state.flushes.items → flush_numbered (state_at now).flushes number ≡ None
  none_open number e =
      subst (λ (d : BoardData). flush_numbered (state_at d).flushes number ≡ None) view_is
      (sym (ap (λ (s : State). flush_numbered s.flushes number) sound.agrees.rest)
      ∙ (find-mapped (λ (g : FlushState). g.number == number) flush_state b.state.flushes.items
      ∙ ap (option_map flush_state) (find-no_position (λ (flush : OpenFlush). flush.number == number) b.state.flushes.items (sym e))))

  module _ (new : kept.State) (pass at f number : ℕ) (outcomes : List (ℕ × Outcome)) (ticket : TicketData) (is_number : number ≡ ticket.number) (is_outcomes : outcomes ≡ ticket.outcomes) (x : Finished)
      (found : Some f ≡ position (λ (flush : OpenFlush). flush.number == number) b.state.flushes.items)
      (accepts : (config : Config) → StateInvariant config b.state → (id : ℕ) → (o : OpenFlush) → AppliesCall config id (entry pass (Finish at (get_or b.state.flushes.items f o).number outcomes) (replies.Finished x)) b.state new) where
    accepted : AppliesCall b.config b.id (entry pass (Finish at ticket.number ticket.outcomes) (replies.Finished x)) b.state new
    accepted =
        let o = first_of (λ (flush : OpenFlush). flush.number == number) b.state.flushes.items f (sym found) in
        let there = position-Some (λ (flush : OpenFlush). flush.number == number) b.state.flushes.items f o (sym found) in
        let same : (get_or b.state.flushes.items f o).number ≡ ticket.number = eqb-true (get_or b.state.flushes.items f o).number number there.1 ∙ is_number in
        subst (λ n. AppliesCall b.config b.id (entry pass (Finish at n ticket.outcomes) (replies.Finished x)) b.state new) same
        (subst (λ os. AppliesCall b.config b.id (entry pass (Finish at (get_or b.state.flushes.items f o).number os) (replies.Finished x)) b.state new) is_outcomes
        (accepts b.config (good b sound) b.id o))

    abbrev call : Call
    call = Finish at ticket.number ticket.outcomes

    pub finish_recorded : seen b new ≡ with_record now (entry pass call (replies.Finished x))
    finish_recorded =
        recorded b sound now view_is new pass call replies.Finished (λ y. AppliesCall b.config b.id (entry pass call (replies.Finished y)) b.state new) (λ y h. h) (λ (e : ℕ). Unit {0}) (Ok x) accepted

    pub finish_returned : IsReplyAt now call (replies.Finished x)
    finish_returned =
        returned_now b sound now view_is new pass call replies.Finished (λ y. AppliesCall b.config b.id (entry pass call (replies.Finished y)) b.state new) (λ y h. h) (λ (e : ℕ). Unit {0}) (Ok x) accepted

    pub finish_sound : deque_len new.flushes + 1 ≡ deque_len b.state.flushes → IsSound (record b { state = new })
    finish_sound closed =
        sound_then b sound (entry pass call (replies.Finished x)) new accepted refl
        (few_after b sound call refl refl) (omega (arith, closed, sound.opened)) (omega (arith, closed, accepted.records, sound.kept))
