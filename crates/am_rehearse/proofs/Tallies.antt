-- Tallies: what the status of several stories says of each.
use Rattle.std.proofs.Common.{◌≡◌, ◌≢◌, ◌⊎◌, ◌+◌, ◌∙◌, inl, inr, ℕ, Bool, true, false, ◌&&◌, List, add-one, refl, subst, sym}
use Rattle.std.specs.Prelude.{if◌then◌else◌}
use Rattle.am_command_line.specs.declared.exit_status.ExitStatus.{ExitStatus}
use Rattle.am_command_line.specs.declared.exit_status.ExitStatus.TheVariants as status
use Rattle.am_command_line.specs.declared.request.PlayRequest.{PlayRequest}
use Rattle.am_input.specs.declared.input.Changes.{Changes}
use Rattle.am_rehearse.specs.Ended.{IsHeaded, PlaysEach, PlaysFile, PlaysOne, joined_status}

either : (c d : Bool) (x y : ExitStatus) → ((if c then x else (if d then y else x)) ≡ x) ⊎ ((if c then x else (if d then y else x)) ≡ y)
either true d x y = inl refl
either false true x y = inr refl
either false false x y = inl refl

-- the status of all is that so far, or the last one
one_of : (a b : ExitStatus) → (joined_status a b ≡ a) ⊎ (joined_status a b ≡ b)
one_of a b = either _ _ a b

no_other_of : (a b c d : ExitStatus) → (c ≡ a) ⊎ (c ≡ b) → a ≢ d → b ≢ d → c ≢ d
no_other_of a b c d (inl e) first last is = first (sym e ∙ is)
no_other_of a b c d (inr e) first last is = last (sym e ∙ is)

-- all are done only where each is
pub each_done : (a b : ExitStatus) → joined_status a b ≡ status.Done → (a ≡ status.Done) × (b ≡ status.Done)
each_done a status.Done is = (is, refl)
each_done status.Done status.Unreadable is = absurd (cc)
each_done status.Unreadable status.Unreadable is = absurd (cc)
each_done status.Rejected status.Unreadable is = absurd (cc)
each_done status.NoMemory status.Unreadable is = absurd (cc)
each_done status.Unwritable status.Unreadable is = absurd (cc)
each_done status.Unmet status.Unreadable is = absurd (cc)
each_done status.Differs status.Unreadable is = absurd (cc)
each_done status.Done status.Rejected is = absurd (cc)
each_done status.Unreadable status.Rejected is = absurd (cc)
each_done status.Rejected status.Rejected is = absurd (cc)
each_done status.NoMemory status.Rejected is = absurd (cc)
each_done status.Unwritable status.Rejected is = absurd (cc)
each_done status.Unmet status.Rejected is = absurd (cc)
each_done status.Differs status.Rejected is = absurd (cc)
each_done status.Done status.NoMemory is = absurd (cc)
each_done status.Unreadable status.NoMemory is = absurd (cc)
each_done status.Rejected status.NoMemory is = absurd (cc)
each_done status.NoMemory status.NoMemory is = absurd (cc)
each_done status.Unwritable status.NoMemory is = absurd (cc)
each_done status.Unmet status.NoMemory is = absurd (cc)
each_done status.Differs status.NoMemory is = absurd (cc)
each_done status.Done status.Unwritable is = absurd (cc)
each_done status.Unreadable status.Unwritable is = absurd (cc)
each_done status.Rejected status.Unwritable is = absurd (cc)
each_done status.NoMemory status.Unwritable is = absurd (cc)
each_done status.Unwritable status.Unwritable is = absurd (cc)
each_done status.Unmet status.Unwritable is = absurd (cc)
each_done status.Differs status.Unwritable is = absurd (cc)
each_done status.Done status.Unmet is = absurd (cc)
each_done status.Unreadable status.Unmet is = absurd (cc)
each_done status.Rejected status.Unmet is = absurd (cc)
each_done status.NoMemory status.Unmet is = absurd (cc)
each_done status.Unwritable status.Unmet is = absurd (cc)
each_done status.Unmet status.Unmet is = absurd (cc)
each_done status.Differs status.Unmet is = absurd (cc)
each_done status.Done status.Differs is = absurd (cc)
each_done status.Unreadable status.Differs is = absurd (cc)
each_done status.Rejected status.Differs is = absurd (cc)
each_done status.NoMemory status.Differs is = absurd (cc)
each_done status.Unwritable status.Differs is = absurd (cc)
each_done status.Unmet status.Differs is = absurd (cc)
each_done status.Differs status.Differs is = absurd (cc)

-- they are unmet only where each is, or is done, and one is unmet
pub each_unmet : (a b : ExitStatus) → joined_status a b ≡ status.Unmet → a ≢ status.Differs → b ≢ status.Differs
    → ((a ≡ status.Done) × (b ≡ status.Unmet)) ⊎ ((a ≡ status.Unmet) × ((b ≡ status.Done) ⊎ (b ≡ status.Unmet)))
each_unmet a status.Done is first last = inr (is, inl refl)
each_unmet a status.Differs is first last = absurd (last refl)
each_unmet status.Done status.Unreadable is first last = absurd (cc)
each_unmet status.Unreadable status.Unreadable is first last = absurd (cc)
each_unmet status.Rejected status.Unreadable is first last = absurd (cc)
each_unmet status.NoMemory status.Unreadable is first last = absurd (cc)
each_unmet status.Unwritable status.Unreadable is first last = absurd (cc)
each_unmet status.Unmet status.Unreadable is first last = absurd (cc)
each_unmet status.Differs status.Unreadable is first last = absurd (first refl)
each_unmet status.Done status.Rejected is first last = absurd (cc)
each_unmet status.Unreadable status.Rejected is first last = absurd (cc)
each_unmet status.Rejected status.Rejected is first last = absurd (cc)
each_unmet status.NoMemory status.Rejected is first last = absurd (cc)
each_unmet status.Unwritable status.Rejected is first last = absurd (cc)
each_unmet status.Unmet status.Rejected is first last = absurd (cc)
each_unmet status.Differs status.Rejected is first last = absurd (first refl)
each_unmet status.Done status.NoMemory is first last = absurd (cc)
each_unmet status.Unreadable status.NoMemory is first last = absurd (cc)
each_unmet status.Rejected status.NoMemory is first last = absurd (cc)
each_unmet status.NoMemory status.NoMemory is first last = absurd (cc)
each_unmet status.Unwritable status.NoMemory is first last = absurd (cc)
each_unmet status.Unmet status.NoMemory is first last = absurd (cc)
each_unmet status.Differs status.NoMemory is first last = absurd (first refl)
each_unmet status.Done status.Unwritable is first last = absurd (cc)
each_unmet status.Unreadable status.Unwritable is first last = absurd (cc)
each_unmet status.Rejected status.Unwritable is first last = absurd (cc)
each_unmet status.NoMemory status.Unwritable is first last = absurd (cc)
each_unmet status.Unwritable status.Unwritable is first last = absurd (cc)
each_unmet status.Unmet status.Unwritable is first last = absurd (cc)
each_unmet status.Differs status.Unwritable is first last = absurd (first refl)
each_unmet status.Done status.Unmet is first last = inl (refl, refl)
each_unmet status.Unreadable status.Unmet is first last = absurd (cc)
each_unmet status.Rejected status.Unmet is first last = absurd (cc)
each_unmet status.NoMemory status.Unmet is first last = absurd (cc)
each_unmet status.Unwritable status.Unmet is first last = absurd (cc)
each_unmet status.Unmet status.Unmet is first last = inr (refl, inr refl)
each_unmet status.Differs status.Unmet is first last = absurd (first refl)

-- what the status of the first stories says of them
pub record Tallied (request : PlayRequest) (changes : Changes) (is_alone : Bool) (n : ℕ) (end : ExitStatus) (taken_before taken : List ℕ)
    : Type 0 where
  pub done : end ≡ status.Done → PlaysEach request changes is_alone true n taken_before taken
  pub unmet : end ≡ status.Unmet → PlaysEach request changes is_alone false n taken_before taken
  pub no_other : end ≢ status.Differs

-- the outputs of stories, and of one more
more : (request : PlayRequest) (changes : Changes) (is_alone : Bool) (n : ℕ) (so_far last met : Bool) (before between taken : List ℕ)
    → met ≡ (so_far && last) → PlaysEach request changes is_alone so_far n before between → PlaysOne request changes is_alone last between taken
    → PlaysEach request changes is_alone met (n + 1) before taken
more request changes is_alone n so_far last met before between taken is first one =
    subst (λ (k : ℕ). PlaysEach request changes is_alone met k before taken) (sym (add-one n)) (so_far, last, between, is, first, one)

unmet_more : (request : PlayRequest) (changes : Changes) (is_alone : Bool) (n : ℕ) (a b : ExitStatus) (before between taken : List ℕ)
    → Tallied request changes is_alone n a before between
    → (b ≡ status.Done → PlaysOne request changes is_alone true between taken) → (b ≡ status.Unmet → PlaysOne request changes is_alone false between taken)
    → ((a ≡ status.Done) × (b ≡ status.Unmet)) ⊎ ((a ≡ status.Unmet) × ((b ≡ status.Done) ⊎ (b ≡ status.Unmet)))
    → PlaysEach request changes is_alone false (n + 1) before taken
unmet_more request changes is_alone n a b before between taken so done unmet (inl both) =
    more request changes is_alone n true false false before between taken refl (so.done both.0) (unmet both.1)
unmet_more request changes is_alone n a b before between taken so done unmet (inr (first, inl last)) =
    more request changes is_alone n false true false before between taken refl (so.unmet first) (done last)
unmet_more request changes is_alone n a b before between taken so done unmet (inr (first, inr last)) =
    more request changes is_alone n false false false before between taken refl (so.unmet first) (unmet last)

-- of no story
pub none_yet : (request : PlayRequest) (changes : Changes) (is_alone : Bool) (end : ExitStatus) (before : List ℕ) → end ≡ status.Done
    → Tallied request changes is_alone 0 end before before
none_yet request changes is_alone end before is =
    record { done = λ _. (refl, refl); unmet = λ e. absurd (cc (is, e)); no_other = λ e. cc (is, e) }

-- of one more
pub one_more : (request : PlayRequest) (changes : Changes) (is_alone : Bool) (n : ℕ) (a b end : ExitStatus) (before between head taken : List ℕ)
    → Tallied request changes is_alone n a before between → IsHeaded is_alone between head → b ≢ status.Differs
    → (b ≡ status.Done → PlaysFile request changes true head taken) → (b ≡ status.Unmet → PlaysFile request changes false head taken)
    → end ≡ joined_status a b → Tallied request changes is_alone (n + 1) end before taken
one_more request changes is_alone n a b end before between head taken so headed other done unmet is =
    let last_done : b ≡ status.Done → PlaysOne request changes is_alone true between taken =
    λ e. record { between = head; headed = headed; plays = done e } in
    let last_unmet : b ≡ status.Unmet → PlaysOne request changes is_alone false between taken =
    λ e. record { between = head; headed = headed; plays = unmet e } in
    record {
      done = λ e. let both = each_done a b (sym is ∙ e) in more request changes is_alone n true true true before between taken refl (so.done both.0) (last_done both.1);
      unmet = λ e. unmet_more request changes is_alone n a b before between taken so last_done last_unmet (each_unmet a b (sym is ∙ e) so.no_other other);
      no_other = λ e. no_other_of a b (joined_status a b) status.Differs (one_of a b) so.no_other other (sym is ∙ e);
    }

-- of all
pub all_done : (request : PlayRequest) (changes : Changes) (is_alone : Bool) (n m : ℕ) (end s : ExitStatus) (before taken : List ℕ)
    → Tallied request changes is_alone n end before taken → n ≡ m → s ≡ end → s ≡ status.Done → PlaysEach request changes is_alone true m before taken
all_done request changes is_alone n m end s before taken so same is e =
    subst (λ (k : ℕ). PlaysEach request changes is_alone true k before taken) same (so.done (sym is ∙ e))

pub all_unmet : (request : PlayRequest) (changes : Changes) (is_alone : Bool) (n m : ℕ) (end s : ExitStatus) (before taken : List ℕ)
    → Tallied request changes is_alone n end before taken → n ≡ m → s ≡ end → s ≡ status.Unmet → PlaysEach request changes is_alone false m before taken
all_unmet request changes is_alone n m end s before taken so same is e =
    subst (λ (k : ℕ). PlaysEach request changes is_alone false k before taken) same (so.unmet (sym is ∙ e))
