-- What happened, and then more.
use Rattle.std.proofs.Common.{◌≡◌, ◌∙◌, ◌+◌, ◌++◌, ◌∷◌, ◌⊎◌, [], ℕ, List, Bool, true, false, IsTrue, Result, Ok, Err, append_assoc, ap, arith, if◌then◌else◌, inl, inr, refl, subst, sym, take}
use Rattle.std.proofs.lemmas.List.{append-nil}
use Rattle.am_dispatch.specs.declared.event.Event.{Event}
use Rattle.am_dispatch.specs.declared.event.Event.TheVariants.{Given, Ended, Unread, Taken, Unwritten}
use Rattle.am_dispatch.specs.Serve.{Answered, IsPrompt}
use Rattle.am_dispatch.specs.Trail.{IsReadAs, IsWrittenAs, are_writes, ended, given, is_read, taken, unread, unwritten}

-- ---- what the events are together

pub given_on : (xs ys : List Event) → given (xs ++ ys) ≡ given xs ++ given ys
given_on [] ys = refl
given_on (Given b ∷ xs) ys = ap (λ (t : List ℕ). b.items ++ t) (given_on xs ys) ∙ sym (append_assoc b.items (given xs) (given ys))
given_on (Ended ∷ xs) ys = given_on xs ys
given_on (Unread ∷ xs) ys = given_on xs ys
given_on (Taken b ∷ xs) ys = given_on xs ys
given_on (Unwritten ∷ xs) ys = given_on xs ys

pub taken_on : (xs ys : List Event) → taken (xs ++ ys) ≡ taken xs ++ taken ys
taken_on [] ys = refl
taken_on (Given b ∷ xs) ys = taken_on xs ys
taken_on (Ended ∷ xs) ys = taken_on xs ys
taken_on (Unread ∷ xs) ys = taken_on xs ys
taken_on (Taken b ∷ xs) ys = ap (λ (t : List ℕ). b.items ++ t) (taken_on xs ys) ∙ sym (append_assoc b.items (taken xs) (taken ys))
taken_on (Unwritten ∷ xs) ys = taken_on xs ys

pub ended_on : (xs ys : List Event) → ended (xs ++ ys) ≡ ended xs + ended ys
ended_on [] ys = omega arith
ended_on (Given b ∷ xs) ys = ended_on xs ys
ended_on (Ended ∷ xs) ys = omega (arith, ended_on xs ys)
ended_on (Unread ∷ xs) ys = ended_on xs ys
ended_on (Taken b ∷ xs) ys = ended_on xs ys
ended_on (Unwritten ∷ xs) ys = ended_on xs ys

pub unread_on : (xs ys : List Event) → unread (xs ++ ys) ≡ unread xs + unread ys
unread_on [] ys = omega arith
unread_on (Given b ∷ xs) ys = unread_on xs ys
unread_on (Ended ∷ xs) ys = unread_on xs ys
unread_on (Unread ∷ xs) ys = omega (arith, unread_on xs ys)
unread_on (Taken b ∷ xs) ys = unread_on xs ys
unread_on (Unwritten ∷ xs) ys = unread_on xs ys

pub unwritten_on : (xs ys : List Event) → unwritten (xs ++ ys) ≡ unwritten xs + unwritten ys
unwritten_on [] ys = omega arith
unwritten_on (Given b ∷ xs) ys = unwritten_on xs ys
unwritten_on (Ended ∷ xs) ys = unwritten_on xs ys
unwritten_on (Unread ∷ xs) ys = unwritten_on xs ys
unwritten_on (Taken b ∷ xs) ys = unwritten_on xs ys
unwritten_on (Unwritten ∷ xs) ys = omega (arith, unwritten_on xs ys)

pub grows_on : (old mid new xs ys : List Event) → mid ≡ old ++ xs → new ≡ mid ++ ys → new ≡ old ++ (xs ++ ys)
grows_on old mid new xs ys first second = second ∙ (ap (λ (g : List Event). g ++ ys) first ∙ append_assoc old xs ys)

-- ---- writes

-- what writes do to the rest
pub record Quiet (xs : List Event) : Type 0 where
  pub gives : given xs ≡ []
  pub ends : ended xs ≡ 0
  pub reads : unread xs ≡ 0

pub quiet : (xs : List Event) → IsTrue (are_writes xs) → Quiet xs
quiet [] w = record { gives = refl; ends = refl; reads = refl }
quiet (Given b ∷ xs) w = absurd cc
quiet (Ended ∷ xs) w = absurd cc
quiet (Unread ∷ xs) w = absurd cc
quiet (Taken b ∷ xs) w = let q = quiet xs w in record { gives = q.gives; ends = q.ends; reads = q.reads }
quiet (Unwritten ∷ xs) w = let q = quiet xs w in record { gives = q.gives; ends = q.ends; reads = q.reads }

pub writes_on : (xs ys : List Event) → IsTrue (are_writes xs) → IsTrue (are_writes ys) → IsTrue (are_writes (xs ++ ys))
writes_on [] ys w v = v
writes_on (Given b ∷ xs) ys w v = absurd cc
writes_on (Ended ∷ xs) ys w v = absurd cc
writes_on (Unread ∷ xs) ys w v = absurd cc
writes_on (Taken b ∷ xs) ys w v = writes_on xs ys w v
writes_on (Unwritten ∷ xs) ys w v = writes_on xs ys w v

-- ---- one event

-- a write that took bytes
pub record Takes (count : ℕ) (bytes : List ℕ) (it : Event) : Type 0 where
  pub writes : IsTrue (are_writes (it ∷ []))
  pub takes : taken (it ∷ []) ≡ take count bytes
  pub fine : unwritten (it ∷ []) ≡ 0

pub some_taken : {E : Type 0} (r : Result ℕ E) (count : ℕ) (bytes : List ℕ) (it : Event) → r ≡ Ok count → (count ≡ 0 → ⊥) → IsWrittenAs r bytes it
    → Takes count bytes it
some_taken (Err f) count bytes it same some is = absurd cc
some_taken (Ok n) count bytes (Given b) same some is = absurd is
some_taken (Ok n) count bytes Ended same some is = absurd is
some_taken (Ok n) count bytes Unread same some is = absurd is
some_taken (Ok n) count bytes (Taken b) same some is =
    let e : n ≡ count = cc in
    record { writes = refl; takes = append-nil b.items ∙ (is.1 ∙ ap (λ (k : ℕ). take k bytes) e); fine = refl }
some_taken (Ok n) count bytes Unwritten same some is = absurd (let e : n ≡ count = cc in some (sym e ∙ is))

-- a write that failed
pub record TakesNone (it : Event) : Type 0 where
  pub writes : IsTrue (are_writes (it ∷ []))
  pub takes : taken (it ∷ []) ≡ []
  pub fails : unwritten (it ∷ []) ≡ 1

pub none_taken : {E : Type 0} (r : Result ℕ E) (bytes : List ℕ) (it : Event) → ((count : ℕ) → r ≡ Ok count → count ≡ 0) → IsWrittenAs r bytes it → TakesNone it
none_taken (Err f) bytes (Given b) none is = absurd is
none_taken (Err f) bytes Ended none is = absurd is
none_taken (Err f) bytes Unread none is = absurd is
none_taken (Err f) bytes (Taken b) none is = absurd is
none_taken (Err f) bytes Unwritten none is = record { writes = refl; takes = refl; fails = refl }
none_taken (Ok n) bytes (Given b) none is = absurd is
none_taken (Ok n) bytes Ended none is = absurd is
none_taken (Ok n) bytes Unread none is = absurd is
none_taken (Ok n) bytes (Taken b) none is = absurd (let e : n ≡ 0 = none n refl in omega (arith, is.0, e))
none_taken (Ok n) bytes Unwritten none is = record { writes = refl; takes = refl; fails = refl }

-- what a read does
pub record Gives (bytes : List ℕ) (end fault : ℕ) (it : Event) : Type 0 where
  pub gives : given (it ∷ []) ≡ bytes
  pub takes : taken (it ∷ []) ≡ []
  pub ends : ended (it ∷ []) ≡ end
  pub fails : unread (it ∷ []) ≡ fault
  pub fine : unwritten (it ∷ []) ≡ 0

pub some_given : {E : Type 0} (r : Result ℕ E) (count : ℕ) (buffer : List ℕ) (it : Event) → r ≡ Ok count → (count ≡ 0 → ⊥) → IsReadAs r buffer it
    → Gives (take count buffer) 0 0 it
some_given (Err f) count buffer it same some is = absurd cc
some_given (Ok n) count buffer (Given b) same some is =
    let e : n ≡ count = cc in
    record { gives = append-nil b.items ∙ (is.1 ∙ ap (λ (k : ℕ). take k buffer) e); takes = refl; ends = refl; fails = refl; fine = refl }
some_given (Ok n) count buffer Ended same some is = absurd (let e : n ≡ count = cc in some (sym e ∙ is))
some_given (Ok n) count buffer Unread same some is = absurd is
some_given (Ok n) count buffer (Taken b) same some is = absurd is
some_given (Ok n) count buffer Unwritten same some is = absurd is

pub end_given : {E : Type 0} (r : Result ℕ E) (count : ℕ) (buffer : List ℕ) (it : Event) → r ≡ Ok count → count ≡ 0 → IsReadAs r buffer it → Gives [] 1 0 it
end_given (Err f) count buffer it same none is = absurd cc
end_given (Ok n) count buffer (Given b) same none is = absurd (let e : n ≡ count = cc in omega (arith, is.0, e, none))
end_given (Ok n) count buffer Ended same none is = record { gives = refl; takes = refl; ends = refl; fails = refl; fine = refl }
end_given (Ok n) count buffer Unread same none is = absurd is
end_given (Ok n) count buffer (Taken b) same none is = absurd is
end_given (Ok n) count buffer Unwritten same none is = absurd is

pub fault_given : {E : Type 0} (r : Result ℕ E) (f : E) (buffer : List ℕ) (it : Event) → r ≡ Err f → IsReadAs r buffer it → Gives [] 0 1 it
fault_given (Ok n) f buffer it same is = absurd cc
fault_given (Err g) f buffer (Given b) same is = absurd is
fault_given (Err g) f buffer Ended same is = absurd is
fault_given (Err g) f buffer Unread same is = record { gives = refl; takes = refl; ends = refl; fails = refl; fine = refl }
fault_given (Err g) f buffer (Taken b) same is = absurd is
fault_given (Err g) f buffer Unwritten same is = absurd is

-- ---- each read comes after the answers

none_there : (before : List Event) (reads : Event) (after : List Event) → [] ≡ before ++ reads ∷ after → ⊥
none_there [] reads after e = absurd cc
none_there (x ∷ before) reads after e = absurd cc

-- an event of a trail that has grown by one is the new one, or was there
split_last : (events : List Event) (it : Event) (before : List Event) (reads : Event) (after : List Event) → events ++ it ∷ [] ≡ before ++ reads ∷ after
    → ((events ≡ before) × (it ≡ reads)) ⊎ ((between : List Event) × (events ≡ before ++ reads ∷ between))
split_last [] it [] reads after e = inl (refl, cc)
split_last [] it (b ∷ before) reads after e = absurd (none_there before reads after (let t : [] ≡ before ++ reads ∷ after = cc in t))
split_last (x ∷ events) it [] reads after e = inr (events, let s : x ≡ reads = cc in ap (λ (r : Event). r ∷ events) s)
split_last (x ∷ events) it (b ∷ before) reads after e =
    let s : x ≡ b = cc in
    let t : events ++ it ∷ [] ≡ before ++ reads ∷ after = cc in
    elim (split_last events it before reads after t) [
      | inl w ↦ inl (let p : events ≡ before = w.0 in cc, w.1)
      | inr w ↦ inr (w.0, let p : events ≡ before ++ reads ∷ w.0 = w.1 in cc)
    ]

pub prompt_none : IsPrompt []
prompt_none before reads after is e = absurd (none_there before reads after e)

-- one event more
pub prompt_more : (events : List Event) (it : Event) → IsPrompt events → (IsTrue (is_read it) → Answered events) → IsPrompt (events ++ it ∷ [])
prompt_more events it prompt answered = λ before reads after is e.
    elim (split_last events it before reads after e) [
      | inl w ↦ subst Answered w.0 (answered (subst (λ (r : Event). IsTrue (is_read r)) (sym w.1) is))
      | inr w ↦ prompt before reads w.0 is w.1
    ]

writes_first : (r w : Bool) → IsTrue (if r then false else w) → (r ≡ false) × IsTrue w
writes_first true w h = absurd cc
writes_first false w h = (refl, h)

-- writes more
pub prompt_on : (events xs : List Event) → IsPrompt events → IsTrue (are_writes xs) → IsPrompt (events ++ xs)
prompt_on events [] prompt w = subst IsPrompt (sym (append-nil events)) prompt
prompt_on events (it ∷ xs) prompt w =
    let first = writes_first (is_read it) (are_writes xs) w in
    subst IsPrompt (append_assoc events (it ∷ []) xs)
    (prompt_on (events ++ it ∷ []) xs (prompt_more events it prompt (λ reads. absurd (let no : is_read it ≡ false = first.0 in cc))) first.1)
