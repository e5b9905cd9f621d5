-- Calls: what each function returns and leaves, for a handle that is closed (None) or has a service.
use Rattle.std.specs.Prelude.{◌≡◌, ◌++◌, ℕ, ℤ, pos, List, [], Option, None, Some, drop, length, take}
use Rattle.am_seed.specs.Hashing.{seed_of}
use Rattle.am_session.specs.Line.{AnswersLine}
use Rattle.am_session.specs.Service.{text_of}
use Rattle.am_session.specs.declared.service.Service.{Service}

-- a service without a board and without an answer
pub record IsFresh (number : ℕ) (service : Service) : Type 0 where
  pub session : service.session ≡ None
  pub seed : service.seed ≡ seed_of number
  pub answer : text_of service.answer ≡ []

-- opening: 0 with a fresh service, 1 without memory, 2 if it is open already
abbrev pub Opens : Option Service → ℕ → ℤ → Option Service → Type 0
Opens None seed result (Some new) = (result ≡ pos 0) × IsFresh seed new
Opens None seed result None = result ≡ pos 1
Opens (Some old) seed result new = (result ≡ pos 2) × (new ≡ Some old)

-- as much of the text from a place on as fits is at the beginning of the buffer. The rest is as before
abbrev pub written : List ℕ → ℕ → List ℕ → List ℕ
written text from before = take (length before) (drop from text) ++ drop (length (drop from text)) before

-- the line is answered, and the answer is in the buffer as far as it fits
pub record IsCalled (old : Service) (line : List ℕ) (result : ℕ) (new : Service) (before after : List ℕ) : Type 0 where
  pub answered : AnswersLine old.session line (text_of new.answer) new.session
  pub seed : new.seed ≡ old.seed
  pub length : result ≡ length (text_of new.answer)
  pub copied : after ≡ written (text_of new.answer) 0 before

-- a call: nothing happens while it is closed
abbrev pub Calls : Option Service → List ℕ → ℕ → Option Service → List ℕ → List ℕ → Type 0
Calls None line result new before after = (result ≡ 0) × (new ≡ None) × (after ≡ before)
Calls (Some old) line result None before after = ⊥
Calls (Some old) line result (Some new) before after = IsCalled old line result new before after

-- a read of the last answer, from a place on
abbrev pub Reads : Option Service → ℕ → ℕ → Option Service → List ℕ → List ℕ → Type 0
Reads None from result new before after = (result ≡ 0) × (new ≡ None) × (after ≡ before)
Reads (Some old) from result new before after =
    (new ≡ Some old) × (result ≡ length (text_of old.answer)) × (after ≡ written (text_of old.answer) from before)

-- closing: 0, and 2 if it isn't open
abbrev pub Closes : Option Service → ℤ → Option Service → Type 0
Closes None result new = (result ≡ pos 2) × (new ≡ None)
Closes (Some old) result new = (result ≡ pos 0) × (new ≡ None)
