-- Batches: alerts that are inserted one after the other.
use Rattle.std.specs.Prelude.{◌≡◌, ℕ, Bool, List, [], ◌∷◌, None, Result, Ok, Err}
use Rattle.am_alerts.specs.AlertData.{AlertData}
use Rattle.am_model.specs.Records.{entry}
use Rattle.am_model.specs.declared.fault.Fault.{Fault}
use Rattle.am_model.specs.declared.record.Call.TheVariants as call
use Rattle.am_model.specs.declared.record.Inserted.{Inserted}
use Rattle.am_model.specs.declared.record.Reply.TheVariants as reply
use Rattle.am_desk.specs.Calls.{Called, IsRefused, why_insert}
use Rattle.am_desk.specs.Known.{Seen}
use Rattle.am_desk.specs.declared.word.Terms.{Terms}

-- the answer to an insert, and what the pass knows then: a call that was accepted, or one that was refused
abbrev pub IsAnswered : Bool → Terms → ℕ → Seen → AlertData → Result Inserted Fault → Seen → Type 0
IsAnswered takes t now p alert (Ok inserted) q =
    Called t p (λ h. why_insert takes t q alert h ≡ None) (entry p.number (call.Insert now alert) (reply.Inserted inserted)) q
IsAnswered takes t now p alert (Err fault) q = IsRefused t p (why_insert takes t q alert) fault q

-- the answers to inserts, in their order: each begins with what the pass knew after the one before
abbrev pub AreAnswered : Bool → Terms → ℕ → Seen → List AlertData → List (Result Inserted Fault) → Seen → Type 0
AreAnswered takes t now p [] [] q = q ≡ p
AreAnswered takes t now p [] (r ∷ rs) q = ⊥
AreAnswered takes t now p (a ∷ rest) [] q = ⊥
AreAnswered takes t now p (a ∷ rest) (r ∷ rs) q = (m : Seen) × IsAnswered takes t now p a r m × AreAnswered takes t now m rest rs q
