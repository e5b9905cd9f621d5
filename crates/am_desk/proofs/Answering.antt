-- Inserts that are answered one after the other.
use Rattle.std.proofs.Common.{◌≡◌, ◌++◌, ℕ, Bool, List, [], ◌∷◌, None, Result, Ok, Err, refl, subst}
use Rattle.std.specs.Prelude.{IfErr, IfOk}
use Rattle.am_alerts.specs.AlertData.{AlertData}
use Rattle.am_model.specs.declared.fault.Fault.{Fault}
use Rattle.am_model.specs.declared.record.Inserted.{Inserted}
use Rattle.am_model.specs.Records.{entry}
use Rattle.am_model.specs.declared.record.Call.TheVariants as call
use Rattle.am_model.specs.declared.record.Reply.TheVariants as reply
use Rattle.am_desk.specs.Calls.{Called, IsRefused, why_insert}
use Rattle.am_desk.specs.Batches.{AreAnswered, IsAnswered}
use Rattle.am_desk.specs.Known.{Seen}
use Rattle.am_desk.specs.declared.word.Terms.{Terms}

-- what is ensured of an insert, by its answer
pub answer_of : (takes : Bool) (t : Terms) (now : ℕ) (p : Seen) (alert : AlertData) (r : Result Inserted Fault) (q : Seen)
    → IfOk r (λ inserted. Called t p (λ h. why_insert takes t q alert h ≡ None) (entry p.number (call.Insert now alert) (reply.Inserted inserted)) q)
    → IfErr r (λ fault. IsRefused t p (why_insert takes t q alert) fault q) → IsAnswered takes t now p alert r q
answer_of takes t now p alert (Ok inserted) q done refused = done
answer_of takes t now p alert (Err fault) q done refused = refused

-- one more
pub answered_more : (takes : Bool) (t : Terms) (now : ℕ) (p m q : Seen) (done : List AlertData) (a : AlertData) (rs : List (Result Inserted Fault))
    (r : Result Inserted Fault) → AreAnswered takes t now p done rs m → IsAnswered takes t now m a r q → AreAnswered takes t now p (done ++ a ∷ []) (rs ++ r ∷ []) q
answered_more takes t now p m q [] a [] r before is = (q, subst (λ (s : Seen). IsAnswered takes t now s a r q) before is, refl)
answered_more takes t now p m q [] a (s ∷ rs) r before is = absurd before
answered_more takes t now p m q (b ∷ done) a [] r before is = absurd before
answered_more takes t now p m q (b ∷ done) a (s ∷ rs) r before is = (before.0, before.1, answered_more takes t now before.0 m q done a rs r before.2 is)
