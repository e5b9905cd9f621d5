use Rattle.std.proofs.Common.{◌≡◌, ◌∙◌, ◌++◌, List, ℕ, OnOk, ap, append_assoc, codes, string_bytes, subst, sym}
use Rattle.std.proofs.lemmas.Result.{on_ok_weaker}
use Rattle.am_terms.specs.declared.dispatcher_change.Carryover.{Carryover}
use Rattle.am_render.specs.Head.{kept_text, taken_text}
use Rattle.am_render.proofs.Tales.{when_ok}
use Rattle.am_render.proofs.head.push_kept.Goals as goal

pub returns-in_ok-push_str-in-All : goal.returns-in_ok-push_str-in-All
returns-in_ok-push_str-in-All c =
    let h = c.args.head.now in
    let out = string_bytes c.args.out.now in
    let taken = taken_text h.rows h.taken in
    subst (λ (carryover : Carryover). OnOk c.push_taken.result (string_bytes c.push_taken.new.out ≡ out ++ kept_text h carryover)) (sym c.in-All.is)
    (on_ok_weaker c.push_taken.result
    (λ (e : string_bytes c.push_taken.new.out ≡ string_bytes c.push_str.new.self ++ taken).
    e ∙ ap (λ (t : List ℕ). t ++ taken) c.in_ok-push_str-in-All.ensures.bytes ∙ append_assoc out (codes "reload  ") taken)
    c.push_taken.ensures)

pub returns-in_ok-push_str-in-Log : goal.returns-in_ok-push_str-in-Log
returns-in_ok-push_str-in-Log c =
    let h = c.args.head.now in
    let out = string_bytes c.args.out.now in
    let taken = taken_text h.rows h.taken in
    subst (λ (carryover : Carryover). OnOk c.push_taken-in-Log.result (string_bytes c.push_taken-in-Log.new.out ≡ out ++ kept_text h carryover)) (sym c.in-Log.is)
    (on_ok_weaker c.push_taken-in-Log.result
    (λ (e : string_bytes c.push_taken-in-Log.new.out ≡ string_bytes c.push_str-in-Log.new.self ++ taken).
    e ∙ ap (λ (t : List ℕ). t ++ taken) c.in_ok-push_str-in-Log.ensures.bytes ∙ append_assoc out (codes "restart ") taken)
    c.push_taken-in-Log.ensures)

pub returns-in-Nothing : goal.returns-in-Nothing
returns-in-Nothing c =
    subst (λ (carryover : Carryover). OnOk c.push_str-in-Nothing.result (string_bytes c.push_str-in-Nothing.new.self ≡ string_bytes c.args.out.now ++ kept_text c.args.head.now carryover)) (sym c.in-Nothing.is)
    (when_ok c.push_str-in-Nothing.result (string_bytes c.push_str-in-Nothing.new.self) _ _ c.push_str-in-Nothing.ensures.bytes)
