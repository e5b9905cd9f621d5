use Rattle.std.proofs.Common.{rules, ◌≡◌, ◌∙◌, ◌+◌, ◌-◌, ◌<◌, ◌||◌, cond, List, ℕ, drop, get_or, length, string_bytes, ap, sym, arith}
use Rattle.std.specs.Prelude.{Some, is_some}
use Rattle.std.specs.HashMap.{get_by_text}
use Rattle.std.specs.Str.{bytes_eq}
use Rattle.std.proofs.lemmas.Map.Text.{hash_map_updates_text}
use Rattle.am_model.specs.Receivers.{has_receiver_twice}
use Rattle.am_model.specs.declared.config.Receiver.{Receiver}
use Rattle.am_model.proofs.configuration.Receivers.{placed-more, twice-more}
use Rattle.am_model.proofs.config.receivers.Receivers.new.Goals as goal
use Rattle.am_model.proofs.config.receivers.Receivers.new.Goals.{then-is_some, else-is_some}

pub loop-i-preserved : goal.loop-i-preserved
loop-i-preserved c =
    let rs : List Receiver = c.args.list.items in
    let i = c.loop-i.i in
    let n = length rs - i in
    let at = length rs - (i + 1) in
    let r : Receiver = c.index.result.now in
    let within : at < length rs = omega (arith, c.loop-i-test.true, c.len-i-end.ensures) in
    let next : n ≡ at + 1 = omega (arith, c.loop-i-test.true, c.len-i-end.ensures) in
    let place : c.len.result - 1 - i ≡ at = omega (arith, c.len.ensures) in
    let here : r ≡ get_or rs at r = c.index.ensures ∙ ap (λ k. get_or rs k r) place in
    let key : string_bytes c.in_ok-name.name ≡ r.name = search rules in
    let old = get_by_text c.loop-i.places in
    let put : (name : List ℕ) → get_by_text c.insert.new.self name ≡ cond (bytes_eq r.name name) (Some at) (old name) =
    λ name. hash_map_updates_text (string_bytes c.in_ok-name.name) c.loop-i.places c.insert.new.self (Some (c.len.result - 1 - i)) c.in_ok-insert.ensures.updates name
    ∙ (λ j. cond (bytes_eq (key j) name) (Some (place j)) (old name)) in
    let there : c.is_some.result ≡ is_some (old r.name) = c.is_some.ensures ∙ ap is_some (c.in_ok-insert.ensures.old ∙ ap old key) in
    let known : c.if-is_some.twice ≡ (is_some (old r.name) || has_receiver_twice (drop n rs)) =
    elim c.if-is_some.branch [
      | then-is_some w ↦ w.twice-is ∙ sym (ap (λ b. b || has_receiver_twice (drop n rs)) (sym there ∙ w.if-is_some.true))
      | else-is_some w ↦ w.twice-is ∙ c.loop-i.invariant.known ∙ sym (ap (λ b. b || has_receiver_twice (drop n rs)) (sym there ∙ w.if-is_some.false))
    ] in
    record {
      placed = placed-more rs at n r old (get_by_text c.insert.new.self) within next here c.loop-i.invariant.placed put;
      known = known ∙ twice-more rs at n r old within next here c.loop-i.invariant.placed;
    }
