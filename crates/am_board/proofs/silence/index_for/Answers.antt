use Rattle.std.proofs.Common.{◌≡◌, ℕ, ◌<◌, ◌≤◌, nat_le, Bool, List, true, false, not, ◌&&◌, is_some, length, Option, Some, None, Ok, Err, vec_len, sym, refl, ap, ◌∙◌, arith, if◌then◌else◌}
use Rattle.std.specs.Prelude.{◌==◌, Result}
use Rattle.std.specs.List.{position, list_any}
use Rattle.std.proofs.lemmas.Bool.Decides.{nat_tests}
use Rattle.am_alerts.specs.Fault.{ok_unless}
use Rattle.am_mute.specs.Silence.{SilenceData}
use Rattle.am_model.specs.Causes.{is_full}
use Rattle.am_board.specs.Refinement.{state_of}
use Rattle.am_model.specs.Maintenance.{same_silence}
use Rattle.am_model.specs.declared.fault.Fault.{Fault}
use Rattle.am_model.specs.declared.fault.Fault.TheVariants.{TooManySilences, HistoryFull}
use Rattle.am_model.proofs.lists.Indexes.{is_some-position}
use Rattle.am_board.proofs.lemmas.invariant.Staying.{not_full}
use Rattle.am_board.proofs.silence.index_for.Goals as goal
use Rattle.am_board.proofs.silence.index_for.Goals.{else-is_none-via-then-is_none+else-len-config, else-is_none-via-else-is_none}
use Rattle.std.proofs.lemmas.Bool.{and_right}
use Rattle.std.specs.VecDeque.{deque_len}

refused : {T : Type 0} (full many there : Bool) (x : T) → full ≡ false → many ≡ true → there ≡ false
    → ◌≡◌ {A = Result T Fault} (Err TooManySilences) (ok_unless (if full then Some HistoryFull else (if many && not there then Some TooManySilences else None)) x)
refused true many there x f m t = absurd (cc)
refused false false there x f m t = absurd (cc)
refused false true true x f m t = absurd (cc)
refused false true false x f m t = refl

admitted : {T : Type 0} (full many there : Bool) (x : T) → full ≡ false → (many && not there) ≡ false
    → ◌≡◌ {A = Result T Fault} (Ok x) (ok_unless (if full then Some HistoryFull else (if many && not there then Some TooManySilences else None)) x)
admitted true many there x f m = absurd (cc)
admitted false true true x f m = refl
admitted false true false x f m = absurd (cc)
admitted false false there x f m = refl

-- the index that was found is that of a silence with the same id
found_as : (n : ℕ) (found : Option ℕ) (silences : List SilenceData) (silence : SilenceData) → found ≡ position (λ s. n == s.id) silences → silence.id ≡ n → found ≡ position (same_silence silence) silences
found_as n found silences silence e h = e ∙ ap (λ m. position (λ s. m == s.id) silences) (sym h)

at_least : (m n : ℕ) → m ≤ n → nat_le m n ≡ true
at_least m n h = grind (arith, nat_tests)

below : (m n : ℕ) → n < m → nat_le m n ≡ false
below m n h = grind (arith, nat_tests)

pub returns-then-len-config : goal.returns-then-len-config
returns-then-len-config c silence h =
    let silences = c.args.state.now.silences.items in
    let counted : deque_len c.args.state.now.flushes ≡ length c.args.state.now.flushes.items = omega arith in
    let space = not_full c.args.config.now c.args.state.now 1 counted (omega arith) in
    let many : nat_le c.args.config.now.limits.silences (length silences) ≡ true = at_least _ _ (omega (arith, c.len.ensures)) in
    let found = found_as c.args.id c.find-index.result silences silence c.find-index.ensures.index h in
    let none : list_any (same_silence silence) silences ≡ false =
    sym (ap is_some found ∙ is_some-position (same_silence silence) silences) ∙ c.is_none.ensures ∙ ap not c.if-is_none.true in
    refused (is_full c.args.config.now (vec_len c.args.state.now.history) (state_of c.args.state.now) 1) (nat_le c.args.config.now.limits.silences (length silences)) (list_any (same_silence silence) silences) (position (same_silence silence) silences) space many none

pub returns : goal.returns
returns c silence h =
    let silences = c.args.state.now.silences.items in
    let counted : deque_len c.args.state.now.flushes ≡ length c.args.state.now.flushes.items = omega arith in
    let space = not_full c.args.config.now c.args.state.now 1 counted (omega arith) in
    let found = found_as c.args.id c.find-index.result silences silence c.find-index.ensures.index h in
    let fact : list_any (same_silence silence) silences ≡ not c.is_none.result =
    sym (ap is_some found ∙ is_some-position (same_silence silence) silences) ∙ c.is_none.ensures in
    ap Ok found ∙ admitted (is_full c.args.config.now (vec_len c.args.state.now.history) (state_of c.args.state.now) 1) (nat_le c.args.config.now.limits.silences (length silences)) (list_any (same_silence silence) silences) (position (same_silence silence) silences) space
    (elim c.else-is_none.branch [
      | else-is_none-via-then-is_none+else-len-config w ↦
          ap (λ b. b && not (list_any (same_silence silence) silences)) (below c.args.config.now.limits.silences (length silences) (omega (arith, w.len.ensures)))
      | else-is_none-via-else-is_none w ↦
          ap (λ b. nat_le c.args.config.now.limits.silences (length silences) && not b) (fact ∙ ap not w.if-is_none.false) ∙ and_right (nat_le c.args.config.now.limits.silences (length silences)) false refl
    ])
