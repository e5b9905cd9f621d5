use Rattle.std.proofs.Common.{◌≡◌, ℕ, List, ◌++◌, ◌∷◌, [], arith, Some, sym, ap, ◌∙◌, vec_len}
use Rattle.std.proofs.lemmas.List.Sorted.{IsPermutation-refl}
use Rattle.std.specs.List.{list_any, position}
use Rattle.am_mute.specs.Silence.{SilenceData}
use Rattle.am_model.specs.declared.record.Call.TheVariants.{Silence}
use Rattle.am_model.specs.declared.record.Reply.TheVariants.{Silenced}
use Rattle.am_model.specs.Causes.{silence_cause}
use Rattle.am_model.specs.Records.{entry}
use Rattle.am_board.specs.Refinement.{state_of}
use Rattle.am_model.specs.Lists.{upsert}
use Rattle.am_model.specs.State.{State}
use Rattle.am_model.specs.Maintenance.{same_silence}
use Rattle.am_model.proofs.lists.Indexes.{is_some-position}
use Rattle.am_board.proofs.lemmas.invariant.Staying.{no_fault, unless_value}
use Rattle.am_board.proofs.silence.put_silence.Goals as goal

with_silences : (s : State) (t u : ℕ) (xs ys : List SilenceData) → t ≡ u → xs ≡ ys → ◌≡◌ {A = State} (record s { clock = t; silences = xs }) (record s { clock = u; silences = ys })
with_silences s t u xs ys e f = λ i. record s { clock = e i; silences = f i }

pub returns : goal.returns
returns c =
    let silences = c.args.state.now.silences.items in
    let cause = silence_cause c.args.config.now (vec_len c.args.state.now.history) (state_of c.args.state.now) c.args.silence in
    let placed = c.in_ok-index.ensures c.args.silence (sym c.id.ensures) in
    let at : c.in_ok-index.index ≡ position (same_silence c.args.silence) silences = unless_value cause (position (same_silence c.args.silence) silences) c.in_ok-index.index placed in
    let replaced : c.is_some.result ≡ list_any (same_silence c.args.silence) silences = cc (at, c.is_some.ensures, is_some-position (same_silence c.args.silence) silences) in
    let matchers : c.in_ok-parts_of.field-0 ≡ c.args.silence.matchers = cc (c.in_ok-parts_of.ensures, c.matchers.ensures.matchers) in (
      no_fault cause (position (same_silence c.args.silence) silences) c.in_ok-index.index placed,
      λ id. record {
        returned = ap (λ b. Some (Silenced (record { replaced = b }))) (sym replaced);
        state = record {
          rows = IsPermutation-refl _;
          rest = with_silences (state_of c.args.state.now) c.time-state.result _ c.keep_silence.new.silences.items _ c.time-state.ensures (c.keep_silence.ensures ∙ ap (upsert same_silence c.args.silence) c.in_ok-reserve-2.ensures.items);
        };
        routed = c.requires.good.routed;
        prepared = c.requires.good.prepared;
        marked = c.requires.good.marked;
        history = c.push_reserved.ensures.items ∙ (λ i. c.in_ok-reserve.ensures.items i ++ entry c.args.pass (Silence c.args.now (c.id-2.ensures i) (matchers i) (c.start.ensures.start i) (c.end.ensures.end i)) (Silenced (record { replaced = c.is_some.result })) ∷ []);
        records = omega arith;
        space = omega (arith, c.in_ok-reserve.ensures.ok, c.in_ok-reserve.ensures.len, c.push_reserved.ensures.len, c.push_reserved.ensures.capacity, c.len.ensures);
      },
    )
