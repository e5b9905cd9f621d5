use Rattle.std.proofs.Common.{◌≡◌, ◌∙◌, ◌<◌, ◌+◌, ◌==◌, ◌∷◌, ℕ, List, Option, None, Some, ap, sym, refl, subst, arith, length, take}
use Rattle.std.proofs.Common.{if◌then◌else◌}
use Rattle.std.specs.Prelude.{slice_get}
use Rattle.std.specs.Option.{option_or}
use Rattle.std.proofs.lemmas.Option.{slice_get_read}
use Rattle.am_model.specs.declared.record.Record.{Record}
use Rattle.am_model.specs.look_back.Past.{past_of}
use Rattle.am_timeline.specs.Expiry.{expired_before}
use Rattle.am_timeline.specs.Log.{Follows}
use Rattle.am_timeline.proofs.ExpiredTable.{table-all, table-more}
use Rattle.am_timeline.proofs.Reversed.{reverse_more}
use Rattle.am_timeline.proofs.logbook.entries.expired_entries.Goals as goal

pub loop-index-preserved : goal.loop-index-preserved
loop-index-preserved c =
    let history = c.args.history.now in
    let index = c.loop-index.index in
    let here = c.index-history-index.result in
    let past = past_of (take index history) in
    let inside : index < length history = omega (arith, c.loop-index-test.true) in
    let at : slice_get history index ≡ Some here =
    slice_get_read history (length history) index here refl inside c.index-history-index.is in
    let more : past_of (take (index + 1) history) ≡ here ∷ past =
    reverse_more history index here inside ∙ ap (λ (r : Record). r ∷ past) (sym c.index-history-index.is) in
    record {
      follows = subst (λ (l : List Record). Follows c.add_record.new.log l) (sym more)
          (c.in_ok-add_record.ensures past c.loop-index.invariant.follows);
      found = λ p i.
          c.in_ok-add_expired.ensures past c.loop-index.invariant.follows p i
          ∙ ap (λ (o : Option ℕ). option_or (if index == p then expired_before c.args.config.now i past here else None) o)
          (c.loop-index.invariant.found p i)
          ∙ table-more c.args.config.now history index here p i at;
    }

pub returns : goal.returns
returns c =
    λ index integration.
    c.loop-index.invariant.found index integration
    ∙ table-all c.args.config.now c.args.history.now c.loop-index.index index integration
    (omega (arith, c.loop-index-test.false, c.loop-index.auto.index-end))
