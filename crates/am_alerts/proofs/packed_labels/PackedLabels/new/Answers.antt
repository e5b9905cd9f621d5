use Rattle.std.proofs.Common.{◌≡◌, [], length, string_bytes, refl, ap, ◌∙◌, arith}
use Rattle.std.proofs.lemmas.List.{take_all}
use Rattle.std.proofs.lemmas.Str.{IsUtf8-string_bytes}
use Rattle.am_alerts.specs.Labels.{labels_in}
use Rattle.am_alerts.specs.Packing.{run_hash}
use Rattle.am_alerts.proofs.Packing.{IsRun-more, IsRun-empty, IsPacked-from_run, name_fits, one_more_short, run_fits, value_fits}
use Rattle.am_alerts.proofs.packed_labels.PackedLabels.new.Goals as goal

pub loop-pair-init : goal.loop-pair-init
loop-pair-init c =
    let empty : string_bytes c.in_ok-run.run' ≡ [] = c.in_ok-run.ensures.bytes in
    record {
      run = rw (c.in_ok-run.ensures.bytes, c.new-cuts.ensures.items) IsRun-empty;
      short = omega (arith, ap length empty);
    }

pub push_label-requires : goal.push_label-requires
push_label-requires c = record {
  run = run_fits c.args.pairs.now c.loop-pair.pair-index c.loop-pair-test.true c.requires (string_bytes c.loop-pair.run)
      c.loop-pair.invariant.short;
  name = name_fits c.args.pairs.now c.loop-pair.pair-index _ c.loop-pair-test.true c.requires;
  value = value_fits c.args.pairs.now c.loop-pair.pair-index _ c.loop-pair-test.true c.requires;
}

pub loop-pair-preserved : goal.loop-pair-preserved
loop-pair-preserved c = record {
  run =
      rw (c.in_ok-push.ensures.ok, c.has_zero-is_marked.ensures)
      (IsRun-more c.args.pairs.now c.loop-pair.pair-index _ _ c.loop-pair-test.true refl _ _ _ _ _ c.loop-pair.invariant.run
      c.in_ok-cut.ensures (IsUtf8-string_bytes c.loop-pair.run) (IsUtf8-string_bytes c.push_label.new.run));
  short = one_more_short c.args.pairs.now c.loop-pair.pair-index _ c.loop-pair-test.true c.requires (string_bytes c.loop-pair.run)
      c.loop-pair.invariant.short _ _ c.in_ok-cut.ensures;
}

pub invariant_of-result : goal.invariant_of-result
invariant_of-result c =
    IsPacked-from_run _ _ _ _ _ c.loop-pair.invariant.run (c.run_hash.ensures ∙ ap (λ r. run_hash r) c.as_str.ensures.value)

pub returns : goal.returns
returns c =
    c.loop-pair.invariant.run.labels_are ∙ ap (λ ps. labels_in ps) (take_all c.loop-pair.pair-index c.args.pairs.now c.loop-pair-test.false)
