use Rattle.std.proofs.Common.{◌∙◌, [], arith, sym}
use Rattle.std.proofs.lemmas.List.{get_or-map, length-map}
use Rattle.std.proofs.lemmas.Slice.Eq.{bytes_eq-Decides}
use Rattle.am_commands.proofs.once.accept_inputs.Goals as goal
use Rattle.am_commands.proofs.once.accept_inputs.Goals.{then-eq+else-is_taken, else-eq}

pub returns-then-is_taken-clause-twice : goal.returns-then-is_taken-clause-twice
returns-then-is_taken-clause-twice g c =
    let before = c.loop-file.invariant c.if-is_taken.true in
    record {
      first = before.0;
      second = c.loop-file.file-index;
      before = before.1;
      within = rw length-map c.loop-file-test.true;
      first_is = before.2;
      second_is =
          get_or-map (λ file. file.now) c.args.files.now c.loop-file.file-index _ [] c.loop-file-test.true
          ∙ (bytes_eq-Decides _ _).0 (sym c.eq.ensures ∙ c.if-eq.true);
    }

pub loop-file-preserved : goal.loop-file-preserved
loop-file-preserved g c taken =
    elim c.if-eq.branch [
      | then-eq+else-is_taken w ↦ (
        c.loop-file.file-index,
        omega arith,
        get_or-map (λ file. file.now) c.args.files.now c.loop-file.file-index _ [] c.loop-file-test.true
            ∙ (bytes_eq-Decides _ _).0 (sym c.eq.ensures ∙ w.if-eq.true),
      )
      | else-eq w ↦
          let before = c.loop-file.invariant (sym w.is_taken-is ∙ taken) in
          (before.0, omega (arith, before.1), before.2)
    ]
