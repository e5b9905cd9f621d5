use Rattle.std.proofs.Common.{◌≡◌, ◌++◌, ◌∙◌, ◌+◌, [], ap, inr, map, refl, string_bytes, subst, sym, take}
use Rattle.am_command_line.specs.declared.exit_status.ExitStatus.{ExitStatus}
use Rattle.am_commands.proofs.Ends.{all_files, next_file}
use Rattle.am_commands.specs.JsonLines.{EndFiles}
use Rattle.am_commands.specs.Lines.{Adds}
use Rattle.am_commands.proofs.json.json.Goals as goal

pub loop-path-preserved : goal.loop-path-preserved
loop-path-preserved g c = record {
  ended =
      subst
      (λ (s : ExitStatus). Adds (EndFiles (map (λ file. file.now) (take (c.loop-path.path-index + 1) c.args.files.now)) c.args.console.now.input.io_trace.moved c.push_file.new.console.input.io_trace.moved s) [] (string_bytes c.push_file.new.lines))
      (sym c.first_fault-status.ensures)
      (next_file _ _ _ _ _ _ _ _ _ [] _ _ c.loop-path-test.true c.loop-path.invariant.ended c.in-Ok.ensures.ended);
  silent = c.in-Ok.ensures.silent ∙ c.loop-path.invariant.silent;
}

pub returns-in-Done-clause-done : goal.returns-in-Done-clause-done
returns-in-Done-clause-done g c is =
    let done = c.in-Done.ensures.done refl in
    let silent = c.loop-path.invariant.silent in
    let value = c.as_str.ensures.value in
    all_files _ _ _ _ _ _ _ _ _ _ _ c.loop-path-test.false c.loop-path.invariant.ended (ap (λ i. i.io_trace.moved) c.print.ensures.unread) (cc) is

pub returns-in-Done-clause-unreadable : goal.returns-in-Done-clause-unreadable
returns-in-Done-clause-unreadable g c is =
    let done = c.in-Done.ensures.done refl in
    let silent = c.loop-path.invariant.silent in
    let value = c.as_str.ensures.value in
    all_files _ _ _ _ _ _ _ _ _ _ _ c.loop-path-test.false c.loop-path.invariant.ended (ap (λ i. i.io_trace.moved) c.print.ensures.unread) (cc) is

pub returns-in-Done-clause-rejected : goal.returns-in-Done-clause-rejected
returns-in-Done-clause-rejected g c is =
    let done = c.in-Done.ensures.done refl in
    let silent = c.loop-path.invariant.silent in
    let value = c.as_str.ensures.value in
    inr (all_files _ _ _ _ _ _ _ _ _ _ _ c.loop-path-test.false c.loop-path.invariant.ended (ap (λ i. i.io_trace.moved) c.print.ensures.unread) (cc) is)
