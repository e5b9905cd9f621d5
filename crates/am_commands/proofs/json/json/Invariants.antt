use Rattle.std.proofs.Common.{◌≡◌, [], map, string_bytes, take}
use Rattle.am_commands.specs.JsonLines.{EndFiles}
use Rattle.am_commands.specs.Lines.{Adds}
use Rattle.am_commands.proofs.json.json.Given as goal

-- the files so far came to the lines so far, and nothing was written
abbrev pub invariant-loop-path : goal.invariant-loop-path
invariant-loop-path g l = record {
  ended : Adds (EndFiles (map (λ file. file.now) (take l.path-index l.files)) l.fn.console.input.io_trace.moved l.console.input.io_trace.moved l.status) [] (string_bytes l.lines);
  silent : l.console.output ≡ l.initial.console.output;
}
