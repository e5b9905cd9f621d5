use Rattle.std.proofs.Common.{◌≡◌, ◌≤◌, ◌++◌, [], List, Some, drop, length, reverse, take}
use Rattle.std.specs.HashMap.{get}
use Rattle.std.specs.List.{All}
use Rattle.std.specs.Option.{IfSome, option_map}
use Rattle.std.specs.Prelude.{slice_get}
use Rattle.am_model.specs.declared.group.GroupName.{GroupName}
use Rattle.am_model.specs.State.{same_name}
use Rattle.am_timeline.specs.Runs.{HasLines, flushes_by, folds_of, kept_run, runs_begun, starts_from}
use Rattle.am_timeline.proofs.Folds.{complete, last_lines}
use Rattle.am_timeline.proofs.runs.Folding.folded.Given as goal

-- the table has the last flush of each group so far, and the number of its run; the runs, with the later flushes that are of them too, are
-- followed by those that the later flushes begin
abbrev pub invariant-loop-index : goal.invariant-loop-index
invariant-loop-index g l = (groups : List GroupName)
    × record {
      sized : length groups ≡ length l.found.runs.items;
      known : (name : GroupName) → IfSome (kept_run (get same_name l.table name)) (λ n. slice_get groups n.1 ≡ Some name);
      held : (name : GroupName) → option_map (λ n. n.0) (kept_run (get same_name l.table name))
          ≡ last_lines name (reverse (take l.index (flushes_by l.self.all l.self.print.playback.now (g.C.TimeFormat.times l.self.print.clock.now))));
      lines : (name : GroupName) → IfSome (get same_name l.table name) (HasLines l.self.all l.self.print.playback.now (g.C.TimeFormat.times l.self.print.clock.now));
      few : All (λ r. r.count ≤ l.index) l.found.runs.items;
      runs : complete (λ name. kept_run (get same_name l.table name)) (drop l.index (flushes_by l.self.all l.self.print.playback.now (g.C.TimeFormat.times l.self.print.clock.now))) 0 groups l.found.runs.items
          ++ runs_begun (folds_of (reverse (take l.index (flushes_by l.self.all l.self.print.playback.now (g.C.TimeFormat.times l.self.print.clock.now)))) (drop l.index (flushes_by l.self.all l.self.print.playback.now (g.C.TimeFormat.times l.self.print.clock.now))))
          ≡ runs_begun (folds_of [] (flushes_by l.self.all l.self.print.playback.now (g.C.TimeFormat.times l.self.print.clock.now)));
      starts : l.found.starts.items
          ++ starts_from l.index (folds_of (reverse (take l.index (flushes_by l.self.all l.self.print.playback.now (g.C.TimeFormat.times l.self.print.clock.now)))) (drop l.index (flushes_by l.self.all l.self.print.playback.now (g.C.TimeFormat.times l.self.print.clock.now))))
          ≡ starts_from 0 (folds_of [] (flushes_by l.self.all l.self.print.playback.now (g.C.TimeFormat.times l.self.print.clock.now)));
    }
