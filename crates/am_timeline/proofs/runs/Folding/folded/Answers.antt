use Rattle.std.proofs.Common.{◌≡◌, ◌∙◌, ◌+◌, ◌<◌, ◌≤◌, ◌∷◌, ◌++◌, [], ℕ, List, Option, Some, None, ap, refl, rules, sym, subst, drop, get_or, length, map, reverse, take, arith}
use Rattle.std.specs.HashMap.{get}
use Rattle.std.specs.List.{All}
use Rattle.std.specs.Option.{IfSome, option_map}
use Rattle.std.specs.Prelude.{slice_get}
use Rattle.std.proofs.lemmas.List.{length-map}
use Rattle.std.proofs.lemmas.List.Elements.{All-nil, All-weaker}
use Rattle.am_model.specs.declared.group.GroupName.{GroupName}
use Rattle.am_model.specs.State.{same_name}
use Rattle.am_terms.specs.declared.event.PreviewedBegin.{PreviewedBegin}
use Rattle.am_timeline.specs.declared.runs.Run.{Run}
use Rattle.am_timeline.specs.Runs.{FlushData, Fold, HasLines, IsRising, flush_by, flushes_by, folds_of, kept_of, kept_run, number_with, runs_begun, runs_with, starts_from, starts_with}
use Rattle.am_timeline.proofs.Folds.{HasLines-of, IfSome-if, Moves, before_more, complete, counts-step, drop_map-at, groups-step, groups_with, inside-held, inside-kept, kept_run-if, known-step, last_lines, lines-step, runs-done, runs-step, starts-done, starts-step}
use Rattle.am_timeline.proofs.Starts.{starts-length, starts-rising}
use Rattle.am_timeline.proofs.runs.Folding.folded.Goals as goal

pub add-requires : goal.add-requires
add-requires g c =
    let index = c.loop-index.index in
    let begins = c.args.self.now.print.playback.now.begins in
    let table = c.loop-index.table in
    let runs = c.loop-index.found.runs.items in
    let group = c.index-begins-index.result.preview.group in
    let groups = c.loop-index.invariant.0 in
    let was = c.loop-index.invariant.1 in
    let all : length c.begins-begins.result.now ≡ length begins = ap length c.begins-begins.ensures in
    let inside : index < length begins = omega (arith, c.loop-index-test.true, all) in
    record {
      fits = All-weaker (λ (r : Run). r.count ≤ index) (λ (r : Run). r.count < length begins) (λ r few. omega (arith, few, inside)) runs was.few;
      inside = inside-kept (get same_name table group) (length runs)
          (inside-held (kept_run (get same_name table group)) groups (length runs) group was.sized (was.known group));
      lines = was.lines group;
    }

pub loop-index-preserved : goal.loop-index-preserved
loop-index-preserved g c =
    let index = c.loop-index.index in
    let playback = c.args.self.now.print.playback.now in
    let begins = playback.begins in
    let times = g.C.TimeFormat.times c.args.self.now.print.clock.now in
    let f = flush_by c.args.self.now.all playback times in
    let flushes = map f begins in
    let table = c.loop-index.table in
    let runs = c.loop-index.found.runs.items in
    let starts = c.loop-index.found.starts.items in
    let b = c.index-begins-index.result in
    let here = f b in
    let before = reverse (take index flushes) in
    let later = drop (index + 1) flushes in
    let groups = c.loop-index.invariant.0 in
    let was = c.loop-index.invariant.1 in
    let old : GroupName → Option (List ℕ × ℕ) = λ name. kept_run (get same_name table name) in
    let new : GroupName → Option (List ℕ × ℕ) = λ name. kept_run (get same_name c.add.new.table name) in
    let last = old here.group in
    let all : length c.begins-begins.result.now ≡ length begins = ap length c.begins-begins.ensures in
    let inside : index < length begins = omega (arith, c.loop-index-test.true, all) in
    let is : b ≡ get_or begins index b = c.index-begins-index.is ∙ ap (λ (l : List PreviewedBegin). get_or l index b) c.begins-begins.ensures in
    let one : drop index flushes ≡ here ∷ later = drop_map-at f begins index b inside is in
    let back : reverse (take (index + 1) flushes) ≡ here ∷ before = before_more f begins index b inside is in
    let kept = kept_of index here.lines (length runs) last in
    let moves : Moves old new here (number_with here.lines (length runs) last) =
    λ name. ap kept_run (c.in_ok-add.ensures.table name) ∙ kept_run-if (same_name here.group name) kept (get same_name table name) in
    let now = groups_with here last groups in (
      now,
      record {
        sized = groups-step here last groups runs was.sized ∙ ap length (sym c.in_ok-add.ensures.runs);
        known = known-step old new here groups (length runs) was.sized was.known moves;
        held = λ name.
            lines-step old new here before (number_with here.lines (length runs) last) was.held moves name
            ∙ ap (λ (l : List FlushData). last_lines name l) (sym back);
        lines = λ name.
            IfSome-if (HasLines c.args.self.now.all playback times) (same_name here.group name) kept (get same_name table name) _
            (c.in_ok-add.ensures.table name)
            (HasLines-of c.args.self.now.all playback times index b (number_with here.lines (length runs) last) inside is)
            (was.lines name);
        few = subst (λ (l : List Run). All (λ (r : Run). r.count ≤ index + 1) l) (sym c.in_ok-add.ensures.runs)
            (counts-step here.time index here.lines last runs was.few (inside-held last groups (length runs) here.group was.sized (was.known here.group)));
        runs =
            ap (λ (rs : List Run). complete new later 0 now rs ++ runs_begun (folds_of (reverse (take (index + 1) flushes)) later)) c.in_ok-add.ensures.runs
            ∙ ap (λ (l : List FlushData). complete new later 0 now (runs_with here.time here.lines last runs) ++ runs_begun (folds_of l later)) back
            ∙ runs-step old new here before later groups runs _ was.sized (was.known here.group) moves (was.held here.group)
            (ap (λ (l : List FlushData). complete old l 0 groups runs ++ runs_begun (folds_of before l)) (sym one) ∙ was.runs);
        starts =
            ap (λ (ps : List ℕ). ps ++ starts_from (index + 1) (folds_of (reverse (take (index + 1) flushes)) later)) c.in_ok-add.ensures.starts
            ∙ ap (λ (l : List FlushData). starts_with index here.lines last starts ++ starts_from (index + 1) (folds_of l later)) back
            ∙ starts-step here before later last index starts _ (was.held here.group)
            (ap (λ (l : List FlushData). starts ++ starts_from index (folds_of before l)) (sym one) ∙ was.starts);
      },
    )

pub loop-index-init : goal.loop-index-init
loop-index-init g c =
    let times = g.C.TimeFormat.times c.args.self.now.print.clock.now in
    let flushes = flushes_by c.args.self.now.all c.args.self.now.print.playback.now times in
    let table = c.with_hasher-table.result in
    let none : (name : GroupName) → get same_name table name ≡ None = λ name. search rules in (
      [],
      record {
        sized = sym (ap length c.new-2.ensures.items);
        known = λ name. subst (λ (o : Option (ℕ × (List ℕ × ℕ))). IfSome (kept_run o) (λ n. slice_get {X = GroupName} [] n.1 ≡ Some name)) (sym (none name)) tt;
        held = λ name. ap (λ (o : Option (ℕ × (List ℕ × ℕ))). option_map (λ (n : List ℕ × ℕ). n.0) (kept_run o)) (none name);
        lines = λ name. subst (λ (o : Option (ℕ × (List ℕ × ℕ))). IfSome o (HasLines c.args.self.now.all c.args.self.now.print.playback.now times)) (sym (none name)) tt;
        few = subst (λ (l : List Run). All (λ (r : Run). r.count ≤ 0) l) (sym c.new-2.ensures.items) (All-nil (λ (r : Run). r.count ≤ 0));
        runs = refl;
        starts = ap (λ (l : List ℕ). l ++ starts_from 0 (folds_of [] flushes)) c.new.ensures.items;
      },
    )

-- where the runs begin, and the runs, once each begin was added
ended : (f : PreviewedBegin → FlushData) (begins : List PreviewedBegin) (table : GroupName → Option (List ℕ × ℕ)) (groups : List GroupName) (before : List FlushData)
    (index : ℕ) (starts : List ℕ) (runs : List Run) (folds : List Fold) → length begins ≤ index → length groups ≡ length runs
    → starts ++ starts_from index (folds_of before (drop index (map f begins))) ≡ starts_from 0 folds
    → complete table (drop index (map f begins)) 0 groups runs ++ runs_begun (folds_of before (drop index (map f begins))) ≡ runs_begun folds
    → (starts ≡ starts_from 0 folds) × (runs ≡ runs_begun folds)
ended f begins table groups before index starts runs folds past same starts_so_far runs_so_far =
    let all : length (map f begins) ≤ index = omega (arith, past, length-map begins f) in (
      starts-done (map f begins) before index starts (starts_from 0 folds) all starts_so_far,
      runs-done table groups (map f begins) before index runs (runs_begun folds) same all runs_so_far,
    )

pub new-requires-3-clause-rising : goal.new-requires-3-clause-rising
new-requires-3-clause-rising g c =
    let begins = c.args.self.now.print.playback.now.begins in
    let f = flush_by c.args.self.now.all c.args.self.now.print.playback.now (g.C.TimeFormat.times c.args.self.now.print.clock.now) in
    let was = c.loop-index.invariant.1 in
    let folds = folds_of [] (map f begins) in
    let all : length c.begins-begins.result.now ≡ length begins = ap length c.begins-begins.ensures in
    let is = ended f begins _ c.loop-index.invariant.0 _ c.loop-index.index c.loop-index.found.starts.items c.loop-index.found.runs.items folds
    (omega (arith, c.loop-index-test.false, all)) was.sized was.starts was.runs in
    subst (λ (l : List ℕ). IsRising 0 l) (sym is.0) (starts-rising 0 0 folds (omega arith))

pub new-requires-3-clause-same : goal.new-requires-3-clause-same
new-requires-3-clause-same g c =
    let begins = c.args.self.now.print.playback.now.begins in
    let f = flush_by c.args.self.now.all c.args.self.now.print.playback.now (g.C.TimeFormat.times c.args.self.now.print.clock.now) in
    let was = c.loop-index.invariant.1 in
    let folds = folds_of [] (map f begins) in
    let all : length c.begins-begins.result.now ≡ length begins = ap length c.begins-begins.ensures in
    let is = ended f begins _ c.loop-index.invariant.0 _ c.loop-index.index c.loop-index.found.starts.items c.loop-index.found.runs.items folds
    (omega (arith, c.loop-index-test.false, all)) was.sized was.starts was.runs in
    ap length is.0 ∙ starts-length 0 folds ∙ ap length (sym is.1)

pub returns : goal.returns
returns g c =
    let begins = c.args.self.now.print.playback.now.begins in
    let f = flush_by c.args.self.now.all c.args.self.now.print.playback.now (g.C.TimeFormat.times c.args.self.now.print.clock.now) in
    let was = c.loop-index.invariant.1 in
    let folds = folds_of [] (map f begins) in
    let all : length c.begins-begins.result.now ≡ length begins = ap length c.begins-begins.ensures in
    let is = ended f begins _ c.loop-index.invariant.0 _ c.loop-index.index c.loop-index.found.starts.items c.loop-index.found.runs.items folds
    (omega (arith, c.loop-index-test.false, all)) was.sized was.starts was.runs in
    c.new-3.ensures ∙ (λ i. (is.0 i, is.1 i))
