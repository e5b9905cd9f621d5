use Rattle.std.proofs.Common.{◌≡◌, ◌∙◌, ◌<◌, ℕ, List, Option, Some, ap, refl, sym, subst, length, if◌then◌else◌}
use Rattle.std.specs.HashMap.{get}
use Rattle.std.specs.Option.{IfSome, IsSome}
use Rattle.std.proofs.lemmas.Result.{on_ok_weaker}
use Rattle.am_model.specs.State.{same_name}
use Rattle.am_model.specs.declared.group.GroupName.{GroupName}
use Rattle.am_timeline.specs.Runs.{HasLines, kept_of, kept_run, lines_by}
use Rattle.am_timeline.proofs.runs.Folding.add.Goals as goal

pub add_after-requires-clause-inside : goal.add_after-requires-clause-inside
add_after-requires-clause-inside g c =
    let table = c.args.table.now in
    let found : get same_name table c.args.begin.now.preview.group ≡ Some c.in-Some.last.now =
    ap (λ (n : GroupName). get same_name table n) (sym c.group.ensures) ∙ sym c.in-Some.ensures.value in
    subst (λ (o : Option (ℕ × (List ℕ × ℕ))). IfSome o (λ l. l.1.1 < length c.args.found.now.runs.items)) found c.requires.inside

pub add_after-requires-clause-lines : goal.add_after-requires-clause-lines
add_after-requires-clause-lines g c =
    let table = c.args.table.now in
    let found : get same_name table c.args.begin.now.preview.group ≡ Some c.in-Some.last.now =
    ap (λ (n : GroupName). get same_name table n) (sym c.group.ensures) ∙ sym c.in-Some.ensures.value in
    subst (λ (o : Option (ℕ × (List ℕ × ℕ))). IfSome o (HasLines c.args.self.now.all c.args.self.now.print.playback.now (g.C.TimeFormat.times c.args.self.now.print.clock.now))) found c.requires.lines

pub returns-in-Some-clause-table : goal.returns-in-Some-clause-table
returns-in-Some-clause-table g c =
    let table = c.args.table.now in
    let group = c.args.begin.now.preview.group in
    let lines = lines_by c.args.self.now.all c.args.self.now.print.playback.now (g.C.TimeFormat.times c.args.self.now.print.clock.now) c.args.begin.now in
    let size = length c.args.found.now.runs.items in
    let new = c.add_after.new.last in
    let found : get same_name table group ≡ Some c.in-Some.last.now =
    ap (λ (n : GroupName). get same_name table n) (sym c.group.ensures) ∙ sym c.in-Some.ensures.value in
    let there : IsSome (get same_name table c.group.result.now) =
    subst (λ (o : Option (ℕ × (List ℕ × ℕ))). IsSome o) c.in-Some.ensures.value refl in
    on_ok_weaker c.add_after.result
    (λ is name.
    ((c.get_mut.follows.holds new).3 there).0 name
    ∙ ap (λ (n : GroupName). if same_name n name then Some new else get same_name table name) c.group.ensures
    ∙ ap (λ (l : ℕ × (List ℕ × ℕ)). if same_name group name then Some l else get same_name table name) is
    ∙ ap (λ (o : Option (ℕ × (List ℕ × ℕ))). if same_name group name then Some (kept_of c.args.index lines size (kept_run o)) else get same_name table name) (sym found))
    c.add_after.ensures.last
