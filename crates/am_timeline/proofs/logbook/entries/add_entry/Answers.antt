use Rattle.std.proofs.Common.{◌∙◌, ◌==◌, ◌&&◌, ℕ, Option, None, ap, sym, if◌then◌else◌}
use Rattle.std.specs.HashMap.{get}
use Rattle.std.specs.Option.{option_or}
use Rattle.am_timeline.specs.Entries.{same_flush_key}
use Rattle.am_timeline.proofs.ExpiredTable.{insert-is}
use Rattle.am_timeline.proofs.logbook.entries.add_entry.Goals as goal

pub returns-in_ok-insert : goal.returns-in_ok-insert
returns-in_ok-insert c =
    λ p i.
    let here = (c.args.index == p) && (c.args.integration == i) in
    let old = get same_flush_key c.args.table.now (record { index = p; integration = i }) in
    c.in_ok-insert.ensures.updates.0 (record { index = p; integration = i })
    ∙ insert-is here c.in-Some.expiry old
    ∙ ap (λ (e : Option ℕ). option_or (if here then e else None) old) (sym c.in-Some.is)
