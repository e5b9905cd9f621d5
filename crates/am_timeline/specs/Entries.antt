-- Entries: a table of the entries that expired before flushes.
use Rattle.std.specs.Prelude.{Bool, ◌&&◌, ◌==◌}
use Rattle.am_timeline.specs.declared.logbook.entries.FlushKey.{FlushKey}

-- whether two keys have the same index and integration
abbrev pub same_flush_key : FlushKey → FlushKey → Bool
same_flush_key a b = (a.index == b.index) && (a.integration == b.integration)
