-- Retention: how long the notification log keeps an entry.
use Rattle.std.specs.Prelude.{ℕ}

-- 120 hours, in milliseconds, as Alertmanager does unless its command line says otherwise (`--data.retention`): no configuration says it
abbrev pub log_retention : ℕ
log_retention = 432000000
