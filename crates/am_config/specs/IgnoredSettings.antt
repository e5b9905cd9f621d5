-- What is dropped.
use Rattle.std.specs.Prelude.{false}
use Rattle.am_config.specs.declared.dropped.IgnoredSettings.{IgnoredSettings}

-- nothing is dropped
abbrev pub nothing : IgnoredSettings
nothing = record { global = false; tracing = false; templates = false; time_intervals = false; settings = false }
