-- A route, from what is read of it.
use Rattle.std.specs.Prelude.{ℕ, List}
use Rattle.am_alerts.specs.declared.route.Route.{Route}
use Rattle.am_json.specs.declared.route.Options.{Options}

-- the route of this name with these options
abbrev pub routed : List ℕ → Options → Route
routed name o = record {
  name = name;
  receiver = o.receiver;
  group_by = o.group_by;
  group_wait = o.group_wait;
  group_interval = o.group_interval;
  repeat_interval = o.repeat_interval;
}
