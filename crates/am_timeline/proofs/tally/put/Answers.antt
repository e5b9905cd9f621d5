use Rattle.std.proofs.Common.{◌∙◌, ap}
use Rattle.std.specs.Prelude.{Option, unwrap_or}
use Rattle.std.specs.HashMap.{get_by}
use Rattle.std.specs.Str.{bytes_eq}
use Rattle.std.proofs.lemmas.Map.Text.{hash_map_updates_str}
use Rattle.am_timeline.specs.declared.tally.Tally.{Tally}
use Rattle.am_timeline.specs.Tally.{no_tally}
use Rattle.am_timeline.proofs.Tallies.{put-is}
use Rattle.am_timeline.proofs.tally.put.Goals as goal

pub returns : goal.returns
returns c =
    λ other.
    ap (λ (o : Option Tally). unwrap_or o no_tally)
    (hash_map_updates_str c.args.name.now c.args.tallies.now c.insert.new.self _ c.in_ok-insert.ensures.updates other)
    ∙ put-is (bytes_eq c.args.name.now other) c.args.tally (get_by (λ k. bytes_eq other k.now) c.args.tallies.now)
