use Rattle.serde_json.specs.View.{view}
use Rattle.am_timeline.proofs.Members.{kept_without_float}
use Rattle.am_timeline.proofs.json.object.Object.put.Goals as goal

pub invariant_of-self : goal.invariant_of-self
invariant_of-self c = record {
  no_float = kept_without_float c.put.result c.args.key.now (view c.args.value) c.args.self.now.members.entries c.put.new.map.entries
      c.put.ensures.ok c.put.ensures.err c.requires c.args.self.now.no_float;
}
