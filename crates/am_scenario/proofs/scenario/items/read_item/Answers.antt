use Rattle.std.specs.Prelude.{IsTrue}
use Rattle.serde_json.specs.View.{view}
use Rattle.am_scenario.proofs.Lists.{refused_under, decoded_under}
use Rattle.am_scenario.proofs.scenario.items.read_item.Goals as goal

pub returns-clause-decoded : goal.returns-clause-decoded
returns-clause-decoded g c =
    decoded_under (λ (x : g.row.T.Denot). g.T.FromOwned.decodes_to (view c.args.value) x) c.read_owned-item.result c.under.result c.under.ensures.decoded
    c.read_owned-item.ensures.decoded

pub returns-clause-refused : goal.returns-clause-refused
returns-clause-refused g c =
    refused_under (λ (x : g.row.T.Denot). g.T.FromOwned.decodes_to (view c.args.value) x × IsTrue (g.T.FromOwned.never_refused x)) c.read_owned-item.result
    c.under.result c.under.ensures.refused c.read_owned-item.ensures.refused
