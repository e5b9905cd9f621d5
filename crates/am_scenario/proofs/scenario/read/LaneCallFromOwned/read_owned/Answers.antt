use Rattle.std.proofs.Common.{subst, sym}
use Rattle.std.proofs.lemmas.Result.{IfOk-weaker}
use Rattle.std.specs.Prelude.{IsTrue}
use Rattle.serde_json.specs.Data.{Data}
use Rattle.serde_json.specs.View.{view}
use Rattle.serde_json.specs.declared.value.Value.{Value}
use Rattle.am_json.proofs.Decoding.{narrowed}
use Rattle.am_json.specs.declared.reader.Mode.{Mode}
use Rattle.am_json.specs.declared.reader.Mode.TheVariants.{Lenient}
use Rattle.am_scenario.specs.Decoding.{DecodesToCall, call_compares_texts}
use Rattle.am_scenario.specs.declared.scenario.call.LaneCall.{LaneCall}
use Rattle.am_scenario.proofs.scenario.read.LaneCallFromOwned.read_owned.Goals as goal

-- what is never refused
abbrev Decodes : Mode → Data → LaneCall → Type 0
Decodes mode value call = DecodesToCall mode value call × IsTrue (call_compares_texts call)

pub returns-clause-decoded : goal.returns-clause-decoded
returns-clause-decoded c =
    let top = c.top.result in
    IfOk-weaker c.read.result _ _
    (λ call decoded. subst (λ (v : Value). DecodesToCall Lenient (view v) call) c.top.ensures.value
    (subst (λ (d : Mode). DecodesToCall d (view top.value) call) c.top.ensures.mode decoded)) c.read.ensures.decoded

pub returns-clause-refused : goal.returns-clause-refused
returns-clause-refused c =
    let top = c.top.result in
    narrowed (Decodes top.mode (view top.value)) (Decodes Lenient (view c.args.value))
    (λ call decoded. (
      subst (λ (d : Mode). DecodesToCall d (view top.value) call) (sym c.top.ensures.mode)
          (subst (λ (v : Value). DecodesToCall Lenient (view v) call) (sym c.top.ensures.value) decoded.0),
      decoded.1,
    )) c.read.result c.read.ensures.refused
