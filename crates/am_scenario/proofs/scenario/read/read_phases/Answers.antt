use Rattle.std.proofs.Common.{List, codes}
use Rattle.std.proofs.lemmas.Result.{IfOk-weaker}
use Rattle.std.specs.List.{list_all}
use Rattle.std.specs.Prelude.{IsTrue, MatchOption}
use Rattle.serde_json.specs.Find.{get}
use Rattle.serde_json.specs.View.{view}
use Rattle.am_json.proofs.Decoding.{found, missing, narrowed}
use Rattle.am_json.specs.Decoding.{IsList}
use Rattle.am_json.specs.declared.reader.Mode.TheVariants.{Lenient}
use Rattle.am_scenario.proofs.Lists.{listed, refused_under, decoded_under}
use Rattle.am_scenario.specs.Decoding.{DecodesToPhase, phase_compares_texts}
use Rattle.am_scenario.specs.declared.scenario.Phase.{Phase}
use Rattle.am_scenario.proofs.scenario.read.read_phases.Goals as goal

pub returns-in-None-clause-refused : goal.returns-in-None-clause-refused
returns-in-None-clause-refused c = λ refusal xs decoded.
    missing (λ v. IsList (DecodesToPhase Lenient) v xs) (get (codes "phases") (view c.args.scenario)) c.in-None.ensures decoded.0

pub returns-in-Some-clause-decoded : goal.returns-in-Some-clause-decoded
returns-in-Some-clause-decoded c =
    let member = get (codes "phases") (view c.args.scenario) in
    decoded_under _ c.read_list.result c.under.result c.under.ensures.decoded
    (IfOk-weaker c.read_list.result _ (λ xs. MatchOption member ⊥ (λ v. IsList (DecodesToPhase Lenient) v xs.items))
    (λ xs decoded. listed ⊥ (DecodesToPhase Lenient) (view c.in-Some.phases) member xs.items c.in-Some.ensures decoded) c.read_list.ensures.decoded)

pub returns-in-Some-clause-refused : goal.returns-in-Some-clause-refused
returns-in-Some-clause-refused c =
    let phases = view c.in-Some.phases in
    let member = get (codes "phases") (view c.args.scenario) in
    let There = λ (xs : List Phase). IsList (DecodesToPhase Lenient) phases xs × IsTrue (list_all phase_compares_texts xs) in
    let Decodes = λ (xs : List Phase). MatchOption member ⊥ (λ v. IsList (DecodesToPhase Lenient) v xs) × IsTrue (list_all phase_compares_texts xs) in
    refused_under Decodes c.read_list.result c.under.result c.under.ensures.refused
    (narrowed There Decodes (λ xs decoded. (found ⊥ (λ v. IsList (DecodesToPhase Lenient) v xs) phases member c.in-Some.ensures decoded.0, decoded.1))
    c.read_list.result c.read_list.ensures.refused)
