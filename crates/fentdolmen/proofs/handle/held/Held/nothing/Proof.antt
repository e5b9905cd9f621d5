-- `nothing` makes a part that owns nothing.
use mathlib.Core.Path.{refl}
use mathlib.Core.List.{[], ◌∷◌}
use base.Fml.{ftrue}
use types.Kit.{‵, raw, ◌$◌, ◌∵◌, !, qed, drop, join, suffices, done}
use types.Part.{agg}
use types.Run.{no_more, and_then, lit, returns, enter}
use types.ByLocal.{alloc_all, pass_all, free_all, look_at, sets}
use denote.RawPtr.{null_ptr}
use denote.Steps.{nothing}
use denote.Triple.Entry.{on_entry}
use denote.Triple.Walked.{says, Stays, walk_of, ends_at}
use Rattle.std.proofs.Common.{lit<}
use Rattle.std.proofs.raw_atomic.Walks.{proved}
use Rattle.std.specs.Prelude.{None}
use Rattle.fentdolmen.proofs.Holding.{word, held_in}
use Rattle.fentdolmen.specs.contracts.handle.held.Held as Held
use Rattle.fentdolmen.specs.contracts.handle.held.Held.nothing as F
use Rattle.fentdolmen.proofs.handle.held.Held.nothing.Statement.{statement}
use Rattle.fentdolmen.proofs.handle.held.Held.nothing.Code as code

abbrev stayed : Stays F.ended.signature.params F.ended.kept
stayed = tt

pub nothing_spec : {M : Type 1} → statement M
nothing_spec 𝓤 𝓛 𝓜 𝓡 wired =
    let c = F.clauses 𝓛 𝓜.mem 𝓡.returns in let W = walk_of 𝓛 F.ended stayed c in
    proved 𝓛 F.ended stayed c 𝓜 𝓡 tt
    F.Key.name code.function (code.unfolded 𝓤 𝓛.H 𝓜 𝓡 wired)
    (λ κs. tt) (λ κs. tt) (λ κs qs bounds a g are.
    let y : W.Ghost = ((κs, qs, bounds, a, tt), tt) in
    let made : Held.the_row.Denot = record { at = null_ptr; kept = None } in
    qed 𝓛 (raw (on_entry 𝓛 F.signature κs qs a y.0.4) ∷ ‵ ftrue ∷ []) ∵ drop ! $ drop ! $
    enter ! _ _ _ _ _ $ alloc_all ! (λ l. pass_all ! refl tt $
    sets ! (agg ! (and_then ! (lit ! tt) (no_more !))) refl (tt, (record { fits = lit< tt }, tt)) $
    returns ! (look_at ! 0 refl) $ free_all ! refl $
    suffices ! _ (ends_at 𝓛 F.ended stayed c y (word null_ptr) made tt tt) $ says ! refl $
    nothing ! $ held_in ! made $ nothing ! $ join ! $ nothing ! $ join ! $ done !))
