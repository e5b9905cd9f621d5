-- Holding: a handle's part, taken apart and put together. It is one pointer, and what it owns.
--     E                       a box of a service
--     held_in, held_out       a part of a handle from its pointer and what it owns, and back
use mir.Syntax.{impl, tnil, dnil}
use mathlib.Core.Path.{◌≡◌, refl, subst}
use mathlib.Core.List.{List, [], ◌∷◌, ◌++◌}
use seplogic.Ra.Ura.{Ura}
use mir.Val.{Val, vstruct, vnil, vcons, of_list}
use types.Logic.{Logic}
use types.Kit.{Goal, Step, step, Seq, Item, ‵, ◌$◌, drop, fsplit, fjoin, fpick, fpack, feq_l, feq_i}
use denote.RattleType.{Valss}
use denote.RawPtr.{Ptr, RawPtr, ptr_val}
use denote.Steps.{nothing}
use denote.Struct.Struct.{within}
use denote.Struct.Owning.{shape}
use Rattle.std_alloc.proofs.BoxSteps.Form.{Bx}
use Rattle.std_heap.specs.contracts.Global as Heap
use Rattle.std_heap.specs.contracts.GlobalAllocator.TheImpl.{ghosts, dict}
use Rattle.std_heap.proofs.Global.TheLaws as heap
use Rattle.fentdolmen.specs.Held.{held_owns}
use Rattle.am_session.specs.contracts.service.Service as Service
use Rattle.am_session.proofs.service.Service.TheLaws as service
use Rattle.fentdolmen.specs.contracts.handle.held.Held as Held

abbrev pub E : Bx
E = record { row = Service.the_row; laws = service.the_row_laws; al = record { row = Heap.the_row; laws = heap.the_row_laws; g = ghosts; d = dict; drops = impl [] tnil dnil } }

abbrev pub word : Ptr → Val
word p = vstruct (vcons (ptr_val p) vnil)

module _ {M : Type 1} {𝓤 : Ura M} {𝓛 : Logic 𝓤} {K : Type 0} {Γ : List (Item 𝓤)} {G : Goal 𝓤 𝓛.H} where
  pub held_out : K → (d : Held.the_row.Denot) (vs : List Val)
      → (vs ≡ word d.at ∷ [] → Seq K 𝓛 (‵ (held_owns d.at d.kept) ∷ Γ) G) → Seq K 𝓛 (‵ (Held.the_row.own_val d vs) ∷ Γ) G
  held_out t d vs k = fsplit t $ fpick t (λ vss. fsplit t $ feq_l t (λ ev. fsplit t $ feq_l t (λ ep. drop t $
      k (subst (λ (ps : List Val). vs ≡ vstruct (of_list (ps ++ [])) ∷ []) ep ev))))

  pub held_in : K → (d : Held.the_row.Denot)
      → Step K 𝓛 (‵ (Held.the_row.own_val d (word d.at ∷ [])) ∷ Γ) G (‵ (held_owns d.at d.kept) ∷ Γ) G
  held_in t d = step (λ s.
      nothing t $ feq_i t (List Val) (ptr_val d.at ∷ []) (ptr_val d.at ∷ []) refl $ fjoin t $ feq_i t (List Val) (word d.at ∷ []) (word d.at ∷ []) refl $ fjoin t $
      fpack t (Valss (RawPtr ∷ [])) (within (shape Held.the_type) (d.at, tt) (word d.at ∷ [])) (ptr_val d.at ∷ [], tt) $ fjoin t $ s)
