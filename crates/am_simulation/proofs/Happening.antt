-- What events with one more say of the begins.
use Rattle.std.proofs.Common.{◌≡◌, ℕ, ◌+◌, zero, suc, List, [], ◌∷◌, ◌++◌, sym, ap, ◌∙◌, add-one, arith}
use Rattle.std.proofs.lemmas.List.{append-nil}
use Rattle.std.proofs.lemmas.List.Elements.{filter_map-append}
use Rattle.std.specs.List.{range_with_len}
use Rattle.am_model.specs.declared.notice.Report.{Report}
use Rattle.am_terms.specs.declared.event.Event.{Event}
use Rattle.am_terms.specs.declared.event.Event.TheVariants.{Begun, Sent}
use Rattle.am_simulation.specs.EventOrder.{begin_index_of, begin_indices}

range-more : (a n : ℕ) → range_with_len a (suc n) ≡ range_with_len a n ++ (a + n) ∷ []
range-more a zero = let e : a ≡ a + 0 = omega arith in ap (λ (k : ℕ). k ∷ []) e
range-more a (suc n) =
    let e : a + 1 + n ≡ a + suc n = omega arith in
    ap (λ (l : List ℕ). a ∷ l) (range-more (a + 1) n ∙ ap (λ (k : ℕ). range_with_len (a + 1) n ++ k ∷ []) e)

-- a begin more
pub begun_more : (old new : List Event) (index count more : ℕ) → new ≡ old ++ Begun index ∷ [] → index ≡ count → more ≡ count + 1
    → begin_indices old ≡ range_with_len 0 count → begin_indices new ≡ range_with_len 0 more
begun_more old new index count more is same counts was =
    let e : 0 + count ≡ count = omega arith in
    ap begin_indices is
    ∙ filter_map-append begin_index_of old (Begun index ∷ [])
    ∙ ap (λ (l : List ℕ). l ++ index ∷ []) was
    ∙ ap (λ (k : ℕ). range_with_len 0 count ++ k ∷ []) (same ∙ sym e)
    ∙ sym (range-more 0 count)
    ∙ ap (λ (n : ℕ). range_with_len 0 n) (sym (add-one count) ∙ sym counts)

-- and something else
pub begun_same : (old new : List Event) (begin : ℕ) (report : Report) → new ≡ old ++ Sent begin report ∷ [] → begin_indices new ≡ begin_indices old
begun_same old new begin report is = ap begin_indices is ∙ filter_map-append begin_index_of old (Sent begin report ∷ []) ∙ append-nil (begin_indices old)
