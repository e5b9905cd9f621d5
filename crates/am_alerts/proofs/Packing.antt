-- Packed labels: they are ordered as their runs are, and a label can be appended to a run.
use Rattle.std.proofs.Common.{◌≡◌, ◌≢◌, ℕ, ◌*◌, ◌+◌, ◌-◌, ◌<◌, ◌≤◌, suc, Bool, true, false, ◌||◌, List, [], ◌∷◌, ◌++◌, length, get_or, take}
use Rattle.std.proofs.Common.{drop, All, Ordering, sym, refl, ap, ◌∙◌, subst, arith, append_assoc, length-append, Bor}
use Rattle.std.specs.declared.cmp.Ordering.TheVariants.{Less, Equal, Greater}
use Rattle.std.specs.Ordering.{is_eq, nat_cmp, ordering_index, ordering_then}
use Rattle.std.specs.List.{list_any}
use Rattle.std.specs.Prelude.{◌==◌, min, not}
use Rattle.std.specs.Str.{bytes_eq, IsUtf8, IsCharBoundary}
use Rattle.std.specs.Cmp.Lexicographic.{texts_ties}
use Rattle.std.proofs.lemmas.Bool.Decides.{nat_tests}
use Rattle.std.proofs.lemmas.Grind.{flat_map-append}
use Rattle.std.proofs.lemmas.List.{drop_more, map_more, get_or-map, length-map, append-nil, get_or_append_left, get_or_at, drop-append-le}
use Rattle.std.proofs.lemmas.List.{take-append-le, drop_at, take_at, map_push, length-drop}
use Rattle.std.proofs.lemmas.List.Elements.{All-append}
use Rattle.std.proofs.lemmas.List.Sums.{AllPass-from_list_all}
use Rattle.am_alerts.specs.declared.limits.TheConstants.{MAX_NAME_BYTES, MAX_VALUE_BYTES}
use Rattle.std.proofs.lemmas.List.Folds.{list_any-append}
use Rattle.std.proofs.lemmas.Str.{IsCharBoundary-before_ascii, IsCharBoundary-after_ascii, IsCharBoundary-from_take}
use Rattle.am_alerts.specs.declared.labels.Label.{Label}
use Rattle.am_alerts.specs.declared.packed_labels.Cut.{Cut}
use Rattle.am_alerts.specs.LabelOrder.{same_label_set-cmp}
use Rattle.am_alerts.specs.Labels.{IsLabelSet, is_label, label_cmp, label_in, labels_in, label_set_cmp, same_label_set, text_cmp}
use Rattle.am_alerts.specs.Packing.{packed, packed_label, has_zero, has_zero_byte, run_hash}
use Rattle.am_alerts.specs.PackedLabels.{label_at, labels_at, IsCut, IsPacked, IsPushed}
use Rattle.am_alerts.proofs.LabelSets.{both_false}

-- ---- the order

then_assoc : (a b c : Ordering) → ordering_then (ordering_then a b) c ≡ ordering_then a (ordering_then b c)
then_assoc Less b c = refl
then_assoc Equal b c = refl
then_assoc Greater b c = refl

zero_below : (c : ℕ) → (c == 0) ≡ false → nat_cmp 0 c ≡ Less
zero_below c e = grind (arith, nat_tests)

zero_above : (c : ℕ) → (c == 0) ≡ false → nat_cmp c 0 ≡ Greater
zero_above c e = grind (arith, nat_tests)

-- two texts with no 0 byte, each ended by one
ended_cmp : (a b x y : List ℕ) → has_zero_byte a ≡ false → has_zero_byte b ≡ false
    → text_cmp (a ++ (0 ∷ x)) (b ++ (0 ∷ y)) ≡ ordering_then (text_cmp a b) (text_cmp x y)
ended_cmp [] [] x y p q = refl
ended_cmp [] (d ∷ b) x y p q =
    ap (λ o. ordering_then o (text_cmp x (b ++ (0 ∷ y)))) (zero_below d (both_false (d == 0) (has_zero_byte b) q).0)
ended_cmp (c ∷ a) [] x y p q =
    ap (λ o. ordering_then o (text_cmp (a ++ (0 ∷ x)) y)) (zero_above c (both_false (c == 0) (has_zero_byte a) p).0)
ended_cmp (c ∷ a) (d ∷ b) x y p q =
    ap (λ o. ordering_then (nat_cmp c d) o)
    (ended_cmp a b x y (both_false (c == 0) (has_zero_byte a) p).1 (both_false (d == 0) (has_zero_byte b) q).1)
    ∙ sym (then_assoc (nat_cmp c d) (text_cmp a b) (text_cmp x y))

unpacked : (l : Label) (x : List ℕ) → packed_label l ++ x ≡ l.name ++ (0 ∷ (l.value ++ (0 ∷ x)))
unpacked l x = append_assoc l.name (0 ∷ (l.value ++ (0 ∷ []))) x ∙ ap (λ r. l.name ++ (0 ∷ r)) (append_assoc l.value (0 ∷ []) x)

packed_label-cmp : (l m : Label) (x y : List ℕ) → has_zero l ≡ false → has_zero m ≡ false
    → text_cmp (packed_label l ++ x) (packed_label m ++ y) ≡ ordering_then (label_cmp l m) (text_cmp x y)
packed_label-cmp l m x y p q =
    let l_parts = both_false (has_zero_byte l.name) (has_zero_byte l.value) p in
    let m_parts = both_false (has_zero_byte m.name) (has_zero_byte m.value) q in
    ap (λ r. text_cmp r (packed_label m ++ y)) (unpacked l x)
    ∙ ap (λ r. text_cmp (l.name ++ (0 ∷ (l.value ++ (0 ∷ x)))) r) (unpacked m y)
    ∙ ended_cmp l.name m.name (l.value ++ (0 ∷ x)) (m.value ++ (0 ∷ y)) l_parts.0 m_parts.0
    ∙ ap (λ o. ordering_then (text_cmp l.name m.name) o) (ended_cmp l.value m.value x y l_parts.1 m_parts.1)
    ∙ sym (then_assoc (text_cmp l.name m.name) (text_cmp l.value m.value) (text_cmp x y))

nothing_below : (a x : List ℕ) → text_cmp [] (a ++ (0 ∷ x)) ≡ Less
nothing_below [] x = refl
nothing_below (c ∷ a) x = refl

above_nothing : (a x : List ℕ) → text_cmp (a ++ (0 ∷ x)) [] ≡ Greater
above_nothing [] x = refl
above_nothing (c ∷ a) x = refl

-- labels with no 0 byte are ordered as their runs are
pub packed-cmp : (a b : List Label) → list_any has_zero a ≡ false → list_any has_zero b ≡ false
    → text_cmp (packed a) (packed b) ≡ label_set_cmp a b
packed-cmp [] [] p q = refl
packed-cmp [] (m ∷ b) p q = ap (λ r. text_cmp [] r) (unpacked m (packed b)) ∙ nothing_below m.name (m.value ++ (0 ∷ packed b))
packed-cmp (l ∷ a) [] p q = ap (λ r. text_cmp r []) (unpacked l (packed a)) ∙ above_nothing l.name (l.value ++ (0 ∷ packed a))
packed-cmp (l ∷ a) (m ∷ b) p q =
    let l_parts = both_false (has_zero l) (list_any has_zero a) p in
    let m_parts = both_false (has_zero m) (list_any has_zero b) q in
    packed_label-cmp l m (packed a) (packed b) l_parts.0 m_parts.0
    ∙ ap (λ o. ordering_then (label_cmp l m) o) (packed-cmp a b l_parts.1 m_parts.1)

-- and the same where their runs are
pub packed-same : (a b : List Label) → list_any has_zero a ≡ false → list_any has_zero b ≡ false
    → bytes_eq (packed a) (packed b) ≡ same_label_set a b
packed-same a b p q = texts_ties (packed a) (packed b) ∙ ap is_eq (packed-cmp a b p q) ∙ sym (same_label_set-cmp a b)

-- ---- one more label

boundary-kept : (xs ys : List ℕ) (i : ℕ) → i < length xs → IsCharBoundary xs i → IsCharBoundary (xs ++ ys) i
boundary-kept xs ys i below b =
    let same : get_or (xs ++ ys) i 0 ≡ get_or xs i 0 = get_or_append_left xs ys 0 i below in (
      omega (arith, length-append xs ys, below),
      λ within high. let lead = b.1 below (omega (arith, high, same)) in
          omega (arith, same, lead),
    )

pub IsCut-kept : (run more : List ℕ) (c : Cut) → IsCut run c → IsCut (run ++ more) c
IsCut-kept run more c h = record {
  within = omega (arith, length-append run more, h.within);
  at_name = boundary-kept run more c.start (omega (arith, h.within)) h.at_name;
  behind_name = boundary-kept run more (c.start + c.name_len) (omega (arith, h.within)) h.behind_name;
  at_value = boundary-kept run more (c.start + c.name_len + 1) (omega (arith, h.within)) h.at_value;
  behind_value = boundary-kept run more (c.start + c.name_len + 1 + c.value_len) h.within h.behind_value;
}

part-kept : (n k : ℕ) (xs ys : List ℕ) → k + n ≤ length xs → take n (drop k (xs ++ ys)) ≡ take n (drop k xs)
part-kept n k xs ys within =
    ap (λ r. take n r) (drop-append-le k xs ys (omega (arith, within)))
    ∙ take-append-le n (drop k xs) ys (omega (arith, within, length-drop k xs))

abbrev label_of : List ℕ → List ℕ → Label
label_of n v = record { name = n; value = v }

label_at-kept : (run more : List ℕ) (c : Cut) → IsCut run c → label_at (run ++ more) c ≡ label_at run c
label_at-kept run more c h =
    let name = part-kept c.name_len c.start run more (omega (arith, h.within)) in
    let value = part-kept c.value_len (c.start + c.name_len + 1) run more (omega (arith, h.within)) in
    ap (λ n. label_of n (take c.value_len (drop (c.start + c.name_len + 1) (run ++ more)))) name
    ∙ ap (λ v. label_of (take c.name_len (drop c.start run)) v) value

labels_at-kept : (run more : List ℕ) (cuts : List Cut) → All (IsCut run) cuts → labels_at (run ++ more) cuts ≡ labels_at run cuts
labels_at-kept run more [] h = refl
labels_at-kept run more (c ∷ cuts) h =
    ap (λ l. l ∷ labels_at (run ++ more) cuts) (label_at-kept run more c (h 0 c (omega arith)))
    ∙ ap (λ ls. label_at run c ∷ ls) (labels_at-kept run more cuts (λ k d within. h (suc k) d (omega (arith, within))))

-- the parts of a run with one more label
module _ (run new : List ℕ) (l : Label) (c : Cut) (p : IsPushed run l new c) where
  from_name : new ≡ run ++ (l.name ++ (0 ∷ (l.value ++ (0 ∷ []))))
  from_name = p.run_is

  from_value : new ≡ (run ++ (l.name ++ (0 ∷ []))) ++ (l.value ++ (0 ∷ []))
  from_value =
      p.run_is ∙ ap (λ r. run ++ r) (sym (append_assoc l.name (0 ∷ []) (l.value ++ (0 ∷ []))))
      ∙ sym (append_assoc run (l.name ++ (0 ∷ [])) (l.value ++ (0 ∷ [])))

  length-from_value : length (run ++ (l.name ++ (0 ∷ []))) ≡ c.start + c.name_len + 1
  length-from_value =
      omega (arith, length-append run (l.name ++ (0 ∷ [])), length-append l.name (0 ∷ []), p.start_is, p.name_is)

  length-pushed : length new ≡ c.start + c.name_len + 1 + c.value_len + 1
  length-pushed =
      let parts = length-append (run ++ (l.name ++ (0 ∷ []))) (l.value ++ (0 ∷ [])) in
      omega (arith, ap length from_value, parts, length-from_value, length-append l.value (0 ∷ []), p.value_is)

  label_at-pushed : label_at new c ≡ l
  label_at-pushed =
      let behind_start = l.name ++ (0 ∷ (l.value ++ (0 ∷ []))) in
      let name : take c.name_len (drop c.start new) ≡ l.name =
      ap (λ r. take c.name_len (drop c.start r)) from_name
      ∙ ap (λ r. take c.name_len r) (drop_at run behind_start c.start (sym p.start_is))
      ∙ take_at l.name (0 ∷ (l.value ++ (0 ∷ []))) c.name_len (omega (arith, p.name_is)) in
      let value : take c.value_len (drop (c.start + c.name_len + 1) new) ≡ l.value =
      ap (λ r. take c.value_len (drop (c.start + c.name_len + 1) r)) from_value
      ∙ ap (λ r. take c.value_len r)
      (drop_at (run ++ (l.name ++ (0 ∷ []))) (l.value ++ (0 ∷ [])) (c.start + c.name_len + 1) length-from_value)
      ∙ take_at l.value (0 ∷ []) c.value_len (omega (arith, p.value_is)) in
      ap (λ n. label_of n (take c.value_len (drop (c.start + c.name_len + 1) new))) name ∙ ap (λ v. label_of l.name v) value

  zero_behind_name : get_or new (c.start + c.name_len) 0 ≡ 0
  zero_behind_name =
      ap (λ r. get_or r (c.start + c.name_len) 0) (from_name ∙ sym (append_assoc run l.name (0 ∷ (l.value ++ (0 ∷ [])))))
      ∙ get_or_at (run ++ l.name) 0 (l.value ++ (0 ∷ [])) 0 (c.start + c.name_len)
      (omega (arith, length-append run l.name, p.start_is, p.name_is))

  zero_behind_value : get_or new (c.start + c.name_len + 1 + c.value_len) 0 ≡ 0
  zero_behind_value =
      let front = run ++ (l.name ++ (0 ∷ [])) in
      let end = c.start + c.name_len + 1 + c.value_len in
      ap (λ r. get_or r end 0) (from_value ∙ sym (append_assoc front l.value (0 ∷ [])))
      ∙ get_or_at (front ++ l.value) 0 [] 0 end (omega (arith, length-append front l.value, length-from_value, p.value_is))

  IsCut-pushed : IsUtf8 run → IsUtf8 new → IsCut new c
  IsCut-pushed is_run is_new =
      let front : take c.start new ≡ run = ap (λ r. take c.start r) from_name
      ∙ take_at run (l.name ++ (0 ∷ (l.value ++ (0 ∷ [])))) c.start (sym p.start_is) in
      record {
        within = omega (arith, length-pushed);
        at_name = IsCharBoundary-from_take new c.start is_new (omega (arith, length-pushed)) (subst IsUtf8 (sym front) is_run);
        behind_name = IsCharBoundary-before_ascii new (c.start + c.name_len) (omega (arith, length-pushed))
            (omega (arith, zero_behind_name));
        at_value = IsCharBoundary-after_ascii new (c.start + c.name_len) is_new (omega (arith, length-pushed))
            (omega (arith, zero_behind_name));
        behind_value = IsCharBoundary-before_ascii new (c.start + c.name_len + 1 + c.value_len) (omega (arith, length-pushed))
            (omega (arith, zero_behind_value));
      }

or_false : (b : Bool) → (b || false) ≡ b
or_false true = refl
or_false false = refl

-- a run that is the packed form of these labels
pub record IsRun (run : List ℕ) (cuts : List Cut) (mark : Bool) (labels : List Label) : Type 0 where
  pub labels_are : labels_at run cuts ≡ labels
  pub run_is : run ≡ packed labels
  pub cuts_are : All (IsCut run) cuts
  pub mark_is : mark ≡ list_any has_zero labels

one_at : (c d : Cut) (k : ℕ) → k < 1 → c ≡ get_or (c ∷ []) k d
one_at c d k within = let first : k ≡ 0 = omega (arith, within) in ap (λ j. get_or (c ∷ []) j d) (sym first)

All-push : (run : List ℕ) (cuts : List Cut) (c : Cut) → All (IsCut run) cuts → IsCut run c → All (IsCut run) (cuts ++ c ∷ [])
All-push run cuts c h here = All-append (IsCut run) cuts (c ∷ []) h (λ k d within. subst (λ x. IsCut run x) (one_at c d k within) here)

packed-push : (ls : List Label) (l : Label) → packed (ls ++ l ∷ []) ≡ packed ls ++ packed_label l
packed-push ls l = flat_map-append packed_label ls (l ∷ []) ∙ ap (λ r. packed ls ++ r) (append-nil (packed_label l))

pub IsRun-push : (run new : List ℕ) (cuts : List Cut) (c : Cut) (mark : Bool) (labels : List Label) (l : Label) → IsRun run cuts mark labels
    → IsPushed run l new c → IsUtf8 run → IsUtf8 new → IsRun new (cuts ++ c ∷ []) (mark || has_zero l) (labels ++ l ∷ [])
IsRun-push run new cuts c mark labels l h p is_run is_new =
    let more = packed_label l in
    let kept : labels_at new cuts ≡ labels = ap (λ r. labels_at r cuts) p.run_is ∙ labels_at-kept run more cuts h.cuts_are ∙ h.labels_are in
    let cuts_kept : All (IsCut new) cuts =
    subst (λ r. All (IsCut r) cuts) (sym p.run_is) (λ k d within. IsCut-kept run more (get_or cuts k d) (h.cuts_are k d within)) in
    record {
      labels_are = map_push (label_at new) cuts c ∙ ap (λ ls. ls ++ label_at new c ∷ []) kept
          ∙ ap (λ x. labels ++ x ∷ []) (label_at-pushed run new l c p);
      run_is = p.run_is ∙ ap (λ r. r ++ more) h.run_is ∙ sym (packed-push labels l);
      cuts_are = All-push new cuts c cuts_kept (IsCut-pushed run new l c p is_run is_new);
      mark_is = ap (λ b. b || has_zero l) h.mark_is ∙ ap (λ b. list_any has_zero labels || b) (sym (or_false (has_zero l)))
          ∙ sym (list_any-append has_zero labels (l ∷ []));
    }

pub IsRun-empty : IsRun [] [] false []
IsRun-empty = record { labels_are = refl; run_is = refl; cuts_are = λ k d within. absurd (omega (arith, within)); mark_is = refl }

-- a run that was made is packed
pub IsPacked-from_run : (run : List ℕ) (cuts : List Cut) (hash : ℕ) (mark : Bool) (labels : List Label) → IsRun run cuts mark labels
    → hash ≡ run_hash run → IsPacked run cuts hash mark
IsPacked-from_run run cuts hash mark labels h hashed = record {
  run_is = h.run_is ∙ ap packed (sym h.labels_are);
  cuts_are = h.cuts_are;
  hash_is = hashed;
  mark_is = h.mark_is ∙ ap (λ ls. list_any has_zero ls) (sym h.labels_are);
}

-- ---- the order, label by label

pub cmp_at : (a b : List Label) (i : ℕ) (l m : Label) → i < length a → i < length b → l ≡ get_or a i l → m ≡ get_or b i m
    → label_set_cmp (drop i a) (drop i b) ≡ ordering_then (label_cmp l m) (label_set_cmp (drop (i + 1) a) (drop (i + 1) b))
cmp_at a b i l m below_a below_b at_a at_b =
    ap (λ r. label_set_cmp r (drop i b)) (drop_more a i l below_a ∙ ap (λ x. x ∷ drop (i + 1) a) (sym at_a))
    ∙ ap (λ r. label_set_cmp (l ∷ drop (i + 1) a) r) (drop_more b i m below_b ∙ ap (λ x. x ∷ drop (i + 1) b) (sym at_b))

pub then_ne : (o p : Ordering) → o ≢ Equal → ordering_then o p ≡ o
then_ne Less p ne = refl
then_ne Equal p ne = absurd (ne refl)
then_ne Greater p ne = refl

zero_lt : (n : ℕ) → nat_cmp 0 (suc n) ≡ Less
zero_lt n = grind (arith, nat_tests)

zero_gt : (n : ℕ) → nat_cmp (suc n) 0 ≡ Greater
zero_gt n = grind (arith, nat_tests)

cmp_ended : (a b : List Label) → min (length a) (length b) ≡ 0 → label_set_cmp a b ≡ nat_cmp (length a) (length b)
cmp_ended [] [] e = refl
cmp_ended [] (m ∷ b) e = sym (zero_lt (length b))
cmp_ended (l ∷ a) [] e = sym (zero_gt (length a))
cmp_ended (l ∷ a) (m ∷ b) e = absurd (omega (arith, e))

cmp_less : (x y i : ℕ) → i ≤ x → i ≤ y → nat_cmp (x - i) (y - i) ≡ nat_cmp x y
cmp_less x y i h k = grind (arith, nat_tests)

pub cmp_all : (a b : List Label) (i : ℕ) → min (length a) (length b) ≡ i
    → label_set_cmp (drop i a) (drop i b) ≡ nat_cmp (length a) (length b)
cmp_all a b i e =
    cmp_ended (drop i a) (drop i b) (omega (arith, e, length-drop i a, length-drop i b))
    ∙ ap (λ n. nat_cmp n (length (drop i b))) (length-drop i a)
    ∙ ap (λ n. nat_cmp (length a - i) n) (length-drop i b)
    ∙ cmp_less (length a) (length b) i (omega (arith, e)) (omega (arith, e))

-- what a test of two orders says
pub tied_from_ne : (o : Ordering) → not (ordering_index o == 1) ≡ false → o ≡ Equal
tied_from_ne Less e = absurd (cc)
tied_from_ne Equal e = refl
tied_from_ne Greater e = absurd (cc)

pub untied_from_ne : (o : Ordering) → not (ordering_index o == 1) ≡ true → o ≢ Equal
untied_from_ne Less e = λ p. cc
untied_from_ne Equal e = λ p. cc
untied_from_ne Greater e = λ p. cc

-- one more pair of a list
pub IsRun-more : (ps : List (Bor (List ℕ) × Bor (List ℕ))) (i : ℕ) (p d : Bor (List ℕ) × Bor (List ℕ)) → i < length ps → p ≡ get_or ps i d
    → (run new : List ℕ) (cuts : List Cut) (c : Cut) (mark : Bool) → IsRun run cuts mark (labels_in (take i ps))
    → IsPushed run (label_in p) new c → IsUtf8 run → IsUtf8 new
    → IsRun new (cuts ++ c ∷ []) (mark || has_zero (label_in p)) (labels_in (take (i + 1) ps))
IsRun-more ps i p d within here run new cuts c mark h pushed is_run is_new =
    let more : labels_in (take (i + 1) ps) ≡ labels_in (take i ps) ++ label_in p ∷ [] =
    map_more label_in ps i d within ∙ ap (λ q. labels_in (take i ps) ++ label_in q ∷ []) (sym here) in
    subst (λ ls. IsRun new (cuts ++ c ∷ []) (mark || has_zero (label_in p)) ls) (sym more)
    (IsRun-push run new cuts c mark (labels_in (take i ps)) (label_in p) h pushed is_run is_new)

-- ---- how long a run is

pub length-pushed_run : (run new : List ℕ) (l : Label) (c : Cut) → IsPushed run l new c
    → length new ≡ length run + length l.name + length l.value + 2
length-pushed_run run new l c p = omega (arith, length-pushed run new l c p, p.start_is, p.name_is, p.value_is)

short_label : (l : Label) → is_label l ≡ true → (length l.name ≤ MAX_NAME_BYTES) × (length l.value ≤ MAX_VALUE_BYTES)
short_label l e = (grind (arith, nat_tests), grind (arith, nat_tests))

-- a pair of a label set is within the limits
pub short_pair : (ps : List (Bor (List ℕ) × Bor (List ℕ))) (i : ℕ) (d : Bor (List ℕ) × Bor (List ℕ)) → i < length ps
    → IsLabelSet (labels_in ps) → (length (label_in (get_or ps i d)).name ≤ 1024) × (length (label_in (get_or ps i d)).value ≤ 16384)
short_pair ps i d within h =
    let l = label_in (get_or ps i d) in
    let all = AllPass-from_list_all is_label (labels_in ps) h.labelled in
    let here : get_or (labels_in ps) i l ≡ l = get_or-map label_in ps i d l within in
    let is : is_label l ≡ true = subst (λ m. is_label m ≡ true) here (all i l (omega (arith, within, length-map ps label_in))) in
    let short = short_label l is in
    (short.0, short.1)

pub few_pairs : (ps : List (Bor (List ℕ) × Bor (List ℕ))) → IsLabelSet (labels_in ps) → length ps ≤ 64
few_pairs ps h = omega (arith, h.few, length-map ps label_in)

-- the run of so many pairs of a label set is short enough for the start of a cut
pub run_fits : (ps : List (Bor (List ℕ) × Bor (List ℕ))) (i : ℕ) → i < length ps → IsLabelSet (labels_in ps) → (run : List ℕ)
    → length run ≤ 17410 * i
    → length run ≤ 4294967295
run_fits ps i within h run short = omega (arith, few_pairs ps h, short, within)

-- a pair of a label set is short enough for the lengths of a cut, and for one more pair of the run
module _ (ps : List (Bor (List ℕ) × Bor (List ℕ))) (i : ℕ) (d : Bor (List ℕ) × Bor (List ℕ)) (within : i < length ps)
    (h : IsLabelSet (labels_in ps)) where
  pub name_fits : length (get_or ps i d).0.now ≤ 65535
  name_fits = let pair = short_pair ps i d within h in omega (arith, pair.0)

  pub value_fits : length (get_or ps i d).1.now ≤ 65535
  value_fits = let pair = short_pair ps i d within h in omega (arith, pair.1)

  pub one_more_short : (run : List ℕ) → length run ≤ 17410 * i → (new : List ℕ) (c : Cut) → IsPushed run (label_in (get_or ps i d)) new c
      → length new ≤ 17410 * (i + 1)
  one_more_short run short new c p =
      let pair = short_pair ps i d within h in
      omega (arith, length-pushed_run run new (label_in (get_or ps i d)) c p, pair.0, pair.1, short)
