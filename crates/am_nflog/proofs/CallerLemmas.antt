-- What a caller cites of a log: which rows and keys there are after each change.
use Rattle.std.proofs.Common.{◌≡◌, ℕ, Bool, true, false, cond, not, ◌||◌, nat_eq, nat_le, nat_lt, List, [], ◌∷◌, ◌++◌, filter, is_some, Option, None, Some, refl, sym, ap, subst, ◌∙◌, arith, if◌then◌else◌}
use Rattle.std.proofs.Math.Bool.{or-false}
use Rattle.std.proofs.lemmas.Bool.{and_parts, or_right}
use Rattle.std.proofs.lemmas.Bool.Decides.{nat_tests}
use Rattle.std.proofs.lemmas.List.{map-append}
use Rattle.std.proofs.lemmas.List.Folds.{list_any-append}
use Rattle.std.proofs.lemmas.Map.{keys-set_value, lookup-set_value}
use Rattle.std.proofs.lemmas.Map.Made.{is_some-lookup, lookup-map_values}
use Rattle.std.specs.Cmp.{IsEquivalence, and_equiv, on_equiv, nat_eq_equiv}
use Rattle.std.specs.List.{list_any, cons_option, IsDistinct}
use Rattle.std.specs.Map.{keys_of, lookup, set_value}
use Rattle.indexmap.specs.IndexMap.{insert_entry}
use Rattle.std.specs.Option.{option_flatten, option_map}
use Rattle.am_nflog.proofs.Numbering.{member_alike}
use Rattle.am_nflog.specs.Log.{Slots, key_eq, is_known, row_of, rows_of, with_key, with_row, without_unused, kept, collected, HasDistinctKeys}
use Rattle.am_nflog.specs.declared.key.LogKey.{LogKey}
use Rattle.am_nflog.specs.declared.row.LogRow.{LogRow}

-- keys are equal as lawfully as groups are
pub key_eq-laws : {G : Type 0} {eq : G → G → Bool} → IsEquivalence eq → IsEquivalence (key_eq eq)
key_eq-laws {G} laws = and_equiv (on_equiv (λ (k : LogKey G). k.group) laws) (on_equiv (λ (k : LogKey G). k.integration) nat_eq_equiv)

flatten-cond : {X : Type 0} (b : Bool) (x : X) (o : Option (Option X)) → option_flatten (cond b (Some (Some x)) o) ≡ cond b (Some x) (option_flatten o)
flatten-cond true x o = refl
flatten-cond false x o = refl

module _ {G N : Type 0} (eq : G → G → Bool) (log : Slots G N) where
  -- a known key is among the keys
  pub is_known-keys : (q : LogKey G) → is_known eq log q ≡ list_any (key_eq eq q) (keys_of log)
  is_known-keys q = is_some-lookup (key_eq eq q) log

  -- ---- after `put`

  pub keys-with_row : (key : LogKey G) (row : LogRow N) → keys_of (with_row eq log key row) ≡ keys_of log
  keys-with_row key row = keys-set_value (key_eq eq key) log (Some row)

  -- the key has the row, and each other key what it had
  pub row_of-with_row : IsEquivalence eq → (key : LogKey G) (row : LogRow N) (q : LogKey G) → is_known eq log key ≡ true
      → row_of eq (with_row eq log key row) q ≡ (if key_eq eq key q then Some row else row_of eq log q)
  row_of-with_row laws key row q known =
      ap option_flatten (lookup-set_value (key_eq-laws laws) (key_eq eq key) ((key_eq-laws laws).congr key) q (Some row) log known)
      ∙ flatten-cond (key_eq eq key q) row (lookup (key_eq eq q) log)

  -- ---- after `collect`

  pub keys-collected : (t : ℕ) → keys_of (collected t log) ≡ keys_of log
  keys-collected t = keys_stay log
    where
      keys_stay : (ss : Slots G N) → keys_of (collected t ss) ≡ keys_of ss
      keys_stay [] = refl
      keys_stay (s ∷ ss) = ap (λ ks. s.0 ∷ ks) (keys_stay ss)

  pub HasDistinctKeys-collected : (t : ℕ) → HasDistinctKeys eq log → HasDistinctKeys eq (collected t log)
  HasDistinctKeys-collected t h = subst (IsDistinct (key_eq eq)) (sym (keys-collected t)) h

  -- each key has what it had, except for what is expired
  pub row_of-collected : (t : ℕ) (q : LogKey G) → row_of eq (collected t log) q ≡ kept t (row_of eq log q)
  row_of-collected t q = ap option_flatten (lookup-map_values (kept t) (key_eq eq q) log) ∙ flatten_kept (lookup (key_eq eq q) log)
    where
      flatten_kept : (o : Option (Option (LogRow N))) → option_flatten (option_map (kept t) o) ≡ kept t (option_flatten o)
      flatten_kept None = refl
      flatten_kept (Some o) = refl

  -- ---- after `reserve`

  pub with_key-new : (key : LogKey G) → is_known eq log key ≡ false → with_key eq log key ≡ log ++ (key, None) ∷ []
  with_key-new key unknown = ap (λ b. if b then log else log ++ (key, None) ∷ []) unknown

  -- no key has another row
  pub row_of-with_key : (key q : LogKey G) → row_of eq (with_key eq log key) q ≡ row_of eq log q
  row_of-with_key key q = by (is_known eq log key) (row_stays log)
    where
      none_there : (b : Bool) → option_flatten (cond {A = Option (Option (LogRow N))} b (Some None) None) ≡ None
      none_there true = refl
      none_there false = refl

      at_head : (b : Bool) (o : Option (LogRow N)) (more less : Option (Option (LogRow N))) → option_flatten more ≡ option_flatten less
          → option_flatten (cond b (Some o) more) ≡ option_flatten (cond b (Some o) less)
      at_head true o more less h = refl
      at_head false o more less h = h

      row_stays : (ss : Slots G N) → row_of eq (ss ++ (key, None) ∷ []) q ≡ row_of eq ss q
      row_stays [] = none_there (key_eq eq q key)
      row_stays (s ∷ ss) = at_head (key_eq eq q s.0) s.1 _ _ (row_stays ss)

      by : (b : Bool) → row_of eq (log ++ (key, None) ∷ []) q ≡ row_of eq log q → row_of eq (if b then log else log ++ (key, None) ∷ []) q ≡ row_of eq log q
      by true h = refl
      by false h = h

  -- the key is known, and so are those that were
  pub is_known-with_key : IsEquivalence eq → (key q : LogKey G) → is_known eq (with_key eq log key) q ≡ (is_known eq log q || key_eq eq q key)
  is_known-with_key laws key q = by (is_known eq log key) refl
    where
      absorbed : (a b : Bool) → (b ≡ true → a ≡ true) → a ≡ (a || b)
      absorbed true b h = refl
      absorbed false true h = h refl
      absorbed false false h = refl

      by : (b : Bool) → is_known eq log key ≡ b → is_known eq (if b then log else log ++ (key, None) ∷ []) q ≡ (is_known eq log q || key_eq eq q key)
      by true known =
          absorbed _ _ (λ same. is_known-keys q ∙ member_alike (key_eq-laws laws) q key (keys_of log) same ∙ sym (is_known-keys key) ∙ known)
      by false unknown =
          is_some-lookup (key_eq eq q) (log ++ (key, None) ∷ [])
          ∙ ap (list_any (key_eq eq q)) (map-append (λ slot. slot.0) log ((key, None) ∷ []))
          ∙ list_any-append (key_eq eq q) (keys_of log) (key ∷ [])
          ∙ (λ i. sym (is_known-keys q) i || or-false (key_eq eq q key) i)

  -- ---- after `merge`

  -- a map's insert puts the row at the key, which it makes known
  pub insert_entry-merged : IsEquivalence eq → (key : LogKey G) (row : LogRow N) → insert_entry (key_eq eq) log key (Some row) ≡ with_row eq (with_key eq log key) key row
  insert_entry-merged laws key row = put_in log
    where
      put_in : (ss : Slots G N) → insert_entry (key_eq eq) ss key (Some row) ≡ set_value (key_eq eq key) (if is_known eq ss key then ss else ss ++ (key, None) ∷ []) (Some row)
      put_in [] = sym (ap (λ b. cond b ((key, Some row) ∷ []) ((key, None) ∷ [])) ((key_eq-laws laws).refl key))
      put_in (s ∷ ss) =
          elim (key_eq eq key s.0) as (λ b. key_eq eq key s.0 ≡ b → cond b ((s.0, Some row) ∷ ss) (s ∷ insert_entry (key_eq eq) ss key (Some row))
          ≡ set_value (key_eq eq key) (if is_some (cond b (Some s.1) (lookup (key_eq eq key) ss)) then s ∷ ss else s ∷ ss ++ (key, None) ∷ []) (Some row)) [
            | true ↦ λ e. sym (ap (λ b. cond b ((s.0, Some row) ∷ ss) (s ∷ set_value (key_eq eq key) ss (Some row))) e)
            | false ↦ λ e. ap (λ rest. s ∷ rest) (put_in ss) ∙ behind (is_known eq ss key) e
          ] refl
        where
          passed : (rest : Slots G N) → key_eq eq key s.0 ≡ false → s ∷ set_value (key_eq eq key) rest (Some row) ≡ set_value (key_eq eq key) (s ∷ rest) (Some row)
          passed rest e = sym (ap (λ b. cond b ((s.0, Some row) ∷ rest) (s ∷ set_value (key_eq eq key) rest (Some row))) e)

          behind : (known : Bool) → key_eq eq key s.0 ≡ false → s ∷ set_value (key_eq eq key) (if known then ss else ss ++ (key, None) ∷ []) (Some row)
              ≡ set_value (key_eq eq key) (if known then s ∷ ss else s ∷ ss ++ (key, None) ∷ []) (Some row)
          behind true e = passed ss e
          behind false e = passed (ss ++ (key, None) ∷ []) e

  -- ---- after `forget`

  -- a key that is known stays so where it is of one of the groups
  pub is_known-without_unused : IsEquivalence eq → (groups : List G) (q : LogKey G) → list_any (λ g. eq g q.group) groups ≡ true → is_known eq log q ≡ true → is_known eq (without_unused eq groups log) q ≡ true
  is_known-without_unused laws groups q used known =
      is_some-lookup (key_eq eq q) (without_unused eq groups log) ∙ known_stays log (sym (is_known-keys q) ∙ known)
    where
      stays : LogKey G × Option (LogRow N) → Bool
      stays slot = is_some slot.1 || list_any (λ g. eq g slot.0.group) groups

      same_group : (k : LogKey G) → key_eq eq q k ≡ true → (gs : List G) → list_any (λ g. eq g k.group) gs ≡ list_any (λ g. eq g q.group) gs
      same_group k e [] = refl
      same_group k e (g ∷ gs) =
          let own : eq q.group k.group ≡ true = (and_parts (eq q.group k.group) (nat_eq q.integration k.integration) e).0 in
          λ i. (laws.symm g k.group ∙ sym (laws.congr q.group k.group g own) ∙ laws.symm q.group g) i || same_group k e gs i

      kept_too : (slot : LogKey G × Option (LogRow N)) → key_eq eq q slot.0 ≡ true → stays slot ≡ true
      kept_too slot e = or_right (is_some slot.1) (list_any (λ g. eq g slot.0.group) groups) (same_group slot.0 e groups ∙ used)

      known_stays : (ss : Slots G N) → list_any (key_eq eq q) (keys_of ss) ≡ true → list_any (key_eq eq q) (keys_of (filter stays ss)) ≡ true
      known_stays [] h = h
      known_stays (s ∷ ss) h =
          elim (key_eq eq q s.0) as (λ b. key_eq eq q s.0 ≡ b → (b || list_any (key_eq eq q) (keys_of ss)) ≡ true → list_any (key_eq eq q) (keys_of (cond (stays s) (s ∷ filter stays ss) (filter stays ss))) ≡ true) [
            | true ↦ λ e _.
                ap (λ b. list_any (key_eq eq q) (keys_of (cond b (s ∷ filter stays ss) (filter stays ss)))) (kept_too s e)
                ∙ ap (λ b. b || list_any (key_eq eq q) (keys_of (filter stays ss))) e
            | false ↦ λ e later.
                elim (stays s) as (λ b. list_any (key_eq eq q) (keys_of (cond b (s ∷ filter stays ss) (filter stays ss))) ≡ true) [
                  | true ↦ or_right (key_eq eq q s.0) (list_any (key_eq eq q) (keys_of (filter stays ss))) (known_stays ss later)
                  | false ↦ known_stays ss later
                ]
          ] refl h

-- each row stays
pub rows_of-without_unused : {G N : Type 0} (eq : G → G → Bool) (groups : List G) (log : Slots G N) → rows_of (without_unused eq groups log) ≡ rows_of log
rows_of-without_unused eq groups [] = refl
rows_of-without_unused {G} {N} eq groups (s ∷ ss) = by s.1 (list_any (λ g. eq g s.0.group) groups) (rows_of-without_unused eq groups ss)
  where
    by : (o : Option (LogRow N)) (b : Bool) → rows_of (without_unused eq groups ss) ≡ rows_of ss
        → rows_of (cond (is_some o || b) ((s.0, o) ∷ without_unused eq groups ss) (without_unused eq groups ss)) ≡ cons_option (option_map (λ row. (s.0, row)) o) (rows_of ss)
    by None true h = h
    by None false h = h
    by (Some row) b h = ap (λ rest. (s.0, row) ∷ rest) h

lt_not_le : (m n : ℕ) → nat_lt m n ≡ not (nat_le n m)
lt_not_le m n = grind (arith, nat_tests)

-- the first slot and the others
one_more : {G N : Type 0} (t : ℕ) (key : LogKey G) (o : Option (LogRow N)) (left rows : List (LogKey G × LogRow N))
    → left ≡ filter (λ entry. nat_lt t entry.1.expiry) rows
    → cons_option (option_map (λ row. (key, row)) (kept t o)) left
    ≡ filter (λ entry. nat_lt t entry.1.expiry) (cons_option (option_map (λ row. (key, row)) o) rows)
one_more t key None left rows h = h
one_more {G} {N} t key (Some row) left rows h =
    by (filter (λ entry. nat_lt t entry.1.expiry) rows) (nat_le row.expiry t) h ∙ sym (ap (λ b. cond b ((key, row) ∷ filter (λ entry. nat_lt t entry.1.expiry) rows) (filter (λ entry. nat_lt t entry.1.expiry) rows)) (lt_not_le t row.expiry))
  where
    by : (later : List (LogKey G × LogRow N)) (b : Bool) → left ≡ later
        → cons_option (option_map (λ (r : LogRow N). (key, r)) (if b then None else Some row)) left ≡ cond (not b) ((key, row) ∷ later) later
    by later true h = h
    by later false h = ap (λ rest. (key, row) ∷ rest) h

-- which rows stay after `collect`: those that expire later, in their order
pub rows_of-collected : {G N : Type 0} (t : ℕ) (log : Slots G N) → rows_of (collected t log) ≡ filter (λ entry. nat_lt t entry.1.expiry) (rows_of log)
rows_of-collected t [] = refl
rows_of-collected t (s ∷ ss) = one_more t s.0 s.1 _ _ (rows_of-collected t ss)
