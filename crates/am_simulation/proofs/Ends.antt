-- One more end of a ticket's notices.
use Rattle.std.proofs.Common.{◌≡◌, ℕ, ◌+◌, ◌<◌, suc, List, [], ◌∷◌, ◌++◌, Option, length, take, get_or, subst, sym, ap, ◌∙◌, arith}
use Rattle.std.proofs.lemmas.List.{length-take-le, take_more}
use Rattle.am_model.specs.Notice.{NoticeData}
use Rattle.am_pool.specs.declared.courier.Sent.{Sent}
use Rattle.am_simulation.specs.Answers.{AreEndsOf, IsEndOf}
use Rattle.am_simulation.specs.declared.next.End.{End}

module _ (answer : ℕ → ℕ → ℕ → ℕ → Sent) (cut : Option ℕ) (at : ℕ) where
  pub ends_more : (index : ℕ) (ns : List NoticeData) (es : List End) (n : NoticeData) (e : End) → AreEndsOf answer cut at index ns es
      → IsEndOf answer cut at (index + length ns) n e → AreEndsOf answer cut at index (ns ++ n ∷ []) (es ++ e ∷ [])
  ends_more index [] [] n e are is =
      let same : index + 0 ≡ index = omega arith in
      (subst (λ (p : ℕ). IsEndOf answer cut at p n e) same is, tt)
  ends_more index [] (f ∷ es) n e are is = absurd are
  ends_more index (m ∷ ns) [] n e are is = absurd are
  ends_more index (m ∷ ns) (f ∷ es) n e are is =
      let same : index + suc (length ns) ≡ index + 1 + length ns = omega arith in
      (are.0, ends_more (index + 1) ns es n e are.1 (subst (λ (p : ℕ). IsEndOf answer cut at p n e) same is))

  -- one more, of the notice at the next index
  pub ends_next : (ns : List NoticeData) (index : ℕ) (n : NoticeData) (es : List End) (e : End) → index < length ns → n ≡ get_or ns index n
      → AreEndsOf answer cut at 0 (take index ns) es → IsEndOf answer cut at index n e → AreEndsOf answer cut at 0 (take (index + 1) ns) (es ++ e ∷ [])
  ends_next ns index n es e within here are is =
      let front : length (take index ns) ≡ index = length-take-le index ns (omega arith) in
      let count : index ≡ 0 + length (take index ns) = omega (arith, front) in
      subst (λ (l : List NoticeData). AreEndsOf answer cut at 0 l (es ++ e ∷ []))
      (sym (take_more ns index n within ∙ ap (λ (x : NoticeData). take index ns ++ x ∷ []) (sym here)))
      (ends_more 0 (take index ns) es n e are (subst (λ (p : ℕ). IsEndOf answer cut at p n e) count is))

  -- the same, where the ends were made longer
  pub ends_pushed : (ns : List NoticeData) (index : ℕ) (n : NoticeData) (es more : List End) (e : End) → more ≡ es ++ e ∷ [] → index < length ns
      → n ≡ get_or ns index n → AreEndsOf answer cut at 0 (take index ns) es → IsEndOf answer cut at index n e → AreEndsOf answer cut at 0 (take (index + 1) ns) more
  ends_pushed ns index n es more e pushed within here are is =
      subst (AreEndsOf answer cut at 0 (take (index + 1) ns)) (sym pushed) (ends_next ns index n es e within here are is)
