-- The archive's seat, and the records that are handed out.
use Rattle.std.proofs.Common.{◌≡◌, ℕ, Bool, true, false, true≢false, Some, length, take, sym, ap, ◌∙◌, subst, arith}
use Rattle.std.proofs.Math.Seq.{take-length}
use Rattle.std.proofs.lemmas.List.{length-take-le}
use Rattle.am_board.specs.History.{BoardData, handed_out}
use Rattle.am_desk.specs.declared.word.Terms.{Terms}
use Rattle.am_desk.specs.declared.word.View.{View}
use Rattle.am_desk.specs.Glances.{HasCapacity, IsShowable, LegalUnder}
use Rattle.am_desk.specs.History.{made}
use Rattle.am_desk.specs.Known.{IsArchive, IsKeeper, Exchanged, handed_by, handed_over, new_holder, took_all, took_over}
use Rattle.am_desk.proofs.Prefixes.{prefix_self, prefix_take, take_prefix}

-- an archive has as many records as it knows to be handed out
pub archive_length : (top : Terms) (count : ℕ) (a : View) → IsArchive top count a → count ≡ length (handed_by a)
archive_length top count a is = sym is.handed ∙ sym (length-take-le a.taken a.log is.few)

module _ (takes : Bool) (top : Terms) (count : ℕ) (b : BoardData) (k a k1 a1 : View) (n : ℕ) (isk : IsKeeper takes top count b k) (isa : IsArchive top n a) (x : Exchanged false k a k1 a1) where
  -- what the archive has is what the board handed out
  pub archive_has : handed_by a ≡ b.handed
  archive_has =
      let same : a.taken ≡ length b.handed = sym (x.held isa.holds) ∙ sym isk.handed in
      take_prefix a.taken a.log k.log x.begins isa.few ∙ (λ i. take (same i) (isk.log i)) ∙ sym (prefix_take b.handed b.history isk.first)

  -- and so it is after they exchanged what they had seen
  pub archive_still_has : handed_by a1 ≡ b.handed
  archive_still_has =
      let same : a1.taken ≡ length b.handed = ap (λ (v : View). v.taken) x.pass ∙ sym isk.handed in
      let log : a1.log ≡ b.history = ap (λ (v : View). v.log) x.pass ∙ isk.log in
      (λ i. take (same i) (log i)) ∙ sym (prefix_take b.handed b.history isk.first)

  pub archive_still : IsArchive top n a1
  archive_still =
      let same : a1.log ≡ k.log = ap (λ (v : View). v.log) x.pass in
      let taken : a1.taken ≡ k.taken = ap (λ (v : View). v.taken) x.pass in
      let limit : a1.limit ≡ Some top = x.limit top isa.limit in
      record {
        keeps = ap (λ (v : View). v.keeps) x.pass ∙ isa.keeps;
        passes = ap (λ (v : View). v.passes) x.pass ∙ isa.passes;
        holds = ap (λ (v : View). v.holds) x.pass ∙ isa.holds;
        limit = limit;
        shows = subst (IsShowable top) (sym same) (subst (λ o. LegalUnder o k.log) limit x.legal);
        calling = ap (λ (v : View). v.calling) x.pass;
        handed = taken ∙ x.held isa.holds ∙ isa.handed;
        few = omega (arith, x.few, taken, ap length same);
      }

  module _ (k2 a2 : View) (seat : k2 ≡ handed_over (took_all (took_over k1 a1))) (holder : a2 ≡ new_holder (took_all (took_over k1 a1))) where
    log2 : k1.log ≡ b.history
    log2 = ap (λ (v : View). v.log) x.keeper ∙ isk.log

    -- after a take the archive has all
    pub archive_all : handed_by a2 ≡ b.history
    archive_all = ap handed_by holder ∙ take-length k1.log ∙ log2

    pub archive_after : (calls : ℕ) → calls ≡ length b.history → IsArchive top calls a2
    archive_after calls all =
        let log : a2.log ≡ b.history = ap (λ (v : View). v.log) holder ∙ log2 in
        let taken : a2.taken ≡ length b.history = ap (λ (v : View). v.taken) holder ∙ ap length log2 in
        record {
          keeps = ap (λ (v : View). v.keeps) holder;
          passes = ap (λ (v : View). v.passes) holder;
          holds = ap (λ (v : View). v.holds) holder;
          limit = ap (λ (v : View). v.limit) holder ∙ x.keeper_limit top isk.limit;
          shows = subst (IsShowable top) (isk.log ∙ sym log) isk.shows;
          calling = ap (λ (v : View). v.calling) holder;
          handed = taken ∙ sym all;
          few = omega (arith, taken, ap length log);
        }

    -- and the board has handed all out
    pub keeper_after : takes ≡ true → HasCapacity top.config.limits (length b.history) → IsKeeper takes top count (handed_out b) k2
    keeper_after may capacity =
        let log : k2.log ≡ b.history = ap (λ (v : View). v.log) seat ∙ log2 in
        let back : k2.log ≡ k.log = log ∙ sym isk.log in
        let taken : k2.taken ≡ length b.history = ap (λ (v : View). v.taken) seat ∙ ap length log2 in
        record {
          keeps = ap (λ (v : View). v.keeps) seat ∙ ap (λ (v : View). v.keeps) x.keeper ∙ isk.keeps;
          log = log;
          limit = ap (λ (v : View). v.limit) seat ∙ x.keeper_limit top isk.limit;
          board = isk.board;
          whole = λ never. absurd (true≢false (sym may ∙ never));
          handed = sym taken;
          first = prefix_self b.history;
          few = omega (arith, taken, ap length log);
          capacity = capacity;
          passes = ap (λ (v : View). v.passes) seat ∙ ap (λ (v : View). v.passes) x.keeper ∙ isk.passes;
          calling = ap (λ (v : View). v.calling) seat ∙ ap (λ (v : View). v.calling) x.keeper;
          given = ap (λ (v : View). v.given) seat ∙ ap (λ (v : View). v.given) x.keeper ∙ isk.given;
          named = λ m h. ap (made m) back ∙ isk.named m h;
          shows = subst (IsShowable top) (sym back) isk.shows;
        }
