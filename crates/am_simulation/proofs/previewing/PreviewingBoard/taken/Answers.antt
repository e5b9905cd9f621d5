use Rattle.std.proofs.Common.{◌∙◌, ℕ, List, ap, length, sym}
use Rattle.std.proofs.lemmas.List.FromFn.{length-range_with_len}
use Rattle.am_simulation.proofs.previewing.PreviewingBoard.taken.Goals as goal

pub returns : goal.returns
returns c =
    let was = c.args.self.now in
    c.len.ensures ∙ sym (ap (λ (l : List ℕ). length l) was.begun ∙ length-range_with_len 0 (length was.begins.items))
