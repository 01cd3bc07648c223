-- `write_all` meets its contract: what a turn writes comes right behind what the turns before it wrote.
use Rattle.std.proofs.Common.{◌++◌, List, ℕ, take, drop, take-append-drop, append_assoc, sym, ap, ◌∙◌}
use Rattle.std.proofs.lemmas.List.{take_rest}
use Rattle.std.proofs.KnownBytes.{Appends-trans}
use Rattle.streams.proofs.write_all.Goals as goal

pub loop-rest-preserved : goal.loop-rest-preserved
loop-rest-preserved g c =
    let i = c.loop-rest.invariant in
    let front = i.0 in
    let rest = c.loop-rest.rest.now in
    let count = c.in_ok-count.count in (
      front ++ take count rest,
      i.1 ∙ ap (λ (l : List ℕ). front ++ l) (sym (take-append-drop count rest)) ∙ sym (append_assoc front (take count rest) (drop count rest))
          ∙ ap (λ (l : List ℕ). (front ++ take count rest) ++ l) (sym (take_rest rest count)),
      Appends-trans _ _ _ _ _ i.2 c.in_ok-count.ensures.bytes,
    )
