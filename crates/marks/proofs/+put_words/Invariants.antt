-- `put_words` ends, since it is called over fewer cells: the sums of s and the words over the cells passed have their marks, and those that were there are kept.
use Rattle.marks.specs.Marks.{Marked, Kept}
use Rattle.marks.proofs.+put_words.Given as goal

abbrev pub decreases-put_words : goal.decreases-put_words
decreases-put_words l = l.cells

abbrev pub invariant-loop-c : goal.invariant-loop-c
invariant-loop-c l = Marked l.t l.cols l.h l.s l.c l.v × Kept l.fn.t l.t
