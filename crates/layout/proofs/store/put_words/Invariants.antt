use Rattle.std.proofs.Common.{◌≡◌, ℕ, ◌<◌, length, get_or}
use Rattle.layout.proofs.store.put_words.Given as goal

abbrev pub invariant-loop-k : goal.invariant-loop-k
invariant-loop-k l = record {
  long : length l.words ≡ length l.from;
  done : (j : ℕ) → j < l.k → get_or l.words j 0 ≡ get_or l.from j 0;
}
