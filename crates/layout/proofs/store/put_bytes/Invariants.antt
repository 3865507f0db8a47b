use Rattle.std.proofs.Common.{◌≡◌, ℕ, ◌<◌, length, get_or}
use Rattle.layout.proofs.store.put_bytes.Given as goal

abbrev pub invariant-loop-k : goal.invariant-loop-k
invariant-loop-k l = record {
  long : length l.words ≡ length l.bytes;
  done : (j : ℕ) → j < l.k → get_or l.words j 0 ≡ get_or l.bytes j 0;
}
