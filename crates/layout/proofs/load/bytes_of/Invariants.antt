use Rattle.std.proofs.Common.{◌≡◌, ℕ, ◌%◌, ◌<◌, length, get_or}
use Rattle.tables.specs.Memory.{CHANNEL_BYTES}
use Rattle.layout.proofs.load.bytes_of.Given as goal

abbrev pub invariant-loop-k : goal.invariant-loop-k
invariant-loop-k l = record {
  long : length l.bytes ≡ CHANNEL_BYTES;
  done : (j : ℕ) → j < l.k → get_or l.bytes j 0 ≡ get_or l.words j 0 % 256;
}
