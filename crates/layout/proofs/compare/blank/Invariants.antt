use mathlib.Core.Path.{◌≡◌}
use mathlib.Core.Bool.{not}
use mathlib.Core.List.{List}
use Prim.Native.Nat.{ℕ}
use lib.ListN.{get_or}
use Rattle.numbers.specs.All.{Below}
use Rattle.numbers.specs.Decides.{Decides}
use Rattle.layout.proofs.compare.blank.Given as goal

-- the first k words are 0
abbrev pub Zeros : List ℕ → ℕ → Type 0
Zeros words k = Below (λ j. get_or words j 0 ≡ 0) k

abbrev pub invariant-loop-word : goal.invariant-loop-word
invariant-loop-word l = Decides (Zeros l.words l.word-index) (not l.some)
