-- layout::compare::blank meets its contract. The invariant: the flag says whether one of the words so far is not 0.
use mathlib.Core.Path.{◌≡◌, sym, ap, ◌∙◌}
use mathlib.Core.Bool.{Bool, true, false, not, ◌||◌}
use mathlib.Core.List.{List}
use Prim.Native.Nat.{ℕ, ◌+◌}
use native.Mathlib.Decide.{ℕ_discrete}
use native.Mathlib.Omega.{arith}
use borrow.Author.Count.{below_more}
use borrow.Author.Tests.{eq-eqb, ne_eqb}
use lib.Dec.{eqb}
use lib.ListN.{length, get_or, replicate, length-replicate}
use lib.Seq.{ext_get_or}
use Rattle.numbers.specs.Decides.{Decides, decides_yes, decides_no}
use Rattle.numbers.specs.Tab.{get_or_replicated}
use Rattle.layout.proofs.compare.blank.Invariants.{Zeros}
use Rattle.layout.proofs.compare.blank.Goals as goal

more : (words : List ℕ) (k : ℕ) (b : Bool) → Decides (Zeros words k) (not b) → Decides (Zeros words (k + 1)) (not (b || not (eqb (get_or words k 0) 0)))
more words k true d = decides_no (λ p. d.1 (λ j h. p j (omega arith)))
more words k false d = go (ℕ_discrete (get_or words k 0) 0)
  where
    go : Dec (get_or words k 0 ≡ 0) → Decides (Zeros words (k + 1)) (not (not (eqb (get_or words k 0) 0)))
    go (yes e) = rw (eq-eqb (get_or words k 0) 0 e) (decides_yes (below_more _ k (d.0 tt) e))
    go (no n) = rw (ne_eqb (get_or words k 0) 0 n) (decides_no (λ p. n (p k (omega arith))))

-- words that are all 0
all : (words : List ℕ) (k : ℕ) (b : Bool) → k ≡ length words → Decides (Zeros words k) b → Decides (words ≡ replicate (length words) 0) b
all words k b e d = (
  (λ t. ext_get_or 0 words (replicate (length words) 0) (sym (length-replicate {A = ℕ} (length words) 0)) (λ j h. d.0 t j (omega arith) ∙ sym (get_or_replicated {A = ℕ} (length words) j 0))),
  (λ z. d.1 (λ j h. ap (λ (l : List ℕ). get_or l j 0) z ∙ get_or_replicated {A = ℕ} (length words) j 0)),
)

pub loop-word-init : goal.loop-word-init
loop-word-init c = decides_yes (λ j h. absurd (omega arith))

pub loop-word-preserved : goal.loop-word-preserved
loop-word-preserved c = more c.args.words.now c.loop-word.word-index c.loop-word.some c.loop-word.invariant

pub returns : goal.returns
returns c = all c.args.words.now c.loop-word.word-index (not c.loop-word.some) (omega arith) c.loop-word.invariant
