-- An array that is made place by place has at each place what the call there gave.
use mathlib.Core.Path.{◌≡◌, ◌∙◌}
use mathlib.Core.List.{List}
use mathlib.Core.Logic.{⊎_elim}
use Prim.Native.Nat.{ℕ, zero, suc, ◌+◌, ◌<◌, ◌≤◌, zero-le}
use native.Mathlib.Nat.{eq-or-lt_of_le}
use native.Mathlib.Omega.{arith}
use lib.ListN.{get_or}
use denote.Param.Members.{Mut, Called}
use Rattle.std.specs.Array.{IsFromFnResult, IsFromFnResultFrom}
use Rattle.numbers.specs.Tab.{tab, is_tab}

module _ {F B : Type 0} (g : Mut F (ℕ × Unit {0}) B) (f : F) (h : ℕ → B) (gives : (k : ℕ) (y : B) (q : F) → Called g f (k, tt) y q → (q ≡ f) × (y ≡ h k)) where
  made_at : (ys : List B) (d : B) (i n : ℕ) (p : F) → p ≡ f → IsFromFnResultFrom g p ys i n → (k : ℕ) → i ≤ k → k < i + n → get_or ys k d ≡ h k
  made_at ys d i zero p e w k a b = absurd (omega arith)
  made_at ys d i (suc n) p e (q, y, at, called, rest) k a b =
      let (same, is) = gives i y q (rw e at called) in
      ⊎_elim (λ (s : i ≡ k). rw (← s) (at.1 d ∙ is)) (λ (l : i < k). made_at ys d (i + 1) n q same rest k (omega arith) (omega arith)) (eq-or-lt_of_le a)

  pub made : (ys : List B) (n : ℕ) (d : B) → IsFromFnResult g f ys n → ys ≡ tab n h
  made ys n d p = is_tab n h ys d p.long (λ k l. made_at ys d 0 n f (λ i. f) p.each k zero-le (omega arith))
