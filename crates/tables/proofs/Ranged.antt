-- What `all` over a range answers. Assumes nothing.
use Rattle.std.proofs.Common.{sym, subst, ◌∙◌, ℕ, ◌+◌, ◌≤◌, ◌<◌, ◌-◌, Bool, true, false, arith, length}
use Rattle.std.specs.Prelude.{MatchBool}
use Rattle.std.specs.List.{AllWithin, HoldsAt, range_with_len}
use Rattle.std.proofs.lemmas.List.FromFn.{get_or-range_with_len, length-range_with_len}
use Rattle.numbers.specs.Decides.{Decides, decides_yes, decides_no}

-- the numbers from a up to b all have P, or one of them has not
pub decides_range : (P : ℕ → Type 0) (r : Bool) (a b : ℕ)
    → let xs = range_with_len a (b - a) in MatchBool r (AllWithin P xs 0 (length xs)) ((k : ℕ) × (k < length xs) × HoldsAt (λ i. P i → ⊥) xs k)
    → Decides ((i : ℕ) → a ≤ i → i < b → P i) r
decides_range P true a b d =
    decides_yes (λ i l h. subst P (get_or-range_with_len a (b - a) (i - a) 0 (omega arith) ∙ omega arith) (d (i - a) 0 (omega arith) (omega (arith, length-range_with_len a (b - a)))))
decides_range P false a b (k, h, q) =
    let l : k < b - a = omega (arith, length-range_with_len a (b - a)) in
    decides_no (λ w. q 0 (subst P (sym (get_or-range_with_len a (b - a) k 0 l)) (w (a + k) (omega arith) (omega arith))))
