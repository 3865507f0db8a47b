-- How numbers are written in plain decimal.
use Rattle.std.specs.Prelude.{◌≡◌, refl, Bool, true, false, cond, List, [], ◌∷◌, ◌++◌, ℕ, zero, suc, ◌+◌, ◌*◌, ◌/◌, ◌%◌, ◌≤◌, ◌<◌, ltb}
use Rattle.std.proofs.Common.{subst, arith, ltb-true, ltb-false}

-- a number and its text in plain decimal: a digit; or a number above 0 and one digit more. So no sign, no leading zero, and 0 itself is 0.
pub data Writes : ℕ → List ℕ → Type 0 where
  digit : {d : ℕ} → d < 10 → Writes d ((48 + d) ∷ [])
  longer : {n d : ℕ} {s : List ℕ} → 0 < n → Writes n s → d < 10 → Writes (n * 10 + d) (s ++ ((48 + d) ∷ []))

-- the text of n, which has at most k digits behind its first
unfoldable pub writing : ℕ → ℕ → List ℕ
writing zero n = (48 + n) ∷ []
writing (suc k) n = cond (ltb n 10) ((48 + n) ∷ []) (writing k (n / 10) ++ ((48 + n % 10) ∷ []))

-- the text that writes n
unfoldable pub decimal : ℕ → List ℕ
decimal n = writing n n

-- numbers parted by one space
unfoldable pub spaced : List ℕ → List ℕ
spaced [] = []
spaced (x ∷ []) = decimal x
spaced (x ∷ y ∷ ys) = decimal x ++ (32 ∷ spaced (y ∷ ys))

-- the bytes of the ten digits
abbrev pub IsDigit : ℕ → Type 0
IsDigit b = (48 ≤ b) × (b < 58)

-- each number has a text, and this is it
pub writing_writes : (k n : ℕ) → n ≤ k → Writes n (writing k n)
unfolding writing
writing_writes zero n h = Writes.digit {d = n} (omega arith)
writing_writes (suc k) n h = go (ltb n 10) refl (writing_writes k (n / 10))
  where
    go : (x : Bool) → ltb n 10 ≡ x → (n / 10 ≤ k → Writes (n / 10) (writing k (n / 10)))
        → Writes n (cond x ((48 + n) ∷ []) (writing k (n / 10) ++ ((48 + n % 10) ∷ [])))
    go true e ih = Writes.digit (ltb-true n 10 e)
    go false e ih =
        let l : 10 ≤ n = ltb-false n 10 e in
        let m : n / 10 * 10 + n % 10 ≡ n = omega arith in
        subst (λ (x : ℕ). Writes x (writing k (n / 10) ++ ((48 + n % 10) ∷ []))) m (Writes.longer (omega arith) (ih (omega arith)) (omega arith))
