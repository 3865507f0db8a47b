-- How many digits a number has in plain decimal.
use Rattle.std.specs.Prelude.{◌≡◌, refl, Bool, true, false, cond, ℕ, zero, suc, ◌*◌, ◌/◌, ◌^◌, ◌<◌, ltb}
use Rattle.std.proofs.Common.{pow-suc, arith, ltb-true}

-- at most k more than one
abbrev pub digits_from : ℕ → ℕ → ℕ
digits_from zero n = 1
digits_from (suc k) n = cond (ltb n 10) 1 (suc (digits_from k (n / 10)))

-- of a number below 10 ^ 20
abbrev pub digits : ℕ → ℕ
digits n = digits_from 19 n

pub digits_above : (k n : ℕ) → n < 10 ^ suc k → n < 10 ^ digits_from k n
digits_above zero n h = h
digits_above (suc k) n h = go (ltb n 10) refl (digits_above k (n / 10))
  where
    go : (b : Bool) → ltb n 10 ≡ b → (n / 10 < 10 ^ suc k → n / 10 < 10 ^ digits_from k (n / 10)) → n < 10 ^ cond b 1 (suc (digits_from k (n / 10)))
    go true e ih = ltb-true n 10 e
    go false e ih =
        let h' : n < 10 ^ suc k * 10 = rw pow-suc at h in
        rw pow-suc (omega (arith, ih (omega arith)))

pub digits_some : (k n : ℕ) → 0 < digits_from k n
digits_some zero n = omega arith
digits_some (suc k) n = go (ltb n 10)
  where
    go : (b : Bool) → 0 < cond b 1 (suc (digits_from k (n / 10)))
    go true = omega arith
    go false = omega arith
