-- Laws of arguments: where a request is parted, and what is read of it. Assumes nothing.
use mathlib.Core.Path.{◌≡◌, refl, ap, ap₂, sym, ◌∙◌}
use mathlib.Core.Bool.{Bool, true, false, cond, not}
use mathlib.Core.List.{List, [], ◌∷◌, ◌++◌}
use Prim.Native.Nat.{ℕ, suc, ◌+◌, ◌-◌, ◌^◌, ◌≤◌, ◌<◌}
use native.Mathlib.Numerals.{add-one}
use native.Mathlib.Omega.{arith}
use lib.Dec.{eqb, ltb}
use lib.ListN.{length, get_or, take, drop, length-append}
use lib.Seq.{take-append_seam, drop-append-add, split_at}
use borrow.Author.Tests.{ne_eqb, eqb-true, ltb-true, ltb-false}
use Rattle.std.specs.Prelude.{Option, Some, None, unwrap_or}
use Rattle.std.specs.List.{position, position_or_len, prefix_len}
use Rattle.std.proofs.lemmas.Option.{cond_some}
use Rattle.std.proofs.lemmas.List.{take_rest}
use Rattle.std.proofs.lemmas.List.Sums.{passes_at_first}
use Rattle.numbers.specs.Every.{Every}
use Rattle.rfc4180.specs.Decimal.{decimal, IsDigit}
use Rattle.rfc4180.specs.Numbers.{NumberOf}
use Rattle.rfc4180.proofs.Decimals.{decimal_writes, decimal_is, decimal_injective, writes_digits}
use Rattle.arguments.specs.declared.Request.{Request}
use Rattle.arguments.specs.Argument.{a_request, request_text, RequestOf}

-- the greatest number of 64 bits
abbrev pub TOP : ℕ
TOP = 18446744073709551615

-- how many bytes stand before the first that is a sign
unfoldable pub sign_in : ℕ → List ℕ → ℕ
sign_in sign s = position_or_len (λ b. eqb b sign) s

pub sign_none : (sign : ℕ) → sign_in sign [] ≡ 0
unfolding sign_in
sign_none sign = refl

pub sign_next : (sign b : ℕ) (s : List ℕ) → sign_in sign (b ∷ s) ≡ cond (eqb b sign) 0 (suc (sign_in sign s))
unfolding sign_in
sign_next sign b s = go (eqb b sign)
  where
    go : (x : Bool) → cond (not x) (1 + prefix_len (λ c. not (eqb c sign)) s) 0 ≡ cond x 0 (suc (prefix_len (λ c. not (eqb c sign)) s))
    go true = refl
    go false = omega arith

pub sign_within : (sign : ℕ) (s : List ℕ) → sign_in sign s ≤ length s
sign_within sign [] = omega (arith, sign_none sign)
sign_within sign (b ∷ s) = rw sign_next (go (eqb b sign) (sign_within sign s))
  where
    go : (x : Bool) → sign_in sign s ≤ length s → cond x 0 (suc (sign_in sign s)) ≤ suc (length s)
    go true h = omega arith
    go false h = omega arith

-- where a sign first stands, and where it does not
pub sign_at : (sign : ℕ) {k : ℕ} (s : List ℕ) → Some k ≡ position (λ b. eqb b sign) s → (k ≡ sign_in sign s) × (k < length s)
unfolding sign_in
sign_at sign s e =
    let p = cond_some (ltb (sign_in sign s) (length s)) (sign_in sign s) _ (sym e) in
    (sym p.1, let l = ltb-true (sign_in sign s) (length s) p.0 in omega (arith, l, p.1))

pub sign_nowhere : (sign : ℕ) (s : List ℕ) → None ≡ position (λ b. eqb b sign) s → length s ≤ sign_in sign s
unfolding sign_in
sign_nowhere sign s e = go (ltb (sign_in sign s) (length s)) refl e
  where
    go : (x : Bool) → ltb (sign_in sign s) (length s) ≡ x → None ≡ cond x (Some (sign_in sign s)) None → length s ≤ sign_in sign s
    go true f g = cc
    go false f g = ltb-false (sign_in sign s) (length s) f

pub sign_or_length : (sign : ℕ) (s : List ℕ) → unwrap_or (position (λ b. eqb b sign) s) (length s) ≡ sign_in sign s
unfolding sign_in
sign_or_length sign s = go (ltb (sign_in sign s) (length s)) refl
  where
    go : (x : Bool) → ltb (sign_in sign s) (length s) ≡ x → unwrap_or (cond x (Some (sign_in sign s)) None) (length s) ≡ sign_in sign s
    go true f = refl
    go false f = omega (arith, ltb-false (sign_in sign s) (length s) f, sign_within sign s)

-- a request is parted after its mode
digits_sign : (s t : List ℕ) → Every IsDigit s → sign_in 64 (s ++ (64 ∷ t)) ≡ length s
digits_sign [] t h = sign_next 64 64 t
digits_sign (b ∷ s) t h = rw (sign_next, ne_eqb b 64 (λ q. omega (arith, h.0.1))) (ap suc (digits_sign s t h.1))

-- what stands there
sign_is : (s : List ℕ) → sign_in 64 s < length s → get_or s (sign_in 64 s) 0 ≡ 64
unfolding sign_in
sign_is s l = eqb-true _ 64 (passes_at_first (λ b. eqb b 64) s 0 l)

-- the parts of a request
module _ (s : List ℕ) (mode clock : ℕ) (e : s ≡ request_text mode clock) where
  at : sign_in 64 s ≡ length (decimal mode)
  at = ap (sign_in 64) e ∙ digits_sign (decimal mode) (decimal clock) (writes_digits (decimal_writes mode))

  sign_there : sign_in 64 s < length s
  sign_there = omega (arith, at, ap length e ∙ length-append (decimal mode) (64 ∷ decimal clock))

  mode_there : take (sign_in 64 s) s ≡ decimal mode
  mode_there = rw (at, e) (take-append_seam (decimal mode) (64 ∷ decimal clock))

  clock_there : drop (sign_in 64 s + 1) s ≡ decimal clock
  clock_there = ap₂ (λ (k : ℕ) (t : List ℕ). drop (k + 1) t) at e ∙ drop-append-add (decimal mode) (64 ∷ decimal clock) 1

pub request_unique : {s : List ℕ} {x y : Option Request} → RequestOf s x → RequestOf s y → x ≡ y
request_unique {s} (RequestOf.good {mode = m} {clock = c} e l h) (RequestOf.good {mode = n} {clock = d} f k g) =
    ap₂ (λ (mode clock : ℕ). Some (a_request mode clock)) (decimal_injective m n (sym (mode_there s m c e) ∙ mode_there s n d f)) (decimal_injective c d (sym (clock_there s m c e) ∙ clock_there s n d f))
request_unique (RequestOf.good {mode = m} {clock = c} e l h) (RequestOf.bad k) = absurd (k m c e l h)
request_unique (RequestOf.bad k) (RequestOf.good {mode = m} {clock = c} e l h) = absurd (k m c e l h)
request_unique (RequestOf.bad h) (RequestOf.bad k) = refl

-- a number of 64 bits, and none
pub number_good : (s : List ℕ) {n : ℕ} → NumberOf s 0 TOP (Some n) → (s ≡ decimal n) × (n < 2 ^ 64)
number_good s g = (sym (decimal_is g.1), omega (arith, g.0.1))

pub number_bad : (s : List ℕ) → NumberOf s 0 TOP None → (n : ℕ) → s ≡ decimal n → n < 2 ^ 64 → ⊥
number_bad s p n f l = p n (omega arith, omega arith) (rw f (decimal_writes n))

-- what is read of a request, by its parts
pub unparted : (s : List ℕ) → None ≡ position (λ b. eqb b 64) s → RequestOf s None
unparted s e = RequestOf.bad (λ m c f h g. absurd (omega (arith, sign_there s m c f, sign_nowhere 64 s e)))

module _ (s : List ℕ) {k : ℕ} (sign : Some k ≡ position (λ b. eqb b 64) s) where
  at_sign : k ≡ sign_in 64 s
  at_sign = (sign_at 64 s sign).0

  abbrev tail : List ℕ
  tail = take (length s - (k + 1)) (drop (k + 1) s)

  rest : tail ≡ drop (sign_in 64 s + 1) s
  rest = take_rest s (k + 1) ∙ rw at_sign

  pub no_mode : NumberOf (take k s) 0 TOP None → RequestOf s None
  no_mode p = RequestOf.bad (λ m c e h l. number_bad (take k s) p m (rw at_sign (mode_there s m c e)) h)

  pub no_clock : NumberOf tail 0 TOP None → RequestOf s None
  no_clock p = RequestOf.bad (λ m c e h l. number_bad tail p c (rest ∙ clock_there s m c e) l)

  pub read_request : {mode clock : ℕ} → NumberOf (take k s) 0 TOP (Some mode) → NumberOf tail 0 TOP (Some clock) → RequestOf s (Some (a_request mode clock))
  read_request p q =
      let there : sign_in 64 s < length s = omega (arith, at_sign, (sign_at 64 s sign).1) in
      let m = number_good (take k s) p in
      let c = number_good tail q in
      RequestOf.good
      (split_at s (sign_in 64 s) 0 there
      ∙ ap₂ (λ (b k : ℕ). take (sign_in 64 s) s ++ (b ∷ drop k s)) (sign_is s there) (sym (add-one (sign_in 64 s)))
      ∙ ap₂ (λ (t u : List ℕ). t ++ (64 ∷ u)) (ap (λ (k : ℕ). take k s) (sym at_sign) ∙ m.0) (sym rest ∙ c.0))
      m.1 c.1
