-- Laws of decimal numbers. Assumes nothing.
use mathlib.Core.Path.{◌≡◌, refl, sym, ap, ap₂, subst, ◌∙◌}
use mathlib.Core.Bool.{Bool, true, false, ◌&&◌}
use mathlib.Core.List.{List, [], ◌∷◌, ◌++◌, append_assoc, append-nil}
use Prim.Native.Nat.{ℕ, ◌+◌, ◌-◌, ◌*◌, ◌/◌, ◌%◌, ◌≤◌, ◌<◌}
use native.Mathlib.Nat.{le_refl}
use native.Mathlib.Omega.{arith}
use lib.Dec.{ltb, leb}
use lib.ListN.{length, length-append}
use borrow.Author.Tests.{ltb-true, leb-true}
use Rattle.numbers.specs.Every.{Every, every_append, every_weaker}
use Rattle.rfc4180.specs.Decimal.{Writes, writing, writing_writes, decimal, IsDigit}

pub decimal_writes : (n : ℕ) → Writes n (decimal n)
unfolding decimal
decimal_writes n = writing_writes n n (le_refl n)

-- a number has a digit
pub writes_some : {n : ℕ} {s : List ℕ} → Writes n s → 0 < length s
writes_some (Writes.digit h) = omega arith
writes_some (Writes.longer {d} {s} pos w h) = omega (arith, length-append s ((48 + d) ∷ []))

-- the number that some bytes write behind the number v
abbrev pub value_from : ℕ → List ℕ → ℕ
value_from v [] = v
value_from v (b ∷ s) = value_from (v * 10 + (b - 48)) s

abbrev pub value_of : List ℕ → ℕ
value_of s = value_from 0 s

pub value_append : (v : ℕ) (s t : List ℕ) → value_from v (s ++ t) ≡ value_from (value_from v s) t
value_append v [] t = refl
value_append v (b ∷ s) t = value_append (v * 10 + (b - 48)) s t

pub value_least : (v : ℕ) (s : List ℕ) → v ≤ value_from v s
value_least v [] = omega arith
value_least v (b ∷ s) = omega (arith, value_least (v * 10 + (b - 48)) s)

pub writes_value : {n : ℕ} {s : List ℕ} → Writes n s → value_of s ≡ n
writes_value (Writes.digit h) = omega arith
writes_value (Writes.longer {n} {d} {s} pos w h) = value_append 0 s ((48 + d) ∷ []) ∙ rw (writes_value w) (omega arith)

-- a text writes one number only, and a number has one text only
pub number_one : {n m : ℕ} {s : List ℕ} → Writes n s → Writes m s → n ≡ m
number_one w v = sym (writes_value w) ∙ writes_value v

text_one_by : {n m : ℕ} {s t : List ℕ} → Writes n s → Writes m t → n ≡ m → s ≡ t
text_one_by (Writes.digit h) (Writes.digit g) e = rw e
text_one_by (Writes.digit h) (Writes.longer pos w g) e = absurd (omega arith)
text_one_by (Writes.longer pos w h) (Writes.digit g) e = absurd (omega arith)
text_one_by (Writes.longer {n} {d} pos w h) (Writes.longer {n = m} {d = f} more v g) e =
    let q : d ≡ f = omega arith in
    ap₂ (λ (x : List ℕ) (b : ℕ). x ++ ((48 + b) ∷ [])) (text_one_by w v (omega arith)) q

pub text_one : {n : ℕ} {s t : List ℕ} → Writes n s → Writes n t → s ≡ t
text_one w v = text_one_by w v refl

pub decimal_is : {n : ℕ} {s : List ℕ} → Writes n s → decimal n ≡ s
decimal_is {n} w = text_one (decimal_writes n) w

pub decimal_injective : (n m : ℕ) → decimal n ≡ decimal m → n ≡ m
decimal_injective n m e = number_one (decimal_writes n) (rw e (decimal_writes m))

pub decimal_one : (n : ℕ) → n < 10 → decimal n ≡ (48 + n) ∷ []
decimal_one n h = decimal_is (Writes.digit h)

pub decimal_more : (n : ℕ) → 10 ≤ n → decimal n ≡ decimal (n / 10) ++ ((48 + n % 10) ∷ [])
decimal_more n h =
    let m : n / 10 * 10 + n % 10 ≡ n = omega arith in
    ap decimal (sym m) ∙ decimal_is (Writes.longer (omega arith) (decimal_writes (n / 10)) (omega arith))

-- a number is written in digits
pub writes_digits : {n : ℕ} {s : List ℕ} → Writes n s → Every IsDigit s
writes_digits (Writes.digit h) = ((omega arith, omega arith), tt)
writes_digits (Writes.longer {d} {s} pos w h) = every_append IsDigit s ((48 + d) ∷ []) (writes_digits w) ((omega arith, omega arith), tt)

-- what holds of each digit holds of each byte of a number
pub decimal_every : (P : ℕ → Type 0) → ((b : ℕ) → IsDigit b → P b) → (n : ℕ) → Every P (decimal n)
decimal_every P f n = every_weaker IsDigit P f (decimal n) (writes_digits (decimal_writes n))

-- digits behind a number above 0
pub writes_behind : {n : ℕ} {p : List ℕ} (s : List ℕ) → 0 < n → Writes n p → Every IsDigit s → Writes (value_from n s) (p ++ s)
writes_behind {p} [] pos w h = rw append-nil w
writes_behind {n} {p} (b ∷ s) pos w h =
    let e : 48 + (b - 48) ≡ b = omega (arith, h.0.0) in
    let v : Writes (n * 10 + (b - 48)) (p ++ (b ∷ [])) =
    subst (λ (x : ℕ). Writes (n * 10 + (b - 48)) (p ++ (x ∷ []))) e (Writes.longer pos w (omega (arith, h.0.1))) in
    rw append_assoc at (writes_behind {n = n * 10 + (b - 48)} {p = p ++ (b ∷ [])} s (omega arith) v h.1)

-- the test of a byte, of each byte, and of a text that is a number
abbrev pub digitb : ℕ → Bool
digitb b = leb 48 b && ltb b 58

abbrev pub digitsb : List ℕ → Bool
digitsb [] = true
digitsb (b ∷ s) = digitb b && digitsb s

abbrev pub numeralb : List ℕ → Bool
numeralb [] = false
numeralb (b ∷ []) = digitb b
numeralb (b ∷ c ∷ s) = ltb 48 b && digitsb (b ∷ c ∷ s)

and_true : (x y : Bool) → (x && y) ≡ true → (x ≡ true) × (y ≡ true)
and_true true y e = (refl, e)
and_true false y e = let z : ◌≡◌ {A = ℕ} 0 1 = cc in absurd (omega arith)

digit_true : (b : ℕ) → digitb b ≡ true → IsDigit b
digit_true b e =
    let w = and_true (leb 48 b) (ltb b 58) e in
    (leb-true 48 b w.0, ltb-true b 58 w.1)

digits_true : (s : List ℕ) → digitsb s ≡ true → Every IsDigit s
digits_true [] e = tt
digits_true (b ∷ s) e =
    let w = and_true (digitb b) (digitsb s) e in
    (digit_true b w.0, digits_true s w.1)

first_digit : (b : ℕ) → IsDigit b → Writes (0 * 10 + (b - 48)) (b ∷ [])
first_digit b h =
    let e : 48 + (b - 48) ≡ b = omega arith in
    let z : b - 48 ≡ 0 * 10 + (b - 48) = omega arith in
    subst (λ (x : ℕ). Writes x (b ∷ [])) z (subst (λ (x : ℕ). Writes (b - 48) (x ∷ [])) e (Writes.digit (omega (arith, h.1))))

numeral_writes : (s : List ℕ) → numeralb s ≡ true → Writes (value_of s) s
numeral_writes [] e = let z : ◌≡◌ {A = ℕ} 0 1 = cc in absurd (omega arith)
numeral_writes (b ∷ []) e = first_digit b (digit_true b e)
numeral_writes (b ∷ c ∷ s) e =
    let w = and_true (ltb 48 b) (digitsb (b ∷ c ∷ s)) e in
    let h = digits_true (b ∷ c ∷ s) w.1 in
    writes_behind (c ∷ s) (omega (arith, ltb-true 48 b w.0)) (first_digit b h.0) h.1

-- the text of a number, by a test of the text
pub numeral_is : (s : List ℕ) → numeralb s ≡ true → decimal (value_of s) ≡ s
numeral_is s e = decimal_is (numeral_writes s e)

-- no byte follows a 0 at the front
pub zero_alone : {n : ℕ} {t : List ℕ} → Writes n t → (c : ℕ) (s : List ℕ) → t ≡ 48 ∷ c ∷ s → ⊥
zero_alone (Writes.digit h) c s e = let z : ◌≡◌ {A = ℕ} 0 1 = cc in omega arith
zero_alone (Writes.longer {s = []} pos w h) c s e = omega (arith, writes_some w)
zero_alone (Writes.longer {s = x ∷ []} pos w h) c s e = let z : x ≡ 48 = cc in omega (arith, writes_value w)
zero_alone (Writes.longer {s = x ∷ y ∷ s} pos w h) c t e = let z : x ≡ 48 = cc in zero_alone w y s (rw z)

-- some texts
some_texts : (decimal 0 ≡ 48 ∷ []) × (decimal 7 ≡ 55 ∷ []) × (decimal 10 ≡ 49 ∷ 48 ∷ []) × (decimal 255 ≡ 50 ∷ 53 ∷ 53 ∷ []) × (decimal 4096 ≡ 52 ∷ 48 ∷ 57 ∷ 54 ∷ [])
unfolding decimal writing
some_texts = (refl, refl, refl, refl, refl)
