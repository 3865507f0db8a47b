-- The binary places of a number as a set of numbers, and the laws of `&`, `|`, shift and the count of ones.
use Rattle.std.specs.Prelude.{◌≡◌, refl, Bool, not, ◌&&◌, ◌⊎◌, ◌↔◌, ℕ, zero, suc, ◌+◌, ◌-◌, ◌/◌, ◌%◌, ◌*◌, ◌^◌, ◌<◌, ◌≤◌, min, max, eqb}
use Rattle.std.proofs.Common.{sym, ap, ◌∙◌, inl, inr, ⊎_elim, zero-le, suc-le-suc, pow-suc, not-suc-le-zero, le_of_suc-le-suc, eq-or-lt_of_le, lt-suc_self, div-one, add_comm, zero-mul, one-mul, add-one, arith, shr-shr, pow_pos}
use Rattle.std.proofs.Math.Logic.Iff
use Rattle.std.proofs.Math.Nat.{sub-zero}
use Rattle.std.proofs.Math.Decide.{dec_lt, ℕ_discrete}
use Rattle.std.proofs.Math.Arith.{digits_div, digits_mod, lt-one}
use Rattle.std.specs.Int.Count.{ones, ones_in, ones_step}
use Rattle.std.specs.Int.Bits.{bit_and, bit_or, and_step, or_step}
use Rattle.std.proofs.lemmas.Nat.{and_le_l}
use Rattle.numbers.specs.Decides.{Decides, decides_unique, decides_eqb, decides_and, decides_not, decides_true, decides_false}
use Rattle.numbers.specs.Lowest.{FirstPasses, NonePasses, sought}
use Rattle.numbers.specs.Sum.{sum, sum_same, sum_most}

-- place i of the number m in base two: 0 or 1
unfoldable pub bit : ℕ → ℕ → ℕ
bit m zero = m % 2
bit m (suc i) = bit (m / 2) i

-- the set m has i
abbrev pub Has : ℕ → ℕ → Type 0
Has m i = bit m i ≡ 1

-- whether it has
abbrev pub hasb : ℕ → ℕ → Bool
hasb m i = eqb (bit m i) 1

-- every number that a has, b has
abbrev pub Within : ℕ → ℕ → Type 0
Within a b = (i : ℕ) → Has a i → Has b i

-- how many of the numbers below k the set m has
abbrev pub size : ℕ → ℕ → ℕ
size k m = sum (bit m) k

-- r is the set m with i: it has j exactly when j is i or m has j
abbrev pub With : ℕ → ℕ → ℕ → Type 0
With m i r = (j : ℕ) → Has r j ↔ ((j ≡ i) ⊎ Has m j)

-- r is the set m without i: it has j exactly when j is not i and m has j
abbrev pub Without : ℕ → ℕ → ℕ → Type 0
Without m i r = (j : ℕ) → Has r j ↔ ((j ≡ i → ⊥) × Has m j)

-- the numbers that are these sets
abbrev pub adding : ℕ → ℕ → ℕ
adding m i = bit_or m (2 ^ i)

abbrev pub removing : ℕ → ℕ → ℕ
removing m i = m - bit m i * 2 ^ i

pub bit_lt : (m i : ℕ) → bit m i < 2
unfolding bit
bit_lt m zero = omega arith
bit_lt m (suc i) = bit_lt (m / 2) i

pub has_or_not : (m i : ℕ) → Has m i ⊎ (bit m i ≡ 0)
has_or_not m i = go (bit m i) (bit_lt m i)
  where
    go : (b : ℕ) → b < 2 → (b ≡ 1) ⊎ (b ≡ 0)
    go zero h = inr refl
    go (suc b) h = inl (omega arith)

-- an answer to whether a set has a number is that test
pub has_decides : (m i : ℕ) → Decides (Has m i) (hasb m i)
has_decides m i = decides_eqb (bit m i) 1 ((λ h. h), (λ h. h))

pub has_is : (m i : ℕ) (r : Bool) → Decides (Has m i) r → hasb m i ≡ r
has_is m i r d = decides_unique (hasb m i) r (has_decides m i) d

pub lacks : (m i : ℕ) → (Has m i → ⊥) → bit m i ≡ 0
lacks m i n = omega (arith, bit_lt m i, n)

-- a shift brings place i to the lowest
pub bit_shift : (m i : ℕ) → m / 2 ^ i % 2 ≡ bit m i
unfolding bit
bit_shift m zero = rw div-one
bit_shift m (suc i) =
    ap (λ (x : ℕ). m / 2 ^ x % 2) (sym (add-one i) ∙ add_comm i 1) ∙ ap (λ (x : ℕ). x % 2) (sym (shr-shr m 1 i)) ∙ bit_shift (m / 2) i

pub bit_and_law : (a b i : ℕ) → bit (bit_and a b) i ≡ min (bit a i) (bit b i)
unfolding bit
bit_and_law a b zero = rw and_step (digits_mod _ (omega arith))
bit_and_law a b (suc i) = ap (λ (x : ℕ). bit x i) (rw and_step (digits_div _ (omega arith))) ∙ bit_and_law (a / 2) (b / 2) i

pub bit_or_law : (a b i : ℕ) → bit (bit_or a b) i ≡ max (bit a i) (bit b i)
unfolding bit
bit_or_law a b zero = rw or_step (digits_mod _ (omega arith))
bit_or_law a b (suc i) = ap (λ (x : ℕ). bit x i) (rw or_step (digits_div _ (omega arith))) ∙ bit_or_law (a / 2) (b / 2) i

-- what two sets both have
pub has_and : (a b i : ℕ) → Has (bit_and a b) i ↔ (Has a i × Has b i)
has_and a b i = (
  (λ h. (omega (arith, bit_and_law a b i, bit_lt a i, bit_lt b i), omega (arith, bit_and_law a b i, bit_lt a i, bit_lt b i))),
  (λ w. bit_and_law a b i ∙ rw (w.0, w.1)),
)

-- what one of two sets has
pub has_or : (a b i : ℕ) → Has (bit_or a b) i ↔ (Has a i ⊎ Has b i)
has_or a b i = (
  (λ h. ⊎_elim inl (λ (z : bit a i ≡ 0). inr (omega (arith, bit_or_law a b i))) (has_or_not a i)),
  ⊎_elim (λ (h : Has a i). rw (bit_or_law, h) (omega (arith, bit_lt b i))) (λ (h : Has b i). rw (bit_or_law, h) (omega (arith, bit_lt a i))),
)

pub bit_zero : (i : ℕ) → bit 0 i ≡ 0
unfolding bit
bit_zero zero = refl
bit_zero (suc i) = bit_zero i

half_pow : (i : ℕ) → 2 ^ suc i / 2 ≡ 2 ^ i
half_pow i = rw pow-suc (omega arith)

pub bit_pow_same : (i : ℕ) → bit (2 ^ i) i ≡ 1
unfolding bit
bit_pow_same zero = refl
bit_pow_same (suc i) = ap (λ (x : ℕ). bit x i) (half_pow i) ∙ bit_pow_same i

pub bit_pow_other : (i j : ℕ) → (j ≡ i → ⊥) → bit (2 ^ i) j ≡ 0
unfolding bit
bit_pow_other zero zero h = absurd (h refl)
bit_pow_other zero (suc j) h = bit_zero j
bit_pow_other (suc i) zero h = rw pow-suc (omega arith)
bit_pow_other (suc i) (suc j) h = ap (λ (x : ℕ). bit x j) (half_pow i) ∙ bit_pow_other i j (λ e. h (ap suc e))

pub has_adding : (m i : ℕ) → With m i (adding m i)
has_adding m i j = (to (ℕ_discrete j i), from)
  where
    to : Dec (j ≡ i) → Has (adding m i) j → (j ≡ i) ⊎ Has m j
    to (yes e) h = inl e
    to (no n) h = inr (omega (arith, bit_or_law m (2 ^ i) j, bit_pow_other i j n))

    from : (j ≡ i) ⊎ Has m j → Has (adding m i) j
    from (inl e) = rw (e, bit_or_law, bit_pow_same) (omega (arith, bit_lt m i))
    from (inr h) = rw (bit_or_law, h) (omega (arith, bit_lt (2 ^ i) j))

pub bit_adding_other : (m i j : ℕ) → (j ≡ i → ⊥) → bit (adding m i) j ≡ bit m j
bit_adding_other m i j n = rw (bit_or_law, bit_pow_other i j n) (omega arith)

-- a set that has i, with i taken out
pub has_pow : (m i : ℕ) → Has m i → 2 ^ i ≤ m
unfolding bit
has_pow m zero h = omega arith
has_pow m (suc i) h = rw pow-suc (omega (arith, has_pow (m / 2) i h))

taken_same : (m i : ℕ) → Has m i → bit (m - 2 ^ i) i ≡ 0
unfolding bit
taken_same m zero h = omega arith
taken_same m (suc i) h = rw pow-suc (ap (λ (x : ℕ). bit x i) (omega arith) ∙ taken_same (m / 2) i h)

taken_other : (m i j : ℕ) → Has m i → (j ≡ i → ⊥) → bit (m - 2 ^ i) j ≡ bit m j
unfolding bit
taken_other m zero zero h n = absurd (n refl)
taken_other m zero (suc j) h n = ap (λ (x : ℕ). bit x j) (omega arith)
taken_other m (suc i) zero h n = rw pow-suc (omega (arith, has_pow (m / 2) i h))
taken_other m (suc i) (suc j) h n = rw pow-suc (ap (λ (x : ℕ). bit x j) (omega arith) ∙ taken_other (m / 2) i j h (λ e. n (ap suc e)))

pub bit_removing_same : (m i : ℕ) → bit (removing m i) i ≡ 0
bit_removing_same m i = ⊎_elim (λ (y : Has m i). rw (y, one-mul) (taken_same m i y)) (λ (z : bit m i ≡ 0). rw (z, zero-mul, sub-zero) z) (has_or_not m i)

pub bit_removing_other : (m i j : ℕ) → (j ≡ i → ⊥) → bit (removing m i) j ≡ bit m j
bit_removing_other m i j n = ⊎_elim (λ (y : Has m i). rw (y, one-mul) (taken_other m i j y n)) (λ (z : bit m i ≡ 0). rw (z, zero-mul, sub-zero)) (has_or_not m i)

pub has_removing : (m i : ℕ) → Without m i (removing m i)
has_removing m i j = (to (ℕ_discrete j i), λ (n, h). bit_removing_other m i j n ∙ h)
  where
    to : Dec (j ≡ i) → Has (removing m i) j → (j ≡ i → ⊥) × Has m j
    to (yes e) h = absurd (omega (arith, bit_removing_same m i, ap (bit (removing m i)) e))
    to (no n) h = (n, sym (bit_removing_other m i j n) ∙ h)

-- two sets below 2 ^ k that have the same numbers are one
pub bit_ext : (k a b : ℕ) → a < 2 ^ k → b < 2 ^ k → ((i : ℕ) → i < k → bit a i ≡ bit b i) → a ≡ b
unfolding bit
bit_ext zero a b ha hb h = lt-one ha ∙ sym (lt-one hb)
bit_ext (suc k) a b ha hb h =
    let ha' : a < 2 ^ k * 2 = rw pow-suc at ha in
    let hb' : b < 2 ^ k * 2 = rw pow-suc at hb in
    let e : a / 2 ≡ b / 2 = bit_ext k (a / 2) (b / 2) (omega arith) (omega arith) (λ i l. h (suc i) (suc-le-suc l)) in
    let e0 : a % 2 ≡ b % 2 = h zero (suc-le-suc zero-le) in
    omega arith

-- a set below 2 ^ k has nothing from k on
pub bit_out : (k m j : ℕ) → m < 2 ^ k → k ≤ j → bit m j ≡ 0
unfolding bit
bit_out zero m j h l = rw (lt-one h) (bit_zero j)
bit_out (suc k) m zero h l = absurd (not-suc-le-zero l)
bit_out (suc k) m (suc j) h l = let h' : m < 2 ^ k * 2 = rw pow-suc at h in bit_out k (m / 2) j (omega arith) (le_of_suc-le-suc l)

pub has_below : (k m j : ℕ) → m < 2 ^ k → Has m j → j < k
has_below k m j h e = go (dec_lt j k)
  where
    go : Dec (j < k) → j < k
    go (yes l) = l
    go (no n) = absurd (omega (arith, bit_out k m j h (omega arith)))

lt_pow : (n : ℕ) → n < 2 ^ n
lt_pow zero = suc-le-suc zero-le
lt_pow (suc n) = rw pow-suc (omega (arith, lt_pow n))

-- two sets that have the same numbers are one
pub same_set : (a b : ℕ) → ((i : ℕ) → Has a i ↔ Has b i) → a ≡ b
same_set a b h = bit_ext (a + b) a b (omega (arith, lt_pow (a + b))) (omega (arith, lt_pow (a + b))) (λ i l. go i (has_or_not a i) (has_or_not b i))
  where
    go : (i : ℕ) → Has a i ⊎ (bit a i ≡ 0) → Has b i ⊎ (bit b i ≡ 0) → bit a i ≡ bit b i
    go i (inl y) d = y ∙ sym ((h i).0 y)
    go i (inr z) (inl y) = (h i).1 y ∙ sym y
    go i (inr z) (inr o) = z ∙ sym o

-- one set is m with i, and one is m without it
pub with_is : (m i : ℕ) {r : ℕ} → With m i r → r ≡ adding m i
with_is m i {r} p = same_set r (adding m i) (λ j. Iff.trans (p j) (Iff.symm (has_adding m i j)))

pub without_is : (m i : ℕ) {r : ℕ} → Without m i r → r ≡ removing m i
without_is m i {r} p = same_set r (removing m i) (λ j. Iff.trans (p j) (Iff.symm (has_removing m i j)))

-- a is within b exactly when `a & b` is a
pub within_and : (a b : ℕ) → (bit_and a b ≡ a) ↔ Within a b
within_and a b = (to, from)
  where
    to : bit_and a b ≡ a → Within a b
    to e i h = let m : bit a i ≡ min (bit a i) (bit b i) = ap (λ (x : ℕ). bit x i) (sym e) ∙ bit_and_law a b i in omega (arith, bit_lt b i)

    from : Within a b → bit_and a b ≡ a
    from w =
        bit_ext a (bit_and a b) a (omega (arith, and_le_l a b, lt_pow a)) (lt_pow a)
        (λ i l. bit_and_law a b i ∙ ⊎_elim (λ (e : bit a i ≡ 1). let f : bit b i ≡ 1 = w i e in omega arith) (λ (e : bit a i ≡ 0). omega arith) (has_or_not a i))

-- an answer to whether a is within b is that test
pub within_decides : (a b : ℕ) → Decides (Within a b) (eqb (bit_and a b) a)
within_decides a b = decides_eqb (bit_and a b) a (within_and a b)

pub within_is : (a b : ℕ) (r : Bool) → Decides (Within a b) r → eqb (bit_and a b) a ≡ r
within_is a b r d = decides_unique (eqb (bit_and a b) a) r (within_decides a b) d

-- a set that is not within another has a number that the other has not
pub outside : (a b : ℕ) → (Within a b → ⊥) → (i : ℕ) × Has a i × (Has b i → ⊥)
outside a b n = go (sought (λ i. hasb a i && not (hasb b i)) a 0)
  where
    differs : (i : ℕ) → Decides (Has a i × (Has b i → ⊥)) (hasb a i && not (hasb b i))
    differs i = decides_and (hasb a i) (not (hasb b i)) (has_decides a i) (decides_not (hasb b i) (has_decides b i))

    go : ((i : ℕ) × FirstPasses (λ i. hasb a i && not (hasb b i)) a 0 i) ⊎ NonePasses (λ i. hasb a i && not (hasb b i)) a 0 → (i : ℕ) × Has a i × (Has b i → ⊥)
    go (inl (i, p)) = let (h, l) = decides_true (differs i) p.passes in (i, h, l)
    go (inr f) =
        absurd (n (λ i h. ⊎_elim (λ (y : Has b i). y)
        (λ (z : bit b i ≡ 0). absurd (decides_false (differs i) (f i zero-le (omega (arith, has_below a a i (lt_pow a) h))) (h, λ y. omega arith)))
        (has_or_not b i)))

-- a set that has nothing is 0, and any other has something
pub empty : (m : ℕ) → ((i : ℕ) → Has m i → ⊥) → m ≡ 0
empty m n = bit_ext m m 0 (lt_pow m) (pow_pos m) (λ i l. lacks m i (n i) ∙ sym (bit_zero i))

pub some_has : (m : ℕ) → (m ≡ 0 → ⊥) → (i : ℕ) × Has m i
some_has m n = let (i, h, l) = outside m 0 (λ w. n (empty m (λ i h. omega (arith, w i h, bit_zero i)))) in (i, h)

size_low : (k m : ℕ) → size (suc k) m ≡ m % 2 + size k (m / 2)
unfolding sum bit
size_low zero m = omega arith
size_low (suc k) m = omega (arith, size_low k m)

-- the count of ones is the size of the set
pub ones_size : (k m : ℕ) → m < 2 ^ k → ones m ≡ size k m
unfolding sum ones ones_in
ones_size zero m h = rw (lt-one h)
ones_size (suc k) m h =
    let h' : m < 2 ^ k * 2 = rw pow-suc at h in
    ones_step m ∙ ap (λ (x : ℕ). m % 2 + x) (ones_size k (m / 2) (omega arith)) ∙ sym (size_low k m)

pub size_most : (k m : ℕ) → size k m ≤ k
size_most k m = omega (arith, sum_most (bit m) 1 k (λ i l. omega (arith, bit_lt m i)))

-- a number more
pub size_adding : (k m i : ℕ) → i < k → (Has m i → ⊥) → size k (adding m i) ≡ suc (size k m)
unfolding sum
size_adding zero m i h n = absurd (not-suc-le-zero h)
size_adding (suc k) m i h n =
    ⊎_elim (λ (e : i ≡ k).
    let y : bit (adding m i) k ≡ 1 = (has_adding m i k).1 (inl (sym e)) in
    let z : bit m k ≡ 0 = rw (← e) (lacks m i n) in
    omega (arith, sum_same (bit (adding m i)) (bit m) k (λ j l. bit_adding_other m i j (λ q. omega arith))))
    (λ (l : i < k). omega (arith, size_adding k m i l n, bit_adding_other m i k (λ q. omega arith)))
    (eq-or-lt_of_le (le_of_suc-le-suc h))

-- a size of 0: none of the numbers below k
pub size_none : (k m : ℕ) → size k m ≡ 0 → (i : ℕ) → i < k → Has m i → ⊥
unfolding sum
size_none zero m e i h y = not-suc-le-zero h
size_none (suc k) m e i h y =
    ⊎_elim (λ (q : i ≡ k). omega (arith, ap (bit m) q)) (λ (l : i < k). size_none k m (omega arith) i l y) (eq-or-lt_of_le (le_of_suc-le-suc h))

pub none_size : (k m : ℕ) → ((i : ℕ) → i < k → Has m i → ⊥) → size k m ≡ 0
unfolding sum
none_size zero m n = refl
none_size (suc k) m n = omega (arith, none_size k m (λ i l. n i (omega arith)), lacks m k (n k (lt-suc_self k)))

-- a size of 1: one of the numbers below k, and only one
pub size_one : (k m : ℕ) → size k m ≡ 1 → (i : ℕ) × (i < k) × Has m i × ((j : ℕ) → j < k → Has m j → j ≡ i)
unfolding sum
size_one zero m e = absurd (omega arith)
size_one (suc k) m e = go (has_or_not m k) (size_one k m)
  where
    go : Has m k ⊎ (bit m k ≡ 0) → (size k m ≡ 1 → (i : ℕ) × (i < k) × Has m i × ((j : ℕ) → j < k → Has m j → j ≡ i))
        → (i : ℕ) × (i < suc k) × Has m i × ((j : ℕ) → j < suc k → Has m j → j ≡ i)
    go (inl y) ih =
        (k, lt-suc_self k, y, λ j l h. ⊎_elim (λ (q : j ≡ k). q) (λ (b : j < k). absurd (size_none k m (omega arith) j b h)) (eq-or-lt_of_le (le_of_suc-le-suc l)))
    go (inr z) ih =
        let (i, l, y, u) = ih (omega arith) in
        (i, omega arith, y, λ j b h. ⊎_elim (λ (q : j ≡ k). absurd (omega (arith, ap (bit m) q))) (λ (b : j < k). u j b h) (eq-or-lt_of_le (le_of_suc-le-suc b)))

pub one_size : (k m i : ℕ) → i < k → Has m i → ((j : ℕ) → j < k → Has m j → j ≡ i) → size k m ≡ 1
unfolding sum
one_size zero m i l y u = absurd (not-suc-le-zero l)
one_size (suc k) m i l y u =
    ⊎_elim (λ (q : i ≡ k). omega (arith, none_size k m (λ j b h. omega (arith, u j (omega arith) h)), ap (bit m) q))
    (λ (b : i < k). omega (arith, one_size k m i b y (λ j c. u j (omega arith)), lacks m k (λ h. omega (arith, u k (lt-suc_self k) h))))
    (eq-or-lt_of_le (le_of_suc-le-suc l))
