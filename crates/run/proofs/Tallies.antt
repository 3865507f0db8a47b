-- Laws of tests, and of sums that count only what passes one. Assumes nothing.
use Prim.Native.Nat.{ℕ, zero, suc, ◌+◌, ◌≤◌, ◌<◌, zero-le}
use mathlib.Core.Path.{◌≡◌, refl, sym}
use mathlib.Core.Bool.{Bool, true, false, cond}
use mathlib.Core.Logic.{◌⊎◌, inl, inr, ⊎_elim}
use native.Mathlib.Nat.{le_refl, le_trans, le_of_eq, lt_irrefl, add-le-add}
use native.Mathlib.Omega.{arith}
use lib.Dec.{T}
use Rattle.numbers.specs.Sum.{sum, sum_le, sum_same, sum_more, sum_none}
use Rattle.run.specs.Firing.{tally}

-- a ≤ b or b < a, as a choice
pub split : (a b : ℕ) → (a ≤ b) ⊎ (b < a)
split zero b = inl zero-le
split (suc a) zero = inr (omega arith)
split (suc a) (suc b) = go (split a b)
  where
    go : (a ≤ b) ⊎ (b < a) → (suc a ≤ suc b) ⊎ (suc b < suc a)
    go (inl h) = inl (omega arith)
    go (inr h) = inr (omega arith)

-- numbers below n that are all below m
pub all_below : (n m : ℕ) → ((i : ℕ) → i < n → i < m) → n ≤ m
all_below n m h = ⊎_elim (λ (l : n ≤ m). l) (λ (l : m < n). absurd (lt_irrefl m (h m l))) (split n m)

-- a number that counts only where a test holds
pub if_le : (a b : Bool) (x y : ℕ) → (T a → T b) → (T a → x ≤ y) → cond a x 0 ≤ cond b y 0
if_le true true x y h k = k tt
if_le true false x y h k = absurd (h tt)
if_le false b x y h k = zero-le

pub if_none : (a : Bool) (x : ℕ) → (T a → x ≡ 0) → cond a x 0 ≡ 0
if_none true x h = h tt
if_none false x h = refl

pub if_same : (a : Bool) (x y : ℕ) → (T a → x ≡ y) → cond a x 0 ≡ cond a y 0
if_same true x y h = h tt
if_same false x y h = refl

-- the choice made, where the test holds
pub if_so : {A : Type 0} (a : Bool) (x y : A) → T a → cond a x y ≡ x
if_so true x y h = refl
if_so false x y h = absurd h

module _ (p : ℕ → Bool) (f : ℕ → ℕ) where
  pub tally_sum : (n m : ℕ) → ((i : ℕ) → i < n → T (p i) → i < m) → tally p f n ≤ sum f m
  unfolding sum tally
  tally_sum zero m low = zero-le
  tally_sum (suc n) m low = go (p n) (λ t. low n (le_refl (suc n)) t) (tally_sum n m (λ i l. low i (omega arith)))
    where
      below : (k : ℕ) → sum (λ i. cond (p i) (f i) 0) k ≤ sum f k
      below k = sum_le _ f k (λ i l. one (p i) (f i))
        where
          one : (b : Bool) (x : ℕ) → cond b x 0 ≤ x
          one true x = le_refl x
          one false x = zero-le

      go : (b : Bool) → (T b → n < m) → sum (λ i. cond (p i) (f i) 0) n ≤ sum f m → sum (λ i. cond (p i) (f i) 0) n + cond b (f n) 0 ≤ sum f m
      go true l ih = le_trans (add-le-add (below n) (le_refl (f n))) (sum_more f (suc n) m (l tt))
      go false l ih = omega arith

  pub sum_tally : (n m : ℕ) → ((i : ℕ) → i < n → i < m) → ((i : ℕ) → i < n → T (p i)) → sum f n ≤ tally p f m
  unfolding tally
  sum_tally n m low h =
      le_trans (le_of_eq (sum_same f (λ i. cond (p i) (f i) 0) n (λ i l. sym (if_so (p i) (f i) 0 (h i l)))))
      (sum_more (λ i. cond (p i) (f i) 0) n m (all_below n m low))

  pub tally_none : (n : ℕ) → ((i : ℕ) → i < n → T (p i) → ⊥) → tally p f n ≡ 0
  unfolding tally
  tally_none n h = sum_none _ n (λ i l. if_none (p i) (f i) (λ t. absurd (h i l t)))

-- what one test counts another counts too
pub tally_sub : (p q : ℕ → Bool) (f : ℕ → ℕ) (n m : ℕ) → ((i : ℕ) → i < n → T (p i) → i < m) → ((i : ℕ) → i < n → T (p i) → T (q i))
    → tally p f n ≤ tally q f m
unfolding tally
tally_sub p q f n m low h =
    le_trans (sum_le _ (λ i. cond (p i) (cond (q i) (f i) 0) 0) n (λ i l. both (p i) (q i) (f i) (h i l))) (tally_sum p (λ i. cond (q i) (f i) 0) n m low)
  where
    both : (a b : Bool) (x : ℕ) → (T a → T b) → cond a x 0 ≤ cond a (cond b x 0) 0
    both true b x h = le_of_eq (sym (if_so b x 0 (h tt)))
    both false b x h = zero-le

-- a test that at most one number passes
pub tally_one : (p : ℕ → Bool) (x n : ℕ) → ((i j : ℕ) → T (p i) → T (p j) → i < j → ⊥) → tally p (λ i. x) n ≤ x
unfolding tally sum
tally_one p x zero h = zero-le
tally_one p x (suc n) h = go (p n) (λ t. tally_none p (λ i. x) n (λ i l u. h i n u t l)) (tally_one p x n h)
  where
    go : (b : Bool) → (T b → tally p (λ i. x) n ≡ 0) → tally p (λ i. x) n ≤ x → tally p (λ i. x) n + cond b x 0 ≤ x
    go true k ih = omega (arith, k tt)
    go false k ih = omega arith
