-- Lists of one length put behind each other, and the parts that they are.
use Rattle.std.specs.Prelude.{◌≡◌, length, get_or, take, drop}
use Rattle.std.proofs.Math.Path.{refl, sym, ap, ap₂}
use Rattle.std.proofs.Common.{◌∙◌, mul-zero, le_of_suc-le-suc, not-suc-le-zero, eq-or-lt_of_le, arith, length-drop, drop_at, get_or-take, get_or-drop}
use mathlib.Core.List.{List, [], ◌++◌, append_assoc, append-nil}
use Rattle.std.proofs.Math.Logic.{⊎_elim}
use Prim.Native.Nat.{ℕ, zero, suc, ◌+◌, ◌*◌, ◌≤◌, ◌<◌}
use Rattle.std.proofs.Math.Nat.{mul-suc}
use Rattle.std.proofs.Math.Numerals.{add-one}
use Rattle.std.proofs.Math.ListN.{length-append}
use Rattle.std.proofs.Math.Seq.{take_at}

module _ {A : Type 0} where
  -- the list f 0, behind it f 1, .. f (n - 1)
  unfoldable pub joined : ℕ → (ℕ → List A) → List A
  joined zero f = []
  joined (suc n) f = joined n f ++ f n

  -- the k elements of a list from place a on
  abbrev pub stretch : ℕ → ℕ → List A → List A
  stretch a k l = take k (drop a l)

  -- the i-th of its parts of k elements
  abbrev pub part : ℕ → ℕ → List A → List A
  part k i l = stretch (k * i) k l

  -- n lists of k elements joined in the place of the first elements of a list
  abbrev pub joined_over : ℕ → ℕ → (ℕ → List A) → List A → List A
  joined_over k n f l = joined n f ++ drop (k * n) l

  pub get_d_part : (k i j : ℕ) (l : List A) (d : A) → j < k → get_or (part k i l) j d ≡ get_or l (k * i + j) d
  get_d_part k i j l d h = get_or-take k (drop (k * i) l) j d h ∙ get_or-drop (k * i) l j d

  -- one list of the same lists
  pub joined_same : (n : ℕ) (f g : ℕ → List A) → ((i : ℕ) → i < n → f i ≡ g i) → joined n f ≡ joined n g
  unfolding joined
  joined_same zero f g h = refl
  joined_same (suc n) f g h = ap₂ ◌++◌ (joined_same n f g (λ i b. h i (omega arith))) (h n (omega arith))

  module _ (k : ℕ) (f : ℕ → List A) (each : (i : ℕ) → length (f i) ≡ k) where
    pub length_joined : (n : ℕ) → length (joined n f) ≡ k * n
    unfolding joined
    length_joined zero = sym (mul-zero k)
    length_joined (suc n) = length-append (joined n f) (f n) ∙ omega (arith, length_joined n, each n, mul-suc k n)

    pub joined_next : (n : ℕ) → joined (n + 1) f ≡ joined n f ++ f n
    unfolding joined
    joined_next n = rw add-one

    -- each of them is found where it stands, whatever stands behind them all
    pub part_joined : (n i : ℕ) (t : List A) → i < n → part k i (joined n f ++ t) ≡ f i
    unfolding joined
    part_joined zero i t h = absurd (not-suc-le-zero h)
    part_joined (suc n) i t h =
        ap (part k i) (append_assoc (joined n f) (f n) t)
        ∙ ⊎_elim
        (λ (e : i ≡ n). rw e (ap (take k) (drop_at (joined n f) (f n ++ t) (k * n) (length_joined n)) ∙ take_at (f n) t k (each n)))
        (λ (l : i < n). part_joined n i (f n ++ t) l)
        (eq-or-lt_of_le (le_of_suc-le-suc h))

    pub joined_part : (n i : ℕ) → i < n → part k i (joined n f) ≡ f i
    joined_part n i h = ap (part k i) (sym (append-nil (joined n f))) ∙ part_joined n i [] h

    pub get_or_joined : (n i j : ℕ) (d : A) → i < n → j < k → get_or (joined n f) (k * i + j) d ≡ get_or (f i) j d
    get_or_joined n i j d h l = sym (get_d_part k i j (joined n f) d l) ∙ ap (λ (x : List A). get_or x j d) (joined_part n i h)

    pub length_over : (n : ℕ) (l : List A) → k * n ≤ length l → length (joined_over k n f l) ≡ length l
    length_over n l h = length-append (joined n f) (drop (k * n) l) ∙ omega (arith, length_joined n, length-drop (k * n) l)

    pub get_d_over : (n i j : ℕ) (l : List A) (d : A) → i < n → j < k → get_or (joined_over k n f l) (k * i + j) d ≡ get_or (f i) j d
    get_d_over n i j l d h b =
        sym (get_d_part k i j (joined_over k n f l) d b) ∙ ap (λ (x : List A). get_or x j d) (part_joined n i (drop (k * n) l) h)
