-- A list that is filled, or found to be filled, from the front.
use mathlib.Core.Path.{◌≡◌, refl, sym, ap, ap₂, subst, ◌∙◌}
use mathlib.Core.List.{List, [], ◌++◌, append_assoc, append-nil}
use mathlib.Core.Logic.{◌⊎◌, inl, inr}
use Prim.Native.Nat.{ℕ, zero, suc, ◌+◌, ◌-◌, ◌*◌, ◌≤◌, ◌<◌}
use native.Mathlib.Nat.{add-zero, add-suc, mul-zero, mul-suc, mul-le-mul_left, le_of_eq, le_of_suc-le-suc, not-suc-le-zero, eq-or-lt_of_le}
use native.Mathlib.Numerals.{add-one}
use native.Mathlib.Omega.{arith}
use lib.ListN.{length, get_or, take, drop, length-append, length-take, length-drop, drop_of_length-le, replicate, replicate-append-replicate}
use lib.Seq.{get_or-take, get_or-drop, take_at, drop_at, take_all, take-append-le, drop-append-le, take-append-add, drop-append-add, drop-drop, take-add, sets, sets-eq}
use borrow.Rule.Slice.PartMut.{put_mid}
use Rattle.numbers.specs.Tab.{is_tab, stretch_of}
use Rattle.numbers.specs.Joined.{joined, joined_over, part, joined_next, joined_same, length_joined, get_or_joined}

-- w has n elements, and begins with p
pub record Laid {A : Type 0} (n : ℕ) (p w : List A) : Type 0 where
  pub long : length w ≡ n
  pub laid : take (length p) w ≡ p

module _ {A : Type 0} {n : ℕ} where
  pub laid_none : {w : List A} → length w ≡ n → Laid n [] w
  laid_none e = record { long = e; laid = refl }

  pub laid_all : {p w : List A} → Laid n p w → length p ≡ n → w ≡ p
  laid_all {p} {w} l e = sym (take_all (length p) w (omega (arith, l.long))) ∙ l.laid

  -- b is put behind p, or stands there
  pub laid_put : {p w b v : List A} (a k : ℕ) → b ≡ v → Laid n p w → length p ≡ a → length v ≡ k → a + k ≤ n → Laid n (p ++ v) (put_mid a k w b)
  laid_put {p} {w} {b} {v} a k q l e g h =
      let rest = drop k (drop a w) in
      let front : take a w ≡ p = ap (λ (j : ℕ). take j w) (sym e) ∙ l.laid in
      record {
        long =
            length-append (take a w) (b ++ rest)
            ∙ omega (arith, l.long, length-append b rest, length-take a w, length-drop k (drop a w), length-drop a w, ap length q);
        laid =
            ap (take (length (p ++ v))) (ap₂ (λ (x y : List A). x ++ (y ++ rest)) front q ∙ sym (append_assoc p v rest))
            ∙ take_at (p ++ v) rest (length (p ++ v)) refl;
      }

  pub laid_same : {p w : List A} (a k : ℕ) (b : List A) → Laid n p w → length p ≡ a → length b ≡ k → take k (drop a w) ≡ b → Laid n (p ++ b) w
  laid_same {p} {w} a k b l e g h =
      let front : take a w ≡ p = ap (λ (j : ℕ). take j w) (sym e) ∙ l.laid in
      record {
        long = l.long;
        laid = ap (λ (j : ℕ). take j w) (length-append p b ∙ ap₂ ◌+◌ e g) ∙ take-add a k w ∙ ap₂ ◌++◌ front h;
      }

-- a list whose two parts are put one after the other
pub put_two : {A : Type 0} (a k : ℕ) (p q w x y : List A) → length w ≡ a + k → length p ≡ a → length q ≡ k → x ≡ p → y ≡ q → put_mid a k (put_mid 0 a w x) y ≡ p ++ q
put_two a k p q w x y h e g f s =
    laid_all (laid_put a k s (laid_put 0 a f (laid_none h) refl e (omega arith)) e g (omega arith)) (length-append p q ∙ ap₂ ◌+◌ e g)

-- the same of n parts of k elements: in the first i of them stand the first i of the lists that are joined
abbrev pub Begun : {A : Type 0} → ℕ → (ℕ → List A) → ℕ → List A → ℕ → Type 0
Begun k f n w i = Laid (k * n) (joined i f) w

module _ {A : Type 0} (k : ℕ) (f : ℕ → List A) (each : (i : ℕ) → length (f i) ≡ k) (n : ℕ) where
  pub begun_none : (w : List A) → length w ≡ k * n → Begun k f n w 0
  unfolding joined
  begun_none w e = laid_none e

  pub begun_put : (w b : List A) (i : ℕ) → i < n → b ≡ f i → Begun k f n w i → Begun k f n (put_mid (k * i) (k * i + k - k * i) w b) (i + 1)
  begun_put w b i h g l =
      let wide : k * i + k - k * i ≡ k = omega arith in
      rw (joined_next k f each i, wide)
      (laid_put (k * i) k g l (length_joined k f each i) (each i) (omega (arith, mul-le-mul_left k h, mul-suc k i)))

  pub begun_all : (w : List A) (i : ℕ) → i ≡ n → Begun k f n w i → w ≡ joined n f
  begun_all w i e l = laid_all (subst (λ (j : ℕ). Begun k f n w j) e l) (length_joined k f each n)

-- and of a list of which no more is known: what stands behind the lists that are joined is as it stood
pub over_put : {A : Type 0} (k : ℕ) (f : ℕ → List A) (each : (i : ℕ) → length (f i) ≡ k) (l w b : List A) (i : ℕ) → b ≡ f i → w ≡ joined_over k i f l
    → put_mid (k * i) (k * i + k - k * i) w b ≡ joined_over k (i + 1) f l
over_put k f each l w b i g e =
    let wide : k * i + k - k * i ≡ k = omega arith in
    let past : k * (i + 1) ≡ k * i + k = rw add-one (mul-suc k i) in
    rw (e, g, wide, past, joined_next k f each i)
    (ap₂ (λ x y. x ++ (f i ++ drop k y)) (take_at (joined i f) (drop (k * i) l) (k * i) (length_joined k f each i)) (drop_at (joined i f) (drop (k * i) l) (k * i) (length_joined k f each i))
    ∙ rw (drop-drop, append_assoc))

-- part i, by its two ends
pub part_is : {A : Type 0} (k i : ℕ) (l : List A) → take (k * i + k - k * i) (drop (k * i) l) ≡ part k i l
part_is k i l = let e : k * i + k - k * i ≡ k = omega arith in ap (λ (n : ℕ). take n (drop (k * i) l)) e

-- numbers stored one by one fill a list that is as long
pub stored : (vs l : List ℕ) → length l ≡ length vs → sets l 0 vs ≡ vs
stored vs l h =
    sets-eq vs l 0 (omega arith)
    ∙ ap (λ (t : List ℕ). vs ++ t) (drop_of_length-le l {i = 0 + length vs} (omega arith)) ∙ append-nil vs

-- a list whose first parts are those that are joined begins with them
pub parts_joined : {A : Type 0} (k : ℕ) (f : ℕ → List A) (l : List A) (n : ℕ) → ((i : ℕ) → i < n → part k i l ≡ f i) → take (k * n) l ≡ joined n f
unfolding joined
parts_joined k f l zero h = rw (mul-zero k) refl
parts_joined k f l (suc n) h = rw (mul-suc k n) (take-add (k * n) k l ∙ ap₂ ◌++◌ (parts_joined k f l n (λ i b. h i (omega arith))) (h n (omega arith)))

module _ {A : Type 0} where
  -- a list in the place of k elements, of the first of two lists and of the second
  pub put_first : (a k : ℕ) (xs ys v : List A) → a + k ≤ length xs → put_mid a k (xs ++ ys) v ≡ put_mid a k xs v ++ ys
  put_first a k xs ys v h =
      let rest : drop k (drop a (xs ++ ys)) ≡ drop k (drop a xs) ++ ys
      = ap (drop k) (drop-append-le a xs ys (omega arith)) ∙ drop-append-le k (drop a xs) ys (omega (arith, length-drop a xs)) in
      ap₂ (λ (x y : List A). x ++ (v ++ y)) (take-append-le a xs ys (omega arith)) rest ∙ simp append_assoc

  pub put_second : (a k : ℕ) (xs ys v : List A) → put_mid (length xs + a) k (xs ++ ys) v ≡ xs ++ put_mid a k ys v
  put_second a k xs ys v =
      ap₂ (λ (x y : List A). x ++ (v ++ drop k y)) (take-append-add xs ys a) (drop-append-add xs ys a) ∙ append_assoc xs (take a ys) _

  -- of lists that are joined another one in the place of the i-th
  pub joined_put : (k n i : ℕ) (f g : ℕ → List A) → ((j : ℕ) → length (f j) ≡ k) → i < n → ((j : ℕ) → j < n → (j ≡ i → ⊥) → f j ≡ g j)
      → put_mid (k * i) k (joined n f) (g i) ≡ joined n g
  unfolding joined
  joined_put k zero i f g each h same = absurd (not-suc-le-zero h)
  joined_put k (suc n) i f g each h same = go (eq-or-lt_of_le (le_of_suc-le-suc h)) (joined_put k n i f g each)
    where
      go : (i ≡ n) ⊎ (i < n) → (i < n → ((j : ℕ) → j < n → (j ≡ i → ⊥) → f j ≡ g j) → put_mid (k * i) k (joined n f) (g i) ≡ joined n g)
          → put_mid (k * i) k (joined n f ++ f n) (g i) ≡ joined n g ++ g n
      go (inl e) next =
          let front : take (k * n) (joined n f ++ f n) ≡ joined n g
          = take_at (joined n f) (f n) (k * n) (length_joined k f each n) ∙ joined_same n f g (λ j b. same j (omega arith) (λ d. omega arith)) in
          let rest : drop k (drop (k * n) (joined n f ++ f n)) ≡ []
          = ap (drop k) (drop_at (joined n f) (f n) (k * n) (length_joined k f each n)) ∙ drop_of_length-le (f n) {i = k} (le_of_eq (each n)) in
          rw e (ap₂ (λ (x y : List A). x ++ (g n ++ y)) front rest ∙ ap (λ (y : List A). joined n g ++ y) (append-nil (g n)))
      go (inr l) next =
          put_first (k * i) k (joined n f) (f n) (g i) (omega (arith, length_joined k f each n, mul-le-mul_left k l, mul-suc k i))
          ∙ ap₂ ◌++◌ (next l (λ j b. same j (omega arith))) (same n (omega arith) (λ e. omega arith))

-- a stretch of a list, by its two ends, is its numbers
pub stretch_is : (a e k : ℕ) (l : List ℕ) → e ≡ a + k → e ≤ length l → take (e - a) (drop a l) ≡ stretch_of a k l
stretch_is a e k l w h =
    let wide : e - a ≡ k = omega arith in
    ap (λ (n : ℕ). take n (drop a l)) wide
    ∙ is_tab k (λ j. get_or l (a + j) 0) (take k (drop a l)) 0 (length-take k (drop a l) ∙ simp length-drop (omega arith)) (λ j b. get_or-take k (drop a l) j 0 b ∙ get_or-drop a l j 0)

-- so is part i of n
pub part_stretch : (k n i : ℕ) (l : List ℕ) → length l ≡ k * n → i < n → take (k * i + k - k * i) (drop (k * i) l) ≡ stretch_of (k * i) k l
part_stretch k n i l e h = stretch_is (k * i) (k * i + k) k l refl (omega (arith, mul-le-mul_left k h, mul-suc k i))

-- and of lists that are joined it is one of them
pub stretch_joined : (k n i : ℕ) (f : ℕ → List ℕ) → ((j : ℕ) → length (f j) ≡ k) → i < n → stretch_of (k * i) k (joined n f) ≡ f i
stretch_joined k n i f each h = sym (is_tab k (λ j. get_or (joined n f) (k * i + j) 0) (f i) 0 (each i) (λ j b. sym (get_or_joined k f each n i j 0 h b)))

-- lists that are joined, of which those from m on are all 0
pub joined_zeros : (k m d : ℕ) (f : ℕ → List ℕ) → ((i : ℕ) → m ≤ i → i < m + d → f i ≡ replicate k 0) → joined (m + d) f ≡ joined m f ++ replicate (k * d) 0
unfolding joined
joined_zeros k m zero f h = rw (add-zero m, mul-zero k) (sym (append-nil (joined m f)))
joined_zeros k m (suc d) f h =
    ap (λ (n : ℕ). joined n f) (add-suc m d)
    ∙ ap₂ ◌++◌ (joined_zeros k m d f (λ i a b. h i a (omega arith))) (h (m + d) (omega arith) (omega arith))
    ∙ append_assoc (joined m f) (replicate (k * d) 0) (replicate k 0)
    ∙ ap (λ (l : List ℕ). joined m f ++ l) (replicate-append-replicate (k * d) k 0 ∙ ap (λ (n : ℕ). replicate {A = ℕ} n 0) (sym (mul-suc k d)))
