-- Lists by their elements.
use Rattle.std.specs.Prelude.{◌≡◌, cond, eqb, length, get_or, set, replicate}
use Rattle.std.proofs.Math.Path.{refl, ap, ap₂}
use Rattle.std.proofs.Common.{sym, ◌∙◌, le_of_suc-le-suc, not-suc-le-zero, zero-lt-suc, arith, get_or-set_same, get_or-set_other, ext_get_or, below_more, eq-eqb, ne_eqb}
use mathlib.Core.List.{List, [], ◌∷◌}
use Prim.Native.Nat.{ℕ, zero, suc, ◌+◌, ◌<◌, suc-le-suc}

module _ {A : Type 0} where
  -- f 0, f 1, .. f (n - 1)
  unfoldable pub tab : ℕ → (ℕ → A) → List A
  tab zero f = []
  tab (suc n) f = f 0 ∷ tab n (λ i. f (suc i))

  pub length_tab : (n : ℕ) (f : ℕ → A) → length (tab n f) ≡ n
  unfolding tab
  length_tab zero f = refl
  length_tab (suc n) f = ap suc (length_tab n (λ i. f (suc i)))

  pub get_or_tab : (n : ℕ) (f : ℕ → A) (i : ℕ) (d : A) → i < n → get_or (tab n f) i d ≡ f i
  unfolding tab
  get_or_tab zero f i d h = absurd (not-suc-le-zero h)
  get_or_tab (suc n) f zero d h = refl
  get_or_tab (suc n) f (suc i) d h = get_or_tab n (λ j. f (suc j)) i d (le_of_suc-le-suc h)

  -- a list with those elements is that list
  pub is_tab : (n : ℕ) (f : ℕ → A) (l : List A) (d : A) → length l ≡ n → ((i : ℕ) → i < n → get_or l i d ≡ f i) → l ≡ tab n f
  is_tab n f l d e h =
      ext_get_or d l (tab n f) (e ∙ sym (length_tab n f)) (λ i p. h i (omega arith) ∙ sym (get_or_tab n f i d (omega arith)))

  -- what holds of each element, and of what stands past the end, holds at each place
  pub tab_at : (P : A → Type 0) (n : ℕ) (f : ℕ → A) (d : A) → P d → ((i : ℕ) → i < n → P (f i)) → (i : ℕ) → P (get_or (tab n f) i d)
  unfolding tab
  tab_at P zero f d z h i = z
  tab_at P (suc n) f d z h zero = h 0 (zero-lt-suc n)
  tab_at P (suc n) f d z h (suc i) = tab_at P n (λ j. f (suc j)) d z (λ j l. h (suc j) (suc-le-suc l)) i

  -- one list for the same elements
  pub tab_same : (n : ℕ) (f g : ℕ → A) → ((i : ℕ) → i < n → f i ≡ g i) → tab n f ≡ tab n g
  unfolding tab
  tab_same zero f g h = refl
  tab_same (suc n) f g h =
      ap₂ (λ (x : A) (l : List A). x ∷ l) (h 0 (zero-lt-suc n)) (tab_same n (λ j. f (suc j)) (λ j. g (suc j)) (λ j l. h (suc j) (suc-le-suc l)))

  -- one more element, from the front
  pub filled_more : (f : ℕ → A) (l : List A) (i : ℕ) (v d : A) → i < length l → v ≡ f i
      → ((k : ℕ) → k < i → get_or l k d ≡ f k)
      → (k : ℕ) → k < i + 1 → get_or (set l i v) k d ≡ f k
  filled_more f l i v d h e old =
      below_more _ _ (λ k p. get_or-set_other l i k v d (λ q. omega arith) ∙ old k p) (get_or-set_same l i v d h ∙ e)

  -- the same everywhere, past the end too
  pub get_or_replicated : (n i : ℕ) (a : A) → get_or (replicate n a) i a ≡ a
  get_or_replicated zero i a = refl
  get_or_replicated (suc n) zero a = refl
  get_or_replicated (suc n) (suc i) a = get_or_replicated n i a

  -- f, but v at place i
  abbrev pub placing : ℕ → A → (ℕ → A) → ℕ → A
  placing i v f j = cond (eqb j i) v (f j)

  pub placing_there : (i : ℕ) (v : A) (f : ℕ → A) → placing i v f i ≡ v
  placing_there i v f = rw (eq-eqb i i refl)

  pub placing_aside : (i j : ℕ) (v : A) (f : ℕ → A) → (j ≡ i → ⊥) → placing i v f j ≡ f j
  placing_aside i j v f n = rw (ne_eqb j i n)

-- k numbers of a list from place a on, with 0 for those past its end
abbrev pub stretch_of : ℕ → ℕ → List ℕ → List ℕ
stretch_of a k l = tab k (λ j. get_or l (a + j) 0)
