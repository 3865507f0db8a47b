-- A list cut or filled up to a length.
use Rattle.std.specs.Prelude.{◌≡◌, refl, List, [], ◌∷◌, ◌++◌, ◌↔◌, get_or, set, take}
use Rattle.std.proofs.Math.Path.{sym, ap}
use Rattle.std.proofs.Common.{subst, ◌∙◌, append_assoc, not-suc-le-zero, add-one, arith}
use Prim.Native.Nat.{ℕ, zero, suc, ◌+◌, ◌≤◌, ◌<◌}
use Rattle.std.proofs.Math.ListN.{length, replicate, length-append, length-replicate}
use Rattle.std.proofs.lemmas.List.{replicate-append-replicate}
use Rattle.std.proofs.Math.Seq.{length-take-le, take_all, take-append-le, take-set-lt, set-append_seam, get_or-take}
use Rattle.numbers.specs.Every.{Every, every_at, every_from}
use Rattle.numbers.specs.Tab.{get_or_replicated}

module _ {A : Type 0} where
  -- the first n of a list, filled up with z
  unfoldable pub padded : ℕ → A → List A → List A
  padded n z xs = take n (xs ++ replicate n z)

  pub length_padded : (n : ℕ) (z : A) (xs : List A) → length (padded n z xs) ≡ n
  unfolding padded
  length_padded n z xs = length-take-le n (xs ++ replicate n z) (omega (arith, length-append xs (replicate n z), length-replicate n z))

  get_or_filled : (n : ℕ) (z : A) (xs : List A) (i : ℕ) → get_or (xs ++ replicate n z) i z ≡ get_or xs i z
  get_or_filled n z [] i = get_or_replicated n i z
  get_or_filled n z (x ∷ xs) zero = refl
  get_or_filled n z (x ∷ xs) (suc i) = get_or_filled n z xs i

  pub get_or_padded : (n : ℕ) (z : A) (xs : List A) (i : ℕ) → i < n → get_or (padded n z xs) i z ≡ get_or xs i z
  unfolding padded
  get_or_padded n z xs i h = get_or-take n (xs ++ replicate n z) i z h ∙ get_or_filled n z xs i

  pub padded_none : (n : ℕ) (z : A) → padded n z [] ≡ replicate n z
  unfolding padded
  padded_none n z = take_all n (replicate n z) (omega (arith, length-replicate n z))

  -- what fills a list up to n and beyond does not matter
  fill : (n m : ℕ) (z : A) (ys : List A) → n ≤ length ys + m → take n (ys ++ replicate m z) ≡ take n (ys ++ replicate (suc m) z)
  fill n m z ys h =
      let l : n ≤ length (ys ++ replicate m z) = omega (arith, length-append ys (replicate m z), length-replicate m z) in
      sym (take-append-le n (ys ++ replicate m z) (z ∷ []) l)
      ∙ ap (take n) (append_assoc ys (replicate m z) (z ∷ []) ∙ ap (λ (t : List A). ys ++ t) (replicate-append-replicate m 1 z ∙ rw add-one))

  -- one element more behind a list is stored at its place where there is room
  pub padded_more : (n : ℕ) (z : A) (xs : List A) (x : A) → length xs < n → set (padded n z xs) (length xs) x ≡ padded n z (xs ++ (x ∷ []))
  unfolding padded
  padded_more zero z xs x h = absurd (not-suc-le-zero h)
  padded_more (suc k) z xs x h =
      sym (take-set-lt (suc k) (xs ++ (z ∷ replicate k z)) (length xs) x h)
      ∙ ap (take (suc k)) (set-append_seam xs z (replicate k z) x ∙ sym (append_assoc xs (x ∷ []) (replicate k z)))
      ∙ fill (suc k) k z (xs ++ (x ∷ [])) (omega (arith, length-append xs (x ∷ [])))

  -- and is cut off where there is none
  pub padded_full : (n : ℕ) (z : A) (xs : List A) (x : A) → n ≤ length xs → padded n z (xs ++ (x ∷ [])) ≡ padded n z xs
  unfolding padded
  padded_full n z xs x h =
      let l : n ≤ length (xs ++ (x ∷ [])) = omega (arith, length-append xs (x ∷ [])) in
      take-append-le n (xs ++ (x ∷ [])) (replicate n z) l ∙ take-append-le n xs (x ∷ []) h ∙ sym (take-append-le n xs (replicate n z) h)

  -- a list that has room: at each place what the list has there, and z behind it
  filled_at : (n m : ℕ) (z : A) (xs : List A) (k : ℕ) → length xs ≤ n → get_or (take n (xs ++ replicate m z)) k z ≡ get_or xs k z
  filled_at zero m z [] k h = refl
  filled_at (suc n) zero z [] k h = refl
  filled_at (suc n) (suc m) z [] zero h = refl
  filled_at (suc n) (suc m) z [] (suc k) h = filled_at n m z [] k (omega arith)
  filled_at zero m z (x ∷ xs) k h = absurd (omega arith)
  filled_at (suc n) m z (x ∷ xs) zero h = refl
  filled_at (suc n) m z (x ∷ xs) (suc k) h = filled_at n m z xs k (omega arith)

  pub padded_at : (n : ℕ) (z : A) (xs : List A) (k : ℕ) → length xs ≤ n → get_or (padded n z xs) k z ≡ get_or xs k z
  unfolding padded
  padded_at n z xs k h = filled_at n n z xs k h

  -- so what holds of z holds of every element of it exactly where it holds of every element of the list
  pub every_padded : (n : ℕ) (z : A) (P : A → Type 0) → P z → (xs : List A) → length xs ≤ n → Every P (padded n z xs) ↔ Every P xs
  every_padded n z P p xs h = (
    λ e. every_from P z xs (λ k l. subst P (padded_at n z xs k h) (every_at P z (padded n z xs) p e k)),
    λ e. every_from P z (padded n z xs) (λ k l. subst P (sym (padded_at n z xs k h)) (every_at P z xs p e k)),
  )
