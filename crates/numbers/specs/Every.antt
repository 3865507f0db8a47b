-- What holds of each element of a list.
use Rattle.std.specs.Prelude.{List, [], ◌∷◌, ◌++◌, ℕ, zero, suc, ◌<◌, length, get_or}
use Rattle.std.proofs.Common.{arith}

-- every element of the list has the property P
abbrev pub Every : {A : Type 0} → (A → Type 0) → List A → Type 0
Every P [] = Unit {0}
Every P (x ∷ xs) = P x × Every P xs

-- so the one at each place has it, and where each has it, every element does
pub every_at : {A : Type 0} (P : A → Type 0) (z : A) (xs : List A) → P z → Every P xs → (k : ℕ) → P (get_or xs k z)
every_at P z [] p e k = p
every_at P z (x ∷ xs) p e zero = e.0
every_at P z (x ∷ xs) p e (suc k) = every_at P z xs p e.1 k

pub every_from : {A : Type 0} (P : A → Type 0) (z : A) (xs : List A) → ((k : ℕ) → k < length xs → P (get_or xs k z)) → Every P xs
every_from P z [] h = tt
every_from P z (x ∷ xs) h = (h 0 (omega arith), every_from P z xs (λ k l. h (suc k) (omega arith)))

-- of two lists one behind the other
pub every_append : {A : Type 0} (P : A → Type 0) (xs ys : List A) → Every P xs → Every P ys → Every P (xs ++ ys)
every_append P [] ys h g = g
every_append P (x ∷ xs) ys h g = (h.0, every_append P xs ys h.1 g)

pub every_behind : {A : Type 0} (P : A → Type 0) (xs ys : List A) → Every P (xs ++ ys) → Every P ys
every_behind P [] ys h = h
every_behind P (x ∷ xs) ys h = every_behind P xs ys h.1

-- and of a property that follows from P
pub every_weaker : {A : Type 0} (P Q : A → Type 0) → ((x : A) → P x → Q x) → (xs : List A) → Every P xs → Every Q xs
every_weaker P Q f [] h = tt
every_weaker P Q f (x ∷ xs) h = (f x h.0, every_weaker P Q f xs h.1)
