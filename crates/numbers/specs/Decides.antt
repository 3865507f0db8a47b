-- What it is for a flag to answer a question.
use Rattle.std.specs.Prelude.{◌≡◌, refl, Bool, true, false, not, ◌&&◌, ◌↔◌, ℕ, ◌≤◌, T, eqb, leb}
use Rattle.std.proofs.Common.{sym, subst, eqb→eq, leb→le, le→leb, eq-eqb}

-- the flag r is true exactly when P holds
abbrev pub Decides : Type 0 → Bool → Type 0
Decides P r = T r ↔ P

pub decides_unique : {P : Type 0} (r s : Bool) → Decides P r → Decides P s → r ≡ s
decides_unique true true p q = refl
decides_unique true false p q = absurd (q.1 (p.0 tt))
decides_unique false true p q = absurd (p.1 (q.0 tt))
decides_unique false false p q = refl

pub decides_yes : {P : Type 0} → P → Decides P true
decides_yes p = ((λ t. p), (λ q. tt))

pub decides_no : {P : Type 0} → (P → ⊥) → Decides P false
decides_no n = ((λ t. absurd t), (λ p. n p))

-- the other answer is that P does not hold
pub decides_not : {P : Type 0} (r : Bool) → Decides P r → Decides (P → ⊥) (not r)
decides_not true d = ((λ t. absurd t), (λ n. n (d.0 tt)))
decides_not false d = ((λ t p. d.1 p), (λ n. tt))

-- a test of equal numbers, for a question that comes to it
pub decides_eqb : {P : Type 0} (a b : ℕ) → (a ≡ b) ↔ P → Decides P (eqb a b)
decides_eqb a b i = ((λ t. i.0 (eqb→eq a b t)), (λ p. rw (eq-eqb a b (i.1 p)) tt))

-- two questions in one
pub decides_and : {P Q : Type 0} (r s : Bool) → Decides P r → Decides Q s → Decides (P × Q) (r && s)
decides_and true s p q = ((λ t. (p.0 tt, q.0 t)), (λ w. q.1 w.1))
decides_and false s p q = ((λ t. absurd t), (λ w. p.1 w.0))

pub decides_leb : (a b : ℕ) → Decides (a ≤ b) (leb a b)
decides_leb a b = ((λ t. leb→le a b t), (λ h. le→leb a b h))

-- an answer to whether a is at most b is that test
pub leb_is : (a b : ℕ) (r : Bool) → Decides (a ≤ b) r → leb a b ≡ r
leb_is a b r d = decides_unique (leb a b) r (decides_leb a b) d

-- what the flag says
pub decides_true : {P : Type 0} {r : Bool} → Decides P r → r ≡ true → P
decides_true d e = d.0 (subst T (sym e) tt)

pub decides_false : {P : Type 0} {r : Bool} → Decides P r → r ≡ false → P → ⊥
decides_false d e p = subst T e (d.1 p)
