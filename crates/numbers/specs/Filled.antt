-- A list that is filled from the front.
use Rattle.std.specs.Prelude.{◌≡◌, List, ℕ, ◌+◌, ◌≤◌, ◌<◌, length, get_or, set, replicate}
use Rattle.std.proofs.Common.{sym, subst, ◌∙◌, zero-le, le_refl, not-suc-le-zero, arith, below_more, length-set, get_or-set_same, get_or-set_other}
use Rattle.std.proofs.lemmas.List.{length-replicate, get_or-replicate}
use Rattle.numbers.specs.Tab.{tab, is_tab}

-- of the n elements the first i have the property that P asks at their places, and those behind them are y; z is what stands past the end
pub record Filled {A : Type 0} (n : ℕ) (P : ℕ → A → Type 0) (y z : A) (l : List A) (i : ℕ) : Type 0 where
  pub long : length l ≡ n
  pub within : i ≤ n
  pub each : (k : ℕ) → k < i → P k (get_or l k z)
  pub ahead : (k : ℕ) → i ≤ k → k < n → get_or l k z ≡ y

-- the first i are f 0, f 1, .. and z stands behind them
abbrev pub FilledBy : {A : Type 0} → ℕ → (ℕ → A) → A → List A → ℕ → Type 0
FilledBy n f z = Filled n (λ k v. v ≡ f k) z z

module _ {A : Type 0} (n : ℕ) (P : ℕ → A → Type 0) (y z : A) where
  pub filled_none : Filled n P y z (replicate n y) 0
  filled_none =
      record {
        long = length-replicate n y;
        within = zero-le;
        each = λ k h. absurd (not-suc-le-zero h);
        ahead = λ k h l. get_or-replicate n k y z l;
      }

  -- one element more: set, or already there
  pub filled_set : (l : List A) (i : ℕ) (v : A) → i < n → P i v → Filled n P y z l i → Filled n P y z (set l i v) (i + 1)
  filled_set l i v h p f =
      record {
        long = length-set l i v ∙ f.long;
        within = omega arith;
        each = below_more (λ k. P k (get_or (set l i v) k z)) i
            (λ k b. subst (P k) (sym (get_or-set_other l i k v z (λ e. omega arith))) (f.each k b))
            (subst (P i) (sym (get_or-set_same l i v z (omega (arith, f.long)))) p);
        ahead = λ k g b. get_or-set_other l i k v z (λ e. omega arith) ∙ f.ahead k (omega arith) b;
      }

  pub filled_left : (l : List A) (i : ℕ) → i < n → P i y → Filled n P y z l i → Filled n P y z l (i + 1)
  filled_left l i h p f =
      record {
        long = f.long;
        within = omega arith;
        each = below_more (λ k. P k (get_or l k z)) i f.each (subst (P i) (sym (f.ahead i (le_refl i) h)) p);
        ahead = λ k g. f.ahead k (omega arith);
      }

  -- all of them
  pub filled_whole : (l : List A) → length l ≡ n → ((k : ℕ) → k < n → P k (get_or l k z)) → Filled n P y z l n
  filled_whole l e h = record { long = e; within = le_refl n; each = h; ahead = λ k g b. absurd (omega arith) }

pub filled_all : {A : Type 0} (n : ℕ) (f : ℕ → A) (z : A) (l : List A) (i : ℕ) → n ≤ i → FilledBy n f z l i → l ≡ tab n f
filled_all n f z l i h p = is_tab n f l z p.long (λ k g. p.each k (omega arith))
