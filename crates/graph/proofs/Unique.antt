-- A mode is judged in one way only. Assumes nothing.
use mathlib.Core.Path.{◌≡◌, refl, sym, ap, subst, ◌∙◌}
use mathlib.Core.Bool.{Bool, true, false, cond, ◌&&◌}
use mathlib.Core.List.{List}
use Rattle.std.specs.Prelude.{Result, Ok, Err}
use mathlib.Core.Logic.{◌⊎◌, inl, inr}
use Prim.Native.Nat.{ℕ, ◌<◌}
use native.Mathlib.Nat.{le_antisymm, not-le_of_lt}
use native.Mathlib.Omega.{arith}
use lib.Dec.{eqb}
use lib.ListN.{get_or}
use lib.Seq.{ext_get_or}
use Rattle.numbers.specs.Bits.{Has, hasb, bit, has_decides, has_or_not}
use Rattle.numbers.specs.Decides.{decides_true}
use Rattle.numbers.specs.Extreme.{greatest_unique}
use Rattle.numbers.specs.Fraction.{AtMost, sum_alike, nothing}
use Rattle.numbers.specs.Tab.{tab_same}
use Rattle.units.specs.Ticks.{tick}
use Rattle.units.specs.declared.Tick.{Tick}
use Rattle.units.specs.Limits.{ACTORS, LOAD_LIMIT}
use Rattle.units.specs.Firings.{firing}
use Rattle.period.specs.Period.{period_of}
use Rattle.terms.specs.Place.{number_of}
use Rattle.tables.specs.Shape.{Mode, Active, actor_at}
use Rattle.graph.specs.declared.Fault.{Fault}
use Rattle.graph.specs.declared.Fault.TheVariants.{Overloaded as IsOverloaded}
use Rattle.graph.specs.declared.Judgement.{Judgement}
use Rattle.graph.specs.Order.{Ranked}
use Rattle.graph.specs.Ends.{Only}
use Rattle.graph.specs.Balance.{Smallest, Iteration, firings_of}
use Rattle.graph.specs.Load.{Overloaded, is_on, asked_by, load_of}
use Rattle.graph.specs.Laws.{iteration_one, iteration_same}
use Rattle.graph.specs.Judged.{of_actors, Numbers, Judged, cyclic, no_ends, unbalanced, overloaded, sound}

-- one number at most is the only one
pub only_unique : (P : ℕ → Type 0) {i j : ℕ} → Only P i → Only P j → i ≡ j
only_unique P {i} {j} p q = q.1 i p.0

module _ (m : Mode) where
  -- the same for each active actor, the same for all
  by_actors : {A : Type 0} (f g : ℕ → A) (z : A) (i : ℕ) → i < ACTORS → (Active m i → f i ≡ g i) → cond (hasb m.active i) (f i) z ≡ cond (hasb m.active i) (g i) z
  by_actors f g z i l e = go (hasb m.active i) refl
    where
      go : (b : Bool) → hasb m.active i ≡ b → cond b (f i) z ≡ cond b (g i) z
      go true h = e (l, decides_true (has_decides m.active i) h)
      go false h = refl

  pub of_actors_law : {A : Type 0} (f g : ℕ → A) (z : A) → ((i : ℕ) → Active m i → f i ≡ g i) → of_actors m f z ≡ of_actors m g z
  of_actors_law f g z e = tab_same ACTORS _ _ (λ i l. by_actors f g z i l (e i))

  on_actors : {A : Type 0} (f g : ℕ → A) (z : A) (p i : ℕ) → i < ACTORS → (Active m i → f i ≡ g i) → cond (is_on m p i) (f i) z ≡ cond (is_on m p i) (g i) z
  on_actors f g z p i l e = go (hasb m.active i) refl (actor_at m i).processor
    where
      go : (b : Bool) → hasb m.active i ≡ b → (q : ℕ) → cond (b && eqb q p) (f i) z ≡ cond (b && eqb q p) (g i) z
      go true h q = ap (λ v. cond (eqb q p) v z) (e (l, decides_true (has_decides m.active i) h))
      go false h q = refl

  module _ (x y : ℕ → ℕ) (same : (i : ℕ) → Active m i → x i ≡ y i) where
    load_same : (h : Tick) (p : ℕ) → load_of m x h p ≡ load_of m y h p
    load_same h p = sum_alike _ _ ACTORS (λ i l. on_actors (asked_by m (λ i. period_of h (firings_of m x i))) (asked_by m (λ i. period_of h (firings_of m y i))) nothing p i l (λ a. ap (λ (n : ℕ). asked_by m (λ (k : ℕ). period_of h (firings_of m (λ (j : ℕ). n) k)) i) (same i a)))

    over_same : (h : Tick) (p : ℕ) → Overloaded m x h p → Overloaded m y h p
    over_same h p o = record { processor = o.processor; above = subst (λ f. AtMost f LOAD_LIMIT → ⊥) (load_same h (number_of p)) o.above }

  pub smallest_same : (x y : ℕ → ℕ) → Smallest m x → Smallest m y → (i : ℕ) → Active m i → x i ≡ y i
  smallest_same x y p q i a = le_antisymm (p.least y q.balances i a) (q.least x p.balances i a)

  -- the iteration of the smallest counts
  pub lengths_same : (x y : ℕ → ℕ) {h g : Tick} → Smallest m x → Smallest m y → Iteration m x h → Iteration m y g → h ≡ g
  lengths_same x y p q i j = iteration_one m y (iteration_same m x y (smallest_same x y p q) i) j

  -- what overloads a processor in one reckoning does in the other
  pub over_again : (x y : ℕ → ℕ) {h g : Tick} → Smallest m x → Smallest m y → Iteration m x h → Iteration m y g → (p : ℕ) → Overloaded m x h p → Overloaded m y g p
  over_again x y {h} {g} p q i j n o = subst (λ t. Overloaded m y t n) (lengths_same x y p q i j) (over_same x y (smallest_same x y p q) h n o)

  depths_same : (a b : List ℕ) → Ranked m a → Ranked m b → a ≡ b
  depths_same a b p q =
      ext_get_or 0 a b (p.long ∙ sym q.long) (λ i l. at i (omega (arith, p.long)) (has_or_not m.active i))
    where
      at : (i : ℕ) → i < ACTORS → Has m.active i ⊎ (bit m.active i ≡ 0) → get_or a i 0 ≡ get_or b i 0
      at i l (inl h) = greatest_unique _ (p.depth i (l, h)) (q.depth i (l, h))
      at i l (inr n) = let no : Active m i → ⊥ = λ w. omega (arith, w.1) in p.no_depth i l no ∙ sym (q.no_depth i l no)

  numbers_unique : (x y : ℕ → ℕ) (a b : Judgement) → Numbers m x a → Numbers m y b → a ≡ b
  numbers_unique x y a b p q =
      let same = smallest_same x y p.smallest q.smallest in
      let h = lengths_same x y p.smallest q.smallest p.iteration q.iteration in
      λ i. record {
        source = only_unique _ p.ends.0 q.ends.0 i;
        sink = only_unique _ p.ends.1 q.ends.1 i;
        iteration = h i;
        depths = depths_same _ _ p.ranked q.ranked i;
        firings = (p.firings ∙ of_actors_law (firings_of m x) (firings_of m y) (firing 0) (λ k c. ap (λ (n : ℕ). firings_of m (λ (j : ℕ). n) k) (same k c)) ∙ sym q.firings) i;
        periods = (p.periods ∙ of_actors_law (λ k. period_of a.iteration (firings_of m x k)) (λ k. period_of b.iteration (firings_of m y k)) (tick 0)
            (λ k c. ap (λ (n : ℕ). period_of a.iteration (firings_of m (λ (j : ℕ). n) k)) (same k c) ∙ ap (λ (t : Tick). period_of t (firings_of m y k)) h) ∙ sym q.periods) i;
      }

  pub judged_unique : {a b : Result Judgement Fault} → Judged m a → Judged m b → a ≡ b
  judged_unique (cyclic c) (cyclic d) = refl
  judged_unique (cyclic c) (no_ends n e) = absurd (n c)
  judged_unique (cyclic c) (unbalanced n e u) = absurd (n c)
  judged_unique (cyclic c) (overloaded x n e s i w o) = absurd (n c)
  judged_unique (cyclic c) (sound x n p f) = absurd (n c)
  judged_unique (no_ends n e) (cyclic c) = absurd (n c)
  judged_unique (no_ends n e) (no_ends k d) = refl
  judged_unique (no_ends n e) (unbalanced k d u) = absurd (e _ _ d)
  judged_unique (no_ends n e) (overloaded x k d s i w o) = absurd (e _ _ d)
  judged_unique (no_ends n e) (sound x k p f) = absurd (e _ _ p.ends)
  judged_unique (unbalanced n e u) (cyclic c) = absurd (n c)
  judged_unique (unbalanced n e u) (no_ends k d) = absurd (d _ _ e)
  judged_unique (unbalanced n e u) (unbalanced k d v) = refl
  judged_unique (unbalanced n e u) (overloaded x k d s i w o) = absurd (not-le_of_lt (u x _ s.balances i) w)
  judged_unique (unbalanced n e u) (sound x k p f) = absurd (not-le_of_lt (u x _ p.smallest.balances p.iteration) p.within)
  judged_unique (overloaded x n e s i w o) (cyclic c) = absurd (n c)
  judged_unique (overloaded x n e s i w o) (no_ends k d) = absurd (d _ _ e)
  judged_unique (overloaded x n e s i w o) (unbalanced k d u) = absurd (not-le_of_lt (u x _ s.balances i) w)
  judged_unique (overloaded x n e s i w o) (overloaded y k d r j v q) =
      ap (λ (p : ℕ). Err (IsOverloaded p))
      (le_antisymm (o.least _ (over_again y x r s j i _ q.holds)) (q.least _ (over_again x y s r i j _ o.holds)))
  judged_unique (overloaded x n e s i w o) (sound y k p f) = absurd (f _ (over_again x y s p.smallest i p.iteration _ o.holds))
  judged_unique (sound x n p f) (cyclic c) = absurd (n c)
  judged_unique (sound x n p f) (no_ends k d) = absurd (d _ _ p.ends)
  judged_unique (sound x n p f) (unbalanced k d u) = absurd (not-le_of_lt (u x _ p.smallest.balances p.iteration) p.within)
  judged_unique (sound x n p f) (overloaded y k d s i w o) = absurd (f _ (over_again y x s p.smallest i p.iteration _ o.holds))
  judged_unique (sound x n p f) (sound y k q g) = ap Ok (numbers_unique x y _ _ p q)
