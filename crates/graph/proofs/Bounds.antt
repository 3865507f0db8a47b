-- The two ends that are found: the actors without incoming and without outgoing channels. Assumes nothing.
use mathlib.Core.Path.{◌≡◌, refl, sym, ap, subst, ◌∙◌}
use mathlib.Core.Bool.{Bool, true, false, not, cond, ◌&&◌}
use mathlib.Core.List.{List}
use Rattle.std.specs.Prelude.{None, Some, find}
use Rattle.std.specs.List.{range_with_len}
use Rattle.std.proofs.lemmas.Option.{none-some, same_Some}
use mathlib.Core.Logic.{inl, inr, ⊎_elim, ◌↔◌}
use Prim.Native.Nat.{ℕ, zero, suc, ◌+◌, ◌<◌, ◌≤◌, zero-le}
use native.Mathlib.Nat.{le_refl, lt-suc_self, not-suc-le-zero, le_of_suc-le-suc, eq-or-lt_of_le}
use native.Mathlib.Numerals.{add-one}
use native.Mathlib.Omega.{arith}
use borrow.Author.Tests.{eq-eqb, ne_eqb, eqb-true}
use lib.Bits.{bit_or}
use lib.Dec.{eqb}
use lib.ListN.{get_or}
use Rattle.numbers.specs.Bits.{bit, Has, hasb, size, adding, has_decides, has_adding, has_or, bit_zero, empty, size_one, one_size}
use Rattle.numbers.specs.Decides.{Decides, decides_and, decides_not, decides_eqb, decides_true, decides_false}
use Rattle.units.specs.Limits.{ACTORS}
use Rattle.tables.specs.Shape.{Mode}
use Rattle.tables.specs.Proper.{ProperMode}
use Rattle.graph.specs.Ends.{IsSource, IsSink, Only, NoEnds}
use Rattle.graph.specs.Rounds.{preds_of, chosen, firsts_of, givers_from, lasts_of, only_of}
use Rattle.graph.proofs.Sorted.{preds_joins, to_active}

-- the actors of a mode that are found to be without incoming, and without outgoing, channels
abbrev pub firsts : Mode → ℕ
firsts m = firsts_of (preds_of m) m.active

abbrev pub lasts : Mode → ℕ
lasts m = lasts_of (preds_of m) m.active

-- one actor more, as a loop counts
pub chosen_next : (f : ℕ → Bool) (active n : ℕ) → chosen f active (n + 1) ≡ cond (hasb active n && f n) (adding (chosen f active n) n) (chosen f active n)
unfolding chosen
chosen_next f active n = rw add-one

pub givers_next : (ps : List ℕ) (n : ℕ) → givers_from ps (n + 1) ≡ bit_or (givers_from ps n) (get_or ps n 0)
unfolding givers_from
givers_next ps n = rw add-one

-- the chosen are the active actors with the property that the test decides
module _ (f : ℕ → Bool) (P : ℕ → Type 0) (decides : (i : ℕ) → Decides (P i) (f i)) (active : ℕ) where
  pub chosen_has : (n i : ℕ) → Has (chosen f active n) i ↔ ((i < n) × Has active i × P i)
  unfolding chosen
  chosen_has zero i = ((λ h. absurd (omega (arith, bit_zero i))), (λ w. absurd (not-suc-le-zero w.0)))
  chosen_has (suc n) i = go (hasb active n && f n) refl (chosen_has n i)
    where
      both : Decides (Has active n × P n) (hasb active n && f n)
      both = decides_and (hasb active n) (f n) (has_decides active n) (decides n)

      go : (x : Bool) → hasb active n && f n ≡ x → Has (chosen f active n) i ↔ ((i < n) × Has active i × P i)
          → Has (cond x (adding (chosen f active n) n) (chosen f active n)) i ↔ ((i < suc n) × Has active i × P i)
      go true e ih = (
        (λ h. ⊎_elim (λ (q : i ≡ n). let (a, p) = decides_true both e in rw q (lt-suc_self n, a, p)) (λ y. let (l, a, p) = ih.0 y in (omega arith, a, p)) ((has_adding (chosen f active n) n i).0 h)),
        (λ (l, a, p). (has_adding (chosen f active n) n i).1 (⊎_elim inl (λ (b : i < n). inr (ih.1 (b, a, p))) (eq-or-lt_of_le (le_of_suc-le-suc l)))),
      )
      go false e ih = (
        (λ h. let (l, a, p) = ih.0 h in (omega arith, a, p)),
        (λ (l, a, p). ⊎_elim (λ (q : i ≡ n). absurd (decides_false both e (rw (← q) (a, p)))) (λ (b : i < n). ih.1 (b, a, p)) (eq-or-lt_of_le (le_of_suc-le-suc l))),
      )

givers_has : (ps : List ℕ) (n j : ℕ) → Has (givers_from ps n) j ↔ ((i : ℕ) × (i < n) × Has (get_or ps i 0) j)
unfolding givers_from
givers_has ps zero j = ((λ h. absurd (omega (arith, bit_zero j))), (λ w. absurd (not-suc-le-zero w.1)))
givers_has ps (suc n) j = (
  (λ h. ⊎_elim (λ y. let (i, l, z) = (givers_has ps n j).0 y in (i, omega arith, z)) (λ z. (n, lt-suc_self n, z)) ((has_or (givers_from ps n) (get_or ps n 0) j).0 h)),
  (λ (i, l, z). (has_or (givers_from ps n) (get_or ps n 0) j).1
      (⊎_elim (λ (q : i ≡ n). inr (rw (← q) z)) (λ (b : i < n). inl ((givers_has ps n j).1 (i, b, z))) (eq-or-lt_of_le (le_of_suc-le-suc l)))),
)

-- the only number of a range that passes is found
find_only : (f : ℕ → Bool) (k i j : ℕ) → i ≤ j → j < i + k → f j ≡ true → ((l : ℕ) → i ≤ l → l < j → f l ≡ false) → find f (range_with_len i k) ≡ Some j
find_only f zero i j a b e n = absurd (omega arith)
find_only f (suc k) i j a b e n =
    ⊎_elim (λ (q : i ≡ j). rw (q, e))
    (λ (l : i < j). rw (n i (le_refl i) l) (find_only f k (i + 1) j (omega arith) (omega arith) e (λ l c d. n l (omega arith) d))) (eq-or-lt_of_le a)

-- of the set of the actors with a property, one is found exactly where it alone has the property
module _ (s : ℕ) (P : ℕ → Type 0) (has : (i : ℕ) → Has s i ↔ P i) (below : (i : ℕ) → P i → i < ACTORS) where
  size_only : size ACTORS s ≡ 1 → (i : ℕ) × (only_of s ≡ Some i) × Only P i
  size_only e =
      let (i, l, y, u) = size_one ACTORS s e in (
        i,
        rw (eq-eqb _ _ e) (find_only (hasb s) ACTORS 0 i zero-le l (eq-eqb _ _ y) (λ j a b. ne_eqb _ _ (λ (h : Has s j). omega (arith, u j (omega arith) h)))),
        ((has i).0 y, λ j p. u j (below j p) ((has j).1 p)),
      )

  only_found : (i : ℕ) → only_of s ≡ Some i → Only P i
  only_found i e =
      let (j, f, only) = size_only (eqb-true _ _ (cond_size e)) in subst (Only P) (same_Some _ _ (sym f ∙ e)) only
    where
      cond_size : only_of s ≡ Some i → eqb (size ACTORS s) 1 ≡ true
      cond_size = go (eqb (size ACTORS s) 1)
        where
          go : (b : Bool) → cond b (find (hasb s) (range_with_len 0 ACTORS)) None ≡ Some i → b ≡ true
          go true e = refl
          go false e = absurd (none-some i e)

  only_none : only_of s ≡ None → (i : ℕ) → Only P i → ⊥
  only_none e i (p, u) =
      let (j, f, only) = size_only (one_size ACTORS s i (below i p) ((has i).1 p) (λ j l h. u j ((has j).0 h))) in
      none-some j (sym e ∙ f)

module _ (m : Mode) (proper : ProperMode m) where
  firsts_are : (i : ℕ) → Has (firsts m) i ↔ IsSource m i
  firsts_are i =
      let has = chosen_has (λ i. eqb (get_or (preds_of m) i 0) 0) (λ i. get_or (preds_of m) i 0 ≡ 0) (λ i. decides_eqb (get_or (preds_of m) i 0) 0 ((λ h. h), (λ h. h))) m.active ACTORS i in (
        (λ h. let (l, a, e) = has.0 h in (l, a, λ j q. omega (arith, (preds_joins m proper i j l).1 q, ap (λ (s : ℕ). bit s j) e, bit_zero j))),
        (λ (l, a, n). has.1 (l, a, empty (get_or (preds_of m) i 0) (λ j h. n j ((preds_joins m proper i j l).0 h)))),
      )

  lasts_are : (i : ℕ) → Has (lasts m) i ↔ IsSink m i
  lasts_are i =
      let givers = givers_from (preds_of m) ACTORS in
      let has = chosen_has (λ i. not (hasb givers i)) (λ i. Has givers i → ⊥) (λ i. decides_not (hasb givers i) (has_decides givers i)) m.active ACTORS i in (
        (λ h. let (l, a, n) = has.0 h in (l, a, λ j q. let b = (to_active m proper q).0 in n ((givers_has (preds_of m) ACTORS i).1 (j, b, (preds_joins m proper j i b).1 q)))),
        (λ (l, a, n). has.1 (l, a, λ g. let (j, b, y) = (givers_has (preds_of m) ACTORS i).0 g in n j ((preds_joins m proper j i b).0 y))),
      )

  -- the ends of a mode, where both are found
  pub source_found : (i : ℕ) → only_of (firsts m) ≡ Some i → Only (IsSource m) i
  source_found = only_found (firsts m) (IsSource m) firsts_are (λ i p. p.0)

  pub sink_found : (i : ℕ) → only_of (lasts m) ≡ Some i → Only (IsSink m) i
  sink_found = only_found (lasts m) (IsSink m) lasts_are (λ i p. p.0)

  pub source_none : only_of (firsts m) ≡ None → NoEnds m
  source_none e s t w = only_none (firsts m) (IsSource m) firsts_are (λ i p. p.0) e s w.0

  pub sink_none : only_of (lasts m) ≡ None → NoEnds m
  sink_none e s t w = only_none (lasts m) (IsSink m) lasts_are (λ i p. p.0) e t w.1
