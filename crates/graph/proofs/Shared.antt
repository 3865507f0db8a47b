-- The shares and loads that are found: the ticks that each processor works, and the lowest processor whose load is above the limit. Assumes nothing.
use mathlib.Core.Path.{◌≡◌, refl, sym, ap, ◌∙◌}
use mathlib.Core.Bool.{Bool, true, false, cond, not, ◌&&◌}
use mathlib.Core.List.{List}
use Rattle.std.specs.Prelude.{None, Some, nat_lt, position}
use Rattle.std.specs.List.{position_or_len}
use Rattle.std.proofs.lemmas.List.Quantifiers.{position-Some}
use Rattle.std.proofs.lemmas.List.Sums.{prefix_len_passes}
use mathlib.Core.Logic.{◌↔◌}
use Prim.Native.Nat.{ℕ, zero, suc, ◌+◌, ◌*◌, ◌^◌, ◌≤◌, ◌<◌}
use native.Mathlib.Nat.{le_refl, lt_of_lt_of_le, lt_of_not-le, le_of_suc-le-suc}
use native.Mathlib.Numerals.{add-one}
use native.Mathlib.Omega.{arith}
use native.Mathlib.Decide.{ℕ_discrete}
use borrow.Author.Tests.{eq-eqb, ne_eqb, ltb-false, not-true}
use Rattle.std.proofs.lemmas.Option.{none-some}
use lib.Dec.{eqb}
use lib.ListN.{length, get_or, set, replicate, length-set}
use lib.Seq.{get_or-set_same, get_or-set_other}
use Rattle.numbers.specs.Bits.{hasb, has_decides}
use Rattle.numbers.specs.Decides.{Decides, decides_not, decides_true, decides_false}
use Rattle.numbers.specs.Extreme.{Least}
use Rattle.numbers.specs.Fraction.{Proper, AtMost, Same, sum_proper, sum_common, same_at_most, nothing, at_mostb, at_most_decides}
use Rattle.numbers.specs.Sum.{sum}
use Rattle.numbers.specs.Tab.{tab, get_or_tab, length_tab, is_tab, tab_same}
use Rattle.units.specs.declared.Tick.{Tick}
use Rattle.units.specs.Ticks.{tick, plus_ticks}
use Rattle.units.specs.Products.{MOST_WORK}
use Rattle.units.specs.Limits.{ACTORS, PROCESSORS, LOAD_LIMIT}
use Rattle.period.specs.Period.{period_of, share_of}
use Rattle.terms.specs.Place.{number_of}
use Rattle.tables.specs.declared.Actor.{Actor}
use Rattle.tables.specs.Shape.{Mode, no_actor, actor_at}
use Rattle.tables.specs.Proper.{ProperMode}
use Rattle.graph.specs.Balance.{Iteration, firings_of, work_in}
use Rattle.graph.specs.Load.{is_on, asked_by, load_of, Overloaded}
use Rattle.graph.specs.Laws.{iteration_pos, period_whole, period_fits}
use Rattle.graph.specs.Counts.{Counted}
use Rattle.graph.specs.Lengths.{Light, firings_in, works_in, share_from, shares_in, overb, overloaded_of}
use Rattle.graph.proofs.Lasting.{works_at}

-- where no place is found no element passes
position_none : {X : Type 0} (p : X → Bool) (xs : List X) (k : ℕ) (d : X) → k < length xs → position p xs ≡ None → p (get_or xs k d) ≡ false
position_none p xs k d h = go (nat_lt (position_or_len p xs) (length xs)) refl
  where
    go : (b : Bool) → nat_lt (position_or_len p xs) (length xs) ≡ b → cond b (Some (position_or_len p xs)) None ≡ None → p (get_or xs k d) ≡ false
    go true e f = absurd (none-some _ (sym f))
    go false e f = not-true (p (get_or xs k d)) (prefix_len_passes (λ x. not (p x)) xs k d (lt_of_lt_of_le h (ltb-false _ _ e)))

-- the ticks of an iteration that processor p works
abbrev worked_on : Mode → (ℕ → ℕ) → ℕ → Tick
worked_on m x p = tick (sum (λ i. cond (is_on m p i) (work_in m x i).0 0) ACTORS)

-- the share of n actors is at most n works
share_most : (acts : List Actor) (ws : List Tick) (p : ℕ) → Light ws → (n : ℕ) → (share_from acts ws p n).0 ≤ n * MOST_WORK.0
unfolding share_from
share_most acts ws p light zero = omega arith
share_most acts ws p light (suc n) = go (eqb (get_or acts n no_actor).processor p) (share_most acts ws p light n)
  where
    go : (b : Bool) → (share_from acts ws p n).0 ≤ n * MOST_WORK.0
        → (cond b (plus_ticks (share_from acts ws p n) (get_or ws n (tick 0))) (share_from acts ws p n)).0 ≤ suc n * MOST_WORK.0
    go true h = omega (arith, light.light n)
    go false h = omega arith

-- the shares of all processors, by the actors below n
abbrev pub shares_from : List Actor → List Tick → ℕ → List Tick
shares_from acts ws n = tab PROCESSORS (λ p. share_from acts ws (number_of p) n)

pub shares_none : (acts : List Actor) (ws : List Tick) → replicate PROCESSORS (tick 0) ≡ shares_from acts ws 0
unfolding tab share_from
shares_none acts ws = refl

-- one actor more, as a loop counts
module _ (acts : List Actor) (ws : List Tick) (n : ℕ) where
  share_next : (p : ℕ)
      → share_from acts ws p (n + 1) ≡ cond (eqb (get_or acts n no_actor).processor p) (plus_ticks (share_from acts ws p n) (get_or ws n (tick 0))) (share_from acts ws p n)
  unfolding share_from
  share_next p = rw add-one

  -- one that is on no processor
  pub shares_aside : (get_or acts n no_actor).processor ≡ 0 → shares_from acts ws n ≡ shares_from acts ws (n + 1)
  shares_aside e = tab_same PROCESSORS _ _ (λ p h. sym (share_next (number_of p) ∙ rw (ne_eqb (get_or acts n no_actor).processor (number_of p) (λ q. omega arith))))

  -- and one that is on the processor at place q
  module _ (l : List Tick) (is : l ≡ shares_from acts ws n) (q : ℕ) (below : q < PROCESSORS) where
    share_at : get_or l q (tick 0) ≡ share_from acts ws (number_of q) n
    share_at = ap (λ (l : List Tick). get_or l q (tick 0)) is ∙ get_or_tab PROCESSORS (λ p. share_from acts ws (number_of p) n) q (tick 0) below

    pub share_fits : Light ws → n < ACTORS → (get_or l q (tick 0)).0 + (get_or ws n (tick 0)).0 < 2 ^ 64
    share_fits light h = omega (arith, ap (λ (t : Tick). t.0) share_at, share_most acts ws (number_of q) light n, light.light n)

    pub shares_more : (v : Tick) → (get_or acts n no_actor).processor ≡ number_of q → v ≡ plus_ticks (get_or l q (tick 0)) (get_or ws n (tick 0)) → set l q v ≡ shares_from acts ws (n + 1)
    shares_more v on e = is_tab PROCESSORS _ (set l q v) (tick 0) (length-set l q v ∙ long) (λ p h. go p h (ℕ_discrete p q))
      where
        long : length l ≡ PROCESSORS
        long = ap length is ∙ length_tab PROCESSORS (λ p. share_from acts ws (number_of p) n)

        go : (p : ℕ) → p < PROCESSORS → Dec (p ≡ q) → get_or (set l q v) p (tick 0) ≡ share_from acts ws (number_of p) (n + 1)
        go p h (yes f) =
            rw f
            (get_or-set_same l q v (tick 0) (omega (arith, long))
            ∙ e
            ∙ ap (λ (t : Tick). plus_ticks t (get_or ws n (tick 0))) share_at
            ∙ sym (share_next (number_of q) ∙ rw (eq-eqb (get_or acts n no_actor).processor (number_of q) on)))
        go p h (no f) =
            get_or-set_other l q p v (tick 0) f
            ∙ ap (λ (l : List Tick). get_or l p (tick 0)) is
            ∙ get_or_tab PROCESSORS (λ p. share_from acts ws (number_of p) n) p (tick 0) h
            ∙ sym (share_next (number_of p) ∙ rw (ne_eqb (get_or acts n no_actor).processor (number_of p) (λ g. f (omega arith))))

module _ (m : Mode) (proper : ProperMode m) (x : List ℕ) (counted : Counted m x) where
  abbrev X : ℕ → ℕ
  X i = get_or x i 0

  abbrev ws : List Tick
  ws = works_in m.actors (firings_in m.actors x)

  abbrev shares : List Tick
  shares = shares_in m.actors ws

  -- of an actor that is not active there is no work
  no_work : (i : ℕ) → i < ACTORS → hasb m.active i ≡ false → (work_in m X i).0 ≡ 0
  no_work i l e = omega (arith, ap (λ (a : Actor). (firings_of m X i).0 * a.wcet.0) (proper.no_actor_law i l (decides_false (has_decides m.active i) e)))

  share_is : (p n : ℕ) → n ≤ ACTORS → (share_from m.actors ws p n).0 ≡ sum (λ i. cond (is_on m p i) (work_in m X i).0 0) n
  unfolding share_from sum
  share_is p zero h = refl
  share_is p (suc n) h = go (hasb m.active n) refl (eqb (actor_at m n).processor p) (share_is p n (omega arith))
    where
      go : (a : Bool) → hasb m.active n ≡ a → (b : Bool) → (share_from m.actors ws p n).0 ≡ sum (λ i. cond (is_on m p i) (work_in m X i).0 0) n
          → (cond b (plus_ticks (share_from m.actors ws p n) (get_or ws n (tick 0))) (share_from m.actors ws p n)).0
          ≡ sum (λ i. cond (is_on m p i) (work_in m X i).0 0) n + cond (a && b) (work_in m X n).0 0
      go true e true ih = rw (works_at m proper x counted n h) (omega arith)
      go true e false ih = omega arith
      go false e true ih = rw (works_at m proper x counted n h) (omega (arith, no_work n h e))
      go false e false ih = omega arith

  module _ (h : Tick) (iteration : Iteration m X h) (p : ℕ) where
    abbrev periods : ℕ → Tick
    periods i = period_of h (firings_of m X i)

    -- what an actor asks of its processor is its work, as a part of the iteration
    asked_same : (i : ℕ) → i < ACTORS → Same (cond (is_on m p i) (asked_by m periods i) nothing) (record { over = cond (is_on m p i) (work_in m X i).0 0; under = h.0 })
    asked_same i l = go (hasb m.active i) refl (eqb (actor_at m i).processor p)
      where
        go : (a : Bool) → hasb m.active i ≡ a → (b : Bool) → Same (cond (a && b) (asked_by m periods i) nothing) (record { over = cond (a && b) (work_in m X i).0 0; under = h.0 })
        go true e true =
            omega (arith, ap (λ (t : ℕ). (actor_at m i).wcet.0 * t) (period_whole m X iteration i (l, decides_true (has_decides m.active i) e)))
        go true e false = omega arith
        go false e b = omega arith

    asked_proper : (i : ℕ) → i < ACTORS → Proper (cond (is_on m p i) (asked_by m periods i) nothing)
    asked_proper i l = go (hasb m.active i) refl (eqb (actor_at m i).processor p)
      where
        go : (a : Bool) → hasb m.active i ≡ a → (b : Bool) → Proper (cond (a && b) (asked_by m periods i) nothing)
        go true e true =
            let a = decides_true (has_decides m.active i) e in
            lt_of_lt_of_le (proper.actor i l a).some_tick (period_fits m proper X counted.some iteration i (l, a))
        go true e false = omega arith
        go false e b = omega arith

    -- so a load is within the limit exactly when the share is
    load_share : AtMost (load_of m X h p) LOAD_LIMIT ↔ AtMost (share_of (worked_on m X p) h) LOAD_LIMIT
    load_share =
        same_at_most (load_of m X h p) (share_of (worked_on m X p) h) LOAD_LIMIT
        (sum_proper (λ i. cond (is_on m p i) (asked_by m periods i) nothing) ACTORS asked_proper)
        (iteration_pos m proper X counted.some iteration)
        (sum_common (λ i. cond (is_on m p i) (asked_by m periods i) nothing) (λ i. cond (is_on m p i) (work_in m X i).0 0) h.0 ACTORS asked_same)

    -- the test answers whether it is
    pub over_is : (q : ℕ) → q < PROCESSORS → p ≡ number_of q → Decides (Overloaded m X h q) (overb h (get_or shares q (tick 0)))
    over_is q l e =
        let s : get_or shares q (tick 0) ≡ worked_on m X p
        = get_or_tab PROCESSORS (λ p. share_from m.actors ws (number_of p) ACTORS) q (tick 0) l ∙ (λ i. tick (share_is (number_of q) ACTORS (le_refl ACTORS) i)) ∙ ap (worked_on m X) (sym e) in
        let d = decides_not (at_mostb (share_of (get_or shares q (tick 0)) h) LOAD_LIMIT) (at_most_decides (share_of (get_or shares q (tick 0)) h) LOAD_LIMIT) in (
          (λ t. record { processor = l; above = λ a. d.0 t (rw s (load_share.0 (rw e a))) }),
          (λ o. d.1 (λ a. o.above (rw e at (load_share.1 (rw s at a))))),
        )

  module _ (h : Tick) (iteration : Iteration m X h) where
    over : (p : ℕ) → p < PROCESSORS → Decides (Overloaded m X h p) (overb h (get_or shares p (tick 0)))
    over p l = over_is h iteration (number_of p) p l refl

    long : length shares ≡ PROCESSORS
    long = length_tab PROCESSORS (λ p. share_from m.actors ws (number_of p) ACTORS)

    pub loads_fine : overloaded_of shares h ≡ None → (p : ℕ) → Overloaded m X h p → ⊥
    loads_fine e p o = decides_false (over p o.processor) (position_none (overb h) shares p (tick 0) (omega (arith, long, o.processor)) e) o

    pub loads_over : (p : ℕ) → overloaded_of shares h ≡ Some p → Least (Overloaded m X h) p
    loads_over p e =
        let (l, passes, first) = position-Some (overb h) shares p (tick 0) e in
        record {
          holds = decides_true (over p (omega (arith, long))) passes;
          least = λ q o. le_of_suc-le-suc (lt_of_not-le (λ (b : q < p). decides_false (over q o.processor) (first q b) o));
        }
