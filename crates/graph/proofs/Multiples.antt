-- The cycle counts that are found: all counts that balance the mode are multiples of them, so they are the smallest where they balance it, and where they do not none do. Assumes nothing.
use mathlib.Core.Path.{◌≡◌, refl, sym, ap, subst, ◌∙◌}
use mathlib.Core.Bool.{Bool, true, false, cond}
use mathlib.Core.List.{List}
use Rattle.std.specs.Prelude.{Option, None, Some, option_and_then}
use Rattle.std.proofs.lemmas.Option.{none-some, same_Some, MatchOption-at_some}
use mathlib.Core.Logic.{◌⊎◌, inl, inr}
use Prim.Native.Nat.{ℕ, zero, suc, ◌+◌, ◌*◌, ◌/◌, ◌%◌, ◌≤◌, ◌<◌}
use native.Mathlib.Nat.{mul-pos, eq_of_mul-eq-mul_right, lt_of_lt_of_le, lt_of_not-le, eq-zero-or-pos, mul_comm, zero-mul, zero-lt-suc}
use native.Mathlib.Omega.{arith}
use native.Mathlib.Decide.{dec_lt, ℕ_discrete}
use lib.Dec.{eqb}
use lib.ListN.{get_or, set, replicate, length-replicate}
use lib.Seq.{get_or-set_same, get_or-set_other}
use Rattle.numbers.specs.Bits.{bit, Has, hasb, has_or_not, has_decides}
use Rattle.numbers.specs.Decides.{Decides, decides_and, decides_eqb, decides_true, decides_false}
use Rattle.numbers.specs.Tab.{tab, get_or_tab, length_tab, get_or_replicated}
use Rattle.units.specs.declared.Token.{Token}
use Rattle.units.specs.Bounds.{MOST_CYCLES}
use Rattle.units.specs.Limits.{ACTORS}
use Rattle.units.specs.Tokens.{times_tokens}
use Rattle.rate.specs.declared.Meeting.{Meeting}
use Rattle.rate.specs.Rate.{Meets}
use Rattle.rate.specs.Reckoned.{meet_of}
use Rattle.rate.proofs.Meetings.{meet_of_law}
use Rattle.tables.specs.Shape.{Mode, channel_at, Active}
use Rattle.tables.specs.Proper.{ProperMode}
use Rattle.graph.specs.Order.{Joins, Cyclic, Depth, Ranked}
use Rattle.graph.specs.Ends.{Ends}
use Rattle.graph.specs.Balance.{made_on, taken_on, Balances, Smallest, Unbalanced}
use Rattle.graph.specs.Laws.{count_within}
use Rattle.graph.specs.Counts.{Small, Counted, entries_of, met_by, fed_of, fed_by, due_at, one_cycle, counts_from, counts_of, balancesb}
use Rattle.graph.proofs.Sorted.{from_active, depth_first, depth_joined, joins_deeper, depth_below}
use Rattle.graph.proofs.Entries.{entered}
use Rattle.graph.proofs.Flows.{balances_decides, flow_in, flow_some, Met, new, taker, other, met_told, counts_small as small_from}

-- a multiple that is not 0 is no smaller
multiple_least : (k n : ℕ) {y : ℕ} → y ≡ k * n → 1 ≤ y → n ≤ y
multiple_least zero n e h = absurd (omega (arith, zero-mul n))
multiple_least (suc k) n e h = omega arith

-- what balances so many times over balances once
balances_once : (n a b u v p q : ℕ) → p ≡ n * a → q ≡ n * b → 1 ≤ p → p * u ≡ q * v → a * u ≡ b * v
balances_once zero a b u v p q d e h f = absurd (omega (arith, zero-mul a))
balances_once (suc n) a b u v p q d e h f =
    eq_of_mul-eq-mul_right (suc n) (zero-lt-suc n) (a * u) (b * v) (omega (arith, f, ap (λ (c : ℕ). c * u) d, ap (λ (c : ℕ). c * v) e))

-- of a producer that runs, and makes something, the meeting is of whole cycles
module _ (makers : ℕ) (made taken : Token) (g : Meeting) (meets : Meets makers made taken g) (runs : 1 ≤ makers) (makes : 0 < made.0) (takes : 0 < taken.0) where
  meets_some : (0 < g.times) × (0 < g.takers)
  meets_some =
      let (k, a, b) = meets.each taken.0 (makers * made.0) (λ i. record { 0 = swap i }) in
      (factor k g.times (omega arith), factor k g.takers (omega (arith, mul-pos runs makes)))
    where
      swap : taken.0 * makers * made.0 ≡ makers * made.0 * taken.0
      swap = omega (arith, mul_comm taken.0 (makers * made.0))

      factor : (k n : ℕ) → 0 < k * n → 0 < n
      factor k zero h = absurd (omega arith)
      factor k (suc n) h = omega arith

module _ (m : Mode) (proper : ProperMode m) (ds : List ℕ) (ranked : Ranked m ds) (s t : ℕ) (ends : Ends m s t) (acyclic : Cyclic m → ⊥) where
  -- an actor that has its count after n steps: the source from the beginning, and then by depth, and within a depth by place
  abbrev Reached : ℕ → ℕ → Type 0
  Reached n i = Active m i × (get_or ds i 0 * ACTORS + i < n + ACTORS)

  reached_or_not : (n i : ℕ) → Dec (Reached n i)
  reached_or_not n i = go (dec_lt i ACTORS) (has_or_not m.active i) (dec_lt (get_or ds i 0 * ACTORS + i) (n + ACTORS))
    where
      go : Dec (i < ACTORS) → Has m.active i ⊎ (bit m.active i ≡ 0) → Dec (get_or ds i 0 * ACTORS + i < n + ACTORS) → Dec (Reached n i)
      go (yes l) (inl a) (yes h) = yes ((l, a), h)
      go (no l) a h = no (λ r. l r.0.0)
      go (yes l) (inr z) h = no (λ r. omega (arith, r.0.1))
      go (yes l) (inl a) (no h) = no (λ r. h r.1)

  -- counts of the actors reached, of which all balancing counts are multiples
  record Divides (n : ℕ) (x : List ℕ) : Type 0 where
    some : (i : ℕ) → Reached n i → 1 ≤ get_or x i 0
    none : (i : ℕ) → i < ACTORS → (Reached n i → ⊥) → get_or x i 0 ≡ 0
    divides : (y : ℕ → ℕ) → Balances m y → (k : ℕ) × ((i : ℕ) → Reached n i → y i ≡ k * get_or x i 0)

  -- what n steps have found: such counts, or that of all balancing counts one is above the limit
  data Told (n : ℕ) : Option (List ℕ) → Type 0 where
    fine : (x : List ℕ) → Divides n x → Told n (Some x)
    over : ((y : ℕ → ℕ) → Balances m y → (i : ℕ) × Active m i × (MOST_CYCLES < y i)) → Told n None

  -- in the beginning: the source, which alone has depth 0
  source_active : Active m s
  source_active = (ends.0.0.0, ends.0.0.1)

  source_first : get_or ds s 0 ≡ 0
  source_first = go (eq-zero-or-pos (get_or ds s 0))
    where
      go : (get_or ds s 0 ≡ 0) ⊎ (0 < get_or ds s 0) → get_or ds s 0 ≡ 0
      go (inl e) = e
      go (inr h) = let (j, q) = depth_joined m proper s (get_or ds s 0) (ranked.depth s source_active) h in absurd (ends.0.0.2 j q)

  first_source : (i : ℕ) → Reached 0 i → i ≡ s
  first_source i (a, h) =
      let e : get_or ds i 0 ≡ 0 = omega arith in
      ends.0.1 i (depth_first m proper i a (subst (Depth m i) e (ranked.depth i a)))

  one_at : get_or (one_cycle s) s 0 ≡ 1
  one_at = get_or-set_same (replicate ACTORS 0) s 1 0 (omega (arith, source_active.0, length-replicate {A = ℕ} ACTORS 0))

  told_first : Told 0 (Some (one_cycle s))
  told_first =
      fine (one_cycle s)
      (record {
        some = λ i r. rw (first_source i r) (omega (arith, one_at));
        none = λ i l n.
            get_or-set_other (replicate ACTORS 0) s i 1 0 (λ e. n (subst (Reached 0) (sym e) (source_active, omega (arith, source_first, source_active.0)))) ∙ get_or_replicated {A = ℕ} ACTORS i 0;
        divides = λ y b. (y s, λ i r. rw (first_source i r) (omega (arith, ap (λ (n : ℕ). y s * n) one_at)));
      })

  -- the actor that is due at a step is reached by it, and no other
  due_is : (n : ℕ) → Decides (Has m.active (n % ACTORS) × (get_or ds (n % ACTORS) 0 ≡ n / ACTORS + 1)) (due_at m ds n)
  due_is n =
      decides_and (hasb m.active (n % ACTORS)) (eqb (get_or ds (n % ACTORS) 0) (n / ACTORS + 1)) (has_decides m.active (n % ACTORS))
      (decides_eqb (get_or ds (n % ACTORS) 0) (n / ACTORS + 1) ((λ e. e), (λ e. e)))

  reached_more : (n i : ℕ) → Reached n i → Reached (suc n) i
  reached_more n i (a, h) = (a, omega arith)

  reached_aside : (n i : ℕ) → (i ≡ n % ACTORS → ⊥) → Reached (suc n) i → Reached n i
  reached_aside n i f (a, h) = (a, lt_of_not-le (λ (g : n + ACTORS ≤ get_or ds i 0 * ACTORS + i). f (omega (arith, a.0))))

  reached_idle : (n i : ℕ) → due_at m ds n ≡ false → Reached (suc n) i → Reached n i
  reached_idle n i e (a, h) = (
    a,
    lt_of_not-le (λ (g : n + ACTORS ≤ get_or ds i 0 * ACTORS + i).
        let q : i ≡ n % ACTORS = omega (arith, a.0) in
        let d : get_or ds i 0 ≡ n / ACTORS + 1 = omega (arith, a.0) in
        decides_false (due_is n) e (rw (← q) (a.1, d))),
  )

  -- a step that feeds an actor, from the producer of its entry
  module _ (n : ℕ) (x : List ℕ) (p : Divides n x) (due : Has m.active (n % ACTORS) × (get_or ds (n % ACTORS) 0 ≡ n / ACTORS + 1)) (entry : ℕ) (enters : (entry < m.count) × ((channel_at m entry).to ≡ n % ACTORS)) where
    abbrev here : ℕ
    here = n % ACTORS

    abbrev maker : ℕ
    maker = (channel_at m entry).from

    abbrev meeting : Meeting
    meeting = meet_of (get_or x maker 0) (made_on m entry) (taken_on m entry)

    here_active : Active m here
    here_active = (omega arith, due.0)

    here_reached : Reached (suc n) here
    here_reached = (here_active, omega (arith, due.1))

    -- its producer is less deep
    maker_reached : Reached n maker
    maker_reached =
        let q : Joins m maker here = (entry, enters.0, refl, enters.1) in
        let a : Active m maker = from_active m proper q in
        (a, omega (arith, a.0, due.1, joins_deeper m proper here maker _ _ q (ranked.depth maker a) (ranked.depth here here_active)))

    meets : Meets (get_or x maker 0) (made_on m entry) (taken_on m entry) meeting
    meets = meet_of_law (get_or x maker 0) (made_on m entry) (taken_on m entry) (flow_in m proper entry enters.0).some

    met_some : (0 < meeting.times) × (0 < meeting.takers)
    met_some =
        meets_some (get_or x maker 0) (made_on m entry) (taken_on m entry) meeting meets (p.some maker maker_reached) (flow_some m proper entry enters.0) (flow_in m proper entry enters.0).some

    -- all balancing counts are multiples of the scaled counts, with that of the actor
    shared : (y : ℕ → ℕ) → Balances m y
        → (k : ℕ) × (y here ≡ k * meeting.takers) × ((i : ℕ) → Reached n i → y i ≡ k * (get_or x i 0 * meeting.times))
    shared y b =
        let (k, h) = p.divides y b in
        let e : times_tokens (k * get_or x maker 0) (made_on m entry) ≡ times_tokens (y here) (taken_on m entry)
        = ap (λ (c : ℕ). times_tokens c (made_on m entry)) (sym (h maker maker_reached)) ∙ b.even entry enters.0 ∙ ap (λ (i : ℕ). times_tokens (y i) (taken_on m entry)) enters.1 in
        let (l, a, c) = meets.each k (y here) e in
        (l, c, λ i r. scale k l (get_or x i 0) meeting.times (y i) a (h i r))
      where
        scale : (k l a t y : ℕ) → k ≡ l * t → y ≡ k * a → y ≡ l * (a * t)
        scale k l a t y e h = omega (arith, ap (λ (c : ℕ). c * a) e)

    -- the new counts: that of the actor, and of each other the scaled one
    abbrev fresh : List ℕ
    fresh = set (tab ACTORS (λ j. get_or x j 0 * meeting.times)) here meeting.takers

    fresh_here : get_or fresh here 0 ≡ meeting.takers
    fresh_here = get_or-set_same (tab ACTORS (λ j. get_or x j 0 * meeting.times)) here meeting.takers 0 (omega (arith, length_tab ACTORS (λ j. get_or x j 0 * meeting.times)))

    fresh_aside : (i : ℕ) → i < ACTORS → (i ≡ here → ⊥) → get_or fresh i 0 ≡ get_or x i 0 * meeting.times
    fresh_aside i l f =
        get_or-set_other (tab ACTORS (λ j. get_or x j 0 * meeting.times)) here i meeting.takers 0 f ∙ get_or_tab ACTORS (λ j. get_or x j 0 * meeting.times) i 0 l

    -- what holds of the one and of the others holds of each that is reached
    fresh_each : (P : ℕ → ℕ → Type 0) → P here meeting.takers → ((i : ℕ) → Reached n i → P i (get_or x i 0 * meeting.times))
        → (i : ℕ) → Reached (suc n) i → P i (get_or fresh i 0)
    fresh_each P one others i r = go (ℕ_discrete i here)
      where
        go : Dec (i ≡ here) → P i (get_or fresh i 0)
        go (yes e) = subst (λ (j : ℕ). P j (get_or fresh j 0)) (sym e) (subst (P here) (sym fresh_here) one)
        go (no f) = subst (P i) (sym (fresh_aside i r.0.0 f)) (others i (reached_aside n i f r))

    fresh_divides : Divides (suc n) fresh
    fresh_divides =
        record {
          some = fresh_each (λ i c. 1 ≤ c) met_some.1 (λ i r. mul-pos (p.some i r) met_some.0);
          none = λ i l f.
              fresh_aside i l (λ e. f (subst (Reached (suc n)) (sym e) here_reached))
              ∙ ap (λ (c : ℕ). c * meeting.times) (p.none i l (λ r. f (reached_more n i r))) ∙ zero-mul meeting.times;
          divides = λ y b. let (k, e, h) = shared y b in (k, fresh_each (λ i c. y i ≡ k * c) e h);
        }

    told_met : (c : Option (List ℕ)) → Met x meeting here c → Told (suc n) c
    told_met c (new h f) = fine fresh fresh_divides
    told_met c (taker h) =
        over (λ y b. let (k, e, f) = shared y b in (here, here_active, lt_of_lt_of_le h (multiple_least k meeting.takers e (b.some here here_active))))
    told_met c (other j l h) = over (λ y b. go y b (shared y b) (reached_or_not n j))
      where
        go : (y : ℕ → ℕ) → Balances m y
            → (k : ℕ) × (y here ≡ k * meeting.takers) × ((i : ℕ) → Reached n i → y i ≡ k * (get_or x i 0 * meeting.times))
            → Dec (Reached n j) → (i : ℕ) × Active m i × (MOST_CYCLES < y i)
        go y b (k, e, f) (yes r) = (j, r.0, lt_of_lt_of_le h (multiple_least k (get_or x j 0 * meeting.times) (f j r) (b.some j r.0)))
        go y b w (no f) = absurd (omega (arith, h, ap (λ (c : ℕ). c * meeting.times) (p.none j l f), zero-mul meeting.times))

  told_fed : (n : ℕ) (c : Option (List ℕ)) → due_at m ds n ≡ true → Told n c
      → Told (suc n) (option_and_then (λ x. fed_by m x (get_or (entries_of m) (n % ACTORS) None) (n % ACTORS)) c)
  unfolding fed_of
  told_fed n c e (fine x p) =
      let due = decides_true (due_is n) e in
      let (k, is, below, to) = entered m proper ds ranked (n % ACTORS) (omega arith, due.0) (omega (arith, due.1)) in
      let g = meeting n x p due k (below, to) in
      rw is (told_met n x p due k (below, to) (met_by x g (n % ACTORS)) (met_told x g (n % ACTORS)))
  told_fed n c e (over f) = over f

  told_idle : (n : ℕ) (c : Option (List ℕ)) → due_at m ds n ≡ false → Told n c → Told (suc n) c
  told_idle n c e (fine x p) =
      fine x
      (record {
        some = λ i r. p.some i (reached_idle n i e r);
        none = λ i l f. p.none i l (λ r. f (reached_more n i r));
        divides = λ y b. let (k, h) = p.divides y b in (k, λ i r. h i (reached_idle n i e r));
      })
  told_idle n c e (over f) = over f

  told : (n : ℕ) → Told n (counts_from m (entries_of m) ds s n)
  unfolding counts_from
  told zero = told_first
  told (suc n) = go (due_at m ds n) refl (counts_from m (entries_of m) ds s n) (told n)
    where
      go : (b : Bool) → due_at m ds n ≡ b → (c : Option (List ℕ)) → Told n c
          → Told (suc n) (cond b (option_and_then (λ x. fed_by m x (get_or (entries_of m) (n % ACTORS) None) (n % ACTORS)) c) c)
      go true e c w = told_fed n c e w
      go false e c w = told_idle n c e w

  -- in the end all are reached
  reached_all : (i : ℕ) → Active m i → Reached (ACTORS * ACTORS) i
  reached_all i a = (a, omega (arith, a.0, depth_below m proper i (get_or ds i 0) a (ranked.depth i a) acyclic))

  -- where a count is above the limit, so is one of all balancing counts
  pub counts_above : counts_of m ds s ≡ None → Unbalanced m
  counts_above = go (counts_of m ds s) (told (ACTORS * ACTORS))
    where
      go : (c : Option (List ℕ)) → Told (ACTORS * ACTORS) c → c ≡ None → Unbalanced m
      go c (fine x p) e = absurd (none-some x (sym e))
      go c (over f) e = λ x h b q. let (i, a, l) = f x b in lt_of_lt_of_le l (count_within m proper x b h q i a)

  -- the counts that are found
  module _ (x : List ℕ) (found : counts_of m ds s ≡ Some x) where
    found_divides : Divides (ACTORS * ACTORS) x
    found_divides = go (counts_of m ds s) (told (ACTORS * ACTORS)) found
      where
        go : (c : Option (List ℕ)) → Told (ACTORS * ACTORS) c → c ≡ Some x → Divides (ACTORS * ACTORS) x
        go c (fine y p) e = subst (Divides (ACTORS * ACTORS)) (same_Some y x e) p
        go c (over f) e = absurd (none-some x e)

    -- all within the limit
    pub counts_counted : Counted m x
    counts_counted =
        record {
          small = MatchOption-at_some _ Small x found (small_from m (entries_of m) ds s (ACTORS * ACTORS));
          some = λ i a. found_divides.some i (reached_all i a);
        }

    -- all balancing counts are multiples of those found
    pub counts_divide : (y : ℕ → ℕ) → Balances m y → (n : ℕ) × ((i : ℕ) → Active m i → y i ≡ n * get_or x i 0)
    counts_divide y b = let (n, h) = found_divides.divides y b in (n, λ i a. h i (reached_all i a))

    pub counts_smallest : balancesb m x m.count ≡ true → Smallest m (λ i. get_or x i 0)
    counts_smallest q =
        record {
          balances = record { some = counts_counted.some; even = decides_true (balances_decides m x m.count) q };
          least = λ y b i a. let (n, h) = counts_divide y b in multiple_least n (get_or x i 0) (h i a) (b.some i a);
        }

    pub counts_uneven : balancesb m x m.count ≡ false → (y : ℕ → ℕ) → Balances m y → ⊥
    counts_uneven q y b =
        let (n, h) = counts_divide y b in
        decides_false (balances_decides m x m.count) q
        (λ k l.
        let c = proper.channel k l in
        let even : get_or x (channel_at m k).from 0 * (made_on m k).0 ≡ get_or x (channel_at m k).to 0 * (taken_on m k).0
        = balances_once n _ _ (made_on m k).0 (taken_on m k).0 (y (channel_at m k).from) (y (channel_at m k).to)
        (h _ (c.from, c.from_active)) (h _ (c.to, c.to_active)) (b.some _ (c.from, c.from_active)) (ap (λ (w : Token). w.0) (b.even k l)) in
        λ i. record { 0 = even i })
