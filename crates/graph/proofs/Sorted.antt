-- The order that the rounds find: the predecessor sets are the channels, and the depths are the greatest lengths of paths, unless there is a cycle. Assumes nothing.
use mathlib.Core.Path.{◌≡◌, refl, sym, ap, ap₂, subst, ◌∙◌}
use mathlib.Core.Bool.{Bool, true, false, cond, true≢false}
use mathlib.Core.List.{List}
use mathlib.Core.Logic.{◌⊎◌, inl, inr, ⊎_elim, ◌↔◌}
use Prim.Native.Nat.{ℕ, zero, suc, ◌+◌, ◌≤◌, ◌<◌, zero-le}
use native.Mathlib.Nat.{lt-suc_self, lt_irrefl, lt_trans, not-suc-le-zero, le_of_suc-le-suc, eq-or-lt_of_le}
use native.Mathlib.Numerals.{add-one}
use native.Mathlib.Omega.{arith}
use native.Mathlib.Decide.{dec_lt, ℕ_discrete}
use borrow.Author.Tests.{eqb-true}
use lib.Bits.{bit_and}
use lib.Dec.{eqb}
use lib.ListN.{length, get_or, set, length-set, length-replicate, get_or-eq_default}
use lib.Seq.{get_or-set_same, get_or-set_other}
use Rattle.numbers.specs.Bits.{bit, Has, hasb, Within, size, adding, has_or_not, has_decides, within_decides, has_adding, bit_adding_other, bit_removing_same, bit_removing_other, bit_zero, has_below, outside, some_has, none_size, size_most, size_adding}
use Rattle.numbers.specs.Decides.{Decides, decides_and, decides_true, decides_false}
use Rattle.numbers.specs.Tab.{get_or_replicated}
use Rattle.units.specs.Limits.{ACTORS}
use Rattle.tables.specs.declared.Channel.{Channel}
use Rattle.tables.specs.Shape.{Mode, channel_at, Active}
use Rattle.tables.specs.Proper.{ProperMode}
use Rattle.graph.specs.declared.order.Order.{Order}
use Rattle.graph.specs.Order.{Joins, Path, one, more, Cyclic, Leads, start, step, Depth, Ranked}
use Rattle.graph.specs.Ends.{IsSource}
use Rattle.graph.specs.Rounds.{joined, preds_from, preds_of, moved, ready, round_from, unordered, order_from, order_of}

-- one channel, one actor and one round more, as a loop counts
pub preds_next : (m : Mode) (n : ℕ) (ps : List ℕ) (c : Channel) (w : ℕ) → ps ≡ preds_from m n → c ≡ channel_at m n → w ≡ adding (get_or ps c.to 0) c.from
    → set ps c.to w ≡ preds_from m (n + 1)
unfolding preds_from
preds_next m n ps c w e f g = ap (set ps c.to) g ∙ ap₂ joined e f ∙ rw add-one

pub round_next : (ps : List ℕ) (o : Order) (d n : ℕ)
    → round_from ps o d (n + 1) ≡ cond (ready ps o n) (moved (round_from ps o d n) n d) (round_from ps o d n)
unfolding round_from
round_next ps o d n = rw add-one

-- a round, unless no actor is left
abbrev pub turned : List ℕ → ℕ → Order → Order
turned ps n o = cond (eqb o.left 0) o (round_from ps o n ACTORS)

pub order_next : (ps : List ℕ) (active n : ℕ) → order_from ps active (n + 1) ≡ turned ps n (order_from ps active n)
unfolding order_from
order_next ps active n = rw add-one

-- one channel more: its producer comes into the set of its consumer
joined_has : (ps : List ℕ) (c : Channel) (i j : ℕ) → i < length ps → Has (get_or (joined ps c) i 0) j ↔ (((c.from ≡ j) × (c.to ≡ i)) ⊎ Has (get_or ps i 0) j)
joined_has ps c i j l = go (ℕ_discrete i c.to)
  where
    go : Dec (i ≡ c.to) → Has (get_or (joined ps c) i 0) j ↔ (((c.from ≡ j) × (c.to ≡ i)) ⊎ Has (get_or ps i 0) j)
    go (no n) = rw (get_or-set_other ps c.to i (adding (get_or ps c.to 0) c.from) 0 n) (inr, ⊎_elim (λ (e : (c.from ≡ j) × (c.to ≡ i)). absurd (n (sym e.1))) (λ h. h))
    go (yes e) =
        let same : get_or (joined ps c) i 0 ≡ adding (get_or ps i 0) c.from
        = rw e (get_or-set_same ps c.to (adding (get_or ps c.to 0) c.from) 0 (rw e at l)) in
        let has = has_adding (get_or ps i 0) c.from j in
        rw same (
          (λ h. ⊎_elim (λ q. inl (sym q, sym e)) inr (has.0 h)),
          ⊎_elim (λ w. has.1 (inl (sym w.0))) (λ h. has.1 (inr h)),
        )

module _ (m : Mode) where
  sets_long : (n : ℕ) → length (preds_from m n) ≡ ACTORS
  unfolding preds_from
  sets_long zero = length-replicate {A = ℕ} ACTORS 0
  sets_long (suc n) = simp length-set (sets_long n)

  -- one of the first n channels goes from j to i
  abbrev Among : ℕ → ℕ → ℕ → Type 0
  Among n j i = (k : ℕ) × (k < n) × ((channel_at m k).from ≡ j) × ((channel_at m k).to ≡ i)

  sets_joins : (n i j : ℕ) → i < ACTORS → Has (get_or (preds_from m n) i 0) j ↔ Among n j i
  unfolding preds_from
  sets_joins zero i j l = ((λ h. absurd (omega (arith, bit_zero j, ap (λ (s : ℕ). bit s j) (get_or_replicated {A = ℕ} ACTORS i 0)))), (λ a. absurd (not-suc-le-zero a.1)))
  sets_joins (suc n) i j l =
      let has = joined_has (preds_from m n) (channel_at m n) i j (omega (arith, sets_long n)) in (
        (λ h. ⊎_elim (λ e. (n, lt-suc_self n, e.0, e.1)) (λ y. let (k, b, f, t) = (sets_joins n i j l).0 y in (k, omega arith, f, t)) (has.0 h)),
        (λ (k, b, f, t).
            has.1 (⊎_elim (λ (q : k ≡ n). inl (rw (← q) f, rw (← q) t)) (λ (b : k < n). inr ((sets_joins n i j l).1 (k, b, f, t))) (eq-or-lt_of_le (le_of_suc-le-suc b)))),
      )

-- whether an actor is ready
ready_is : (ps : List ℕ) (o : Order) (i : ℕ) → Decides (Has o.left i × Within (get_or ps i 0) o.done) (ready ps o i)
ready_is ps o i = decides_and (hasb o.left i) (eqb (bit_and (get_or ps i 0) o.done) (get_or ps i 0)) (has_decides o.left i) (within_decides (get_or ps i 0) o.done)

-- what an order has of an actor: whether it is done, whether it is left, and its depth
record At (o : Order) (i a b d : ℕ) : Type 0 where
  done : bit o.done i ≡ a
  left : bit o.left i ≡ b
  depth : get_or o.depths i 0 ≡ d

at_first : (active i : ℕ) {b : ℕ} → bit active i ≡ b → At (unordered active) i 0 b 0
at_first active i e = record { done = bit_zero i; left = e; depth = get_or_replicated ACTORS i 0 }

moved_at : (o : Order) (i d : ℕ) → i < length o.depths → At (moved o i d) i 1 0 d
moved_at o i d l =
    record {
      done = (has_adding o.done i i).1 (inl refl);
      left = bit_removing_same o.left i;
      depth = get_or-set_same o.depths i d 0 l;
    }

moved_aside : (o : Order) (i d : ℕ) {j a b e : ℕ} → (j ≡ i → ⊥) → At o j a b e → At (moved o i d) j a b e
moved_aside o i d {j} n w =
    record {
      done = bit_adding_other o.done i j n ∙ w.done;
      left = bit_removing_other o.left i j n ∙ w.left;
      depth = get_or-set_other o.depths i j d 0 n ∙ w.depth;
    }

module _ (ps : List ℕ) (o : Order) (d : ℕ) where
  -- what no move of a ready actor changes
  round_keeps : (P : Order → Type 0) → P o → ((p : Order) (i : ℕ) → ready ps o i ≡ true → P p → P (moved p i d)) → (k : ℕ) → P (round_from ps o d k)
  unfolding round_from
  round_keeps P z s zero = z
  round_keeps P z s (suc k) = go (ready ps o k) refl (round_keeps P z s k)
    where
      go : (x : Bool) → ready ps o k ≡ x → P (round_from ps o d k) → P (cond x (moved (round_from ps o d k) k d) (round_from ps o d k))
      go true e h = s (round_from ps o d k) k e h
      go false e h = h

  round_long : (k : ℕ) → length (round_from ps o d k).depths ≡ length o.depths
  round_long = round_keeps (λ p. length p.depths ≡ length o.depths) refl (λ p i r e. length-set p.depths i d ∙ e)

  -- a ready actor is moved, any other stays
  round_at : (k i : ℕ) → i < k → i < length o.depths → ready ps o i ≡ true → At (round_from ps o d k) i 1 0 d
  unfolding round_from
  round_at zero i b l r = absurd (not-suc-le-zero b)
  round_at (suc k) i b l r =
      ⊎_elim (λ (e : i ≡ k). rw (← e, r) (moved_at (round_from ps o d i) i d (omega (arith, round_long i))))
      (λ (b : i < k). go b (ready ps o k) (round_at k i b l r)) (eq-or-lt_of_le (le_of_suc-le-suc b))
    where
      go : i < k → (x : Bool) → At (round_from ps o d k) i 1 0 d → At (cond x (moved (round_from ps o d k) k d) (round_from ps o d k)) i 1 0 d
      go b true w = moved_aside (round_from ps o d k) k d (λ e. omega arith) w
      go b false w = w

  round_aside : (k : ℕ) {i a b e : ℕ} → ready ps o i ≡ false → At o i a b e → At (round_from ps o d k) i a b e
  round_aside k {i} {a} {b} {e} r w = round_keeps (λ p. At p i a b e) w (λ p j s h. moved_aside p j d (λ q. true≢false (sym s ∙ sym (ap (ready ps o) q) ∙ r)) h) k

order_long : (ps : List ℕ) (active n : ℕ) → length (order_from ps active n).depths ≡ ACTORS
unfolding order_from
order_long ps active zero = length-replicate {A = ℕ} ACTORS 0
order_long ps active (suc n) = go (eqb (order_from ps active n).left 0) (order_long ps active n)
  where
    go : (x : Bool) → length (order_from ps active n).depths ≡ ACTORS
        → length (cond x (order_from ps active n) (round_from ps (order_from ps active n) n ACTORS)).depths ≡ ACTORS
    go true e = e
    go false e = round_long ps (order_from ps active n) n ACTORS ∙ e

-- the order that is found of a mode
abbrev pub sorted : Mode → Order
sorted m = order_of (preds_of m) m.active

module _ (m : Mode) (proper : ProperMode m) where
  -- the predecessor sets are those of the channels
  pub preds_joins : (i j : ℕ) → i < ACTORS → Has (get_or (preds_of m) i 0) j ↔ Joins m j i
  preds_joins i j l = sets_joins m m.count i j l

  -- the two actors of a channel are active
  pub from_active : {j i : ℕ} → Joins m j i → Active m j
  from_active (k, h, f, t) = subst (Active m) f ((proper.channel k h).from, (proper.channel k h).from_active)

  pub to_active : {j i : ℕ} → Joins m j i → Active m i
  to_active (k, h, f, t) = subst (Active m) t ((proper.channel k h).to, (proper.channel k h).to_active)

  -- a path, and a channel more
  then_one : {i j k : ℕ} → Path m i j → Joins m j k → Path m i k
  then_one (one e) f = more e (one f)
  then_one (more e p) f = more e (then_one p f)

  -- a path of n channels passes n + 1 actors, unless it meets itself
  abbrev Passed : ℕ → ℕ → Type 0
  Passed n i = (s : ℕ) × (size ACTORS s ≡ suc n) × ((j : ℕ) → Has s j → (j ≡ i) ⊎ Path m j i)

  passed : {n i : ℕ} → i < ACTORS → Leads m n i → Cyclic m ⊎ Passed n i
  passed l (start {i}) =
      inr (
        adding 0 i,
        size_adding ACTORS 0 i l (λ h. omega (arith, bit_zero i)) ∙ ap suc (none_size ACTORS 0 (λ j b h. omega (arith, bit_zero j))),
        λ j h. ⊎_elim inl (λ (z : Has 0 j). absurd (omega (arith, bit_zero j))) ((has_adding 0 i j).0 h),
      )
  passed l (step {n} {j} {i} p e) = go (passed (from_active e).0 p)
    where
      beyond : {k : ℕ} → (k ≡ j) ⊎ Path m k j → Path m k i
      beyond (inl q) = one (subst (λ (k : ℕ). Joins m k i) (sym q) e)
      beyond (inr p) = then_one p e

      go : Cyclic m ⊎ Passed n j → Cyclic m ⊎ Passed (suc n) i
      go (inl c) = inl c
      go (inr (s, z, r)) =
          ⊎_elim (λ (y : Has s i). inl (i, beyond (r i y)))
          (λ (n : bit s i ≡ 0). inr (
            adding s i,
            size_adding ACTORS s i l (λ h. omega arith) ∙ ap suc z,
            λ k h. ⊎_elim inl (λ (y : Has s k). inr (beyond (r k y))) ((has_adding s i k).0 h),
          ))
          (has_or_not s i)

  -- so it has fewer channels than there can be actors
  leads_few : {n i : ℕ} → i < ACTORS → Leads m n i → Cyclic m ⊎ (n < ACTORS)
  leads_few {n} l p = ⊎_elim inl (λ (w : Passed n _). inr (omega (arith, w.1, size_most ACTORS w.0))) (passed l p)

  -- what n rounds have found of an actor: its depth, or a path of n channels to it, or that it is not active
  data Told (o : Order) (n i : ℕ) : Type 0 where
    done : (d : ℕ) → At o i 1 0 d → Active m i → d < n → Depth m i d → Told o n i
    left : At o i 0 1 0 → Active m i → Leads m n i → Told o n i
    idle : At o i 0 0 0 → (Active m i → ⊥) → Told o n i

  module _ (n : ℕ) (o : Order) (long : length o.depths ≡ ACTORS) (told : (i : ℕ) → Told o n i) (i : ℕ) where
    -- all predecessors are done: no path is longer
    none_longer : Within (get_or (preds_of m) i 0) o.done → {k : ℕ} → Leads m k i → k ≤ n
    none_longer w start = zero-le
    none_longer w (step {n = k} {j = j} p e) = go (told j) (w j ((preds_joins i j (to_active e).0).1 e))
      where
        go : Told o n j → Has o.done j → k < n
        go (done d x h l g) y = omega (arith, g.greatest k p)
        go (left x h l) y = absurd (omega (arith, x.done))
        go (idle x h) y = absurd (omega (arith, x.done))

    -- some predecessor is left: a longer path leads on
    longer : Active m i → (Within (get_or (preds_of m) i 0) o.done → ⊥) → Leads m (suc n) i
    longer a w = let (j, y, z) = outside (get_or (preds_of m) i 0) o.done w in go j ((preds_joins i j a.0).0 y) z (told j)
      where
        go : (j : ℕ) → Joins m j i → (Has o.done j → ⊥) → Told o n j → Leads m (suc n) i
        go j e z (done d x h l g) = absurd (z x.done)
        go j e z (left x h l) = step l e
        go j e z (idle x h) = absurd (h (from_active e))

    told_round : Told o n i → Told (round_from (preds_of m) o n ACTORS) (suc n) i
    told_round (done d x h l g) = done d (round_aside (preds_of m) o n ACTORS (rw x.left) x) h (omega arith) g
    told_round (idle x h) = idle (round_aside (preds_of m) o n ACTORS (rw x.left) x) h
    told_round (left x h l) = go (ready (preds_of m) o i) refl
      where
        go : (t : Bool) → ready (preds_of m) o i ≡ t → Told (round_from (preds_of m) o n ACTORS) (suc n) i
        go true r =
            done n (round_at (preds_of m) o n ACTORS i h.0 (omega arith) r) h (lt-suc_self n)
            (record { holds = l; greatest = λ k p. none_longer (decides_true (ready_is (preds_of m) o i) r).1 p })
        go false r = left (round_aside (preds_of m) o n ACTORS r x) h (longer h (λ w. decides_false (ready_is (preds_of m) o i) r (x.left, w)))

    told_next : Told (turned (preds_of m) n o) (suc n) i
    told_next = go (eqb o.left 0) refl (told i)
      where
        go : (x : Bool) → eqb o.left 0 ≡ x → Told o n i → Told (cond x o (round_from (preds_of m) o n ACTORS)) (suc n) i
        go true e (done d x h l g) = done d x h (omega arith) g
        go true e (left x h l) = absurd (omega (arith, x.left, ap (λ (s : ℕ). bit s i) (eqb-true _ _ e), bit_zero i))
        go true e (idle x h) = idle x h
        go false e t = told_round t

  told : (n i : ℕ) → Told (order_from (preds_of m) m.active n) n i
  unfolding order_from
  told zero i =
      ⊎_elim (λ (y : Has m.active i). left (at_first m.active i y) (has_below ACTORS m.active i proper.active y, y) start)
      (λ (z : bit m.active i ≡ 0). idle (at_first m.active i z) (λ a. omega (arith, a.1))) (has_or_not m.active i)
  told (suc n) i = told_next n (order_from (preds_of m) m.active n) (order_long (preds_of m) m.active n) (told n) i

  -- an actor that is not active has depth 0
  order_unlisted : (i : ℕ) → i < ACTORS → (Active m i → ⊥) → get_or (sorted m).depths i 0 ≡ 0
  order_unlisted i l n = go (told ACTORS i)
    where
      go : Told (sorted m) ACTORS i → get_or (sorted m).depths i 0 ≡ 0
      go (done d x h b g) = absurd (n h)
      go (left x h p) = absurd (n h)
      go (idle x h) = x.depth

  -- where no actor is left all depths are found
  pub order_ranked : (sorted m).left ≡ 0 → Ranked m (sorted m).depths
  order_ranked e = record { long = order_long (preds_of m) m.active ACTORS; depth = λ i a. go i a (told ACTORS i); no_depth = order_unlisted }
    where
      go : (i : ℕ) → Active m i → Told (sorted m) ACTORS i → Depth m i (get_or (sorted m).depths i 0)
      go i a (done d x h b g) = rw x.depth g
      go i a (left x h p) = absurd (omega (arith, x.left, bit_zero i, ap (λ (s : ℕ). bit s i) e))
      go i a (idle x h) = absurd (h a)

  -- where one is left there is a cycle
  pub order_cyclic : ((sorted m).left ≡ 0 → ⊥) → Cyclic m
  order_cyclic n = let (i, y) = some_has (sorted m).left n in go i y (told ACTORS i)
    where
      go : (i : ℕ) → Has (sorted m).left i → Told (sorted m) ACTORS i → Cyclic m
      go i y (done d x h b g) = absurd (omega (arith, x.left))
      go i y (left x h p) = ⊎_elim (λ c. c) (λ b. absurd (lt_irrefl ACTORS b)) (leads_few h.0 p)
      go i y (idle x h) = absurd (omega (arith, x.left))

  -- depths: 0 without incoming channels, and greater behind each channel
  pub depth_first : (i : ℕ) → Active m i → Depth m i 0 → IsSource m i
  depth_first i a p = (a.0, a.1, λ j e. not-suc-le-zero (p.greatest 1 (step start e)))

  pub depth_joined : (i d : ℕ) → Depth m i d → 0 < d → (j : ℕ) × Joins m j i
  depth_joined i d p = go p.holds
    where
      go : {n : ℕ} → Leads m n i → 0 < n → (j : ℕ) × Joins m j i
      go start l = absurd (not-suc-le-zero l)
      go (step {j = j} p e) l = (j, e)

  pub joins_deeper : (i j a b : ℕ) → Joins m j i → Depth m j a → Depth m i b → a < b
  joins_deeper i j a b e p q = q.greatest (suc a) (step p.holds e)

  -- without cycles, depths are below the number of actors that there can be
  pub depth_below : (i d : ℕ) → Active m i → Depth m i d → (Cyclic m → ⊥) → d < ACTORS
  depth_below i d a p n = ⊎_elim (λ c. absurd (n c)) (λ b. b) (leads_few a.0 p.holds)

  -- where every actor has a depth there is no cycle
  pub ranked_acyclic : (ds : List ℕ) → Ranked m ds → Cyclic m → ⊥
  ranked_acyclic ds r (i, p) = lt_irrefl (get_or ds i 0) (deeper p)
    where
      behind : {j i : ℕ} → Joins m j i → get_or ds j 0 < get_or ds i 0
      behind {j} {i} e = joins_deeper i j _ _ e (r.depth j (from_active e)) (r.depth i (to_active e))

      deeper : {j i : ℕ} → Path m j i → get_or ds j 0 < get_or ds i 0
      deeper (one e) = behind e
      deeper (more e p) = lt_trans (behind e) (deeper p)

  -- and all depths are below the number of actors that there can be
  pub ranked_below : (ds : List ℕ) → Ranked m ds → (i : ℕ) → get_or ds i 0 < ACTORS
  ranked_below ds r i = go (dec_lt i ACTORS)
    where
      go : Dec (i < ACTORS) → get_or ds i 0 < ACTORS
      go (no l) = omega (arith, get_or-eq_default ds 0 {n = i} (omega (arith, r.long)))
      go (yes l) =
          ⊎_elim (λ (y : Has m.active i). depth_below i (get_or ds i 0) (l, y) (r.depth i (l, y)) (ranked_acyclic ds r))
          (λ (z : bit m.active i ≡ 0). omega (arith, r.no_depth i l (λ a. omega (arith, a.1)))) (has_or_not m.active i)

  pub order_acyclic : (sorted m).left ≡ 0 → Cyclic m → ⊥
  order_acyclic e = ranked_acyclic (sorted m).depths (order_ranked e)
