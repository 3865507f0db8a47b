-- The tokens and the claimed places of one visit. Assumes nothing.
use Prim.Native.Nat.{ℕ, zero, suc, ◌+◌, ◌-◌, ◌*◌, ◌/◌, ◌≤◌, ◌<◌, zero-le}
use mathlib.Core.Path.{◌≡◌, refl, sym, ap, ◌∙◌}
use mathlib.Core.Bool.{◌&&◌}
use mathlib.Core.Logic.{◌⊎◌, inl, inr, ⊎_elim}
use native.Mathlib.Nat.{le_trans, le_antisymm, le_dest, le-div_iff_mul-le, mul_assoc, suc-mul, le-mul_of_pos_right, mul-le-mul_right, lt_of_mul-lt-mul_right}
use native.Mathlib.Omega.{arith}
use lib.Dec.{T, leb, ltb, leb→le, ltb→lt, le→leb, lt→ltb}
use lib.Ieee.Fits.{and_l, and_r, and_i}
use Rattle.numbers.specs.Sum.{sum, sum_more, sum_next}
use Rattle.run.specs.Plan.{RunPlan, Acts}
use Rattle.run.specs.Machine.{Leave, stays, leaves, Visit}
use Rattle.run.specs.Firing.{begins, fires, before, is_open, EndTimes, InPeriod, begun, done, taken, made, claimed, given_back}
use Rattle.run.proofs.Sound.{Sound, HaveBegun, HaveEnded}
use Rattle.run.proofs.Tallies.{split, all_below, tally_sub, tally_sum, sum_tally, tally_none}

-- a mode with iteration h that started at s is left after whole iterations
abbrev pub Whole : Leave → ℕ → ℕ → Type 0
Whole stays s h = Unit {0}
Whole (leaves f) s h = (k : ℕ) × (f ≡ s + k * h)

abbrev pub at : ℕ → ℕ → Leave → Visit
at m s l = record { mode = m; start = s; leave = l }

module _ (p : RunPlan) (ok : Sound p) (m s : ℕ) (yes-listed : T (p.listed m)) where
  -- a firing's number is at most the ticks before it
  pub number : (i n : ℕ) → Acts p m i → n ≤ n * p.period m i
  number i n a = le-mul_of_pos_right n (ok.some_period m i yes-listed a)

  -- how many have begun and ended, in a mode that runs for ever
  have_begun : (i x : ℕ) → Acts p m i → HaveBegun p m i x ((x + p.period m i - p.start m i) / p.period m i)
  have_begun i x a n =
      let pos = ok.some_period m i yes-listed a in
      let (to, from) = le-div_iff_mul-le {x = suc n} {y = x + p.period m i - p.start m i} pos in
      ((λ l. omega (arith, to l, suc-mul n (p.period m i), pos)), (λ h. from (omega (arith, h, suc-mul n (p.period m i)))))

  have_ended : (i x : ℕ) → Acts p m i → HaveEnded p m i x ((x - p.start m i) / p.period m i)
  have_ended i x a n =
      let pos = ok.some_period m i yes-listed a in
      let (to, from) = le-div_iff_mul-le {x = suc n} {y = x - p.start m i} pos in
      ((λ l. omega (arith, to l, suc-mul n (p.period m i), number i n a, pos)), (λ h. from (omega (arith, h, suc-mul n (p.period m i)))))

  -- a firing counted as begun by a tick has begun by then
  begun_by : (l : Leave) (i n t : ℕ) → T (fires p (at m s l) i n && leb (begins p (at m s l) i n) t) → s + p.start m i + n * p.period m i ≤ t
  begun_by l i n t c = leb→le (begins p (at m s l) i n) t (and_r (fires p (at m s l) i n) _ c)

  begun_none : (l : Leave) (i : ℕ) (w : ℕ → ℕ) (t : ℕ) → t < s → begun p (at m s l) i w t ≡ 0
  unfolding begun
  begun_none l i w t h = tally_none _ w (suc t) (λ n _ c. omega (arith, begun_by l i n t c))

  begun_steady : (l : Leave) (i : ℕ) (w : ℕ → ℕ) (t b : ℕ) → s ≤ t → HaveBegun p m i (t - s) b → begun p (at m s l) i w t ≤ sum w b
  unfolding begun
  begun_steady l i w t b h first = tally_sum _ w (suc t) b (λ n _ c. (first n).1 (omega (arith, begun_by l i n t c)))

  -- the firings of an actor in k iterations
  pub inside_k : (i k n : ℕ) → Acts p m i → n * p.period m i < k * p.iteration m → n < k * p.firings m i
  inside_k i k n a h = lt_of_mul-lt-mul_right (p.period m i) (rw (mul_assoc, ok.filled m i yes-listed a) h)

  pub k_inside : (i k n : ℕ) → Acts p m i → n < k * p.firings m i → n * p.period m i + p.period m i ≤ k * p.iteration m
  k_inside i k n a h =
      let b : suc n * p.period m i ≤ k * p.firings m i * p.period m i = mul-le-mul_right (p.period m i) h in
      let c : k * p.firings m i * p.period m i ≡ k * p.iteration m =
      mul_assoc k (p.firings m i) (p.period m i) ∙ ap (λ (x : ℕ). k * x) (ok.filled m i yes-listed a) in
      omega (arith, suc-mul n (p.period m i))

  module _ (k f : ℕ) (whole : f ≡ s + k * p.iteration m) where
    begun_part : (i : ℕ) (w : ℕ → ℕ) (t : ℕ) → Acts p m i → begun p (at m s (leaves f)) i w t ≤ sum w (k * p.firings m i)
    unfolding begun
    begun_part i w t a = tally_sum _ w (suc t) (k * p.firings m i) (λ n _ c.
        let b : n * p.period m i < f - s = ltb→lt _ _ (and_l (ltb (n * p.period m i) (f - s)) _ c) in inside_k i k n a (omega arith))

    begun_all : (i : ℕ) (w : ℕ → ℕ) (t : ℕ) → Acts p m i → f + p.start m i ≤ t → begun p (at m s (leaves f)) i w t ≡ sum w (k * p.firings m i)
    unfolding begun
    begun_all i w t a h = le_antisymm (begun_part i w t a) (sum_tally _ w (k * p.firings m i) (suc t)
        (λ n c. omega (arith, k_inside i k n a c, number i n a))
        (λ n c. and_i (ltb (n * p.period m i) (f - s)) (leb (s + p.start m i + n * p.period m i) t)
        (lt→ltb (n * p.period m i) (f - s) (omega (arith, k_inside i k n a c, ok.some_period m i yes-listed a)))
        (le→leb (s + p.start m i + n * p.period m i) t (omega (arith, k_inside i k n a c)))))

  module _ (e : EndTimes) where
    -- what has ended has begun
    pub done_begun : (l : Leave) → InPeriod p e (at m s l) → (i : ℕ) (w : ℕ → ℕ) (t : ℕ) → Acts p m i → done p e (at m s l) i w t ≤ begun p (at m s l) i w t
    unfolding done begun
    done_begun l timely i w t a = tally_sub _ _ w (suc t) (suc t) (λ n b c. b) (λ n b c.
        let y : T (fires p (at m s l) i n) = and_l (fires p (at m s l) i n) (leb (e (at m s l) i n) t) c in
        let z : e (at m s l) i n ≤ t = leb→le (e (at m s l) i n) t (and_r (fires p (at m s l) i n) (leb (e (at m s l) i n) t) c) in
        let x : s + p.start m i + n * p.period m i ≤ e (at m s l) i n = (timely i n a y).0 in
        and_i (fires p (at m s l) i n) (leb (s + p.start m i + n * p.period m i) t) y (le→leb (s + p.start m i + n * p.period m i) t (omega arith)))

    done_none : (l : Leave) → InPeriod p e (at m s l) → (i : ℕ) (w : ℕ → ℕ) (t : ℕ) → Acts p m i → t < s → done p e (at m s l) i w t ≡ 0
    done_none l timely i w t a h = le_antisymm (le_trans (done_begun l timely i w t a) (omega (arith, begun_none l i w t h))) zero-le

    -- where all firings whose period is over belong to the visit
    done_steady : (l : Leave) → InPeriod p e (at m s l) → (i : ℕ) (w : ℕ → ℕ) (t b : ℕ) → Acts p m i → s ≤ t → HaveEnded p m i (t - s) b
        → ((n : ℕ) → p.start m i + (n + 1) * p.period m i ≤ t - s → T (fires p (at m s l) i n))
        → sum w b ≤ done p e (at m s l) i w t
    unfolding done
    done_steady l timely i w t b a h first within = sum_tally _ w b (suc t)
        (λ n c. omega (arith, (first n).0 c, number i n a))
        (λ n c.
        let y : T (fires p (at m s l) i n) = within n ((first n).0 c) in
        let z : e (at m s l) i n ≤ s + p.start m i + n * p.period m i + p.period m i = (timely i n a y).1 in
        and_i (fires p (at m s l) i n) _ y (le→leb (e (at m s l) i n) t (omega (arith, (first n).0 c))))

    module _ (k f : ℕ) (whole : f ≡ s + k * p.iteration m) where
      done_all : InPeriod p e (at m s (leaves f)) → (i : ℕ) (w : ℕ → ℕ) (t : ℕ) → Acts p m i → f + p.start m i ≤ t → done p e (at m s (leaves f)) i w t ≡ sum w (k * p.firings m i)
      unfolding done
      done_all timely i w t a h = le_antisymm (le_trans (done_begun (leaves f) timely i w t a) (begun_part k f whole i w t a)) (sum_tally _ w (k * p.firings m i) (suc t)
          (λ n c. omega (arith, k_inside i k n a c, number i n a))
          (λ n c.
          let y : T (ltb (n * p.period m i) (f - s)) = lt→ltb (n * p.period m i) (f - s) (omega (arith, k_inside i k n a c, ok.some_period m i yes-listed a)) in
          let z : e (at m s (leaves f)) i n ≤ s + p.start m i + n * p.period m i + p.period m i = (timely i n a y).1 in
          and_i (ltb (n * p.period m i) (f - s)) _ y (le→leb (e (at m s (leaves f)) i n) t (omega (arith, k_inside i k n a c)))))

    -- what has begun at one end of a channel is covered by what is done at the other, up to c
    covered : (l : Leave) → InPeriod p e (at m s l) → (i j : ℕ) (w v : ℕ → ℕ) (c t : ℕ) → Acts p m i → Acts p m j → Whole l s (p.iteration m)
        → ((x a b : ℕ) → HaveBegun p m i x a → HaveEnded p m j x b → sum w a ≤ c + sum v b)
        → ((k : ℕ) → sum w (k * p.firings m i) ≡ sum v (k * p.firings m j))
        → begun p (at m s l) i w t ≤ c + done p e (at m s l) j v t
    covered stays timely i j w v c t ai aj _ steady even = go (split s t)
      where
        go : (s ≤ t) ⊎ (t < s) → begun p (at m s stays) i w t ≤ c + done p e (at m s stays) j v t
        go (inl h) =
            let hb = have_begun i (t - s) ai in
            let he = have_ended j (t - s) aj in
            omega (arith, steady (t - s) _ _ hb he, begun_steady stays i w t _ h hb, done_steady stays timely j v t _ aj h he (λ n x. tt))
        go (inr h) = omega (arith, begun_none stays i w t h)
    covered (leaves f) timely i j w v c t ai aj (k, whole) steady even = go (split s t) (split (f + p.start m j) t)
      where
        go : (s ≤ t) ⊎ (t < s) → (f + p.start m j ≤ t) ⊎ (t < f + p.start m j)
            → begun p (at m s (leaves f)) i w t ≤ c + done p e (at m s (leaves f)) j v t
        go (inr h) _ = omega (arith, begun_none (leaves f) i w t h)
        go (inl h) (inl d) = omega (arith, begun_part k f whole i w t ai, even k, done_all k f whole timely j v t aj d)
        go (inl h) (inr d) =
            let hb = have_begun i (t - s) ai in
            let he = have_ended j (t - s) aj in
            omega (
              arith,
              steady (t - s) _ _ hb he,
              begun_steady (leaves f) i w t _ h hb,
              done_steady (leaves f) timely j v t _ aj h he (λ n x. lt→ltb (n * p.period m j) (f - s) (omega (arith, x, ok.some_period m j yes-listed aj))),
            )

    -- One visit's clauses on channel c.
    module _ (c : ℕ) (is-channel : c < p.channels m) (t : ℕ) where
      from_acts : Acts p m (p.from m c)
      from_acts = ok.from_acts m c yes-listed is-channel

      to_acts : Acts p m (p.to m c)
      to_acts = ok.to_acts m c yes-listed is-channel

      -- at every tick, what has been taken has been made
      fed_by : (x b a : ℕ) → HaveBegun p m (p.to m c) x b → HaveEnded p m (p.from m c) x a → sum (p.consumption m c) b ≤ sum (p.production m c) a
      unfolding sum
      fed_by x b a hb he = go b (λ n l. l)
        where
          one : (n r : ℕ) → p.consumption m c n ≡ r → n < b → sum (p.consumption m c) n ≤ sum (p.production m c) a
              → sum (p.consumption m c) n + p.consumption m c n ≤ sum (p.production m c) a
          one n zero q l ih = omega arith
          one n (suc r) q l ih =
              let y = p.start m (p.to m c) + n * p.period m (p.to m c) in
              let h = have_ended (p.from m c) y from_acts in
              le_trans (rw (sum_next (p.consumption m c) n) at (ok.fed m c yes-listed is-channel n (omega arith) _ h))
              (sum_more (p.production m c) _ a (all_below _ a (λ k g. (he k).1 (omega (arith, (h k).0 g, (hb n).0 l)))))

          go : (j : ℕ) → ((n : ℕ) → n < j → n < b) → sum (p.consumption m c) j ≤ sum (p.production m c) a
          go zero l = zero-le
          go (suc j) l = one j (p.consumption m c j) refl (l j (omega arith)) (go j (λ n h. l n (omega arith)))

      -- and what has been claimed, less what has been given back, is at most the size
      sized_by : (x b a : ℕ) → HaveBegun p m (p.from m c) x b → HaveEnded p m (p.to m c) x a
          → sum (p.production m c) b ≤ p.size m c + sum (p.consumption m c) a
      sized_by x b a hb he = go (split (sum (p.consumption m c) a) (sum (p.production m c) b))
        where
          go : (sum (p.consumption m c) a ≤ sum (p.production m c) b) ⊎ (sum (p.production m c) b < sum (p.consumption m c) a)
              → sum (p.production m c) b ≤ p.size m c + sum (p.consumption m c) a
          go (inl l) = let (v, q) = le_dest l in omega (arith, q, ok.sized m c yes-listed is-channel x b a v hb he (sym q))
          go (inr l) = omega arith

      pub visit_taken : (l : Leave) → InPeriod p e (at m s l) → Whole l s (p.iteration m) → taken p c t (at m s l) ≤ made p e c t (at m s l)
      visit_taken l timely w = omega (
        arith,
        covered l timely (p.to m c) (p.from m c) (p.consumption m c) (p.production m c) 0 t to_acts from_acts w
            (λ x b a hb he. omega (arith, fed_by x b a hb he)) (λ k. sym (ok.balanced m c yes-listed is-channel k)),
      )

      pub visit_claimed : (l : Leave) → InPeriod p e (at m s l) → Whole l s (p.iteration m) → claimed p c t (at m s l) ≤ p.size m c + given_back p e c t (at m s l)
      visit_claimed l timely w = covered l timely (p.from m c) (p.to m c) (p.production m c) (p.consumption m c) (p.size m c) t from_acts to_acts w
          sized_by (ok.balanced m c yes-listed is-channel)

      -- before it starts and after it has ended, a visit has nothing in its buffers
      abbrev pub Empty : Leave → Type 0
      Empty l = (made p e c t (at m s l) ≡ taken p c t (at m s l)) × (claimed p c t (at m s l) ≡ given_back p e c t (at m s l))

      visit_unborn : (l : Leave) → InPeriod p e (at m s l) → t < s → Empty l
      visit_unborn l timely h = (
        done_none l timely (p.from m c) (p.production m c) t from_acts h ∙ sym (begun_none l (p.to m c) (p.consumption m c) t h),
        begun_none l (p.from m c) (p.production m c) t h ∙ sym (done_none l timely (p.to m c) (p.consumption m c) t to_acts h),
      )

      visit_gone : (f : ℕ) → InPeriod p e (at m s (leaves f)) → Whole (leaves f) s (p.iteration m) → f + p.startup m ≤ t → Empty (leaves f)
      visit_gone f timely (k, w) h =
          let a = ok.on_time m (p.from m c) yes-listed from_acts in
          let b = ok.on_time m (p.to m c) yes-listed to_acts in
          let even = ok.balanced m c yes-listed is-channel k in (
            done_all k f w timely (p.from m c) (p.production m c) t from_acts (omega arith)
                ∙ even ∙ sym (begun_all k f w (p.to m c) (p.consumption m c) t to_acts (omega arith)),
            begun_all k f w (p.from m c) (p.production m c) t from_acts (omega arith)
                ∙ even ∙ sym (done_all k f w timely (p.to m c) (p.consumption m c) t to_acts (omega arith)),
          )

      pub visit_closed : (l : Leave) → InPeriod p e (at m s l) → Whole l s (p.iteration m) → (T (is_open p t (at m s l)) → ⊥) → Empty l
      visit_closed l timely w h = ⊎_elim (λ (b : s ≤ t). go l timely w (λ u. h (and_i (leb s t) _ (le→leb s t b) u))) (λ (b : t < s). visit_unborn l timely b) (split s t)
        where
          go : (l : Leave) → InPeriod p e (at m s l) → Whole l s (p.iteration m) → (T (before l (p.startup m) t) → ⊥) → Empty l
          go stays timely w h = absurd (h tt)
          go (leaves f) timely w h =
              ⊎_elim (λ (b : f + p.startup m ≤ t). visit_gone f timely w b) (λ (b : t < f + p.startup m). absurd (h (lt→ltb t (f + p.startup m) b))) (split (f + p.startup m) t)
