-- The processors of a run. Assumes nothing.
use Prim.Native.Nat.{ℕ, zero, suc, ◌+◌, ◌-◌, ◌*◌, ◌≤◌, ◌<◌, ◌∣◌}
use mathlib.Core.Path.{◌≡◌, sym, subst}
use mathlib.Core.Bool.{Bool, true, false, cond}
use mathlib.Core.List.{List, [], ◌∷◌}
use mathlib.Core.Logic.{◌⊎◌, inl, inr, ⊎_elim}
use native.Mathlib.Nat.{mul-pos, dvd-mul_left, dvd-mul_right, dvd_trans, eq-or-lt_of_le, le_of_suc-le-suc, not-suc-le-zero, lt-suc_self}
use native.Mathlib.Omega.{arith}
use lib.Dec.{T, leb, ltb, leb→le, ltb→lt, le→leb, lt→ltb}
use lib.Ieee.Fits.{and_l, and_r}
use Rattle.numbers.specs.Every.{Every}
use Rattle.numbers.specs.Fraction.{AtMost, Same}
use Rattle.units.specs.Limits.{LOAD_LIMIT}
use Rattle.run.specs.Plan.{RunPlan}
use Rattle.run.specs.Machine.{Machine, Leave, stays, leaves, Visit, visit}
use Rattle.run.specs.Firing.{total, asks, asked}
use Rattle.run.proofs.Sound.{Sound}
use Rattle.run.proofs.Tallies.{split, if_so}
use Rattle.run.proofs.Load.{parts_of, part_none, part_plus, part_whole, Common, parts, asks_same, parts_le, parts_mode, parts_none, change_fits}
use Rattle.run.proofs.Links.{Linked, Link, Good, all_good, at_most}

-- the product of all iterations of listed modes below n
unfoldable product : RunPlan → ℕ → ℕ
product p zero = 1
product p (suc n) = product p n * cond (p.listed n) (p.iteration n) 1

module _ (p : RunPlan) (ok : Sound p) where
  divides : (n m : ℕ) → m < n → T (p.listed m) → p.iteration m ∣ product p n
  unfolding product
  divides zero m l li = absurd (not-suc-le-zero l)
  divides (suc n) m l li = ⊎_elim
      (λ (e : m ≡ n). subst (λ (x : ℕ). p.iteration m ∣ product p n * x)
      (sym (subst (λ (k : ℕ). cond (p.listed k) (p.iteration k) 1 ≡ p.iteration m) e (if_so (p.listed m) (p.iteration m) 1 li)))
      (dvd-mul_left (p.iteration m) (product p n)))
      (λ (h : m < n). dvd_trans (p.iteration m) (divides n m h li) (dvd-mul_right (product p n) (cond (p.listed n) (p.iteration n) 1)))
      (eq-or-lt_of_le (le_of_suc-le-suc l))

  some_parts : (n : ℕ) → 0 < product p n
  unfolding product
  some_parts zero = lt-suc_self 0
  some_parts (suc n) = mul-pos (some_parts n) (go (p.listed n) (ok.some_tick n))
    where
      go : (b : Bool) → (T b → 0 < p.iteration n) → 0 < cond b (p.iteration n) 1
      go true h = h tt
      go false h = lt-suc_self 0

  -- the parts in which a processor's time is cut
  pub D : ℕ
  D = product p ok.bound

  pub D_pos : 0 < D
  unfolding D
  D_pos = some_parts ok.bound

  pub D_common : Common p D
  unfolding D
  D_common m li = divides ok.bound m (ok.below m li) li

  module _ (proc t : ℕ) where
    -- a visit and the one before it
    two : (b c : Machine) (f : ℕ) (l : Leave) → Good p (visit c l) → Good p (visit b (leaves f)) → Link p b f c → c.started ≤ t
        → parts p D proc t (visit c l) + parts p D proc t (visit b (leaves f)) ≤ D
    two b c f l (hc, w) (hb, v) k h = go (split (f + p.startup b.mode) t)
      where
        go : (f + p.startup b.mode ≤ t) ⊎ (t < f + p.startup b.mode) → parts p D proc t (visit c l) + parts p D proc t (visit b (leaves f)) ≤ D
        go (inl x) = omega (
          arith,
          parts_mode p ok D D_common c.mode c.started hc l w proc t,
          parts_none p ok D D_common b.mode b.started hb (leaves f) v proc t (λ u.
              omega (arith, ltb→lt t (f + p.startup b.mode) (and_r (leb b.started t) _ u))),
        )
        go (inr x) = omega (
          arith,
          change_fits p ok D D_common b.mode c.mode proc (t - f) hb hc k.other (omega (arith, k.started)) (omega arith),
          parts_le p ok D D_common b.mode b.started hb (leaves f) v proc t (λ i. ltb (t - f) (p.start b.mode i)) (λ i _ u.
              lt→ltb (t - f) (p.start b.mode i)
              (omega (arith, ltb→lt t (f + p.start b.mode i) (and_r (leb (b.started + p.start b.mode i) t) _ u), k.started))),
          parts_le p ok D D_common c.mode c.started hc l w proc t (λ i. leb (p.offset b.mode c.mode + p.start c.mode i) (t - f)) (λ i _ u.
              le→leb (p.offset b.mode c.mode + p.start c.mode i) (t - f)
              (omega (arith, leb→le (c.started + p.start c.mode i) t (and_l (leb (c.started + p.start c.mode i) t) _ u), k.started))),
        )

    pub all_parts : {c : Machine} {vs : List Visit} → Linked p c vs → total (visit c stays ∷ vs) (parts p D proc t) ≤ D
    all_parts lk = at_most p t (Good p) (parts p D proc t) D
        (λ v (l, w) h. parts_none p ok D D_common v.mode v.start l v.leave w proc t h)
        (λ v (l, w). parts_mode p ok D D_common v.mode v.start l v.leave w proc t)
        two lk stays (all_good p lk)

    asked_same : (vs : List Visit) → Every (Good p) vs → Same (asked p proc t vs) (parts_of D (total vs (parts p D proc t)))
    unfolding asked total
    asked_same [] good = part_none D
    asked_same (v ∷ vs) ((l, w), good) =
        part_plus D (asks p proc t v) (asked p proc t vs) (parts p D proc t v) (total vs (parts p D proc t)) (asks_same p ok D D_common proc t v l) (asked_same vs good)

    pub no_overload : {c : Machine} {vs : List Visit} → Linked p c vs → AtMost (asked p proc t (visit c stays ∷ vs)) LOAD_LIMIT
    no_overload {c} {vs} lk = part_whole D (asked p proc t (visit c stays ∷ vs)) _ D_pos (asked_same (visit c stays ∷ vs) (all_good p lk)) (all_parts lk)
