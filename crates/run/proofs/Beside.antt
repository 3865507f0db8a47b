-- How the visits and firings of every run stand to each other. Assumes nothing.
use Prim.Native.Nat.{ℕ, suc, ◌+◌, ◌-◌, ◌*◌, ◌≤◌, ◌<◌, zero-le}
use mathlib.Core.Bool.{Bool, true, false, ◌&&◌, cond}
use native.Mathlib.Nat.{le_trans, le_refl}
use native.Mathlib.Omega.{arith}
use mathlib.Core.List.{List, [], ◌∷◌}
use lib.Dec.{T, leb, leb→le, ltb→lt, lt→ltb}
use lib.Ieee.Fits.{and_l, and_r}
use Rattle.numbers.specs.Every.{Every}
use Rattle.run.specs.Plan.{RunPlan, Acts}
use Rattle.run.specs.Machine.{Machine, leaving, Leave, stays, leaves, Visit, visit, visits, begin, run}
use Rattle.run.specs.Firing.{under_way, is_open, tally, total, busy}
use Rattle.run.specs.Demand.{EveryRun, OrderlyRuns}
use Rattle.run.proofs.Sound.{Sound}
use Rattle.run.proofs.Tallies.{if_le, if_none}
use Rattle.run.proofs.Delay.{leaving_is}
use Rattle.run.proofs.Load.{works, work_le, works_open, under_open}
use Rattle.run.proofs.Links.{Link, Good, linked, all_good, at_most, two_open, one_open}

module _ (p : RunPlan) (ok : Sound p) where
  -- only visits that are under way have firings under way
  only_open : (t : ℕ) (vs : List Visit) → Every (Good p) vs → Every (λ v. (i n : ℕ) → Acts p v.mode i → T (under_way p v i t n) → T (is_open p t v)) vs
  only_open t [] good = tt
  only_open t (v ∷ vs) ((l, w), good) = ((λ i n a u. under_open p ok v.mode v.start l v.leave w i n t a u), only_open t vs good)

  -- an actor has one firing under way at a time, across visits
  module _ (i t : ℕ) (is-actor : i < p.actors) where
    abbrev at_work : Visit → Bool
    at_work v = p.active v.mode i && works p v i t

    busy_le : (v : Visit) → Good p v → busy p i t v ≤ cond (at_work v) 1 0
    unfolding busy
    busy_le v (l, w) = go (p.active v.mode i) (λ a. a)
      where
        go : (b : Bool) → (T b → T (p.active v.mode i)) → cond b (tally (under_way p v i t) (λ n. 1) (suc t)) 0 ≤ cond (b && works p v i t) 1 0
        go true h = work_le p ok v.mode v.start l v.leave w i t 1 (is-actor, h tt)
        go false h = zero-le

    not_both : (x y : Bool) → (T x → T y → ⊥) → cond x 1 0 + cond y 1 0 ≤ 1
    not_both true true h = absurd (h tt tt)
    not_both true false h = omega arith
    not_both false true h = omega arith
    not_both false false h = zero-le

    handed_over : (b c : Machine) (f : ℕ) (l : Leave) → T (p.listed b.mode) → Link p b f c → T (at_work (visit c l)) → T (at_work (visit b (leaves f))) → ⊥
    handed_over b c f l hb k u v =
        let new = leb→le (c.started + p.start c.mode i) t (and_l (leb (c.started + p.start c.mode i) t) _ (and_r (p.active c.mode i) _ u)) in
        let old = ltb→lt t (f + p.start b.mode i) (and_r (leb (b.started + p.start b.mode i) t) _ (and_r (p.active b.mode i) _ v)) in
        let both = ok.waits b.mode c.mode i hb k.new k.other (is-actor, and_l (p.active b.mode i) _ v) (is-actor, and_l (p.active c.mode i) _ u) in
        omega (arith, k.started)

    one_firing : EveryRun p (λ s. total (visits s) (busy p i t) ≤ 1)
    one_firing m start rs = at_most p t (Good p) (busy p i t) 1
        (λ v (l, w) h. omega (
          arith,
          busy_le v (l, w),
          if_none (at_work v) 1 (λ u.
              absurd (h (works_open p ok v.mode v.start l v.leave i t (is-actor, and_l (p.active v.mode i) _ u) (and_r (p.active v.mode i) _ u)))),
        ))
        (λ v good. le_trans (busy_le v good) (if_le (at_work v) true 1 1 (λ _. tt) (λ _. le_refl 1)))
        (λ b c f l new old k _. omega (
          arith,
          busy_le (visit c l) new,
          busy_le (visit b (leaves f)) old,
          not_both (at_work (visit c l)) (at_work (visit b (leaves f))) (handed_over b c f l old.0 k),
        ))
        (linked p ok m start rs) stays (all_good p (linked p ok m start rs))

  pub orderly : OrderlyRuns p
  orderly = record {
    two_visits = λ m start rs t. two_open p t (linked p ok m start rs);
    apart = λ m start rs k t. one_open p k t (linked p ok m start rs);
    none_elsewhere = λ m start rs t. only_open t (visits (run p (begin p m) rs)) (all_good p (linked p ok m start rs));
    one_firing = one_firing;
    none_cancelled = λ m r i n h l. lt→ltb (n * p.period m.mode i) (leaving p m r - m.started) (omega (arith, leaving_is p ok m r h));
  }
