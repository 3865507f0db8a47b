-- What one visit asks of a processor, in whole parts: a processor's time is cut in D parts, where every period divides D. Assumes nothing.
use Prim.Native.Nat.{ℕ, suc, ◌+◌, ◌-◌, ◌*◌, ◌/◌, ◌≤◌, ◌<◌, ◌∣◌, zero-le}
use mathlib.Core.Path.{◌≡◌, sym, ap, ◌∙◌, subst}
use mathlib.Core.Bool.{Bool, true, false, ◌&&◌, cond}
use mathlib.Core.Logic.{◌≢◌}
use native.Mathlib.Nat.{le_refl, le_trans, le_of_eq, mul_assoc, mul-pos, zero-mul, suc-mul, mul-le-mul_right, le_of_mul-le-mul_right, div-mul_cancel, dvd-mul_left, dvd_trans}
use native.Mathlib.Omega.{arith}
use lib.Dec.{T, leb, ltb, eqb, leb→le, ltb→lt, le→leb, lt→ltb}
use lib.Ieee.Fits.{and_l, and_r, and_i}
use Rattle.numbers.specs.Sum.{sum, sum_le, sum_none}
use Rattle.numbers.specs.Fraction.{Proper, AtMost, Same, plus, sum_proper, sum_common, nothing}
use Rattle.numbers.specs.declared.fraction.Fraction.{Fraction}
use Rattle.units.specs.Limits.{LOAD_LIMIT}
use Rattle.run.specs.Plan.{RunPlan, Acts, works_on, wcet_over_period}
use Rattle.run.specs.Machine.{Leave, stays, leaves, Visit}
use Rattle.run.specs.Firing.{fires, under_way, before, is_open, tally, asks}
use Rattle.run.proofs.Sound.{Sound, asked_of}
use Rattle.run.proofs.Tallies.{if_le, if_none, tally_one, tally_none}
use Rattle.run.proofs.Tokens.{at, Whole, inside_k, k_inside}

-- actor i of a visit has begun at tick t, and not ended
abbrev pub works : RunPlan → Visit → ℕ → ℕ → Bool
works p v i t = leb (v.start + p.start v.mode i) t && before v.leave (p.start v.mode i) t

module _ (p : RunPlan) (ok : Sound p) (m s : ℕ) (yes-listed : T (p.listed m)) where
  -- an actor with a firing under way is at work, and has only one
  under_works : (l : Leave) → Whole l s (p.iteration m) → (i n t : ℕ) → Acts p m i → T (under_way p (at m s l) i t n) → T (works p (at m s l) i t)
  under_works stays w i n t st u =
      let a : s + p.start m i + n * p.period m i ≤ t = leb→le (s + p.start m i + n * p.period m i) t (and_l (leb (s + p.start m i + n * p.period m i) t) _ u) in
      and_i (leb (s + p.start m i) t) true (le→leb (s + p.start m i) t (omega arith)) tt
  under_works (leaves f) (k, w) i n t st u =
      let x : T (ltb (n * p.period m i) (f - s)) = and_l (ltb (n * p.period m i) (f - s)) _ u in
      let y = and_r (ltb (n * p.period m i) (f - s)) _ u in
      let a : s + p.start m i + n * p.period m i ≤ t = leb→le (s + p.start m i + n * p.period m i) t (and_l (leb (s + p.start m i + n * p.period m i) t) _ y) in
      let b : t < s + p.start m i + n * p.period m i + p.period m i =
      ltb→lt t (s + p.start m i + n * p.period m i + p.period m i) (and_r (leb (s + p.start m i + n * p.period m i) t) _ y) in
      let c : n * p.period m i < f - s = ltb→lt (n * p.period m i) (f - s) x in
      let d = k_inside p ok m s yes-listed i k n st (inside_k p ok m s yes-listed i k n st (omega arith)) in
      and_i (leb (s + p.start m i) t) (ltb t (f + p.start m i)) (le→leb (s + p.start m i) t (omega arith)) (lt→ltb t (f + p.start m i) (omega arith))

  under_one : (l : Leave) (i t n k : ℕ) → T (under_way p (at m s l) i t n) → T (under_way p (at m s l) i t k) → n < k → ⊥
  under_one l i t n k u v lt =
      let x = and_r (fires p (at m s l) i n) _ u in
      let y = and_r (fires p (at m s l) i k) _ v in
      let a : t < s + p.start m i + n * p.period m i + p.period m i =
      ltb→lt t (s + p.start m i + n * p.period m i + p.period m i) (and_r (leb (s + p.start m i + n * p.period m i) t) _ x) in
      let b : s + p.start m i + k * p.period m i ≤ t = leb→le (s + p.start m i + k * p.period m i) t (and_l (leb (s + p.start m i + k * p.period m i) t) _ y) in
      let c : suc n * p.period m i ≤ k * p.period m i = mul-le-mul_right (p.period m i) lt in
      omega (arith, suc-mul n (p.period m i))

  pub work_le : (l : Leave) → Whole l s (p.iteration m) → (i t x : ℕ) → Acts p m i
      → tally (under_way p (at m s l) i t) (λ n. x) (suc t) ≤ cond (works p (at m s l) i t) x 0
  work_le l w i t x st = go (works p (at m s l) i t) (λ n u. under_works l w i n t st u)
    where
      go : (b : Bool) → ((n : ℕ) → T (under_way p (at m s l) i t n) → T b) → tally (under_way p (at m s l) i t) (λ n. x) (suc t) ≤ cond b x 0
      go true h = tally_one (under_way p (at m s l) i t) x (suc t) (λ n k. under_one l i t n k)
      go false h = le_of_eq (tally_none (under_way p (at m s l) i t) (λ n. x) (suc t) (λ n _. h n))

  -- an actor at work has its visit under way
  pub works_open : (l : Leave) (i t : ℕ) → Acts p m i → T (works p (at m s l) i t) → T (is_open p t (at m s l))
  works_open l i t a u =
      let b : s + p.start m i ≤ t = leb→le (s + p.start m i) t (and_l (leb (s + p.start m i) t) _ u) in
      and_i (leb s t) (before l (p.startup m) t) (le→leb s t (omega arith)) (later l (and_r (leb (s + p.start m i) t) _ u))
    where
      later : (l : Leave) → T (before l (p.start m i) t) → T (before l (p.startup m) t)
      later stays h = tt
      later (leaves f) h = lt→ltb t (f + p.startup m) (omega (arith, ltb→lt t (f + p.start m i) h, ok.on_time m i yes-listed a))

  pub under_open : (l : Leave) → Whole l s (p.iteration m) → (i n t : ℕ) → Acts p m i → T (under_way p (at m s l) i t n) → T (is_open p t (at m s l))
  under_open l w i n t a u = works_open l i t a (under_works l w i n t a u)

-- n parts of D
abbrev pub parts_of : ℕ → ℕ → Fraction
parts_of D n = record { over = n; under = D }

-- fractions and their parts
pub part_none : (D : ℕ) → Same nothing (parts_of D 0)
part_none D = omega (arith, zero-mul D)

part_if : (D : ℕ) (b : Bool) (a : Fraction) (n : ℕ) → (T b → Same a (parts_of D n)) → Same (cond b a nothing) (parts_of D (cond b n 0))
part_if D true a n h = h tt
part_if D false a n h = part_none D

pub part_plus : (D : ℕ) (a b : Fraction) (n k : ℕ) → Same a (parts_of D n) → Same b (parts_of D k) → Same (plus a b) (parts_of D (n + k))
part_plus D a b n k e f = omega (arith, ap (λ (x : ℕ). x * b.under) e, ap (λ (x : ℕ). x * a.under) f)

-- a fraction is at most the whole exactly when its parts are at most all of them
pub part_whole : (D : ℕ) (a : Fraction) (n : ℕ) → 0 < D → Same a (parts_of D n) → n ≤ D → AtMost a LOAD_LIMIT
part_whole D a n pos e le = le_of_mul-le-mul_right {k = D} (omega (arith, e, mul-le-mul_right a.under le)) pos

whole_part : (D : ℕ) (a : Fraction) (n : ℕ) → Proper a → Same a (parts_of D n) → AtMost a LOAD_LIMIT → n ≤ D
whole_part D a n pos e le = le_of_mul-le-mul_right {k = a.under} (omega (arith, e, mul-le-mul_right D le)) pos

-- every iteration of a listed mode divides D
abbrev pub Common : RunPlan → ℕ → Type 0
Common p D = (m : ℕ) → T (p.listed m) → p.iteration m ∣ D

-- what a firing of an actor asks, in parts of D
abbrev pub share : RunPlan → ℕ → ℕ → ℕ → ℕ
share p D m i = p.wcet m i * (D / p.period m i)

-- what a visit asks, and what the actors ask that count
unfoldable pub parts : RunPlan → ℕ → ℕ → ℕ → Visit → ℕ
parts p D proc t v = sum (λ i. cond (works_on p v.mode proc i) (tally (under_way p v i t) (λ n. share p D v.mode i) (suc t)) 0) p.actors

abbrev pub load_of : RunPlan → ℕ → ℕ → ℕ → (ℕ → Bool) → ℕ
load_of p D m proc counts = sum (λ i. cond (works_on p m proc i && counts i) (share p D m i) 0) p.actors

module _ (p : RunPlan) (ok : Sound p) (D : ℕ) (common : Common p D) where
  module _ (m : ℕ) (yes-listed : T (p.listed m)) where
    pub period_divides : (i : ℕ) → Acts p m i → D / p.period m i * p.period m i ≡ D
    period_divides i a =
        div-mul_cancel (p.period m i) (dvd_trans (p.period m i) (subst (λ (x : ℕ). p.period m i ∣ x) (ok.filled m i yes-listed a) (dvd-mul_left (p.period m i) (p.firings m i))) (common m yes-listed))

    asked_share : (i : ℕ) → Acts p m i → Same (wcet_over_period p m i) (parts_of D (share p D m i))
    asked_share i a =
        ap (λ (x : ℕ). p.wcet m i * x) (sym (period_divides i a)) ∙ sym (mul_assoc (p.wcet m i) (D / p.period m i) (p.period m i))

    is_acting : (proc i : ℕ) → i < p.actors → T (works_on p m proc i) → Acts p m i
    is_acting proc i l t = (l, and_l (p.active m i) (eqb (p.processor m i) proc) t)

    load_same : (proc : ℕ) (counts : ℕ → Bool) → Same (asked_of p m proc counts) (parts_of D (load_of p D m proc counts))
    load_same proc counts = sum_common _ _ D p.actors (λ i l.
        part_if D (works_on p m proc i && counts i) (wcet_over_period p m i) (share p D m i) (λ t. asked_share i (is_acting proc i l (and_l (works_on p m proc i) (counts i) t))))

    load_proper : (proc : ℕ) (counts : ℕ → Bool) → Proper (asked_of p m proc counts)
    load_proper proc counts = sum_proper _ p.actors (λ i l. go (works_on p m proc i && counts i) (λ t. is_acting proc i l (and_l (works_on p m proc i) (counts i) t)))
      where
        go : (b : Bool) {i : ℕ} → (T b → Acts p m i) → Proper (cond b (wcet_over_period p m i) nothing)
        go true {i} a = ok.some_period m i yes-listed (a tt)
        go false a = omega arith

    pub load_fits : (proc : ℕ) → load_of p D m proc (λ i. true) ≤ D
    load_fits proc = whole_part D (asked_of p m proc (λ i. true)) _ (load_proper proc (λ i. true)) (load_same proc (λ i. true)) (ok.load m proc yes-listed)

  pub change_fits : (o l proc k : ℕ) → T (p.listed o) → T (p.listed l) → l ≢ o → p.offset o l ≤ k → k ≤ p.startup o
      → load_of p D o proc (λ i. ltb k (p.start o i)) + load_of p D l proc (λ i. leb (p.offset o l + p.start l i) k) ≤ D
  change_fits o l proc k ho hl other from to =
      let old : ℕ → Bool = λ i. ltb k (p.start o i) in
      let new : ℕ → Bool = λ i. leb (p.offset o l + p.start l i) k in
      whole_part D (plus (asked_of p o proc old) (asked_of p l proc new)) _ (mul-pos (load_proper o ho proc old) (load_proper l hl proc new))
      (part_plus D (asked_of p o proc old) (asked_of p l proc new) _ _ (load_same o ho proc old) (load_same l hl proc new))
      (ok.change o l proc k ho hl other from to)

  pub asks_same : (proc t : ℕ) (v : Visit) → T (p.listed v.mode) → Same (asks p proc t v) (parts_of D (parts p D proc t v))
  unfolding asks parts tally
  asks_same proc t v li = sum_common _ _ D p.actors (λ i l. part_if D (works_on p v.mode proc i) _ _ (λ a.
      sum_common _ _ D (suc t) (λ n _. part_if D (under_way p v i t n) (wcet_over_period p v.mode i) (share p D v.mode i) (λ _.
      asked_share v.mode li i (is_acting v.mode li proc i l a)))))

  module _ (m s : ℕ) (yes-listed : T (p.listed m)) (l : Leave) (w : Whole l s (p.iteration m)) (proc t : ℕ) where
    -- what a visit asks is at most the load of those actors that count, if those at work do
    pub parts_le : (counts : ℕ → Bool) → ((i : ℕ) → Acts p m i → T (works p (at m s l) i t) → T (counts i))
        → parts p D proc t (at m s l) ≤ load_of p D m proc counts
    unfolding parts
    parts_le counts h = sum_le _ _ p.actors (λ i lt. term i (works_on p m proc i) (λ u. is_acting m yes-listed proc i lt u))
      where
        term : (i : ℕ) (u : Bool) → (T u → Acts p m i)
            → cond u (tally (under_way p (at m s l) i t) (λ n. share p D m i) (suc t)) 0 ≤ cond (u && counts i) (share p D m i) 0
        term i true a =
            le_trans (work_le p ok m s yes-listed l w i t (share p D m i) (a tt))
            (if_le (works p (at m s l) i t) (counts i) _ _ (h i (a tt)) (λ _. le_refl (share p D m i)))
        term i false a = zero-le

    pub parts_mode : parts p D proc t (at m s l) ≤ D
    parts_mode = le_trans (parts_le (λ i. true) (λ i a u. tt)) (load_fits m yes-listed proc)

    -- a visit that is not under way asks nothing
    pub parts_none : (T (is_open p t (at m s l)) → ⊥) → parts p D proc t (at m s l) ≡ 0
    parts_none h =
        let a = parts_le (λ i. false) (λ i a u. h (works_open p ok m s yes-listed l i t a u)) in
        let b : load_of p D m proc (λ i. false) ≡ 0 = sum_none _ p.actors (λ i _. if_none (works_on p m proc i && false) _ (λ u. absurd (and_r (works_on p m proc i) false u))) in
        omega arith
