-- In any window of ticks, the firings that must begin and end in it need no more ticks than it has. Assumes nothing.
use Prim.Native.Nat.{ℕ, suc, ◌+◌, ◌-◌, ◌*◌, ◌/◌, ◌≤◌, ◌<◌}
use mathlib.Core.Path.{◌≡◌, sym, ap, ◌∙◌}
use mathlib.Core.Bool.{Bool, true, false, ◌&&◌, cond}
use mathlib.Core.List.{List, [], ◌∷◌}
use native.Mathlib.Nat.{le_trans, le_of_eq, zero-mul, add-mul, mul_comm, mul_left_comm, le_of_mul-le-mul_right}
use native.Mathlib.Omega.{arith}
use lib.Dec.{T, leb, ltb, eqb, leb→le, le→leb, lt→ltb}
use lib.Ieee.Fits.{and_l, and_r, and_i}
use Rattle.numbers.specs.Every.{Every}
use Rattle.numbers.specs.Sum.{sum, sum_le, sum_most, sum_least, sum_times, sum_plus, sum_swap, sum_parts, sum_more}
use Rattle.run.specs.Plan.{RunPlan, Acts, works_on}
use Rattle.run.specs.Machine.{Visit, visits, begin, run}
use Rattle.run.specs.Firing.{begins, fires, under_way, tally, total}
use Rattle.run.specs.Demand.{EveryRun}
use Rattle.run.proofs.Sound.{Sound}
use Rattle.run.proofs.Tallies.{if_so, tally_sub}
use Rattle.run.proofs.Tokens.{number}
use Rattle.run.proofs.Load.{Common, share, parts, period_divides}
use Rattle.run.proofs.Links.{Good, all_good, linked}
use Rattle.run.proofs.Processors.{D, D_pos, D_common, all_parts}

-- firing n of an actor of a visit has its whole period in the window from tick a up to tick b
abbrev pub within : RunPlan → Visit → ℕ → ℕ → ℕ → ℕ → Bool
within p v i a b n = fires p v i n && (leb a (begins p v i n) && leb (begins p v i n + p.period v.mode i) b)

-- the ticks of a processor that such firings of a visit need: the wcet of each
unfoldable pub needs : RunPlan → ℕ → ℕ → ℕ → Visit → ℕ
needs p proc a b v = sum (λ i. cond (works_on p v.mode proc i) (tally (within p v i a b) (λ n. p.wcet v.mode i) (suc b)) 0) p.actors

-- where a test holds for k numbers in a row, from u on
row : (test : ℕ → Bool) (x u k n : ℕ) → u + k ≤ n → ((t : ℕ) → u ≤ t → t < u + k → T (test t)) → k * x ≤ sum (λ t. cond (test t) x 0) n
row test x u k n le h = omega (
  arith,
  sum_least (λ i. f (u + i)) x k (λ i l. le_of_eq (sym (if_so (test (u + i)) x 0 (h (u + i) (omega arith) (omega arith))))),
  sum_parts f u k,
  sum_more f (u + k) n le,
)
  where
    f : ℕ → ℕ
    f t = cond (test t) x 0

-- sums over firings against sums over ticks
over_ticks : (f : ℕ → ℕ) (g : ℕ → ℕ → ℕ) (D n k : ℕ) → ((i : ℕ) → i < n → f i * D ≤ sum (λ t. g t i) k) → sum f n * D ≤ sum (λ t. sum (g t) n) k
over_ticks f g D n k h =
    le_trans (le_of_eq (sym (sum_times f D n))) (le_trans (sum_le (λ i. f i * D) (λ i. sum (λ t. g t i) k) n h) (le_of_eq (sym (sum_swap g k n))))

module _ (p : RunPlan) (ok : Sound p) (D : ℕ) (common : Common p D) (proc a b : ℕ) (v : Visit) (yes-listed : T (p.listed v.mode)) where
  -- one firing asks for its wcet over the ticks of its period
  firing : (i n : ℕ) → Acts p v.mode i
      → cond (within p v i a b n) (p.wcet v.mode i) 0 * D ≤ sum (λ t. cond (under_way p v i (a + t) n) (share p D v.mode i) 0) (b - a)
  firing i n acts = go (within p v i a b n) (λ y. y)
    where
      B : ℕ
      B = begins p v i n

      P : ℕ
      P = p.period v.mode i

      go : (c : Bool) → (T c → T (within p v i a b n))
          → cond c (p.wcet v.mode i) 0 * D ≤ sum (λ t. cond (under_way p v i (a + t) n) (share p D v.mode i) 0) (b - a)
      go false h = omega (arith, zero-mul D)
      go true h =
          let y = and_l (fires p v i n) _ (h tt) in
          let z = and_r (fires p v i n) _ (h tt) in
          let from : a ≤ B = leb→le a B (and_l (leb a B) _ z) in
          let to : B + P ≤ b = leb→le (B + P) b (and_r (leb a B) _ z) in
          let e : P * share p D v.mode i ≡ p.wcet v.mode i * D =
          mul_left_comm P (p.wcet v.mode i) (D / P) ∙ ap (λ (x : ℕ). p.wcet v.mode i * x) (mul_comm P (D / P) ∙ period_divides p ok D common v.mode yes-listed i acts) in
          le_trans (le_of_eq (sym e)) (row (λ t. under_way p v i (a + t) n) (share p D v.mode i) (B - a) P (b - a) (omega arith) (λ t l g.
          and_i (fires p v i n) _ y (and_i (leb B (a + t)) (ltb (a + t) (B + P)) (le→leb B (a + t) (omega arith)) (lt→ltb (a + t) (B + P) (omega arith)))))

  ticks : (i : ℕ) → Acts p v.mode i
      → tally (within p v i a b) (λ n. p.wcet v.mode i) (suc b) * D ≤ sum (λ t. tally (under_way p v i (a + t)) (λ n. share p D v.mode i) (suc b)) (b - a)
  unfolding tally
  ticks i acts = over_ticks _ (λ t n. cond (under_way p v i (a + t) n) (share p D v.mode i) 0) D (suc b) (b - a) (λ n l. firing i n acts)

  visit_needs : needs p proc a b v * D ≤ sum (λ t. parts p D proc (a + t) v) (b - a)
  unfolding needs parts
  visit_needs = over_ticks _ (λ t i. cond (works_on p v.mode proc i) (tally (under_way p v i (a + t)) (λ n. share p D v.mode i) (suc (a + t))) 0) D p.actors (b - a)
      (λ i l. actor i (works_on p v.mode proc i) (λ u. (l, and_l (p.active v.mode i) (eqb (p.processor v.mode i) proc) u)))
    where
      actor : (i : ℕ) (u : Bool) → (T u → Acts p v.mode i)
          → cond u (tally (within p v i a b) (λ n. p.wcet v.mode i) (suc b)) 0 * D
          ≤ sum (λ t. cond u (tally (under_way p v i (a + t)) (λ n. share p D v.mode i) (suc (a + t))) 0) (b - a)
      actor i false acts = omega (arith, zero-mul D)
      actor i true acts = le_trans (ticks i (acts tt)) (sum_le _ _ (b - a) (λ t l.
          tally_sub (under_way p v i (a + t)) (under_way p v i (a + t)) (λ n. share p D v.mode i) (suc b) (suc (a + t))
          (λ n k c.
          let z = and_r (fires p v i n) _ c in
          let y : begins p v i n ≤ a + t = leb→le (begins p v i n) (a + t) (and_l (leb (begins p v i n) (a + t)) _ z) in
          omega (arith, number p ok v.mode v.start yes-listed i n (acts tt)))
          (λ n k c. c)))

module _ (p : RunPlan) (ok : Sound p) where
  list_needs : (D : ℕ) → Common p D → (proc a b : ℕ) (vs : List Visit) → Every (Good p) vs
      → total vs (needs p proc a b) * D ≤ sum (λ t. total vs (parts p D proc (a + t))) (b - a)
  unfolding total
  list_needs D common proc a b [] good = omega (arith, zero-mul D)
  list_needs D common proc a b (v ∷ vs) ((l, w), good) = omega (
    arith,
    visit_needs p ok D common proc a b v l,
    list_needs D common proc a b vs good,
    sum_plus (λ t. parts p D proc (a + t) v) (λ t. total vs (parts p D proc (a + t))) (b - a),
    add-mul (needs p proc a b v) (total vs (needs p proc a b)) D,
  )

  pub window : EveryRun p (λ s. (proc a b : ℕ) → total (visits s) (needs p proc a b) ≤ b - a)
  window m start rs proc a b =
      let s = run p (begin p m) rs in
      let lk = linked p ok m start rs in
      le_of_mul-le-mul_right {k = D p ok}
      (le_trans (list_needs (D p ok) (D_common p ok) proc a b (visits s) (all_good p lk))
      (sum_most (λ t. total (visits s) (parts p (D p ok) proc (a + t))) (D p ok) (b - a) (λ t l. all_parts p ok proc (a + t) lk)))
      (D_pos p ok)
