-- The lines of a plan stand in its printed text. Assumes nothing.
use mathlib.Core.Path.{◌≡◌, sym, ap, subst, subst₂, ◌∙◌}
use mathlib.Core.Bool.{Bool, true, false, not, ◌&&◌, cond}
use mathlib.Core.Logic.{◌≢◌}
use mathlib.Core.List.{List, [], ◌++◌, append_assoc, append-nil}
use Prim.Native.Nat.{ℕ, zero, suc, ◌+◌, ◌-◌, ◌<◌}
use native.Mathlib.Decide.{ℕ_discrete}
use native.Mathlib.Omega.{arith}
use borrow.Author.Tests.{ne_eqb}
use lib.Dec.{T, leb, eqb, leb→le}
use lib.Ieee.Fits.{and_l, and_r, and_i}
use lib.ListN.{get_or}
use Rattle.numbers.specs.Bits.{hasb}
use Rattle.numbers.specs.Tab.{get_or_tab}
use Rattle.units.specs.Limits.{MODES, ACTORS}
use Rattle.terms.specs.Place.{number_of}
use Rattle.terms.specs.Text.{bytes}
use Rattle.tables.specs.Shape.{Table, channel_at, mode_at}
use Rattle.planning.specs.Shape.{Plan}
use Rattle.planning.specs.Plan.{part_at}
use Rattle.run.specs.Plan.{Acts}
use Rattle.printer.specs.Texts.{texts}
use Rattle.printer.specs.Printed.{firings_at, period_at, start_at, size_at, tokens_at, change_in, as_five, line_text, actor_text, channel_text, change_text, actors_text, channels_text, mode_text, modes_text, active_of, from_text, changes_text, plan_text}
use Rattle.machine.specs.Plan.{mode_of, part_of, is_listed, plan_of}
use Rattle.demands.specs.Demands.{change_of, Within, PlanLines}

here : (x : List ℕ) → Within x x
here x = record { front = []; back = []; is = sym (append-nil x) }

before : {x a : List ℕ} (b : List ℕ) → Within x a → Within x (a ++ b)
before {x} b w = record { front = w.front; back = w.back ++ b; is = ap (λ (l : List ℕ). l ++ b) w.is ∙ simp append_assoc }

behind : {x b : List ℕ} (a : List ℕ) → Within x b → Within x (a ++ b)
behind {x} a w = record { front = a ++ w.front; back = w.back; is = ap (λ (l : List ℕ). a ++ l) w.is ∙ simp append_assoc }

among : {x : List ℕ} (f : ℕ → List ℕ) (n i : ℕ) → i < n → Within x (f i) → Within x (texts f n)
unfolding texts
among f zero i h w = absurd (omega arith)
among {x} f (suc n) i h w = go (ℕ_discrete i n) (λ l. among f n i l w)
  where
    go : Dec (i ≡ n) → (i < n → Within x (texts f n)) → Within x (texts f n ++ f n)
    go (yes e) earlier = behind (texts f n) (subst (λ (j : ℕ). Within x (f j)) e w)
    go (no e) earlier = before (f n) (earlier (omega arith))

-- a line that is printed where a test holds
where_so : (b : Bool) (x : List ℕ) → T b → Within x (cond b x [])
where_so true x h = here x
where_so false x h = absurd h

module _ (t : Table) (w : Plan) where
  -- a listed mode has a place, and an actor
  at_place : (m : ℕ) → T (is_listed t m) → (m - 1 < MODES) × (m - 1 + 1 ≡ m) × T (not (eqb (mode_of t m).active 0))
  at_place m h =
      let some = leb→le 1 m (and_l (leb 1 m) _ h) in
      let few = leb→le m MODES (and_l (leb m MODES) _ (and_r (leb 1 m) _ h)) in
      (omega arith, omega arith, and_r (leb m MODES) _ (and_r (leb 1 m) _ h))

  in_mode : {x : List ℕ} (k : ℕ) → k < MODES → Within x (mode_text k (mode_at t k) (part_at w k)) → Within x (plan_text t w)
  in_mode k h l = before (changes_text (active_of t) w.changes) (among (λ m. mode_text m (mode_at t m) (part_at w m)) MODES k h l)

  -- the lines of an actor, of a channel and of a change, with the modes' numbers apart
  abbrev actor_line : ℕ → ℕ → ℕ → List ℕ
  actor_line n m i = line_text (bytes "actor") (as_five n (number_of i) (firings_at (part_of w m) i).0 (period_at (part_of w m) i).0 (start_at (part_of w m) i).0)

  abbrev channel_line : ℕ → ℕ → ℕ → List ℕ
  channel_line n m c =
      line_text (bytes "channel")
      (as_five n (number_of (channel_at (mode_of t m) c).from) (number_of (channel_at (mode_of t m) c).to) (size_at (part_of w m) c).0 (tokens_at (part_of w m) c).0)

  abbrev change_line : ℕ → ℕ → ℕ → ℕ → List ℕ
  change_line a b o l = line_text (bytes "change") (as_five a b (change_of w o l).overlap.0 (change_of w o l).offset.0 (change_of w o l).worst.0)

  actor_line_law : (m i : ℕ) → T (is_listed t m) → Acts (plan_of t w) m i → Within (actor_line m m i) (plan_text t w)
  actor_line_law m i h (l, a) =
      let (k, e, _) = at_place m h in
      subst (λ (n : ℕ). Within (actor_line n m i) (plan_text t w)) e
      (in_mode (m - 1) k
      (before (channels_text (m - 1) (mode_of t m) (part_of w m))
      (among (λ j. actor_text (m - 1) (mode_of t m).active j (firings_at (part_of w m) j) (period_at (part_of w m) j) (start_at (part_of w m) j)) ACTORS i l
      (where_so (hasb (mode_of t m).active i) _ a))))

  channel_line_law : (m c : ℕ) → T (is_listed t m) → c < (mode_of t m).count → Within (channel_line m m c) (plan_text t w)
  channel_line_law m c h l =
      let (k, e, _) = at_place m h in
      subst (λ (n : ℕ). Within (channel_line n m c) (plan_text t w)) e
      (in_mode (m - 1) k
      (behind (actors_text (m - 1) (mode_of t m) (part_of w m))
      (among (λ j. channel_text (m - 1) (channel_at (mode_of t m) j) (size_at (part_of w m) j) (tokens_at (part_of w m) j)) (mode_of t m).count c l (here _))))

  change_line_law : (o l : ℕ) → T (is_listed t o) → T (is_listed t l) → l ≢ o → Within (change_line o l o l) (plan_text t w)
  change_line_law o l ho hl other =
      let (k, e, a) = at_place o ho in
      let (j, f, b) = at_place l hl in
      let active = active_of t in
      let differ : eqb (o - 1) (l - 1) ≡ false = ne_eqb (o - 1) (l - 1) (λ z. other (omega (arith, e, f, z))) in
      let test = not (eqb (get_or active (o - 1) 0) 0) && (not (eqb (get_or active (l - 1) 0) 0) && not (eqb (o - 1) (l - 1))) in
      let holds : T test
      = rw (get_or_tab MODES (λ m. (mode_at t m).active) (o - 1) 0 k, get_or_tab MODES (λ m. (mode_at t m).active) (l - 1) 0 j, differ)
      (and_i (not (eqb (mode_of t o).active 0)) _ a (and_i (not (eqb (mode_of t l).active 0)) true b tt)) in
      subst₂ (λ (x y : ℕ). Within (change_line x y o l) (plan_text t w)) e f
      (behind (modes_text t w)
      (among (from_text active w.changes) MODES (o - 1) k
      (among (λ n. change_text (o - 1) n (get_or active (o - 1) 0) (get_or active n 0) (change_in w.changes (o - 1) n)) MODES (l - 1) j (where_so test _ holds))))

  pub lines : PlanLines w (plan_of t w) (plan_text t w)
  lines = record { actor = actor_line_law; channel = channel_line_law; change = change_line_law }
