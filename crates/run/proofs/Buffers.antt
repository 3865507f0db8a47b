-- The buffers of a run. Assumes nothing.
use Prim.Native.Nat.{ℕ, ◌+◌, ◌-◌, ◌≤◌, ◌<◌, zero-le}
use mathlib.Core.Path.{◌≡◌, refl, sym, ap₂, subst}
use mathlib.Core.Bool.{Bool, true, false, cond}
use mathlib.Core.List.{List, [], ◌∷◌}
use native.Mathlib.Nat.{add-le-add}
use native.Mathlib.Omega.{arith}
use lib.Dec.{T, eqb, eqb→eq}
use Rattle.numbers.specs.Every.{Every}
use Rattle.run.specs.Plan.{RunPlan}
use Rattle.run.specs.Machine.{Machine, stays, leaves, Visit, visit}
use Rattle.run.specs.Firing.{is_open, EndTimes, InPeriod, taken, made, claimed, given_back, total, total_in, open_in}
use Rattle.run.proofs.Sound.{Sound}
use Rattle.run.proofs.Tallies.{if_le, if_none, if_same, if_so}
use Rattle.run.proofs.Tokens.{done_begun, visit_taken, visit_claimed, visit_closed}
use Rattle.run.proofs.Links.{Linked, Good, at_most, in_one}

-- a good visit, each of whose firings ends within its period
abbrev pub Fine : RunPlan → EndTimes → Visit → Type 0
Fine p e v = Good p v × InPeriod p e v

module _ (p : RunPlan) (e : EndTimes) where
  pub all_fine : (vs : List Visit) → Every (Good p) vs → Every (InPeriod p e) vs → Every (Fine p e) vs
  all_fine [] good timely = tt
  all_fine (v ∷ vs) good timely = ((good.0, timely.0), all_fine vs good.1 timely.1)

  total_le : (f g : Visit → ℕ) (vs : List Visit) → Every (Fine p e) vs → ((v : Visit) → Fine p e v → f v ≤ g v) → total vs f ≤ total vs g
  unfolding total
  total_le f g [] fine h = zero-le
  total_le f g (v ∷ vs) fine h = add-le-add (h v fine.0) (total_le f g vs fine.1 h)

  total_plus : (f g : Visit → ℕ) (vs : List Visit) → total vs (λ v. f v + g v) ≡ total vs f + total vs g
  unfolding total
  total_plus f g [] = refl
  total_plus f g (v ∷ vs) = omega (arith, total_plus f g vs)

module _ (p : RunPlan) (ok : Sound p) (e : EndTimes) where
  pub no_borrowing : (c t : ℕ) (vs : List Visit) → Every (Fine p e) vs → Every (λ v. c < p.channels v.mode → taken p c t v ≤ made p e c t v) vs
  no_borrowing c t [] fine = tt
  no_borrowing c t (v ∷ vs) (((l, w), timely), fine) = ((λ i. visit_taken p ok v.mode v.start l e c i t v.leave timely w), no_borrowing c t vs fine)

  module _ (m c t : ℕ) (is-channel : c < p.channels m) where
    has : (k : ℕ) → T (eqb k m) → c < p.channels k
    has k h = subst (λ (x : ℕ). c < p.channels x) (sym (eqb→eq k m h)) is-channel

    pub no_missing : (vs : List Visit) → Every (Fine p e) vs → total_in vs m (taken p c t) ≤ total_in vs m (made p e c t)
    no_missing vs fine = total_le p e _ _ vs fine (λ v ((l, w), timely).
        if_le (eqb v.mode m) (eqb v.mode m) _ _ (λ u. u) (λ u. visit_taken p ok v.mode v.start l e c (has v.mode u) t v.leave timely w))

    -- the places of a visit that are claimed and not given back
    abbrev held : Visit → ℕ
    held v = claimed p c t v - given_back p e c t v

    held_size : (v : Visit) → Fine p e v → v.mode ≡ m → held v ≤ p.size m c
    held_size v ((l, w), timely) q =
        subst (λ (x : ℕ). claimed p c t v - given_back p e c t v ≤ p.size x c) q
        (omega (arith, visit_claimed p ok v.mode v.start l e c (subst (λ (x : ℕ). c < p.channels x) (sym q) is-channel) t v.leave timely w))

    held_all : {b : Machine} {vs : List Visit} → Linked p b vs → Every (Fine p e) (visit b stays ∷ vs) → total_in (visit b stays ∷ vs) m held ≤ p.size m c
    held_all lk fine = at_most p t (Fine p e) (λ v. cond (eqb v.mode m) (held v) 0) (p.size m c)
        (λ v ((l, w), timely) h. if_none (eqb v.mode m) (held v) (λ u.
        omega (arith, (visit_closed p ok v.mode v.start l e c (has v.mode u) t v.leave timely w h).1)))
        (λ v good. if_le (eqb v.mode m) true (held v) (p.size m c) (λ _. tt) (λ u. held_size v good (eqb→eq v.mode m u)))
        (λ a b f l good old k _. in_one m b.mode a.mode _ _ (p.size m c) k.other (held_size (visit b l) good) (held_size (visit a (leaves f)) old))
        lk stays fine

    pub no_overflow : {b : Machine} {vs : List Visit} → Linked p b vs → Every (Fine p e) (visit b stays ∷ vs)
        → total_in (visit b stays ∷ vs) m (claimed p c t) ≤ p.size m c + total_in (visit b stays ∷ vs) m (given_back p e c t)
    no_overflow {b} {vs} lk fine = omega (
      arith,
      held_all lk fine,
      total_le p e (λ v. cond (eqb v.mode m) (claimed p c t v) 0) (λ v. cond (eqb v.mode m) (held v) 0 + cond (eqb v.mode m) (given_back p e c t v) 0)
          (visit b stays ∷ vs) fine (λ v _. part (eqb v.mode m) (claimed p c t v) (given_back p e c t v)),
      total_plus p e (λ v. cond (eqb v.mode m) (held v) 0) (λ v. cond (eqb v.mode m) (given_back p e c t v) 0) (visit b stays ∷ vs),
    )
      where
        part : (u : Bool) (x y : ℕ) → cond u x 0 ≤ cond u (x - y) 0 + cond u y 0
        part true x y = omega arith
        part false x y = zero-le

    pub no_excess : {b : Machine} {vs : List Visit} → Linked p b vs → Every (Fine p e) (visit b stays ∷ vs)
        → total_in (visit b stays ∷ vs) m (made p e c t) ≤ p.size m c + total_in (visit b stays ∷ vs) m (taken p c t)
    no_excess {b} {vs} lk fine = omega (
      arith,
      no_overflow lk fine,
      total_le p e (λ v. cond (eqb v.mode m) (made p e c t v) 0) (λ v. cond (eqb v.mode m) (claimed p c t v) 0) (visit b stays ∷ vs) fine (λ v ((l, w), timely).
          if_le (eqb v.mode m) (eqb v.mode m) _ _ (λ u. u) (λ u.
          done_begun p ok v.mode v.start l e v.leave timely (p.from v.mode c) (p.production v.mode c) t (ok.from_acts v.mode c l (has v.mode u)))),
      total_le p e (λ v. cond (eqb v.mode m) (given_back p e c t v) 0) (λ v. cond (eqb v.mode m) (taken p c t v) 0) (visit b stays ∷ vs) fine (λ v ((l, w), timely).
          if_le (eqb v.mode m) (eqb v.mode m) _ _ (λ u. u) (λ u.
          done_begun p ok v.mode v.start l e v.leave timely (p.to v.mode c) (p.consumption v.mode c) t (ok.to_acts v.mode c l (has v.mode u)))),
    )

    pub left_empty : (vs : List Visit) → Every (Fine p e) vs → open_in p vs m t ≡ 0
        → (total_in vs m (made p e c t) ≡ total_in vs m (taken p c t)) × (total_in vs m (claimed p c t) ≡ total_in vs m (given_back p e c t))
    unfolding total
    left_empty [] fine z = (refl, refl)
    left_empty (v ∷ vs) (((l, w), timely), fine) z =
        let (x, y) = left_empty vs fine (omega arith) in
        let empty : T (eqb v.mode m) → (made p e c t v ≡ taken p c t v) × (claimed p c t v ≡ given_back p e c t v) = λ u.
        visit_closed p ok v.mode v.start l e c (has v.mode u) t v.leave timely w (λ o.
        omega (arith, z, if_so {A = ℕ} (eqb v.mode m) (cond (is_open p t v) 1 0) 0 u, if_so {A = ℕ} (is_open p t v) 1 0 o)) in (
          ap₂ ◌+◌ (if_same (eqb v.mode m) _ _ (λ u. (empty u).0)) x,
          ap₂ ◌+◌ (if_same (eqb v.mode m) _ _ (λ u. (empty u).1)) y,
        )
