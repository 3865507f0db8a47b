-- Laws of arguments one behind the other. Assumes nothing.
use mathlib.Core.Path.{◌≡◌, refl, sym, ap, ap₂, ◌∙◌}
use mathlib.Core.Bool.{Bool, true, false, cond}
use Rattle.std.specs.Prelude.{Option, Some}
use mathlib.Core.List.{List, [], ◌∷◌}
use Prim.Native.Nat.{ℕ, suc, ◌+◌, ◌-◌, ◌≤◌, ◌<◌}
use native.Mathlib.Nat.{min-eq_left}
use native.Mathlib.Omega.{arith}
use lib.Dec.{eqb}
use lib.ListN.{length, take, drop, drop_of_length-le, length-take, length-drop}
use lib.Seq.{drop-drop}
use Rattle.arguments.specs.Argument.{longer, arguments_of, first_of, FirstBad, none, here, later}
use Rattle.arguments.proofs.Reading.{request_unique, sign_in, sign_none, sign_next, sign_within}

-- some bytes are their first argument, and those behind its 0
parted : (b : ℕ) (s : List ℕ) → arguments_of (b ∷ s) ≡ take (sign_in 0 (b ∷ s)) (b ∷ s) ∷ arguments_of (drop (suc (sign_in 0 (b ∷ s))) (b ∷ s))
unfolding arguments_of
parted b [] = rw (sign_next, sign_none) (go (eqb b 0))
  where
    go : (x : Bool) → cond x ([] ∷ []) (longer b []) ≡ take (cond x 0 1) (b ∷ []) ∷ arguments_of (drop (suc (cond x 0 1)) (b ∷ []))
    go true = refl
    go false = refl
parted b (a ∷ s) = rw (sign_next 0 b (a ∷ s)) (go (eqb b 0) (parted a s))
  where
    go : (x : Bool) → arguments_of (a ∷ s) ≡ take (sign_in 0 (a ∷ s)) (a ∷ s) ∷ arguments_of (drop (suc (sign_in 0 (a ∷ s))) (a ∷ s))
        → cond x ([] ∷ arguments_of (a ∷ s)) (longer b (arguments_of (a ∷ s)))
        ≡ take (cond x 0 (suc (sign_in 0 (a ∷ s)))) (b ∷ a ∷ s) ∷ arguments_of (drop (suc (cond x 0 (suc (sign_in 0 (a ∷ s))))) (b ∷ a ∷ s))
    go true h = refl
    go false h = ap (longer b) h

pub first_sign : (s : List ℕ) → length (first_of (arguments_of s)) ≡ sign_in 0 s
unfolding arguments_of
first_sign [] = sym (sign_none 0)
first_sign (b ∷ s) =
    ap (λ (t : List (List ℕ)). length (first_of t)) (parted b s) ∙ length-take (sign_in 0 (b ∷ s)) (b ∷ s) ∙ min-eq_left (sign_within 0 (b ∷ s))

pub first_within : (s : List ℕ) → length (first_of (arguments_of s)) ≤ length s
first_within s = omega (arith, first_sign s, sign_within 0 s)

pub arguments_none : (s : List ℕ) (at : ℕ) → length s ≤ at → arguments_of (drop at s) ≡ []
unfolding arguments_of
arguments_none s at h = rw (drop_of_length-le s h)

parted_at : (s : List ℕ) → 0 < length s → arguments_of s ≡ take (sign_in 0 s) s ∷ arguments_of (drop (suc (sign_in 0 s)) s)
parted_at [] h = absurd (omega arith)
parted_at (b ∷ s) h = parted b s

-- the argument at a place, and those behind it
module _ (s : List ℕ) (at end : ℕ) (e : end ≡ at + length (first_of (arguments_of (drop at s)))) (l : at < length s) where
  sign_there : end ≡ at + sign_in 0 (drop at s)
  sign_there = e ∙ ap (λ (n : ℕ). at + n) (first_sign (drop at s))

  pub end_within : end ≤ length s
  end_within = omega (arith, sign_there, sign_within 0 (drop at s), length-drop at s)

  pub argument_then : arguments_of (drop at s) ≡ take (end - at) (drop at s) ∷ arguments_of (drop (end + 1) s)
  argument_then =
      let k : end - at ≡ sign_in 0 (drop at s) = omega (arith, sign_there) in
      let n : at + suc (sign_in 0 (drop at s)) ≡ end + 1 = omega (arith, sign_there) in
      parted_at (drop at s) (omega (arith, length-drop at s))
      ∙ ap₂ (λ (i : ℕ) (t : List ℕ). take i (drop at s) ∷ arguments_of t) (sym k) (drop-drop (suc (sign_in 0 (drop at s))) at s ∙ ap (λ (m : ℕ). drop m s) n)

-- there are no more arguments than bytes, and the first that is no request is one of them
arguments_within : (s : List ℕ) → length (arguments_of s) ≤ length s
unfolding arguments_of
arguments_within [] = omega arith
arguments_within (b ∷ s) = go (eqb b 0) (arguments_of s) (arguments_within s)
  where
    go : (x : Bool) (t : List (List ℕ)) → length t ≤ length s → length (cond x ([] ∷ t) (longer b t)) ≤ suc (length s)
    go true t h = omega arith
    go false [] h = omega arith
    go false (a ∷ t) h = omega arith

bad_at : {number n : ℕ} {s : List (List ℕ)} → FirstBad number s (Some n) → n ≤ number + length s
bad_at (here p) = omega arith
bad_at (later p m) = omega (arith, bad_at m)

pub bad_within : {n : ℕ} (s : List ℕ) (from : ℕ) → FirstBad 1 (arguments_of (drop from s)) (Some n) → n ≤ 1 + length s
bad_within s from f = omega (arith, bad_at f, arguments_within (drop from s), length-drop from s)

-- the first that is no request is one only
pub bad_unique : {number : ℕ} {x y : Option ℕ} {s : List (List ℕ)} → FirstBad number s x → FirstBad number s y → x ≡ y
bad_unique none none = refl
bad_unique (here p) (here q) = refl
bad_unique (here p) (later q n) = let e = request_unique p q in cc
bad_unique (later p m) (here q) = let e = request_unique p q in cc
bad_unique (later p m) (later q n) = bad_unique m n
