-- What a class says of the bytes at the front of a text. Assumes nothing.
use mathlib.Core.Path.{◌≡◌, refl, ap, sym, subst}
use mathlib.Core.Bool.{Bool, true, false, cond}
use mathlib.Core.List.{List, [], ◌∷◌}
use Prim.Native.Nat.{ℕ, ◌+◌, ◌-◌, ◌<◌}
use native.Mathlib.Numerals.{add-one}
use native.Mathlib.Omega.{arith}
use lib.Dec.{eqb, ltb}
use lib.ListN.{length, get_or, drop, length-drop}
use lib.Seq.{drop-cons}
use borrow.Author.Tests.{eqb-true}
use Rattle.std.specs.Prelude.{Option, Some, None}
use Rattle.rfc4180.specs.declared.bytes.Class.{Class}
use Rattle.rfc4180.specs.declared.bytes.Class.TheVariants.{Text, Comma, Quote, Return, Feed, Other}
use Rattle.rfc4180.specs.Bytes.{class_of, class_at}

-- the front of a text of each class
abbrev pub Front : Option Class → List ℕ → Type 0
Front None w = w ≡ []
Front (Some Text) w = 0 < length w
Front (Some Comma) w = w ≡ 44 ∷ drop 1 w
Front (Some Quote) w = w ≡ 34 ∷ drop 1 w
Front (Some Return) w = w ≡ 13 ∷ drop 1 w
Front (Some Feed) w = w ≡ 10 ∷ drop 1 w
Front (Some Other) w = 0 < length w

front_of : (w : List ℕ) → Front (class_at w) w
unfolding class_of
front_of [] = refl
front_of (b ∷ w) = go (eqb b 44) (eqb b 34) (eqb b 13) (eqb b 10) (ltb b 32) (ltb b 127) refl refl refl refl
  where
    go : (s t u v x y : Bool) → eqb b 44 ≡ s → eqb b 34 ≡ t → eqb b 13 ≡ u → eqb b 10 ≡ v
        → Front (Some (cond s Comma (cond t Quote (cond u Return (cond v Feed (cond x Other (cond y Text Other))))))) (b ∷ w)
    go true t u v x y e f g h = ap (λ (a : ℕ). a ∷ w) (eqb-true b 44 e)
    go false true u v x y e f g h = ap (λ (a : ℕ). a ∷ w) (eqb-true b 34 f)
    go false false true v x y e f g h = ap (λ (a : ℕ). a ∷ w) (eqb-true b 13 g)
    go false false false true x y e f g h = ap (λ (a : ℕ). a ∷ w) (eqb-true b 10 h)
    go false false false false true y e f g h = omega arith
    go false false false false false true e f g h = omega arith
    go false false false false false false e f g h = omega arith

pub front : (w : List ℕ) (x : Option Class) → x ≡ class_at w → Front x w
front w x e = subst (λ (y : Option Class). Front y w) (sym e) (front_of w)

-- a place where the text is not over
pub inside : (s : List ℕ) (i : ℕ) {x : Class} → Some x ≡ class_at (drop i s) → i < length s
inside s i {x} h = go (drop i s) h (length-drop i s)
  where
    go : (w : List ℕ) → Some x ≡ class_at w → length w ≡ length s - i → i < length s
    go [] h e = cc
    go (b ∷ w) h e = omega arith

pub at_front : (s : List ℕ) (i : ℕ) → i < length s → drop i s ≡ get_or s i 0 ∷ drop (i + 1) s
at_front s i h = rw (add-one, drop-cons s i 0)
