-- Laws of the numbers that stand in a text. Assumes nothing.
use mathlib.Core.Path.{◌≡◌, refl, sym, ap, ap₂, subst, ◌∙◌}
use mathlib.Core.Bool.{Bool, true, false}
use mathlib.Core.List.{List, [], ◌∷◌, ◌++◌}
use Prim.Native.Nat.{ℕ, zero, suc, ◌+◌, ◌-◌, ◌*◌, ◌≤◌, ◌<◌}
use native.Mathlib.Omega.{arith}
use lib.Dec.{ltb}
use lib.ListN.{length, get_or, take, drop, take-append-drop, length-drop, drop_of_length-le}
use lib.Seq.{drop-drop, drop-cons, take-suc, get_or-drop, length-take-le, take_all, drop-length}
use borrow.Author.Tests.{ltb-true, ltb-false}
use Rattle.numbers.specs.Every.{Every}
use Rattle.std.specs.Prelude.{Some, None}
use Rattle.std.proofs.lemmas.List.{take_rest}
use Rattle.rfc4180.specs.Decimal.{Writes, IsDigit}
use Rattle.rfc4180.specs.Numbers.{Between, Parted, Listed}
use Rattle.rfc4180.specs.Digits.{DigitOf, DigitIs, DigitAt, NoDigit, Stands, RunTo}
use Rattle.rfc4180.proofs.Decimals.{writes_some, value_from, value_of, value_append, value_least, writes_value, number_one, text_one, writes_digits, zero_alone}

-- the bytes of a text from a place to an end
abbrev pub part : List ℕ → ℕ → ℕ → List ℕ
part s at end = take (end - at) (drop at s)

pub parts : (s : List ℕ) (at end : ℕ) → at ≤ end → part s at end ++ drop end s ≡ drop at s
parts s at end h =
    let e : at + (end - at) ≡ end = omega arith in
    ap (λ (u : List ℕ). part s at end ++ u) (sym (drop-drop (end - at) at s ∙ ap (λ (k : ℕ). drop k s) e)) ∙ take-append-drop (end - at) (drop at s)

part_none : (s : List ℕ) (at : ℕ) → part s at at ≡ []
part_none s at = let e : at - at ≡ 0 = omega arith in rw e

part_more : (s : List ℕ) (at end : ℕ) → at ≤ end → end < length s → part s at (end + 1) ≡ part s at end ++ (get_or s end 0 ∷ [])
part_more s at end h l =
    let e : end + 1 - at ≡ suc (end - at) = omega arith in
    let f : at + (end - at) ≡ end = omega arith in
    let k : end - at < length (drop at s) = omega (arith, length-drop at s) in
    rw e
    (take-suc (drop at s) (end - at) 0 k
    ∙ ap (λ (b : ℕ). part s at end ++ (b ∷ [])) (get_or-drop at s (end - at) 0 ∙ ap (λ (i : ℕ). get_or s i 0) f))

part_length : (s : List ℕ) (at end : ℕ) → end ≤ length s → length (part s at end) ≡ end - at
part_length s at end h = length-take-le (end - at) (drop at s) (omega (arith, length-drop at s))

pub whole_part : (s : List ℕ) (end : ℕ) → length s ≤ end → part s 0 end ≡ s
whole_part s end h = take_all (end - 0) s (omega arith)

-- the digits at the front of a text are these only
pub front_one : (p q u v : List ℕ) → Every IsDigit p → Every IsDigit q → NoDigit u → NoDigit v → p ++ u ≡ q ++ v → (p ≡ q) × (u ≡ v)
front_one [] [] u v h g i j e = (refl, e)
front_one [] (b ∷ q) u v h g i j e = absurd (subst (λ (t : List ℕ). NoDigit t) e i g.0)
front_one (a ∷ p) [] u v h g i j e = absurd (subst (λ (t : List ℕ). NoDigit t) (sym e) j h.0)
front_one (a ∷ p) (b ∷ q) u v h g i j e =
    let f : a ≡ b = cc in
    let k : p ++ u ≡ q ++ v = cc in
    let w = front_one p q u v h.1 g.1 i j k in
    (ap₂ (λ (x : ℕ) (y : List ℕ). x ∷ y) f w.0, w.1)

-- and those before a digit are not all of them
front_more : (p q u v : List ℕ) (b : ℕ) → Every IsDigit p → IsDigit b → NoDigit v → p ++ (b ∷ u) ≡ q ++ v → (m : List ℕ) × (q ≡ p ++ (b ∷ m))
front_more [] [] u v b h i j e = absurd (subst (λ (t : List ℕ). NoDigit t) (sym e) j i)
front_more [] (c ∷ q) u v b h i j e = let f : c ≡ b = cc in (q, ap (λ (x : ℕ). x ∷ q) f)
front_more (a ∷ p) [] u v b h i j e = absurd (subst (λ (t : List ℕ). NoDigit t) (sym e) j h.0)
front_more (a ∷ p) (c ∷ q) u v b h i j e =
    let f : c ≡ a = cc in
    let k : p ++ (b ∷ u) ≡ q ++ v = cc in
    let w = front_more p q u v b h.1 i j k in
    (w.0, ap₂ (λ (x : ℕ) (y : List ℕ). x ∷ y) f w.1)

-- the number of a run, and its end, are these only
pub run_one : {s : List ℕ} {at most limit n m end stop : ℕ} → RunTo s at most n end → RunTo s at limit m stop → (n ≡ m) × (end ≡ stop)
run_one {s} {at} {end} {stop} r q =
    let e = (front_one (part s at end) (part s at stop) (drop end s) (drop stop s) (writes_digits r.0.writes) (writes_digits q.0.writes) r.1 q.1
    (parts s at end r.0.begins ∙ sym (parts s at stop q.0.begins))).0 in (
      number_one r.0.writes (rw e q.0.writes),
      omega (arith, ap length e, part_length s at end r.0.inside, part_length s at stop q.0.inside, r.0.begins, q.0.begins),
    )

-- a byte behind a place of a text is a digit
pub digit_behind : (s : List ℕ) (start i : ℕ) {d : ℕ} → i < length (take (length s - start) (drop start s))
    → DigitOf (get_or (take (length s - start) (drop start s)) i 0) (Some d) → DigitIs s (start + i) d
digit_behind s start i l h =
    let k : i < length (drop start s) = rw take_rest at l in
    record { inside = omega (arith, k, length-drop start s); small = h.0; is = rw (take_rest, get_or-drop) at h.1 }

-- a digit stands at a place
module _ {s : List ℕ} {end d : ℕ} (g : DigitIs s end d) where
  digit_is : IsDigit (get_or s end 0)
  digit_is = (omega (arith, g.is), omega (arith, g.small, g.is))

  digit_there : drop end s ≡ get_or s end 0 ∷ drop (suc end) s
  digit_there = drop-cons s end 0 g.inside

  -- a number of one digit, and of one digit more
  pub stands_first : {most : ℕ} → d ≤ most → Stands s end most d (end + 1)
  stands_first h = record {
    begins = omega arith;
    inside = omega (arith, g.inside);
    small = h;
    writes = rw (part_more s end end (omega arith) g.inside, part_none s end, g.is) (Writes.digit g.small);
  }

  pub stands_more : {at most v : ℕ} → Stands s at most v end → 0 < v → v * 10 + d ≤ most → Stands s at most (v * 10 + d) (end + 1)
  stands_more {at} w pos h = record {
    begins = omega (arith, w.begins);
    inside = omega (arith, g.inside);
    small = h;
    writes = rw (part_more s at end w.begins g.inside, g.is) (Writes.longer pos w.writes g.small);
  }

  -- the number of a run that reaches past the digit
  module _ {at most n stop : ℕ} (r : RunTo s at most n stop) where
    past : at ≤ end → Every IsDigit (part s at end) → (m : List ℕ) × (part s at stop ≡ part s at end ++ (get_or s end 0 ∷ m))
    past h k =
        front_more (part s at end) (part s at stop) (drop (suc end) s) (drop stop s) (get_or s end 0) k digit_is r.1
        (ap (λ (u : List ℕ). part s at end ++ u) (sym digit_there) ∙ parts s at end h ∙ sym (parts s at stop r.0.begins))

    pub run_least : (v : ℕ) → at ≤ end → Every IsDigit (part s at end) → value_of (part s at end) ≡ v → v * 10 + d ≤ n
    run_least v h k e =
        let w = past h k in
        let q = sym (writes_value r.0.writes) ∙ ap value_of w.1 ∙ value_append 0 (part s at end) (get_or s end 0 ∷ w.0) ∙ ap (λ (x : ℕ). value_from x (get_or s end 0 ∷ w.0)) e in
        omega (arith, q, g.is, value_least (v * 10 + (get_or s end 0 - 48)) w.0)

    pub run_more : {v limit : ℕ} → Stands s at limit v end → (0 < v) × (v * 10 + d ≤ n)
    run_more {v} {limit} w = (above v w, run_least v w.begins (writes_digits w.writes) (writes_value w.writes))
      where
        above : (v : ℕ) → Stands s at limit v end → 0 < v
        above zero w =
            let q = past w.begins (writes_digits w.writes) in
            let e : part s at end ≡ 48 ∷ [] = text_one w.writes (Writes.digit {d = 0} (omega arith)) in
            absurd (zero_alone r.0.writes (get_or s end 0) q.0 (q.1 ∙ ap (λ (t : List ℕ). t ++ (get_or s end 0 ∷ q.0)) e))
        above (suc v) w = omega arith

  pub run_first : {most n stop : ℕ} → RunTo s end most n stop → d ≤ n
  run_first r =
      omega (arith, run_least r 0 (omega arith) (rw (part_none s end) tt) (rw (part_none s end)))

-- no digit stands at a place
pub no_digit : (s : List ℕ) (i : ℕ) → DigitAt s i None → NoDigit (drop i s)
no_digit s i g = go (ltb i (length s)) refl
  where
    go : (x : Bool) → ltb i (length s) ≡ x → NoDigit (drop i s)
    go true e = let l : i < length s = ltb-true i (length s) e in rw (drop-cons s i 0 l) (g l)
    go false e = rw (drop_of_length-le s (ltb-false i (length s) e)) tt

pub run_none : {s : List ℕ} {at most n stop : ℕ} → DigitAt s at None → RunTo s at most n stop → ⊥
run_none {s} {at} {stop} g r = go (part s at stop) (writes_some r.0.writes) (writes_digits r.0.writes) (rw (parts s at stop r.0.begins) (no_digit s at g))
  where
    go : (p : List ℕ) → 0 < length p → Every IsDigit p → NoDigit (p ++ drop stop s) → ⊥
    go [] l h f = omega arith
    go (b ∷ p) l h f = f h.0

-- a text that is a number
module _ {s : List ℕ} {n most : ℕ} where
  whole_run : Writes n s → n ≤ most → RunTo s 0 most n (length s)
  whole_run w h = (record { begins = omega arith; inside = omega arith; small = h; writes = rw (whole_part s (length s) (omega arith)) w }, rw (drop-length s) tt)

  pub number_is : {v end least : ℕ} → RunTo s 0 most v end → Between least most n → Writes n s → (v ≡ n) × (end ≡ length s)
  number_is r b w = run_one r (whole_run w b.1)

-- a number of a list
pub parted_stops : {t : List ℕ} → Parted t → NoDigit t
parted_stops Parted.over = tt
parted_stops Parted.space = λ d. omega arith

pub parted_space : {b : ℕ} {t : List ℕ} → Parted (b ∷ t) → b ≡ 32
parted_space Parted.space = refl

pub item_run : {s : List ℕ} {at most n end : ℕ} → Listed s at most n end → RunTo s at most n end
item_run w = (record { begins = w.begins; inside = w.inside; small = w.small; writes = w.writes }, parted_stops w.parted)

pub item_unparted : {s : List ℕ} {at most n m end stop : ℕ} → RunTo s at most n end → end < length s → (get_or s end 0 ≡ 32 → ⊥) → Listed s at most m stop → ⊥
item_unparted {s} {end} {stop} r l h w =
    let e : end ≡ stop = (run_one r (item_run w)).1 in
    let p : Parted (drop end s) = rw e w.parted in
    h (parted_space {t = drop (suc end) s} (rw (drop-cons s end 0 l) at p))

pub listed_is : {s : List ℕ} {at most n end : ℕ} → RunTo s at most n end → Parted (drop end s) → Listed s at most n end
listed_is r p = record { begins = r.0.begins; inside = r.0.inside; small = r.0.small; writes = r.0.writes; parted = p }

pub parted_over : (s : List ℕ) (end : ℕ) → length s ≤ end → Parted (drop end s)
parted_over s end l = rw (drop_of_length-le s l) Parted.over

pub parted_there : (s : List ℕ) (end : ℕ) → end < length s → get_or s end 0 ≡ 32 → Parted (drop end s)
parted_there s end l h = rw (drop-cons s end 0 l, h) Parted.space
