-- The parts of a line, and how long a plan's text can be. Assumes nothing.
use mathlib.Core.Path.{◌≡◌, refl, sym, ap, ◌∙◌}
use mathlib.Core.Bool.{Bool, true, false, cond, not, ◌&&◌}
use mathlib.Core.List.{List, [], ◌∷◌, ◌++◌, map, append_assoc, append-nil}
use Prim.Native.Nat.{ℕ, zero, suc, ◌+◌, ◌*◌, ◌-◌, ◌^◌, ◌≤◌, ◌<◌}
use native.Mathlib.Omega.{arith}
use lib.Dec.{T, eqb, leb, ltb, ltb→lt}
use lib.ListN.{length, get_or, take, drop, length-append, take-append-drop}
use Rattle.std.proofs.lemmas.List.{take_more}
use borrow.Author.Tests.{leb-true, leb-false, eq-eqb}
use Rattle.numbers.specs.Bits.{hasb}
use Rattle.numbers.specs.Digits.{digits}
use Rattle.units.specs.Bounds.{MOST_FIRINGS, MOST_CARRIED, MOST_START, MOST_DELAY, MOST_SIZE}
use Rattle.units.specs.Limits.{MODES, ACTORS, CHANNELS, ITERATION_LIMIT}
use Rattle.terms.specs.Place.{number_of}
use Rattle.terms.specs.Text.{bytes}
use Rattle.terms.specs.declared.refusal.Printed.{Printed}
use Rattle.terms.specs.Refusal.{five}
use Rattle.tables.specs.Shape.{Mode, Table, channel_at, mode_at}
use Rattle.rfc4180.specs.Decimal.{decimal}
use Rattle.rfc4180.specs.Writing.{joined}
use Rattle.change.specs.declared.Timing.{Timing}
use Rattle.planning.specs.declared.ModePlan.{ModePlan}
use Rattle.planning.specs.Shape.{Plan}
use Rattle.planning.specs.Plan.{part_at}
use Rattle.printer.specs.Texts.{texts}
use Rattle.printer.specs.Printed.{line_text, as_five, actor_text, channel_text, change_text, actors_text, channels_text, mode_text, from_text, changes_text, modes_text, active_of, plan_text, printed_text}
use Rattle.printer.specs.Printed.{firings_at, period_at, start_at, size_at, tokens_at, change_in, ACTOR_LINE, CHANNEL_LINE, CHANGE_LINE, PRINTED, SmallPart, SmallTiming, Small}
use Rattle.printer.proofs.Digits.{digits_most, digits_within}

-- a comma and a number
abbrev pub field_text : ℕ → List ℕ
field_text n = 44 ∷ decimal n

-- so for each of some numbers
abbrev pub fields : List ℕ → List ℕ
fields [] = []
fields (n ∷ ns) = field_text n ++ fields ns

abbrev pub end : List ℕ
end = 13 ∷ 10 ∷ []

joined_fields : (word ns : List ℕ) → joined (word ∷ map decimal ns) ≡ word ++ fields ns
unfolding joined
joined_fields word [] = sym (append-nil word)
joined_fields word (n ∷ ns) = ap (λ (l : List ℕ). word ++ (44 ∷ l)) (joined_fields (decimal n) ns)

pub line_parts : (word ns : List ℕ) → line_text word ns ≡ (word ++ fields ns) ++ end
unfolding line_text
line_parts word ns = ap (λ (l : List ℕ). l ++ end) (joined_fields word ns)

fields_append : (a b : List ℕ) → fields (a ++ b) ≡ fields a ++ fields b
fields_append [] b = refl
fields_append (n ∷ a) b = ap (λ (l : List ℕ). field_text n ++ l) (fields_append a b) ∙ sym (append_assoc (field_text n) (fields a) (fields b))

-- one number more, and those that are left
pub fields_more : (word ns : List ℕ) (i : ℕ) → i < length ns → word ++ fields (take (i + 1) ns) ≡ (word ++ fields (take i ns)) ++ field_text (get_or ns i 0)
fields_more word ns i h =
    ap (λ (l : List ℕ). word ++ fields l) (take_more ns i 0 h)
    ∙ ap (λ (l : List ℕ). word ++ l) (fields_append (take i ns) (get_or ns i 0 ∷ []) ∙ ap (λ (l : List ℕ). fields (take i ns) ++ l) (append-nil (field_text (get_or ns i 0))))
    ∙ sym (append_assoc word (fields (take i ns)) (field_text (get_or ns i 0)))

pub fields_left : (word ns : List ℕ) (i : ℕ) → i < length ns → word ++ fields ns ≡ (word ++ fields (take i ns)) ++ (field_text (get_or ns i 0) ++ fields (drop (i + 1) ns))
fields_left word ns i h =
    ap (λ (l : List ℕ). word ++ fields l) (sym (take-append-drop (i + 1) ns))
    ∙ ap (λ (l : List ℕ). word ++ l) (fields_append (take (i + 1) ns) (drop (i + 1) ns))
    ∙ sym (append_assoc word (fields (take (i + 1) ns)) (fields (drop (i + 1) ns)))
    ∙ ap (λ (l : List ℕ). l ++ fields (drop (i + 1) ns)) (fields_more word ns i h)
    ∙ append_assoc (word ++ fields (take i ns)) (field_text (get_or ns i 0)) (fields (drop (i + 1) ns))

length_fields : (n : ℕ) (ns : List ℕ) → length (fields (n ∷ ns)) ≡ 1 + length (decimal n) + length (fields ns)
length_fields n ns = omega (arith, length-append (field_text n) (fields ns))

-- a line whose numbers have at most so many digits
line_most : (p q r s t : ℕ) (word : List ℕ) (a b c d e : ℕ) → length (decimal a) ≤ p → length (decimal b) ≤ q → length (decimal c) ≤ r
    → length (decimal d) ≤ s → length (decimal e) ≤ t → length (line_text word (as_five a b c d e)) ≤ length word + 7 + (p + q + r + s + t)
line_most p q r s t word a b c d e f g h i j =
    let ns = as_five a b c d e in
    rw line_parts
    (omega (
      arith,
      length-append (word ++ fields ns) end,
      length-append word (fields ns),
      length_fields a (b ∷ c ∷ d ∷ e ∷ []),
      length_fields b (c ∷ d ∷ e ∷ []),
      length_fields c (d ∷ e ∷ []),
      length_fields d (e ∷ []),
      length_fields e [],
    ))

-- the digits of a number that is at most another, which has no more than 20
within : (n most : ℕ) → T (ltb most (10 ^ 20)) → n ≤ most → length (decimal n) ≤ digits most
within n most small h = digits_within n most (ltb→lt most (10 ^ 20) small) h

cond_most : (b : Bool) (s : List ℕ) (n : ℕ) → length s ≤ n → length (cond b s []) ≤ n
cond_most true s n h = h
cond_most false s n h = omega arith

-- n texts of at most b bytes, and where one of them is empty
texts_most : (f : ℕ → List ℕ) (b n : ℕ) → ((i : ℕ) → i < n → length (f i) ≤ b) → length (texts f n) ≤ n * b
unfolding texts
texts_most f b zero h = omega arith
texts_most f b (suc n) h = omega (arith, texts_most f b n (λ i l. h i (omega arith)), h n (omega arith), length-append (texts f n) (f n))

texts_but : (f : ℕ → List ℕ) (b o n : ℕ) → o < n → f o ≡ [] → ((i : ℕ) → i < n → length (f i) ≤ b) → length (texts f n) + b ≤ n * b
unfolding texts
texts_but f b o zero l e h = absurd (omega arith)
texts_but f b o (suc n) l e h = go (leb n o) refl (λ k. texts_but f b o n k e (λ i l. h i (omega arith)))
  where
    go : (x : Bool) → leb n o ≡ x → (o < n → length (texts f n) + b ≤ n * b) → length (texts f n ++ f n) + b ≤ suc n * b
    go true g ih =
        let q : n ≡ o = omega (arith, leb-true n o g) in
        let z : length (f n) ≡ 0 = ap (λ (i : ℕ). length (f i)) q ∙ ap length e in
        omega (arith, z, texts_most f b n (λ i l. h i (omega arith)), length-append (texts f n) (f n))
    go false g ih = omega (arith, ih (omega (arith, leb-false n o g)), h n (omega arith), length-append (texts f n) (f n))

module _ (m : ℕ) (M : Mode) (p : ModePlan) (h : m < MODES) (s : SmallPart M p) where
  actor_most : (i : ℕ) → i < ACTORS → length (actor_text m M.active i (firings_at p i) (period_at p i) (start_at p i)) ≤ ACTOR_LINE
  actor_most i l =
      cond_most (hasb M.active i) _ ACTOR_LINE
      (line_most (digits MODES) (digits ACTORS) (digits MOST_FIRINGS.0) (digits ITERATION_LIMIT.0) (digits MOST_START.0) (bytes "actor")
      (number_of m) (number_of i) (firings_at p i).0 (period_at p i).0 (start_at p i).0
      (within _ MODES tt (omega arith)) (within _ ACTORS tt (omega arith)) (within _ MOST_FIRINGS.0 tt (s.firings i l)) (within _ ITERATION_LIMIT.0 tt (s.periods i l))
      (within _ MOST_START.0 tt (s.starts i l)))

  channel_most : (k : ℕ) → k < M.count → length (channel_text m (channel_at M k) (size_at p k) (tokens_at p k)) ≤ CHANNEL_LINE
  channel_most k l =
      line_most (digits MODES) (digits ACTORS) (digits ACTORS) (digits MOST_SIZE.0) (digits MOST_CARRIED.0) (bytes "channel")
      (number_of m) (number_of (channel_at M k).from) (number_of (channel_at M k).to) (size_at p k).0 (tokens_at p k).0
      (within _ MODES tt (omega arith)) (within _ ACTORS tt (omega (arith, s.from k l))) (within _ ACTORS tt (omega (arith, s.to k l))) (within _ MOST_SIZE.0 tt (s.sizes k l))
      (within _ MOST_CARRIED.0 tt (s.tokens k l))

  mode_most : length (mode_text m M p) ≤ ACTORS * ACTOR_LINE + CHANNELS * CHANNEL_LINE
  mode_most =
      let a : length (actors_text m M p) ≤ ACTORS * ACTOR_LINE = texts_most _ ACTOR_LINE ACTORS actor_most in
      let c : length (channels_text m M p) ≤ M.count * CHANNEL_LINE = texts_most _ CHANNEL_LINE M.count channel_most in
      omega (arith, s.count, length-append (actors_text m M p) (channels_text m M p))

module _ (active : List ℕ) (cs : List Timing) (small : (o n : ℕ) → o < MODES → n < MODES → SmallTiming (change_in cs o n)) (o : ℕ) (h : o < MODES) where
  change_most : (n : ℕ) → n < MODES → length (change_text o n (get_or active o 0) (get_or active n 0) (change_in cs o n)) ≤ CHANGE_LINE
  change_most n l =
      let s = small o n h l in
      let t = change_in cs o n in
      cond_most (not (eqb (get_or active o 0) 0) && (not (eqb (get_or active n 0) 0) && not (eqb o n))) _ CHANGE_LINE
      (line_most (digits MODES) (digits MODES) (digits MOST_START.0) (digits MOST_START.0) (digits MOST_DELAY.0) (bytes "change")
      (number_of o) (number_of n) t.overlap.0 t.offset.0 t.worst.0
      (within _ MODES tt (omega arith)) (within _ MODES tt (omega arith)) (within _ MOST_START.0 tt s.overlap) (within _ MOST_START.0 tt s.offset)
      (within _ MOST_DELAY.0 tt s.worst))

  -- a mode does not change to itself
  change_none : change_text o o (get_or active o 0) (get_or active o 0) (change_in cs o o) ≡ []
  change_none = rw (eq-eqb o o refl) (go (not (eqb (get_or active o 0) 0)) _)
    where
      go : (x : Bool) (s : List ℕ) → cond (x && (x && false)) s [] ≡ []
      go true s = refl
      go false s = refl

  from_most : length (from_text active cs o) ≤ (MODES - 1) * CHANGE_LINE
  from_most =
      let a : length (from_text active cs o) + CHANGE_LINE ≤ MODES * CHANGE_LINE = texts_but _ CHANGE_LINE o MODES h change_none change_most in
      omega arith

-- a plan fits the buffer
pub plan_fits : (t : Table) (w : Plan) → Small t w → length (plan_text t w) ≤ PRINTED
plan_fits t w s =
    let a : length (modes_text t w) ≤ MODES * (ACTORS * ACTOR_LINE + CHANNELS * CHANNEL_LINE) =
    texts_most _ (ACTORS * ACTOR_LINE + CHANNELS * CHANNEL_LINE) MODES (λ m l. mode_most m (mode_at t m) (part_at w m) l (s.parts m l))
    in
    let b : length (changes_text (active_of t) w.changes) ≤ MODES * ((MODES - 1) * CHANGE_LINE) =
    texts_most _ ((MODES - 1) * CHANGE_LINE) MODES (from_most (active_of t) w.changes s.changes)
    in
    omega (arith, length-append (modes_text t w) (changes_text (active_of t) w.changes))

-- numbers of 64 bits, of which each has at most 20 digits
abbrev pub Fitting : List ℕ → Type 0
Fitting [] = Unit {0}
Fitting (n ∷ ns) = (n < 2 ^ 64) × Fitting ns

fields_long : (ns : List ℕ) → Fitting ns → length (fields ns) ≤ 21 * length ns
fields_long [] f = omega arith
fields_long (n ∷ ns) f = omega (arith, length_fields n ns, digits_most 19 n (omega (arith, f.0)), fields_long ns f.1)

-- and their line
pub line_long : (word ns : List ℕ) → Fitting ns → length (line_text word ns) ≤ length word + 21 * length ns + 2
line_long word ns f = rw line_parts (omega (arith, length-append (word ++ fields ns) end, length-append word (fields ns), fields_long ns f))

-- the line of a refusal fits the buffer
pub refusal_fits : (p : Printed) → Fitting (five p) → length (printed_text p) ≤ PRINTED
refusal_fits p f = omega (arith, line_long (bytes "refused") (five p) f)
