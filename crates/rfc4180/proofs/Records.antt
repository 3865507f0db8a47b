-- What a record of the grammar says of the text that it stands in. Assumes nothing.
use mathlib.Core.Path.{◌≡◌, refl, ap, sym, subst, ◌∙◌}
use mathlib.Core.List.{List, [], ◌∷◌, ◌++◌, map, append_assoc}
use Prim.Native.Nat.{ℕ, zero, suc, ◌+◌, ◌-◌, ◌≤◌, ◌<◌}
use native.Mathlib.Nat.{le_of_suc-le-suc, not-suc-le-zero}
use native.Mathlib.Omega.{arith}
use lib.ListN.{length, get_or, take, drop, length-append, length-drop}
use lib.Seq.{drop-drop, drop-append_seam, take-append_seam}
use Rattle.numbers.specs.Every.{Every}
use Rattle.rfc4180.specs.declared.bytes.Class.TheVariants.{Text}
use Rattle.rfc4180.specs.declared.record.Span.{Span}
use Rattle.rfc4180.specs.Bytes.{class_of}
use Rattle.rfc4180.specs.Grammar.{Cell, plain, quoted, cell_text, raw, Inside, nothing, byte, pair, Means, as_is, between, RecordEnd, crlf, over, FirstRecord, last, more}
use Rattle.rfc4180.specs.Records.{span_of, spans, no_span}
use Rattle.rfc4180.specs.Writing.{joined}
use Rattle.rfc4180.proofs.Grammar.{quoted_text}

-- what stands behind a part of a text
pub behind : (s : List ℕ) (i : ℕ) (a b : List ℕ) → drop i s ≡ a ++ b → drop (i + length a) s ≡ b
behind s i a b e = sym (drop-drop (length a) i s) ∙ ap (drop (length a)) e ∙ drop-append_seam a b

-- a record has a field at least, and a span for each
pub fields_some : {t rest : List ℕ} {fs : List Cell} {cs : List (List ℕ)} → FirstRecord t fs cs rest → 0 < length fs
fields_some (last m e) = omega arith
fields_some (more m r) = omega arith

pub length_spans : (p : ℕ) (fs : List Cell) → length (spans p fs) ≡ length fs
unfolding spans
length_spans p [] = refl
length_spans p (f ∷ fs) = ap suc (length_spans (p + length (cell_text f) + 1) fs)

-- what follows a record is the end of its text
end_part : {u rest : List ℕ} → RecordEnd u rest → (p : List ℕ) × (u ≡ p ++ rest)
end_part crlf = (13 ∷ 10 ∷ [], refl)
end_part over = ([], refl)

first_part : {t rest : List ℕ} {fs : List Cell} {cs : List (List ℕ)} → FirstRecord t fs cs rest → (p : List ℕ) × (t ≡ p ++ rest)
first_part {rest = rest} (last {f = f} m e) =
    let p = end_part e in
    (cell_text f ++ p.0, ap (λ (u : List ℕ). cell_text f ++ u) p.1 ∙ sym (append_assoc (cell_text f) p.0 rest))
first_part {rest = rest} (more {f = f} m r) =
    let p = first_part r in
    (cell_text f ++ (44 ∷ p.0), ap (λ (u : List ℕ). cell_text f ++ (44 ∷ u)) p.1 ∙ sym (append_assoc (cell_text f) (44 ∷ p.0) rest))

pub rest_is : {rest : List ℕ} {fs : List Cell} {cs : List (List ℕ)} (text : List ℕ) (at : ℕ) → at ≤ length text → FirstRecord (drop at text) fs cs rest
    → rest ≡ drop (length text - length rest) text
rest_is {rest} text at l r =
    let p = first_part r in
    let n : at + length p.0 ≡ length text - length rest = omega (arith, length-drop at text, length-append p.0 rest, ap length p.1) in
    rw (← n) (sym (behind text at p.0 rest p.1))

-- a record takes a part of a text that is not empty
pub first_shorter : {t rest : List ℕ} {fs : List Cell} {cs : List (List ℕ)} → FirstRecord t fs cs rest → 0 < length t → length rest < length t
first_shorter (last {f = f} {rest = rest} m crlf) l = omega (arith, length-append (cell_text f) (13 ∷ 10 ∷ rest))
first_shorter (last m over) l = l
first_shorter {rest = rest} (more {f = f} {u = u} m r) l =
    let p = first_part r in
    omega (arith, length-append (cell_text f) (44 ∷ u), length-append p.0 rest, ap length p.1)

-- so that what follows it stands further on
pub next_further : {rest : List ℕ} {fs : List Cell} {cs : List (List ℕ)} (text : List ℕ) (at : ℕ) → at < length text → FirstRecord (drop at text) fs cs rest
    → at < length text - length rest
next_further text at l r = let d = length-drop at text in omega (arith, first_shorter r (omega arith))

-- as many contents as fields, each the content of its field
pub contents_many : {t rest : List ℕ} {fs : List Cell} {cs : List (List ℕ)} → FirstRecord t fs cs rest → length cs ≡ length fs
contents_many (last m e) = refl
contents_many (more m r) = ap suc (contents_many r)

pub content_at : {t rest : List ℕ} {fs : List Cell} {cs : List (List ℕ)} → FirstRecord t fs cs rest → (i : ℕ) → i < length fs
    → Means (get_or fs i (plain [])) (get_or cs i [])
content_at (last m e) zero l = m
content_at (last m e) (suc i) l = absurd (not-suc-le-zero (le_of_suc-le-suc l))
content_at (more m r) zero l = m
content_at (more m r) (suc i) l = content_at r i (le_of_suc-le-suc l)

-- a span lies in a text, where these bytes stand
pub record Spanned (text : List ℕ) (x : Span) (t : List ℕ) : Type 0 where
  pub ordered : x.start ≤ x.end
  pub within : x.end ≤ length text
  pub bytes : take (x.end - x.start) (drop x.start text) ≡ t

part_spanned : {text t : List ℕ} (p : ℕ) (u : List ℕ) → p ≤ length text → drop p text ≡ t ++ u → Spanned text (record { start = p; end = p + length t }) t
part_spanned {text} {t} p u l e =
    let n : p + length t - p ≡ length t = omega arith in
    record {
      ordered = omega arith;
      within = omega (arith, length-drop p text, length-append t u, ap length e);
      bytes = rw (n, e, take-append_seam t u);
    }

cell_spanned : {text : List ℕ} (f : Cell) (p : ℕ) (u : List ℕ) → p ≤ length text → drop p text ≡ cell_text f ++ u → Spanned text (span_of p f) (raw f)
cell_spanned (plain t) p u l e = part_spanned p u l e
cell_spanned {text} (quoted t) p u l e =
    let d : drop (p + 1) text ≡ t ++ (34 ∷ u) = sym (drop-drop 1 p text) ∙ ap (drop 1) (e ∙ quoted_text t u) in
    part_spanned (p + 1) (34 ∷ u) (omega (arith, length-drop p text, ap length e)) d

cells_spanned : {t rest : List ℕ} {fs : List Cell} {cs : List (List ℕ)} (text : List ℕ) (at : ℕ) → at ≤ length text → FirstRecord t fs cs rest
    → t ≡ drop at text → (i : ℕ) → i < length fs → Spanned text (get_or (spans at fs) i no_span) (raw (get_or fs i (plain [])))
unfolding spans
cells_spanned text at l (last {f = f} {u = u} m e) q zero h = cell_spanned f at u l (sym q)
cells_spanned text at l (last m e) q (suc i) h = absurd (not-suc-le-zero (le_of_suc-le-suc h))
cells_spanned text at l (more {f = f} {u = u} m r) q zero h = cell_spanned f at (44 ∷ u) l (sym q)
cells_spanned text at l (more {f = f} {u = u} m r) q (suc i) h =
    let n = at + length (cell_text f) in
    let b : drop n text ≡ 44 ∷ u = behind text at (cell_text f) (44 ∷ u) (sym q) in
    let d : u ≡ drop (n + 1) text = sym (ap (drop 1) b) ∙ drop-drop 1 n text in
    cells_spanned text (n + 1) (omega (arith, length-drop n text, ap length b)) r d i (le_of_suc-le-suc h)

-- each field's span has its bytes
pub span_bytes : {rest : List ℕ} {fs : List Cell} {cs : List (List ℕ)} (text : List ℕ) (at : ℕ) → at ≤ length text → FirstRecord (drop at text) fs cs rest
    → (i : ℕ) → i < length fs → Spanned text (get_or (spans at fs) i no_span) (raw (get_or fs i (plain [])))
span_bytes text at l r i h = cells_spanned text at l r refl i h

-- a text without quotes in it is its own content
inside_content : {t c : List ℕ} → Inside t c → Every (λ b. b ≡ 34 → ⊥) c → t ≡ c
inside_content nothing h = refl
inside_content (byte {b} i d) h = ap (λ (l : List ℕ). b ∷ l) (inside_content d h.1)
inside_content (pair d) h = absurd (h.0 refl)

inside_raw : {t c : List ℕ} → Inside t c → Every (λ b. b ≡ 34 → ⊥) t → t ≡ c
inside_raw nothing h = refl
inside_raw (byte {b} i d) h = ap (λ (l : List ℕ). b ∷ l) (inside_raw d h.1)
inside_raw (pair d) h = absurd (h.0 refl)

pub content_is : {f : Cell} {c : List ℕ} → Means f c → (Every (λ b. b ≡ 34 → ⊥) c → raw f ≡ c) × (Every (λ b. b ≡ 34 → ⊥) (raw f) → raw f ≡ c)
content_is (as_is h) = (λ k. refl, λ k. refl)
content_is (between d) = (inside_content d, inside_raw d)

-- a record written without quotes is read
pub joined_first : (c : List ℕ) (cs : List (List ℕ)) (rest : List ℕ) → Every (Every (λ b. class_of b ≡ Text)) (c ∷ cs)
    → FirstRecord (joined (c ∷ cs) ++ (13 ∷ 10 ∷ rest)) (map plain (c ∷ cs)) (c ∷ cs) rest
unfolding joined
joined_first c [] rest h = last (as_is h.0) crlf
joined_first c (d ∷ cs) rest h =
    subst (λ (t : List ℕ). FirstRecord t (map plain (c ∷ d ∷ cs)) (c ∷ d ∷ cs) rest) (sym (append_assoc c (44 ∷ joined (d ∷ cs)) (13 ∷ 10 ∷ rest)))
    (more (as_is h.0) (joined_first d cs rest h.1))
