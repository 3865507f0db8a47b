-- The record at a place of a text, and whether it is a row. Assumes nothing.
use mathlib.Core.Path.{◌≡◌, refl, sym, ap, ap₂, subst, ◌∙◌}
use mathlib.Core.Bool.{Bool, true, false}
use mathlib.Core.List.{List, [], ◌∷◌, map}
use Prim.Native.Nat.{ℕ, ◌-◌, ◌≤◌, ◌<◌, zero-le}
use native.Mathlib.Omega.{arith}
use lib.Dec.{leb}
use borrow.Author.Tests.{leb-true, leb-false}
use lib.ListN.{length, get_or, drop, drop_of_length-le, get_or-eq_default}
use Rattle.numbers.specs.Every.{Every, every_from}
use Rattle.numbers.specs.Padded.{padded, length_padded, get_or_padded}
use Rattle.rfc4180.specs.declared.bytes.Class.TheVariants.{Text, Quote}
use Rattle.rfc4180.specs.declared.record.Found.{Found}
use Rattle.rfc4180.specs.Bytes.{class_of}
use Rattle.rfc4180.specs.Grammar.{Cell, plain, raw, FirstRecord, last, more, as_is, over}
use Rattle.rfc4180.specs.Records.{KEPT, spans, no_span, RecordAt, found, none}
use Rattle.rfc4180.proofs.Grammar.{first_one}
use Rattle.rfc4180.proofs.Records.{contents_many, span_bytes, length_spans, content_is}
use Rattle.std.specs.Prelude.{Option, Some, None, Ok, Err, ok_or}
use Rattle.units.specs.Limits.{FIELDS}
use Rattle.terms.specs.Text.{bytes}
use Rattle.terms.specs.declared.refusal.Reason.TheVariants.{BadField}
use Rattle.reader.specs.declared.line.Line.{Line}
use Rattle.reader.specs.Rows.{Row, actor, channel, word, contents, InRange}
use Rattle.reader.specs.Told.{FirstRow, Refused1, Refused2}
use Rattle.reader.specs.Lines.{InText, bytes_of, raws_of, RowOf, row, none as no_row_of, line_of, LineAt, no_row}
use Rattle.reader.proofs.Written.{Plain, contents_plain}

-- the end of a text is a record of one field
only_one : {fs : List Cell} {cs : List (List ℕ)} {rest : List ℕ} → FirstRecord [] fs cs rest → length cs ≡ 1
only_one f =
    let none : FirstRecord [] (plain [] ∷ []) ([] ∷ []) [] = last (as_is tt) over in
    ap length (first_one f none).1

-- no record was found, or one of more or fewer fields than six
pub no_record_at : {text : List ℕ} {at : ℕ} → RecordAt text at None → Refused1 (drop at text)
no_record_at {text} {at} (none h) gs ds u q six = go (leb at (length text)) refl
  where
    go : (x : Bool) → leb at (length text) ≡ x → ⊥
    go true e = h (leb-true at (length text) e) gs ds u q
    go false e =
        let beyond : length text ≤ at = omega (arith, leb-false at (length text) e) in
        let past : drop at text ≡ [] = drop_of_length-le text beyond in
        omega (arith, six, only_one (subst (λ (t : List ℕ). FirstRecord t gs ds u) past q))

pub not_six : {text : List ℕ} {at : ℕ} {f : Found} → RecordAt text at (Some f) → (f.count ≡ FIELDS → ⊥) → Refused1 (drop at text)
not_six (found l p) n gs ds u q six = n (ap length (first_one p q).0 ∙ sym (contents_many q) ∙ six)

-- a field without a quote is its own content
abbrev NoQuote : List ℕ → Type 0
NoQuote s = Every (λ b. b ≡ 34 → ⊥) s

contents_raw : {t rest : List ℕ} {fs : List Cell} {cs : List (List ℕ)} → FirstRecord t fs cs rest → Every NoQuote cs → map raw fs ≡ cs
contents_raw (last m e) h = ap (λ (x : List ℕ). x ∷ []) ((content_is m).0 h.0)
contents_raw (more m f) h = ap₂ (λ (x : List ℕ) (xs : List (List ℕ)). x ∷ xs) ((content_is m).0 h.0) (contents_raw f h.1)

raw_contents : {t rest : List ℕ} {fs : List Cell} {cs : List (List ℕ)} → FirstRecord t fs cs rest → Every NoQuote (map raw fs) → map raw fs ≡ cs
raw_contents (last m e) h = ap (λ (x : List ℕ). x ∷ []) ((content_is m).1 h.0)
raw_contents (more m f) h = ap₂ (λ (x : List ℕ) (xs : List (List ℕ)). x ∷ xs) ((content_is m).1 h.0) (raw_contents f h.1)

quote_other : (b : ℕ) → class_of b ≡ Text → b ≡ 34 → ⊥
unfolding class_of
quote_other b t e =
    let q : Quote ≡ Text = subst (λ (n : ℕ). class_of n ≡ Text) e t in
    let z : ◌≡◌ {A = ℕ} 0 1 = cc in omega arith

no_quotes : (xs : List (List ℕ)) → Every Plain xs → Every NoQuote xs
no_quotes [] h = tt
no_quotes (x ∷ xs) h = (go x h.0, no_quotes xs h.1)
  where
    go : (s : List ℕ) → Plain s → NoQuote s
    go [] h = tt
    go (b ∷ s) h = (quote_other b h.0, go s h.1)

-- a list of six
six_of : {A : Type 0} (z : A) (xs : List A) → length xs ≡ 6 → xs ≡ get_or xs 0 z ∷ get_or xs 1 z ∷ get_or xs 2 z ∷ get_or xs 3 z ∷ get_or xs 4 z ∷ get_or xs 5 z ∷ []
six_of z [] e = absurd (omega arith)
six_of z (a ∷ []) e = absurd (omega arith)
six_of z (a ∷ b ∷ []) e = absurd (omega arith)
six_of z (a ∷ b ∷ c ∷ []) e = absurd (omega arith)
six_of z (a ∷ b ∷ c ∷ d ∷ []) e = absurd (omega arith)
six_of z (a ∷ b ∷ c ∷ d ∷ f ∷ []) e = absurd (omega arith)
six_of z (a ∷ b ∷ c ∷ d ∷ f ∷ g ∷ []) e = refl
six_of z (a ∷ b ∷ c ∷ d ∷ f ∷ g ∷ h ∷ xs) e = absurd (omega arith)

-- a record of six fields that was found: where they stand, and their bytes
pub record Six (text : List ℕ) (at : ℕ) (f : Found) : Type 0 where
  pub fields : List Cell
  pub holds : List (List ℕ)
  pub rest : List ℕ
  pub stands : FirstRecord (drop at text) fields holds rest
  pub six : length holds ≡ FIELDS
  pub next_is : f.next ≡ length text - length rest
  pub within : Every (InText text) f.fields
  pub raws : map raw fields ≡ bytes_of text (get_or f.fields 0 no_span) ∷ raws_of text f.fields

pub six_found : {text : List ℕ} {at : ℕ} {f : Found} → RecordAt text at (Some f) → f.count ≡ FIELDS → Six text at f
six_found {text} {at} (found {fs} {cs} {rest} l p) e =
    record {
      fields = fs;
      holds = cs;
      rest = rest;
      stands = p;
      six = contents_many p ∙ e;
      next_is = refl;
      within = every_from (InText text) no_span (padded KEPT no_span (spans at fs)) (λ k h. subst (InText text) (sym (get_or_padded KEPT no_span (spans at fs) k (omega (arith, h, length_padded KEPT no_span (spans at fs))))) (in_text k));
      raws = ap (map raw) (six_of (plain []) fs e) ∙ rw (bytes_at 0 (omega arith), bytes_at 1 (omega arith), bytes_at 2 (omega arith), bytes_at 3 (omega arith), bytes_at 4 (omega arith), bytes_at 5 (omega arith)) refl;
    }
  where
    in_text : (k : ℕ) → InText text (get_or (spans at fs) k no_span)
    in_text k = go (leb (length fs) k) refl
      where
        go : (x : Bool) → leb (length fs) k ≡ x → InText text (get_or (spans at fs) k no_span)
        go true h = subst (InText text) (sym (get_or-eq_default (spans at fs) no_span (omega (arith, leb-true (length fs) k h, length_spans at fs)))) (zero-le, zero-le)
        go false h = let w = span_bytes text at l p k (omega (arith, leb-false (length fs) k h)) in (w.ordered, w.within)

    bytes_at : (k : ℕ) → k < 6 → raw (get_or fs k (plain [])) ≡ bytes_of text (get_or (padded KEPT no_span (spans at fs)) k no_span)
    bytes_at k h = sym (ap (bytes_of text) (get_or_padded KEPT no_span (spans at fs) k (omega arith)) ∙ (span_bytes text at l p k (omega (arith, h, e))).bytes)

-- a record of six fields is the row whose contents are its bytes, or none
module _ {text : List ℕ} {at : ℕ} {f : Found} (w : Six text at f) where
  is_row : (r : Row) → InRange r → contents r ≡ map raw w.fields → FirstRow (drop at text) r w.rest
  is_row r i e =
      let same : map raw w.fields ≡ w.holds = raw_contents w.stands (subst (Every NoQuote) e (no_quotes (contents r) (contents_plain r))) in
      record { fields = w.fields; stands = subst (λ (cs : List (List ℕ)). FirstRecord (drop at text) w.fields cs w.rest) (sym (e ∙ same)) w.stands; in_range = i }

  not_row : ((r : Row) → InRange r → contents r ≡ map raw w.fields → ⊥) → Refused2 (drop at text)
  not_row n =
      record {
        fields = w.fields;
        contents = w.holds;
        rest = w.rest;
        stands = w.stands;
        six = w.six;
        no_row = λ r u g.
            let e = (first_one g.stands w.stands).1 in
            n r g.in_range (e ∙ sym (contents_raw w.stands (subst (Every NoQuote) e (no_quotes (contents r) (contents_plain r)))));
      }

  pub line_row : {begin : List ℕ} {o : Option Line} → bytes_of text (get_or f.fields 0 no_span) ≡ begin → RowOf begin (raws_of text f.fields) f.next o
      → LineAt text at (ok_or o BadField)
  line_row h (row r e i b) =
      subst (λ (n : ℕ). LineAt text at (Ok (line_of r n))) (sym w.next_is)
      (LineAt.row (is_row r i (ap₂ (λ (x : List ℕ) (xs : List (List ℕ)). x ∷ xs) (e ∙ sym h) b ∙ sym w.raws)))
  line_row h (no_row_of n) =
      no_row (not_row (λ r i e. let c = e ∙ w.raws in n r (ap (λ (l : List (List ℕ)). get_or l 0 []) c ∙ h) i (ap (drop 1) c)))

  pub line_none : (bytes_of text (get_or f.fields 0 no_span) ≡ bytes "actor" → ⊥) → (bytes_of text (get_or f.fields 0 no_span) ≡ bytes "channel" → ⊥)
      → LineAt text at (Err BadField)
  line_none a c = no_row (not_row (λ r i e. other r (ap (λ (l : List (List ℕ)). get_or l 0 []) (e ∙ w.raws))))
    where
      other : (r : Row) → word r ≡ bytes_of text (get_or f.fields 0 no_span) → ⊥
      other (actor r) e = a (sym e)
      other (channel r) e = c (sym e)
