-- What is read of a record, field by field. Assumes nothing.
use mathlib.Core.Path.{◌≡◌, refl, ap, sym, subst, ◌∙◌}
use mathlib.Core.List.{List, [], ◌∷◌, ◌++◌, append_assoc}
use Prim.Native.Nat.{ℕ, ◌+◌, ◌-◌, ◌≤◌, ◌<◌}
use native.Mathlib.Omega.{arith}
use lib.ListN.{length, drop, set, replicate, length-append, length-drop}
use lib.Seq.{drop-drop}
use Rattle.std.specs.Prelude.{Option, Some, None}
use Rattle.numbers.specs.Padded.{padded, padded_none, padded_more, padded_full}
use Rattle.rfc4180.specs.declared.record.Span.{Span}
use Rattle.rfc4180.specs.declared.record.Found.{Found}
use Rattle.rfc4180.specs.declared.record.Field.{Field}
use Rattle.rfc4180.specs.declared.record.After.TheVariants.{More, End}
use Rattle.rfc4180.specs.Grammar.{Cell, cell_text, RecordEnd, FirstRecord, last, more}
use Rattle.rfc4180.specs.Records.{KEPT, span_of, spans, no_span, RecordAt, FieldAt, stands, broken, AfterAt, comma, end, neither}
use Rattle.rfc4180.proofs.Records.{behind}
use Rattle.rfc4180.proofs.Grammar.{first_field, Follows, ended, parted, follows, no_comma}

-- the record at a place, where some spans stand before those of its fields
pub data RecordFrom (s : List ℕ) (at : ℕ) (xs : List Span) : Option Found → Type 0 where
  read : {fs : List Cell} {cs : List (List ℕ)} {rest : List ℕ} → FirstRecord (drop at s) fs cs rest
      → RecordFrom s at xs (Some (record { count = length (xs ++ spans at fs); fields = padded KEPT no_span (xs ++ spans at fs); next = length s - length rest }))
  unread : ((fs : List Cell) (cs : List (List ℕ)) (rest : List ℕ) → FirstRecord (drop at s) fs cs rest → ⊥) → RecordFrom s at xs None

-- a field was found at a place
module _ (s : List ℕ) (at : ℕ) (xs : List Span) where
  pub from_broken : FieldAt s at None → RecordFrom s at xs None
  from_broken (broken h) = unread (λ fs cs rest p. let q = first_field p in h q.0 q.1 q.2 q.3 q.4 q.5)

  pub from_neither : {f : Field} → FieldAt s at (Some f) → AfterAt s f.end None → RecordFrom s at xs None
  from_neither (stands {f} {c} u m w e) (neither h k) = unread (λ fs cs rest p. go (behind s at (cell_text f) u e) (follows p m u w e))
    where
      go : {v : List ℕ} {fs : List Cell} {cs : List (List ℕ)} {rest : List ℕ} → drop (at + length (cell_text f)) s ≡ v → Follows f c v fs cs rest → ⊥
      go {rest = rest} b (ended r) = k rest (subst (λ (x : List ℕ). RecordEnd x rest) (sym b) r)
      go b (parted {u = v} r) = h v b

  pub from_end : {f : Field} {m : ℕ} → FieldAt s at (Some f) → AfterAt s f.end (Some (End m))
      → RecordFrom s at xs (Some (record { count = length (xs ++ (f.span ∷ [])); fields = padded KEPT no_span (xs ++ (f.span ∷ [])); next = m }))
  unfolding spans
  from_end (stands {f} {c} u m w e) (end {rest} r) =
      let b = behind s at (cell_text f) u e in
      read (subst (λ (v : List ℕ). FirstRecord v (f ∷ []) (c ∷ []) rest) (sym e) (last m (subst (λ (v : List ℕ). RecordEnd v rest) b r)))

  pub from_more : {f : Field} {m : ℕ} {r : Option Found} → FieldAt s at (Some f) → AfterAt s f.end (Some (More m)) → RecordFrom s m (xs ++ (f.span ∷ [])) r → RecordFrom s at xs r
  unfolding spans
  from_more (stands {f} {c} u m w e) (comma {u = v} q) k = go k
    where
      b : u ≡ 44 ∷ drop (at + length (cell_text f) + 1) s
      b = sym (behind s at (cell_text f) u e) ∙ q ∙ ap (λ (x : List ℕ). 44 ∷ x) (sym (ap (drop 1) q) ∙ drop-drop 1 (at + length (cell_text f)) s)

      go : {r : Option Found} → RecordFrom s (at + length (cell_text f) + 1) (xs ++ (span_of at f ∷ [])) r → RecordFrom s at xs r
      go (read {fs} {cs} {rest} p) =
          let y = spans (at + length (cell_text f) + 1) fs in
          let t : drop at s ≡ cell_text f ++ (44 ∷ drop (at + length (cell_text f) + 1) s) = e ∙ ap (λ (x : List ℕ). cell_text f ++ x) b in
          subst (λ (l : List Span). RecordFrom s at xs (Some (record { count = length l; fields = padded KEPT no_span l; next = length s - length rest })))
          (sym (append_assoc xs (span_of at f ∷ []) y))
          (read (subst (λ (x : List ℕ). FirstRecord x (f ∷ fs) (c ∷ cs) rest) (sym t) (more m p)))
      go (unread h) = unread (λ fs cs rest p. left (follows p m u w e) b)
        where
          left : {v rest : List ℕ} {fs : List Cell} {cs : List (List ℕ)} → Follows f c v fs cs rest → v ≡ 44 ∷ drop (at + length (cell_text f) + 1) s → ⊥
          left (ended r) d = no_comma r d
          left {rest = rest} (parted {fs = fs} {cs = cs} r) d = h fs cs rest (subst (λ (x : List ℕ). FirstRecord x fs cs rest) (cc) r)

-- the next field stands further on
pub further : {s : List ℕ} {at m : ℕ} {f : Field} → FieldAt s at (Some f) → AfterAt s f.end (Some (More m)) → (at < m) × (m ≤ length s)
further {s} {at} (stands {f} u m w e) k = go k
  where
    go : {m : ℕ} → AfterAt s (at + length (cell_text f)) (Some (More m)) → (at < m) × (m ≤ length s)
    go (comma q) = (omega arith, omega (arith, length-drop (at + length (cell_text f)) s, ap length q))

-- the fields of the record at a place that stand before another place
pub record Reading (s : List ℕ) (at : ℕ) (fields : List Span) (count next : ℕ) : Type 0 where
  pub before : List Span
  pub counted : count ≡ length before
  pub kept : fields ≡ padded KEPT no_span before
  pub within : next ≤ length s
  pub few : count ≤ next
  pub so : (r : Option Found) → RecordFrom s next before r → RecordAt s at r

pub reading_none : {s : List ℕ} {at : ℕ} → at ≤ length s → ((r : Option Found) → RecordFrom s at [] r → RecordAt s at r) → Reading s at (replicate KEPT no_span) 0 at
reading_none l h = record { before = []; counted = refl; kept = sym (padded_none KEPT no_span); within = l; few = omega arith; so = h }

-- a field more
module _ {s : List ℕ} {at : ℕ} {fields : List Span} {count next : ℕ} (g : Reading s at fields count next) where
  pub reading_broken : FieldAt s next None → RecordAt s at None
  reading_broken f = g.so None (from_broken s next g.before f)

  pub reading_kept : (x : Span) → count < KEPT → set fields count x ≡ padded KEPT no_span (g.before ++ (x ∷ []))
  reading_kept x l = rw (g.kept, g.counted) (padded_more KEPT no_span g.before x (omega (arith, g.counted)))

  pub reading_full : (x : Span) → KEPT ≤ count → fields ≡ padded KEPT no_span (g.before ++ (x ∷ []))
  reading_full x l = g.kept ∙ sym (padded_full KEPT no_span g.before x (omega (arith, g.counted)))

  module _ {f : Field} (a : FieldAt s next (Some f)) where
    pub reading_neither : AfterAt s f.end None → RecordAt s at None
    reading_neither b = g.so None (from_neither s next g.before a b)

    one_more : count + 1 ≡ length (g.before ++ (f.span ∷ []))
    one_more = omega (arith, g.counted, length-append g.before (f.span ∷ []))

    module _ {stored : List Span} (e : stored ≡ padded KEPT no_span (g.before ++ (f.span ∷ []))) where
      pub reading_end : {m : ℕ} → AfterAt s f.end (Some (End m)) → RecordAt s at (Some (record { count = count + 1; fields = stored; next = m }))
      reading_end {m} b = rw (e, one_more) (g.so _ (from_end s next g.before a b))

      pub reading_more : {m : ℕ} → AfterAt s f.end (Some (More m)) → Reading s at stored (count + 1) m
      reading_more {m} b =
          record {
            before = g.before ++ (f.span ∷ []);
            counted = one_more;
            kept = e;
            within = (further a b).1;
            few = omega (arith, further a b, g.few);
            so = λ r k. g.so r (from_more s next g.before a b k);
          }
