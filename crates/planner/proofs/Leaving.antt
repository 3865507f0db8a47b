-- Words that some accepted table leaves, by what they hold; and one answer only. Assumes nothing.
use mathlib.Core.Path.{◌≡◌, refl, sym, ap, subst, subst₂, ◌∙◌}
use mathlib.Core.List.{List}
use Prim.Native.Nat.{ℕ}
use lib.ListN.{length}
use Rattle.tables.specs.Shape.{Table}
use Rattle.tables.specs.Proper.{ProperTable}
use Rattle.reader.specs.Told.{Reading}
use Rattle.reader.specs.Writing.{written}
use Rattle.reader.proofs.Again.{written_reads, reads_proper, told_one}
use Rattle.planning.specs.Shape.{Plan}
use Rattle.planning.specs.Plan.{Planned}
use Rattle.planning.proofs.Unique.{plan_unique}
use Rattle.layout.specs.Words.{WORDS, words_of}
use Rattle.layout.specs.Read.{graph_of, plan_of}
use Rattle.layout.specs.Laws.{length_words, graph_back}
use Rattle.layout.proofs.Planned.{plan_back}
use Rattle.std.specs.Prelude.{Ok}
use Rattle.planner.specs.Plans.{Reads, Plans, accepted, Stored, Leaves}

-- a text reads as one table only
pub reads_one : {text : List ℕ} {t u : Table} → Reads text t → Reads text u → t ≡ u
reads_one p q = ap (λ (r : Reading). r.table) (told_one p q)

-- what is accepted, and so what is stored, was left by a table
accepted_leaves : {text before words : List ℕ} → Plans text before (Ok tt) words → (t : Table) × (w : Plan) × Leaves t w words
accepted_leaves {text} (accepted {t} {w} l r p) = (t, w, record { text = text; reads = r; planned = p; left = refl })

pub stored_leaves : (words : List ℕ) → Stored words → (t : Table) × (w : Plan) × Leaves t w words
stored_leaves words (text, before, p) = accepted_leaves p

pub leaves_stored : {t : Table} {w : Plan} {words : List ℕ} → Leaves t w words → Stored words
leaves_stored {t} {w} {words} l =
    (l.text, words, subst (Plans l.text words (Ok tt)) (sym l.left) (accepted (ap length l.left ∙ length_words t w) l.reads l.planned))

-- the table that words hold, where it is proper and its plan leaves them
pub holds_leaves : (t : Table) (w : Plan) (words : List ℕ) → ProperTable t → Planned t w → words ≡ words_of t w → Leaves t w words
holds_leaves t w words proper p e = record { text = written t; reads = written_reads t proper; planned = p; left = e }

module _ {t : Table} {w : Plan} {words : List ℕ} (l : Leaves t w words) where
  pub leaves_proper : ProperTable t
  leaves_proper = reads_proper l.text t l.reads

  pub leaves_long : length words ≡ WORDS
  leaves_long = ap length l.left ∙ length_words t w

  pub leaves_graph : graph_of words ≡ t
  leaves_graph = ap graph_of l.left ∙ graph_back t w leaves_proper

  -- words hold the plan that leaves them
  leaves_held : plan_of words ≡ w
  leaves_held = ap plan_of l.left ∙ plan_back t w leaves_proper l.planned

-- what is stored is left by the table that it holds, with its plan
pub stored_whole : (words : List ℕ) → Stored words → Leaves (graph_of words) (plan_of words) words
stored_whole words s =
    let (t, w, l) = stored_leaves words s in
    subst₂ (λ (t : Table) (w : Plan). Leaves t w words) (sym (leaves_graph l)) (sym (leaves_held l)) l

-- words are left by one table only, with one plan
pub leaves_table : {t u : Table} {w v : Plan} {words : List ℕ} → Leaves t w words → Leaves u v words → t ≡ u
leaves_table p q = sym (leaves_graph p) ∙ leaves_graph q

pub leaves_plan : {t u : Table} {w v : Plan} {words : List ℕ} → Leaves t w words → Leaves u v words → w ≡ v
leaves_plan {t} {u} {w} {v} p q = plan_unique u w v (subst (λ (x : Table). Planned x w) (leaves_table p q) p.planned) q.planned
