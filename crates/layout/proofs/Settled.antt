-- Each public function's statement admits one answer only; of those that fill what they are lent, it settles what is left there.
use mathlib.Core.Path.{◌≡◌, sym, ◌∙◌}
use contract.Lifetimes.{Lfts}
use denote.Triple.Clauses.{AtExit}
use borrow.Fn.Kinds.{Dens, res_t, ended_of}
use Rattle.numbers.specs.Decides.{decides_unique}
use Rattle.numbers.proofs.Settles.{Settles}
use Rattle.layout.proofs.store.put_part.Kinds as put_part_kinds
use Rattle.layout.proofs.store.put_part.Reads as put_part
use Rattle.layout.proofs.store.put_mode.Kinds as put_mode_kinds
use Rattle.layout.proofs.store.put_mode.Reads as put_mode
use Rattle.layout.proofs.store.put_change.Kinds as put_change_kinds
use Rattle.layout.proofs.store.put_change.Reads as put_change
use Rattle.layout.proofs.compare.mode_holds.Kinds as mode_holds_kinds
use Rattle.layout.proofs.compare.mode_holds.Reads as mode_holds
use Rattle.layout.proofs.compare.change_holds.Kinds as change_holds_kinds
use Rattle.layout.proofs.compare.change_holds.Reads as change_holds
use Rattle.layout.proofs.compare.blank.Kinds as blank_kinds
use Rattle.layout.proofs.compare.blank.Reads as blank
use Rattle.layout.proofs.load.channels_of.Kinds as channels_of_kinds
use Rattle.layout.proofs.load.channels_of.Reads as channels_of_law
use Rattle.layout.proofs.load.link_of.Kinds as link_of_kinds
use Rattle.layout.proofs.load.link_of.Reads as link_of_law
use Rattle.layout.proofs.load.timing_of.Kinds as timing_of_kinds
use Rattle.layout.proofs.load.timing_of.Reads as timing_of_law
use Rattle.layout.proofs.load.pace_of.Kinds as pace_of_kinds
use Rattle.layout.proofs.load.pace_of.Reads as pace_of_law
use Rattle.layout.proofs.load.offset_of.Kinds as offset_of_kinds
use Rattle.layout.proofs.load.offset_of.Reads as offset_of

put_part_settled : (κs : Lfts 2) (a : Dens κs put_part_kinds.ps) (x y : (res_t put_part_kinds.r κs).Denot)
    (s t : AtExit (ended_of 2 put_part_kinds.ps put_part_kinds.r) κs)
    → put_part.Post κs a x s → put_part.Post κs a y t → (s.1.0.now ≡ t.1.0.now) × (s.1.1.0.now ≡ t.1.1.0.now)
put_part_settled κs a x y s t p q = (p.0 ∙ sym q.0, p.1 ∙ sym q.1)

put_mode_settled : (κs : Lfts 4) (a : Dens κs put_mode_kinds.ps) (x y : (res_t put_mode_kinds.r κs).Denot)
    (s t : AtExit (ended_of 4 put_mode_kinds.ps put_mode_kinds.r) κs)
    → put_mode.Post κs a x s → put_mode.Post κs a y t → s.1.1.1.0.now ≡ t.1.1.1.0.now
put_mode_settled κs a x y s t p q = p ∙ sym q

put_change_settled : (κs : Lfts 1) (a : Dens κs put_change_kinds.ps) (x y : (res_t put_change_kinds.r κs).Denot)
    (s t : AtExit (ended_of 1 put_change_kinds.ps put_change_kinds.r) κs)
    → put_change.Post κs a x s → put_change.Post κs a y t → s.1.0.now ≡ t.1.0.now
put_change_settled κs a x y s t p q = p ∙ sym q

mode_holds_settled : Settles 2 mode_holds_kinds.ps mode_holds_kinds.r mode_holds.Post
mode_holds_settled κs a x y s t p q = decides_unique x y p q

change_holds_settled : Settles 1 change_holds_kinds.ps change_holds_kinds.r change_holds.Post
change_holds_settled κs a x y s t p q = decides_unique x y p q

blank_settled : Settles 1 blank_kinds.ps blank_kinds.r blank.Post
blank_settled κs a x y s t p q = decides_unique x y p q

channels_of_settled : (κs : Lfts 2) (a : Dens κs channels_of_kinds.ps) (x y : (res_t channels_of_kinds.r κs).Denot)
    (s t : AtExit (ended_of 2 channels_of_kinds.ps channels_of_kinds.r) κs)
    → channels_of_law.Post κs a x s → channels_of_law.Post κs a y t → s.1.0.now ≡ t.1.0.now
channels_of_settled κs a x y s t p q = p ∙ sym q

link_of_settled : Settles 1 link_of_kinds.ps link_of_kinds.r link_of_law.Post
link_of_settled κs a x y s t p q = p ∙ sym q

timing_of_settled : Settles 1 timing_of_kinds.ps timing_of_kinds.r timing_of_law.Post
timing_of_settled κs a x y s t p q = p ∙ sym q

pace_of_settled : Settles 1 pace_of_kinds.ps pace_of_kinds.r pace_of_law.Post
pace_of_settled κs a x y s t p q = p ∙ sym q

offset_of_settled : Settles 1 offset_of_kinds.ps offset_of_kinds.r offset_of.Post
offset_of_settled κs a x y s t p q = p ∙ sym q
