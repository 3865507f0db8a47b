-- Each public function's statement admits one answer only; those that list an actor or a channel settle the memory that is left, and `new` the mode that it is of.
use mathlib.Core.Path.{◌≡◌, sym, ◌∙◌}
use contract.Lifetimes.{Lfts}
use denote.Triple.Clauses.{AtExit}
use borrow.Fn.Kinds.{Dens, res_t, ended_of}
use Rattle.numbers.proofs.Settles.{Settles}
use Rattle.numbers.specs.Decides.{decides_unique}
use Rattle.tables.specs.Stored.{mode_of}
use Rattle.tables.proofs.homes.at_home.Kinds as at_home_kinds
use Rattle.tables.proofs.homes.at_home.Reads as at_home
use Rattle.tables.proofs.homes.housed.Kinds as housed_kinds
use Rattle.tables.proofs.homes.housed.Reads as housed
use Rattle.tables.proofs.homes.inhabited.Kinds as inhabited_kinds
use Rattle.tables.proofs.homes.inhabited.Reads as inhabited
use Rattle.tables.proofs.memory.head_of.Kinds as head_of_kinds
use Rattle.tables.proofs.memory.head_of.Reads as head_of
use Rattle.tables.proofs.memory.actor_at.Kinds as actor_at_kinds
use Rattle.tables.proofs.memory.actor_at.Reads as actor_at_law
use Rattle.tables.proofs.memory.times_at.Kinds as times_at_kinds
use Rattle.tables.proofs.memory.times_at.Reads as times_at_law
use Rattle.tables.proofs.memory.channel_at.Kinds as channel_at_kinds
use Rattle.tables.proofs.memory.channel_at.Reads as channel_at_law
use Rattle.tables.proofs.memory.list_actor.Kinds as list_actor_kinds
use Rattle.tables.proofs.memory.list_actor.Reads as list_actor
use Rattle.tables.proofs.memory.list_channel.Kinds as list_channel_kinds
use Rattle.tables.proofs.memory.list_channel.Reads as list_channel
use Rattle.tables.proofs.memory.clear.Kinds as clear_kinds
use Rattle.tables.proofs.memory.clear.Reads as clear
use Rattle.tables.proofs.memory.clear_bytes.Kinds as clear_bytes_kinds
use Rattle.tables.proofs.memory.clear_bytes.Reads as clear_bytes
use Rattle.tables.proofs.memory.InMemory.new.Kinds as in_memory_new_kinds
use Rattle.tables.proofs.memory.InMemory.new.Reads as in_memory_new
use Rattle.tables.proofs.memory.InMemory.active.Kinds as in_memory_active_kinds
use Rattle.tables.proofs.memory.InMemory.active.Reads as in_memory_active
use Rattle.tables.proofs.memory.InMemory.count.Kinds as in_memory_count_kinds
use Rattle.tables.proofs.memory.InMemory.count.Reads as in_memory_count
use Rattle.tables.proofs.memory.InMemory.actor.Kinds as in_memory_actor_kinds
use Rattle.tables.proofs.memory.InMemory.actor.Reads as in_memory_actor
use Rattle.tables.proofs.memory.InMemory.channel.Kinds as in_memory_channel_kinds
use Rattle.tables.proofs.memory.InMemory.channel.Reads as in_memory_channel
use Rattle.tables.proofs.proper.proper_mode.Kinds as proper_mode_kinds
use Rattle.tables.proofs.proper.proper_mode.Reads as proper_mode

at_home_settled : Settles 1 at_home_kinds.ps at_home_kinds.r at_home.Post
at_home_settled κs a x y s t p q = decides_unique x y p q

housed_settled : Settles 1 housed_kinds.ps housed_kinds.r housed.Post
housed_settled κs a x y s t p q = p ∙ sym q

inhabited_settled : Settles 0 inhabited_kinds.ps inhabited_kinds.r inhabited.Post
inhabited_settled κs a x y s t p q = decides_unique x y p q

proper_mode_settled : Settles 2 proper_mode_kinds.ps proper_mode_kinds.r proper_mode.Post
proper_mode_settled κs a x y s t p q = decides_unique x y p q

head_of_settled : Settles 1 head_of_kinds.ps head_of_kinds.r head_of.Post
head_of_settled κs a x y s t p q = p ∙ sym q

actor_at_settled : Settles 1 actor_at_kinds.ps actor_at_kinds.r actor_at_law.Post
actor_at_settled κs a x y s t p q = p ∙ sym q

times_at_settled : Settles 1 times_at_kinds.ps times_at_kinds.r times_at_law.Post
times_at_settled κs a x y s t p q = p ∙ sym q

channel_at_settled : Settles 1 channel_at_kinds.ps channel_at_kinds.r channel_at_law.Post
channel_at_settled κs a x y s t p q = p ∙ sym q

list_actor_settled : (κs : Lfts 1) (a : Dens κs list_actor_kinds.ps) (x y : (res_t list_actor_kinds.r κs).Denot)
    (s t : AtExit (ended_of 1 list_actor_kinds.ps list_actor_kinds.r) κs)
    → list_actor.Post κs a x s → list_actor.Post κs a y t → s.0.now ≡ t.0.now
list_actor_settled κs a x y s t p q = p ∙ sym q

list_channel_settled : (κs : Lfts 2) (a : Dens κs list_channel_kinds.ps) (x y : (res_t list_channel_kinds.r κs).Denot)
    (s t : AtExit (ended_of 2 list_channel_kinds.ps list_channel_kinds.r) κs)
    → list_channel.Post κs a x s → list_channel.Post κs a y t → (s.0.now ≡ t.0.now) × (s.1.0.now ≡ t.1.0.now)
list_channel_settled κs a x y s t p q = (p.0 ∙ sym q.0, p.1 ∙ sym q.1)

clear_settled : (κs : Lfts 1) (a : Dens κs clear_kinds.ps) (x y : (res_t clear_kinds.r κs).Denot) (s t : AtExit (ended_of 1 clear_kinds.ps clear_kinds.r) κs)
    → clear.Post κs a x s → clear.Post κs a y t → s.0.now ≡ t.0.now
clear_settled κs a x y s t p q = p ∙ sym q

clear_bytes_settled : (κs : Lfts 1) (a : Dens κs clear_bytes_kinds.ps) (x y : (res_t clear_bytes_kinds.r κs).Denot) (s t : AtExit (ended_of 1 clear_bytes_kinds.ps clear_bytes_kinds.r) κs)
    → clear_bytes.Post κs a x s → clear_bytes.Post κs a y t → s.0.now ≡ t.0.now
clear_bytes_settled κs a x y s t p q = p ∙ sym q

new_settled : (κs : Lfts 1) (a : Dens κs in_memory_new_kinds.ps) (x y : (res_t in_memory_new_kinds.r κs).Denot)
    (s t : AtExit (ended_of 1 in_memory_new_kinds.ps in_memory_new_kinds.r) κs)
    → in_memory_new.Post κs a x s → in_memory_new.Post κs a y t → mode_of x ≡ mode_of y
new_settled κs a x y s t p q = p ∙ sym q

active_settled : Settles 2 in_memory_active_kinds.ps in_memory_active_kinds.r in_memory_active.Post
active_settled κs a x y s t p q = p ∙ sym q

count_settled : Settles 2 in_memory_count_kinds.ps in_memory_count_kinds.r in_memory_count.Post
count_settled κs a x y s t p q = p ∙ sym q

actor_settled : Settles 2 in_memory_actor_kinds.ps in_memory_actor_kinds.r in_memory_actor.Post
actor_settled κs a x y s t p q = p ∙ sym q

channel_settled : Settles 2 in_memory_channel_kinds.ps in_memory_channel_kinds.r in_memory_channel.Post
channel_settled κs a x y s t p q = p.0 ∙ sym q.0
