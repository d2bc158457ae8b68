-- The starred lines hold, and blocks computed: a load at RAM's last offset, then a load from outside whose outcome sets the break word; one
-- group each; one form of 2026-09 each; unaligned words stored; and the guard of a RAM block.
use mathlib.Core.Bool.{Bool, true, false, not, ◌&&◌}
use mathlib.Core.List.{List, [], ◌∷◌}
use mathlib.Core.Path.{◌≡◌, refl}
use Prim.Native.Nat.{ℕ}
use lib.ListN.{length}
use Rattle.block.specs.Block.{no_guard, places, up_from}
use Rattle.card.specs.Kinds.{Fast, Ld, St, LdPost, Rmw, PushRet, BlockMove, PushRets, PopPc, LdPair, StPair, BOp}
use Rattle.card.specs.Kinds.{LdPre, StPre, LdPostR, MemA4, Tb, Reg, Sp, ByReg, ByInc, B8, B16, B32, Add, Sub, RkReg, RkImm, RkBit}
use Rattle.card.specs.Kinds.{RmwAdd, RmwMov, Memory, Block}
use Rattle.card.specs.Word.{minus, signed_of, sign_extend}
use Rattle.card.specs.Card.{Card, Outcome, Request, read, write, guard}
use Rattle.card.specs.Memory.{read_le, write_le, inside, load, holds_code, direct, store}
use Rattle.card.specs.Step.{exits, chains, looks_up, load_all, store_all, push_all, pop_all, op_step}
use Rattle.card.specs.Starred.{starred}
use Rattle.card.specs.Run.{End, left, stopped, ops_from, run}

abbrev computed : List (List ℕ × List ℕ) → List (List ℕ)
computed [] = []
computed (l ∷ ls) = l.0 ∷ computed ls

abbrev given : List (List ℕ × List ℕ) → List (List ℕ)
given [] = []
given (l ∷ ls) = l.1 ∷ given ls

pub starred-hold : computed starred ≡ given starred
unfolding signed_of
starred-hold = refl

-- word r2 from r1, then signed byte r3 from r4, which grows by 4; neither is glued
abbrev ops : List BOp
ops =
    record { fast = Ld 2 (Reg 1) 0 B32 false; len = 4; glue = false }
    ∷ record { fast = LdPost 3 4 B8 true 4; len = 2; glue = false }
    ∷ []

abbrev block_of : (map : Bool) → List BOp → Block
block_of m os =
    record {
      layout = record { regs = 0; sp = 64; rets = 68; pc = 72; hold = 76 };
      memory = record { ram_base = 0x1000; ram_len = 8; xip_base = 0x2000; xip_len = 4; map = m };
      addresses = record { h_read = 0; h_write = 0; table = 0 };
      pc0 = 0x2000000;
      guard = no_guard;
      ops = os;
      n = length os;
    }

abbrev block : List BOp → Block
block = block_of false

abbrev ram : List ℕ
ram = 1 ∷ 2 ∷ 3 ∷ 4 ∷ 5 ∷ 6 ∷ 7 ∷ 8 ∷ []

abbrev answered : (answer brk : ℕ) → Outcome
answered a b = record { answer = a; brk = b; ram = ram; map = []; version = 0; guards = [] }

-- rets is 9
abbrev card_of : (r1 r2 r3 r4 sp hold : ℕ) → (ram : List ℕ) → (brk pc done : ℕ) → List Request → List Outcome → Card
card_of r1 r2 r3 r4 s h bytes brk pc done qs os =
    record {
      regs = 0 ∷ r1 ∷ r2 ∷ r3 ∷ r4 ∷ 0 ∷ 0 ∷ 0 ∷ 0 ∷ 0 ∷ 0 ∷ 0 ∷ 0 ∷ 0 ∷ 0 ∷ 0 ∷ [];
      sp = s;
      rets = 9;
      hold = h;
      ram = bytes;
      map = [];
      brk = brk;
      version = 0;
      guards = [];
      pc = pc;
      done = done;
      requests = qs;
      outcomes = os;
    }

abbrev card : (r2 r3 r4 brk pc done : ℕ) → List Request → List Outcome → Card
card r2 r3 r4 = card_of 0x1004 r2 r3 r4 0 7 ram

-- the limit is met exactly; the base is written though the break leaves; the request counts operation 1; hold is as before
pub leaves_by_break
    : run (block ops) [] 12 (card 0 0 0x9000 0 0 10 [] (answered 0x80 1 ∷ []))
    ≡ left exits (card 0x08070605 0xffffff80 0x9004 1 0x2000006 12 (read 0x9000 1 11 ∷ []) [])
unfolding run ops_from op_step load read_le sign_extend
leaves_by_break = refl

-- without an outcome: the card before operation 1
pub stops_before : run (block ops) [] 12 (card 0 0 0x9000 0 0 10 [] []) ≡ stopped (card 0x08070605 0 0x9000 0 0x2000004 11 [] [])
unfolding run ops_from op_step load read_le
stops_before = refl

-- ---- groups: one of them alone, of length 4 and glued
abbrev after : Fast → Card → End
after f = run (block (record { fast = f; len = 4; glue = true } ∷ [])) [] 11

-- A load of r1 and r3 from r1 on, the first word in RAM, the second outside: behind the words the base is 8 more than it was, whatever was
-- loaded into it. The break leaves with hold set.
pub base_last
    : after (BlockMove 1 0x000a false true false) (card_of 0x1004 0 0 0 0 7 ram 0 0 10 [] (answered 0x33 1 ∷ []))
    ≡ left exits (card_of 0x100c 0 0x33 0 0 1 ram 1 0x2000004 11 (read 0x1008 4 10 ∷ []) [])
unfolding run ops_from op_step load_all load read_le places
base_last = refl

-- a store of r1 and r4 below r4: what is stored of the base is what it was
pub base-stored
    : after (BlockMove 4 0x0012 true true true) (card_of 0x11223344 0 0 0x1008 0 7 ram 0 0 10 [] [])
    ≡ left (chains 0)
    (card_of 0x11223344 0 0 0x1000 0 7 (0x44 ∷ 0x33 ∷ 0x22 ∷ 0x11 ∷ 8 ∷ 0x10 ∷ 0 ∷ 0 ∷ []) 0 0x2000004 11 [] [])
unfolding run ops_from op_step store_all store direct write_le places
base-stored = refl

-- the outcome of the first word sets the break word, that of the second clears it: both are moved, and nothing leaves
pub set-cleared
    : after (BlockMove 4 0x000c false false false) (card_of 0 0 0 0x9000 0 7 ram 0 0 10 [] (answered 0x22 1 ∷ answered 0x33 0 ∷ []))
    ≡ left (chains 0) (card_of 0 0x22 0x33 0x9000 0 7 ram 0 0x2000004 11 (read 0x9000 4 10 ∷ read 0x9004 4 10 ∷ []) [])
unfolding run ops_from op_step load_all load places
set-cleared = refl

-- an empty mask moves nothing and has its break check
pub empty-mask
    : after (BlockMove 4 0 true true true) (card_of 0 0 0 0x9000 0 7 ram 1 0 10 [] [])
    ≡ left exits (card_of 0 0 0 0x9000 0 1 ram 1 0x2000004 11 [] [])
unfolding run ops_from op_step store_all places
empty-mask = refl

-- rets first, then r3 and r2, downward, each a request of operation 0; the break word that the second outcome clears does not leave
pub rets_first
    : after (PushRets 2) (card_of 0 0x22 0x33 0 0x900c 7 ram 0 0 10 [] (answered 0 1 ∷ answered 0 0 ∷ answered 0 0 ∷ []))
    ≡ left (chains 0)
    (card_of 0 0x22 0x33 0 0x9000 7 ram 0 0x2000004 11 (write 0x9008 4 10 9 ∷ write 0x9004 4 10 0x33 ∷ write 0x9000 4 10 0x22 ∷ []) [])
unfolding run ops_from op_step push_all store direct up_from
rets_first = refl

-- r2, r3 and the target upward; the break word that the last outcome sets leaves for the target, with hold as it was
pub target_last
    : after (PopPc 2) (card_of 0 0 0 0 0x1000 7 ram 0 0 10 [] (answered 0x2000100 1 ∷ []))
    ≡ left exits (card_of 0 0x04030201 0x08070605 0 0x100c 7 ram 1 0x2000100 11 (read 0x1008 4 10 ∷ []) [])
unfolding run ops_from op_step pop_all load read_le up_from
target_last = refl

-- pair 9 is r2 and r3; the address is that before the first load
pub pair-loaded
    : after (LdPair 9 (Reg 2) 4) (card_of 0 0xffc 0 0 0 7 ram 0 0 10 [] [])
    ≡ left (chains 0) (card_of 0 0x04030201 0x08070605 0 0 7 ram 0 0x2000004 11 [] [])
unfolding run ops_from op_step load_all load read_le
pair-loaded = refl

pub pair-stored
    : after (StPair 9 Sp 0xfffffffc) (card_of 0 0x22 0x33 0 0x1004 7 ram 0 0 10 [] [])
    ≡ left (chains 0) (card_of 0 0x22 0x33 0 0x1004 7 (0x22 ∷ 0 ∷ 0 ∷ 0 ∷ 0x33 ∷ 0 ∷ 0 ∷ 0 ∷ []) 0 0x2000004 11 [] [])
unfolding run ops_from op_step store_all store direct write_le
pair-stored = refl

-- ---- 2026-09, likewise
-- the base goes up by r2 before the load, so that with d = b what is loaded stays
pub target_wins
    : after (LdPre 1 1 (ByReg 2) B32 false) (card_of 0x1000 4 0 0 0 7 ram 0 0 10 [] [])
    ≡ left (chains 0) (card_of 0x08070605 4 0 0 0 7 ram 0 0x2000004 11 [] [])
unfolding run ops_from op_step load read_le
target_wins = refl

-- outside: the request has the new base, which is written though the break leaves
pub base_up
    : after (LdPre 3 1 (ByInc 0x8000) B8 true) (card_of 0x1004 0 0 0 0 7 ram 0 0 10 [] (answered 0x80 1 ∷ []))
    ≡ left exits (card_of 0x9004 0 0xffffff80 0 0 1 ram 1 0x2000004 11 (read 0x9004 1 10 ∷ []) [])
unfolding run ops_from op_step load sign_extend
base_up = refl

-- with s = b the new base is stored
pub new-base-stored
    : after (StPre 1 1 (ByReg 2) B32) (card_of 0xffc 4 0 0 0 7 ram 0 0 10 [] [])
    ≡ left (chains 0) (card_of 0x1000 4 0 0 0 7 (0 ∷ 0x10 ∷ 0 ∷ 0 ∷ 5 ∷ 6 ∷ 7 ∷ 8 ∷ []) 0 0x2000004 11 [] [])
unfolding run ops_from op_step store direct write_le
new-base-stored = refl

-- the index is d: the base goes up by what it was before the load
pub index-before
    : after (LdPostR 2 1 2 B8 false) (card_of 0x1004 3 0 0 0 7 ram 0 0 10 [] [])
    ≡ left (chains 0) (card_of 0x1007 5 0 0 0 7 ram 0 0x2000004 11 [] [])
unfolding run ops_from op_step load read_le
index-before = refl

-- with d = b the index is added to what is loaded, as LdPost's increment is
pub index_to_target
    : after (LdPostR 1 1 2 B8 false) (card_of 0x1004 3 0 0 0 7 ram 0 0 10 [] [])
    ≡ left (chains 0) (card_of 8 3 0 0 0 7 ram 0 0x2000004 11 [] [])
unfolding run ops_from op_step load read_le
index_to_target = refl

-- memory is the left operand
pub memory_left
    : after (MemA4 1 4 Sub RkReg 2) (card_of 0x1000 5 0 0 0 7 ram 0 0 10 [] [])
    ≡ left (chains 0) (card_of 0x1000 5 0 0 0 7 (1 ∷ 2 ∷ 3 ∷ 4 ∷ 0 ∷ 6 ∷ 7 ∷ 8 ∷ []) 0 0x2000004 11 [] [])
unfolding run ops_from op_step load store direct read_le write_le
memory_left = refl

-- a bit by its register, outside: read, then written at one address; the break word that the first outcome sets and the second clears does
-- not leave
pub bit_added
    : after (MemA4 1 0 Add RkBit 2) (card_of 0x9000 4 0 0 0 7 ram 0 0 10 [] (answered 0x33 1 ∷ answered 0 0 ∷ []))
    ≡ left (chains 0) (card_of 0x9000 4 0 0 0 7 ram 0 0x2000004 11 (read 0x9000 4 10 ∷ write 0x9000 4 10 0x43 ∷ []) [])
unfolding run ops_from op_step load store direct
bit_added = refl

-- byte 0x80 of the table, unsigned: twice it and the address behind, for which the break leaves with hold as it was
pub place-unsigned
    : after (Tb 1 false) (card_of 0x9000 0 0 0 0 7 ram 0 0 10 [] (answered 0x80 1 ∷ []))
    ≡ left exits (card_of 0x9000 0 0 0 0 7 ram 1 0x2000104 11 (read 0x2009004 1 10 ∷ []) [])
unfolding run ops_from op_step load
place-unsigned = refl

-- an odd halfword of RAM: at the even place
pub odd_place
    : after (Tb 1 true) (card_of 0xfe000fff 0 0 0 0 7 ram 0 0 10 [] [])
    ≡ left looks_up (card_of 0xfe000fff 0 0 0 0 7 ram 0 0x200080a 11 [] [])
unfolding run ops_from op_step load read_le
odd_place = refl

-- ---- 2026-04: a word stored at 0x1001 or 0x1002, with code in the second group of 4 bytes, into which it reaches
abbrev mapped : (r1 sp : ℕ) → (ram : List ℕ) → (pc done : ℕ) → List Request → List Outcome → Card
mapped r1 s bytes pc done qs os =
    record {
      regs = (card_of r1 0x11223344 0 0 s 7 bytes 0 pc done qs os).regs;
      sp = s;
      rets = 9;
      hold = 7;
      ram = bytes;
      map = 0 ∷ 1 ∷ [];
      brk = 0;
      version = 0;
      guards = [];
      pc = pc;
      done = done;
      requests = qs;
      outcomes = os;
    }

-- an outcome with this RAM
abbrev leaves : List ℕ → Outcome
leaves bytes = record { answer = 0; brk = 0; ram = bytes; map = 0 ∷ 1 ∷ []; version = 0; guards = [] }

-- one operation, with or without a code map, from r1 = 0x1001, r2 = 0x11223344 and an sp, and its outcomes
abbrev stored : (map : Bool) → Fast → (sp : ℕ) → List Outcome → End
stored m f s os = run (block_of m (record { fast = f; len = 4; glue = false } ∷ [])) [] 11 (mapped 0x1001 s ram 0 10 [] os)

-- where it ends
abbrev ends : (sp : ℕ) → (ram : List ℕ) → List Request → End
ends s bytes qs = left (chains 0) (mapped 0x1001 s bytes 0x2000004 11 qs [])

-- alone, with a code map: the write helper, be it for address bit 0 or for bit 1
pub bit_0_asks : stored true (St 2 (Reg 1) 0 B32) 0 (leaves ram ∷ []) ≡ ends 0 ram (write 0x1001 4 10 0x11223344 ∷ [])
unfolding run ops_from op_step store direct read_le
bit_0_asks = refl

pub bit_1_asks : stored true (St 2 (Reg 1) 1 B32) 0 (leaves ram ∷ []) ≡ ends 0 ram (write 0x1002 4 10 0x11223344 ∷ [])
unfolding run ops_from op_step store direct read_le
bit_1_asks = refl

-- Rmw's load is direct, its store asks with the whole result; Mov has no load
pub modified-asks : stored true (Rmw 1 B32 RmwAdd 0 0x10) 0 (leaves ram ∷ []) ≡ ends 0 ram (write 0x1001 4 10 0x05040312 ∷ [])
unfolding run ops_from op_step load store direct read_le
modified-asks = refl

pub moved-asks : stored true (Rmw 1 B32 RmwMov 0 0x10) 0 (leaves ram ∷ []) ≡ ends 0 ram (write 0x1001 4 10 0x10 ∷ [])
unfolding run ops_from op_step store direct read_le
moved-asks = refl

-- so do those of 2026-09
pub advanced-asks : stored true (StPre 2 1 (ByInc 0) B32) 0 (leaves ram ∷ []) ≡ ends 0 ram (write 0x1001 4 10 0x11223344 ∷ [])
unfolding run ops_from op_step store direct read_le
advanced-asks = refl

pub combined-asks : stored true (MemA4 1 0 Add RkImm 0x10) 0 (leaves ram ∷ []) ≡ ends 0 ram (write 0x1001 4 10 0x05040312 ∷ [])
unfolding run ops_from op_step load store direct read_le
combined-asks = refl

pub ret-asks : stored true PushRet 0x1005 (leaves ram ∷ []) ≡ ends 0x1001 ram (write 0x1001 4 10 9 ∷ [])
unfolding run ops_from op_step store direct read_le
ret-asks = refl

-- a group's words, PushRets' rets among them, and a word without a code map: RAM
pub group-writes : stored true (BlockMove 1 0x0004 true false false) 0 [] ≡ ends 0 (1 ∷ 0x44 ∷ 0x33 ∷ 0x22 ∷ 0x11 ∷ 6 ∷ 7 ∷ 8 ∷ []) []
unfolding run ops_from op_step store_all store direct read_le write_le places
group-writes = refl

-- the second word, r3, is outside RAM
pub rets-write
    : stored true (PushRets 3) 0x1005 (leaves (1 ∷ 9 ∷ 0 ∷ 0 ∷ 0 ∷ 6 ∷ 7 ∷ 8 ∷ []) ∷ [])
    ≡ ends 0xffd (1 ∷ 9 ∷ 0 ∷ 0 ∷ 0 ∷ 6 ∷ 7 ∷ 8 ∷ []) (write 0xffd 4 10 0 ∷ [])
unfolding run ops_from op_step push_all store direct read_le write_le up_from
rets-write = refl

pub flag_0_writes : stored false (St 2 (Reg 1) 0 B32) 0 [] ≡ ends 0 (1 ∷ 0x44 ∷ 0x33 ∷ 0x22 ∷ 0x11 ∷ 6 ∷ 7 ∷ 8 ∷ []) []
unfolding run ops_from op_step store direct read_le write_le
flag_0_writes = refl

-- "A group .. keeps .. its definition": a word of it is direct inside RAM, whatever its address and the flag, where its group holds no code
pub group-direct : (m : Memory) (a : ℕ) (c : Card)
    → direct m B32 false a c ≡ inside B32 (minus a m.ram_base) m.ram_len && not (holds_code m (minus a m.ram_base) c)
unfolding direct
group-direct m a c = refl

-- ---- 2026-06: word r2 from r1, in a block at 0x1004, whose RAM starts at 0x1000; its guard stands at 0x5000, behind another block's
abbrev loads : List BOp
loads = record { fast = Ld 2 (Reg 1) 0 B32 false; len = 4; glue = false } ∷ []

abbrev starts_at : (pc0 base : ℕ) → Block
starts_at pc base =
    record {
      layout = record { regs = 0; sp = 64; rets = 68; pc = 72; hold = 76 };
      memory = record { ram_base = base; ram_len = 8; xip_base = 0x2000; xip_len = 4; map = false };
      addresses = record { h_read = 0x100; h_write = 0x200; table = 0 };
      pc0 = pc;
      guard = record { at = 0x5000; h_ram_ok = 0x300 };
      ops = loads;
      n = 1;
    }

-- the versions: the context's, the other block's, the block's own
abbrev ram-card : (context other own : ℕ) → (r2 : ℕ) → (ram : List ℕ) → (brk pc done : ℕ) → List Request → List Outcome → Card
ram-card v w g r2 bytes brk pc done qs os =
    record {
      regs = (card_of 0x1004 r2 0 0 0 7 bytes brk pc done qs os).regs;
      sp = 0;
      rets = 9;
      hold = 7;
      ram = bytes;
      map = [];
      brk = brk;
      version = v;
      guards = record { at = 0x4000; version = w } ∷ record { at = 0x5000; version = g } ∷ [];
      pc = pc;
      done = done;
      requests = qs;
      outcomes = os;
    }

-- an outcome that alters RAM's last byte, and leaves the versions 5, 6 and 7
abbrev now : List ℕ
now = 1 ∷ 2 ∷ 3 ∷ 4 ∷ 5 ∷ 6 ∷ 7 ∷ 0x18 ∷ []

abbrev says : (answer brk : ℕ) → Outcome
says a b = record { answer = a; brk = b; ram = now; map = []; version = 5; guards = 6 ∷ 7 ∷ [] }

-- from these versions, with done 10, under a limit
abbrev guarded-run : (limit : ℕ) → (context other own : ℕ) → List Outcome → End
guarded-run limit v w g os = run (starts_at 0x1004 0x1000) [] limit (ram-card v w g 0 ram 0 0 10 [] os)

-- equal versions: no request, whatever the other guard's version is
pub equal_versions
    : guarded-run 11 0x8000000000000003 4 0x8000000000000003 (says 0 1 ∷ [])
    ≡ left (chains 0) (ram-card 0x8000000000000003 4 0x8000000000000003 0x08070605 ram 0 0x1008 11 [] (says 0 1 ∷ []))
unfolding run ops_from op_step load read_le
equal_versions = refl

-- versions that differ in the high half alone: the guard's address is the request, and 1 goes on, with the RAM that the outcome gives
pub high_half-asks
    : guarded-run 11 0x100000003 0x100000003 3 (says 1 0 ∷ [])
    ≡ left (chains 0) (ram-card 5 6 7 0x18070605 now 0 0x1008 11 (guard 0x5000 ∷ []) [])
unfolding run ops_from op_step load read_le
high_half-asks = refl

-- 2^31 goes on too; a break word that the guard's outcome sets leaves behind the first operation that uses the bus
pub breaks_behind
    : guarded-run 11 1 2 3 (says 0x80000000 1 ∷ [])
    ≡ left exits (ram-card 5 6 7 0x18070605 now 1 0x1008 11 (guard 0x5000 ∷ []) [])
unfolding run ops_from op_step load read_le
breaks_behind = refl

-- 0: left for the block's address with done as it was, hold too, though the outcome sets the break word
pub answer_0 : guarded-run 11 1 2 3 (says 0 1 ∷ []) ≡ left exits (ram-card 5 6 7 0 now 1 0x1004 10 (guard 0x5000 ∷ []) [])
unfolding run
answer_0 = refl

-- the limit comes first: no request
pub limit_first : guarded-run 10 1 2 3 (says 0 1 ∷ []) ≡ left exits (ram-card 1 2 3 0 ram 0 0x1004 10 [] (says 0 1 ∷ []))
unfolding run
limit_first = refl

-- without an outcome: the card before the guard's test
pub guard-unmet : guarded-run 11 1 2 3 [] ≡ stopped (ram-card 1 2 3 0 ram 0 0x1004 10 [] [])
unfolding run
guard-unmet = refl

-- a flash start, here inside RAM too, has no guard, and the versions mean nothing
pub flash-start
    : run (starts_at 0x2000004 0x2000000) [] 11 (ram-card 1 2 3 0 ram 1 0 10 [] (says 0x33 0 ∷ []))
    ≡ left (chains 0) (ram-card 5 6 7 0x33 now 0 0x2000008 11 (read 0x1004 4 10 ∷ []) [])
unfolding run ops_from op_step load read_le
flash-start = refl

-- a block that ends where RAM does, at 2^32: its pc is then 0
pub ends_at_top
    : run (starts_at 0xfffffffc 0xfffffff8) [] 11 (ram-card 3 2 3 0 ram 0 0 10 [] (says 0x33 0 ∷ []))
    ≡ left (chains 0) (ram-card 5 6 7 0x33 now 0 0 11 (read 0x1004 4 10 ∷ []) [])
unfolding run ops_from op_step load read_le
ends_at_top = refl
