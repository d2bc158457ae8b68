-- Document 01's examples, by computation of the definition: the empty block of the listing, and an example of each of reading's faults;
-- and layouts, groups, the forms of 2026-09 and RAM blocks on both sides of their tests.
use mathlib.Core.Path.{◌≡◌, refl}
use mathlib.Core.List.{List, [], ◌∷◌, ◌++◌}
use Prim.Native.Nat.{ℕ, zero, suc, ◌/◌, ◌%◌}
use Rattle.block.specs.declared.Guard.{Guard}
use Rattle.block.specs.Block.{places, up_from}
use Rattle.record.specs.Record.{num16, num32, num64, field_fault, layout_fault, region_fault, memory_fault, start_fault, contents_fault}
use Rattle.record.specs.Record.{operation_of, operation_fault, operations, header, refused_or, layout_field, memory_field, addresses_field}
use Rattle.record.specs.Record.{start_field, guard_field, in_ram, within_ram, reading, Answer, Accepted, Refused}

-- four bytes, lowest first
abbrev word : ℕ → List ℕ
word n = n % 256 ∷ n / 256 % 256 ∷ n / 65536 % 256 ∷ n / 16777216 ∷ []

abbrev zeros : ℕ → List ℕ
zeros zero = []
zeros (suc n) = 0 ∷ zeros n

abbrev layout : (regs sp rets pc hold : ℕ) → List ℕ
layout regs sp rets pc hold = (1 ∷ 20 ∷ 0 ∷ word regs) ++ word sp ++ word rets ++ word pc ++ word hold

-- fields 02 to 04 as the listing has them, but for the lengths of RAM and XIP, and the block's address
abbrev behind : (ram xip pc0 : ℕ) → List ℕ
behind ram xip pc0 =
    (2 ∷ 17 ∷ 0 ∷ word 0x01000000) ++ word ram ++ word 0x02000000 ++ word xip ++ (0 ∷ [])
    ++ (3 ∷ 24 ∷ 0 ∷ zeros 24)
    ++ (4 ∷ 4 ∷ 0 ∷ word pc0)

abbrev fields : (ram xip pc0 : ℕ) → List ℕ
fields ram xip pc0 = layout 0 64 68 72 76 ++ behind ram xip pc0

abbrev regions : (ram xip : ℕ) → List ℕ
regions ram xip = fields ram xip 0x02000000

-- a record with this layout
abbrev laid : (regs sp rets pc hold : ℕ) → List ℕ
laid regs sp rets pc hold = layout regs sp rets pc hold ++ behind 0x00010000 0x00100000 0x02000000

abbrev listing : List ℕ
listing = regions 0x00010000 0x00100000

-- an operation of guest length 2 without glue
abbrev operation : ℕ → List ℕ
operation kind = 5 ∷ 3 ∷ 0 ∷ kind ∷ 2 ∷ 0 ∷ []

abbrev nops : ℕ → List ℕ
nops zero = []
nops (suc n) = operation 0 ++ nops n

-- what reading answers, computed
unfoldable answer : List ℕ → Answer
unfolding
    num16 num32 num64 field_fault layout_fault region_fault memory_fault start_fault contents_fault operation_of operation_fault operations
    header refused_or layout_field memory_field addresses_field start_field guard_field in_ram within_ram reading places up_from
answer s = (reading s).answer

-- an empty block is accepted
empty_block : answer listing ≡ Accepted
unfolding answer
empty_block = refl

-- empty record
fault_1 : answer [] ≡ Refused 1 0
unfolding answer
fault_1 = refl

-- whole first field, tag 02
fault_2 : answer (2 ∷ 20 ∷ 0 ∷ zeros 20) ≡ Refused 2 0
unfolding answer
fault_2 = refl

-- 33 Nops
fault_8 : answer (listing ++ nops 33) ≡ Refused 8 269
unfolding answer
fault_8 = refl

-- Rts, Nop
fault_9 : answer (listing ++ operation 36 ++ operation 0) ≡ Refused 9 83
unfolding answer
fault_9 = refl

-- kind 50
fault_3 : answer (listing ++ operation 50) ≡ Refused 3 77
unfolding answer
fault_3 = refl

-- MovI d = 16
fault_4 : answer (listing ++ (5 ∷ 11 ∷ 0 ∷ 1 ∷ 2 ∷ 0 ∷ word 16) ++ word 0) ≡ Refused 4 77
unfolding answer
fault_4 = refl

-- sp = 16384
fault_5 : answer (laid 0 16384 68 72 76) ≡ Refused 5 0
unfolding answer
fault_5 = refl

-- "sp = 62 now answers 14"
fault_14 : answer (laid 0 62 68 72 76) ≡ Refused 14 0
unfolding answer
fault_14 = refl

-- sp in the last of regs' 64 bytes
fault_15 : answer (laid 0 60 68 72 76) ≡ Refused 15 0
unfolding answer
fault_15 = refl

-- RAM length 3
fault_6 : answer (regions 3 0x00100000) ≡ Refused 6 23
unfolding answer
fault_6 = refl

-- 04000000
fault_7 : answer (fields 0x00010000 0x00100000 0x04000000) ≡ Refused 7 70
unfolding answer
fault_7 = refl

-- ---- layouts: "the whole layout is tested for 5, then for alignment, then for overlap"

-- regs plus 60 is 16380, and 16384; an offset of 16380, and of 16383
edges :
    (answer (laid 16320 0 4 8 12) ≡ Accepted)
    × (answer (laid 16324 0 4 8 12) ≡ Refused 5 0)
    × (answer (laid 16 12 8 4 16380) ≡ Accepted)
    × (answer (laid 16 12 8 4 16383) ≡ Refused 14 0)
unfolding answer
edges = (refl, refl, refl, refl)

-- 5 of the last place, behind an unaligned and behind an overlapping one; 14 of the last place, behind two that overlap; a place that is
-- unaligned and overlaps
orders :
    (answer (laid 1 68 72 76 16384) ≡ Refused 5 0)
    × (answer (laid 0 64 64 72 4294967292) ≡ Refused 5 0)
    × (answer (laid 0 64 64 72 78) ≡ Refused 14 0)
    × (answer (laid 2 0 4 8 12) ≡ Refused 14 0)
unfolding answer
orders = (refl, refl, refl, refl)

-- 14 and 15 come before RAM's length
before_6 :
    (answer (layout 0 62 68 72 76 ++ behind 3 0x00100000 0x02000000) ≡ Refused 14 0)
    × (answer (layout 0 64 64 72 76 ++ behind 3 0x00100000 0x02000000) ≡ Refused 15 0)
unfolding answer
before_6 = (refl, refl)

-- ---- groups: "a group that moves more bytes (four for each word, rets and pc included) than the RAM's or the XIP's length answers 4"

-- PushRets or PopPc
abbrev saving : (kind n : ℕ) → List ℕ
saving kind n = (5 ∷ 7 ∷ 0 ∷ kind ∷ 2 ∷ 0 ∷ []) ++ word n

-- LdPair or StPair, at sp
abbrev pair : ℕ → List ℕ
pair kind = (5 ∷ 15 ∷ 0 ∷ kind ∷ 2 ∷ 0 ∷ []) ++ word 255 ++ word 16 ++ word 0

abbrev move : (mask : ℕ) → List ℕ
move mask = (5 ∷ 23 ∷ 0 ∷ 40 ∷ 2 ∷ 0 ∷ []) ++ word 15 ++ word mask ++ word 1 ++ word 0 ++ word 1

-- two registers, in 8 bytes: in both regions, in RAM of 7, in XIP of 7
pairs :
    (answer (regions 8 8 ++ pair 43 ++ pair 44) ≡ Accepted)
    × (answer (regions 7 8 ++ pair 43) ≡ Refused 4 77)
    × (answer (regions 8 7 ++ pair 44) ≡ Refused 4 77)
unfolding answer
pairs = (refl, refl, refl)

-- three registers, in 12 bytes, and none; the same in RAM of 11; a mask of 17 bits
moves :
    (answer (regions 12 12 ++ move 7 ++ move 0) ≡ Accepted)
    × (answer (regions 11 12 ++ move 7) ≡ Refused 4 77)
    × (answer (listing ++ move 65536) ≡ Refused 4 77)
unfolding answer
moves = (refl, refl, refl)

-- rets and r0 to r3, r3, r4, r4 to r15; the last, 52 bytes, in XIP of 51; the first, 20 bytes, in RAM of 19; n = 16
pushes :
    (answer (regions 52 52 ++ saving 41 0 ++ saving 41 3 ++ saving 41 4 ++ saving 41 15) ≡ Accepted)
    × (answer (regions 52 51 ++ saving 41 15) ≡ Refused 4 77)
    × (answer (regions 19 52 ++ saving 41 0) ≡ Refused 4 77)
    × (answer (listing ++ saving 41 16) ≡ Refused 4 77)
unfolding answer
pushes = (refl, refl, refl, refl)

-- r4 and pc, in 8 bytes; in RAM of 7; PopPc, Nop
pops :
    (answer (regions 8 8 ++ saving 42 4) ≡ Accepted)
    × (answer (regions 7 8 ++ saving 42 4) ≡ Refused 4 77)
    × (answer (listing ++ saving 42 4 ++ operation 0) ≡ Refused 9 87)
unfolding answer
pops = (refl, refl, refl)

-- ---- forms of 2026-09: "In 45 and 46 an i of 16 to 255 means the increment is used; in 47 i is a register; half is 0 or 1."

-- LdPre, StPre and LdPostR of a word, with this i; an increment takes 4 off
abbrev load_pre : (i : ℕ) → List ℕ
load_pre i = (5 ∷ 27 ∷ 0 ∷ 45 ∷ 2 ∷ 0 ∷ []) ++ word 1 ++ word 2 ++ word i ++ word 4 ++ word 0 ++ word 0xfffffffc

abbrev store_pre : (i : ℕ) → List ℕ
store_pre i = (5 ∷ 23 ∷ 0 ∷ 46 ∷ 2 ∷ 0 ∷ []) ++ word 1 ++ word 2 ++ word i ++ word 4 ++ word 0xfffffffc

abbrev load_post : (i : ℕ) → List ℕ
load_post i = (5 ∷ 23 ∷ 0 ∷ 47 ∷ 2 ∷ 0 ∷ []) ++ word 1 ++ word 2 ++ word i ++ word 4 ++ word 0

-- MemA4 at the ends of b, off and rv
abbrev memory : (op rk : ℕ) → List ℕ
memory op rk = (5 ∷ 23 ∷ 0 ∷ 48 ∷ 2 ∷ 0 ∷ []) ++ word 15 ++ word 0xffffffff ++ word op ++ word rk ++ word 0xffffffff

-- Tb
abbrev table : (half : ℕ) → List ℕ
table half = (5 ∷ 11 ∷ 0 ∷ 49 ∷ 2 ∷ 0 ∷ []) ++ word 15 ++ word half

-- i is the last register, then the first and the last number that means the increment; the number behind it
loads-before :
    (answer (listing ++ load_pre 15 ++ load_pre 16 ++ load_pre 255) ≡ Accepted)
    × (answer (listing ++ load_pre 256) ≡ Refused 4 77)
unfolding answer
loads-before = (refl, refl)

stores-before :
    (answer (listing ++ store_pre 15 ++ store_pre 16 ++ store_pre 255) ≡ Accepted)
    × (answer (listing ++ store_pre 256) ≡ Refused 4 77)
unfolding answer
stores-before = (refl, refl)

-- i is the last register, and the number behind it
loads-behind :
    (answer (listing ++ load_post 15) ≡ Accepted)
    × (answer (listing ++ load_post 16) ≡ Refused 4 77)
unfolding answer
loads-behind = (refl, refl)

-- the last op and the last rk, and the number behind each
memories :
    (answer (listing ++ memory 10 255) ≡ Accepted)
    × (answer (listing ++ memory 11 0) ≡ Refused 4 77)
    × (answer (listing ++ memory 0 256) ≡ Refused 4 77)
unfolding answer
memories = (refl, refl, refl)

-- of bytes, of halfwords, half = 2; Tb, Nop
tables :
    (answer (listing ++ table 0) ≡ Accepted)
    × (answer (listing ++ table 1) ≡ Accepted)
    × (answer (listing ++ table 2) ≡ Refused 4 77)
    × (answer (listing ++ table 0 ++ operation 0) ≡ Refused 9 91)
unfolding answer
tables = (refl, refl, refl, refl)

-- none of them is a group: the shortest regions are long enough
no_groups : answer (regions 4 4 ++ load_pre 0 ++ store_pre 0 ++ load_post 0 ++ memory 0 0 ++ table 0) ≡ Accepted
unfolding answer
no_groups = refl

-- ---- RAM blocks: "A record may carry tag 06, 16 bytes, directly behind tag 04"

-- fields 01 to 04 of a block that starts here; RAM is 01000000 to 0100ffff
abbrev from : ℕ → List ℕ
from pc0 = fields 0x00010000 0x00100000 pc0

abbrev guard : List ℕ
guard = (6 ∷ 16 ∷ 0 ∷ word 0x1000) ++ word 1 ++ word 0x2000 ++ word 2

-- the guard that is read, computed
unfoldable guarded : List ℕ → Guard
unfolding
    num16 num32 num64 field_fault layout_fault region_fault memory_fault start_fault contents_fault operation_of operation_fault operations
    header refused_or layout_field memory_field addresses_field start_field guard_field in_ram within_ram reading places up_from
guarded s = (reading s).block.guard

-- the address of the `RamGuard`, and that of `h_ram_ok`; a flash block has zeros
guards :
    (answer (from 0x01000000 ++ guard ++ operation 0) ≡ Accepted)
    × (guarded (from 0x01000000 ++ guard) ≡ record { at = 0x100001000; h_ram_ok = 0x200002000 })
    × (guarded listing ≡ record { at = 0; h_ram_ok = 0 })
unfolding answer guarded
guards = (refl, refl, refl)

-- RAM's last byte, and the byte behind it; the byte before RAM
starts :
    (answer (from 0x0100ffff ++ guard) ≡ Accepted)
    × (answer (from 0x01010000 ++ guard) ≡ Refused 7 70)
    × (answer (from 0x00ffffff ++ guard) ≡ Refused 7 70)
unfolding answer
starts = (refl, refl, refl)

-- a RAM start: an operation is next, nothing is next; a flash start: tag 06 is next, whole or alone
fault_16 :
    (answer (from 0x01000000 ++ operation 0) ≡ Refused 16 70)
    × (answer (from 0x01000000) ≡ Refused 16 70)
    × (answer (listing ++ guard) ≡ Refused 16 70)
    × (answer (listing ++ (6 ∷ [])) ≡ Refused 16 70)
unfolding answer
fault_16 = (refl, refl, refl, refl)

-- a RAM start, tag 06 is next: alone, and with 15 bytes
guard-faults :
    (answer (from 0x01000000 ++ (6 ∷ [])) ≡ Refused 1 77)
    × (answer (from 0x01000000 ++ (6 ∷ 15 ∷ 0 ∷ zeros 15)) ≡ Refused 2 77)
unfolding answer
guard-faults = (refl, refl)

-- "A start in flash's range is a flash start even if it is inside RAM too": RAM is 01000000 to 02ffffff
both :
    (answer (fields 0x02000000 0x00100000 0x02000000 ++ operation 0) ≡ Accepted)
    × (answer (fields 0x02000000 0x00100000 0x02000000 ++ guard) ≡ Refused 16 70)
    × (answer (fields 0x02000000 0x00100000 0x01ffffff ++ guard) ≡ Accepted)
unfolding answer
both = (refl, refl, refl)

-- two operations end at RAM's end, a third reaches past it; the second does so by a byte
fault_17 :
    (answer (from 0x0100fffc ++ guard ++ nops 2) ≡ Accepted)
    × (answer (from 0x0100fffc ++ guard ++ nops 3) ≡ Refused 17 108)
    × (answer (from 0x0100fffd ++ guard ++ nops 3) ≡ Refused 17 102)
unfolding answer
fault_17 = (refl, refl, refl)

-- "after all fields": kind 50 behind an operation that reaches past RAM's end
before_17 : answer (from 0x0100ffff ++ guard ++ operation 0 ++ operation 50) ≡ Refused 3 102
unfolding answer
before_17 = refl
