-- One step a kind. Document 01: "A kind's step is its `emit_op` case read as arithmetic on registers, sp and rets, without slots".
use Rattle.std.specs.Prelude.{Bool, true, false, cond, List, [], ◌∷◌, reverse, ℕ, suc, ◌-◌, ◌*◌, ◌^◌, eqb}
use Rattle.std.specs.Int.Bits.{bit_and, bit_or, bit_xor}
use Rattle.block.specs.Block.{members, span, saved, pair_of}
use Rattle.card.specs.Kinds.{RmwOp, RmwOr, RmwAnd, RmwXor, RmwAdd, RmwSub, RmwMov, Eq, Ne, Amount, ByReg, ByInc, Width, B8, B16, B32}
use Rattle.card.specs.Kinds.{Fast, Nop, MovI, Mov, AddRI, ShlI, SarI, Alu3, Alu3I, Alu2, Alu2I, A4, Ext, MinMax, Un, Div, Mov2}
use Rattle.card.specs.Kinds.{Mov2I, BitExt, BitIns, SpAdd, RFromSp, Ld, St, LdIdx, StIdx, LdPost, StPost, Rmw, PushRet, PopRets}
use Rattle.card.specs.Kinds.{BrI, BrR, DecBr, BitBr, Goto, Call, Rts, GotoR, CallR, PopRet, BlockMove, PushRets, PopPc, LdPair}
use Rattle.card.specs.Kinds.{StPair, LdPre, StPre, LdPostR, MemA4, Tb, Memory}
use Rattle.card.specs.Word.{plus, minus, bit, shl, sar, alu, ext, holds, min_max, un, div, bit_ext, bit_ins}
use Rattle.card.specs.Card.{Card, reg, base_of, rhs, set_reg, set_sp, set_rets, arrive, add_reg, add_sp}
use Rattle.card.specs.Memory.{Access, got, unmet, load, store}

-- How a block leaves: by the return; by a chain site, counted in the order in which `emit_op` makes them, and in which they are listed; by
-- the jump table, which is a jump where the table has the pc's body and the return where it has not.
pub data Way : Type 0 where
  exits : Way
  chains : (site : ℕ) → Way
  looks_up : Way

-- after an operation: on to the next, out of the block, or a request that finds no outcome
pub data After : Type 0 where
  on : Card → After
  out : Way → Card → After
  starved : After

-- what an access leads to
abbrev pub with_loaded : Access → (ℕ → Card → After) → After
with_loaded (got v c) f = f v c
with_loaded unmet f = starved

abbrev pub with_stored : Access → (Card → After) → After
with_stored (got v c) f = f c
with_stored unmet f = starved

-- the jumps of operation number i leave with i + 1 operations run
abbrev pub chain : (i site target : ℕ) → Card → After
chain i k target c = out (chains k) (arrive target (suc i) c)

-- the site of the address behind comes first
abbrev pub fork : Bool → (i next target : ℕ) → Card → After
fork taken i next target c = cond taken (chain i 1 target c) (chain i 0 next c)

abbrev pub ind : (i target : ℕ) → Card → After
ind i target c = out looks_up (arrive target (suc i) c)

-- "PopRet checks before the table and then returns with its target as pc."
abbrev pub ind_brk : (i target : ℕ) → Card → After
ind_brk i target c = cond (eqb c.brk 0) (ind i target c) (out exits (arrive target (suc i) c))

-- kinds 27 and 48: w bytes are loaded, zero-extended, and f of them is stored
abbrev pub modify : Memory → (flash : List ℕ) → (i : ℕ) → Width → (address : ℕ) → (ℕ → ℕ) → Card → After
modify m flash i w a f c = with_loaded (load m flash i w false a c) (λ x c₁. with_stored (store m i w true a (f x) c₁) (λ c₂. on c₂))

-- `Mov` stores without a load
abbrev pub rmw : Memory → (flash : List ℕ) → (i : ℕ) → Width → RmwOp → (address v : ℕ) → Card → After
rmw m flash i w RmwOr a v c = modify m flash i w a (λ x. bit_or x v) c
rmw m flash i w RmwAnd a v c = modify m flash i w a (λ x. bit_and x v) c
rmw m flash i w RmwXor a v c = modify m flash i w a (λ x. bit_xor x v) c
rmw m flash i w RmwAdd a v c = modify m flash i w a (λ x. plus x v) c
rmw m flash i w RmwSub a v c = modify m flash i w a (λ x. minus x v) c
rmw m flash i w RmwMov a v c = with_stored (store m i w true a v c) (λ c₁. on c₁)

-- ---- groups: word after word, RAM tried first, then XIP for a load, then the outside; no word of them is a word store of 2026-04
-- these registers, the first from place k of the words at an address; then what follows
unfoldable pub load_all : Memory → (flash : List ℕ) → (i start k : ℕ) → List ℕ → Card → (Card → After) → After
load_all m flash i start k [] c f = f c
load_all m flash i start k (r ∷ rs) c f =
    with_loaded (load m flash i B32 false (plus start (4 * k)) c) (λ v c₁. load_all m flash i start (suc k) rs (set_reg r v c₁) f)

unfoldable pub store_all : Memory → (i start k : ℕ) → List ℕ → Card → (Card → After) → After
store_all m i start k [] c f = f c
store_all m i start k (r ∷ rs) c f =
    with_stored (store m i B32 false (plus start (4 * k)) (reg c r) c) (λ c₁. store_all m i start (suc k) rs c₁ f)

abbrev pub move_all : Memory → (flash : List ℕ) → (i : ℕ) → (store : Bool) → (start : ℕ) → List ℕ → Card → (Card → After) → After
move_all m flash i true start rs c f = store_all m i start 0 rs c f
move_all m flash i false start rs c f = load_all m flash i start 0 rs c f

-- kind 40: where the words start, and the base behind
abbrev pub move_start : (down : Bool) → (base bytes : ℕ) → ℕ
move_start true x n = minus x n
move_start false x n = x

abbrev pub move_end : (down : Bool) → (start bytes : ℕ) → ℕ
move_end true x n = x
move_end false x n = plus x n

abbrev pub set_if : Bool → (r v : ℕ) → Card → Card
set_if true r v c = set_reg r v c
set_if false r v c = c

-- a word pushed, and one popped
abbrev pub push : Memory → (alone : Bool) → (i value : ℕ) → Card → (Card → After) → After
push m alone i v c f = with_stored (store m i B32 alone (minus c.sp 4) v (set_sp (minus c.sp 4) c)) f

abbrev pub pop : Memory → (flash : List ℕ) → (i : ℕ) → Card → (ℕ → Card → After) → After
pop m flash i c f = with_loaded (load m flash i B32 false c.sp c) f

unfoldable pub push_all : Memory → (i : ℕ) → List ℕ → Card → (Card → After) → After
push_all m i [] c f = f c
push_all m i (r ∷ rs) c f = push m false i (reg c r) c (λ c₁. push_all m i rs c₁ f)

unfoldable pub pop_all : Memory → (flash : List ℕ) → (i : ℕ) → List ℕ → Card → (Card → After) → After
pop_all m flash i [] c f = f c
pop_all m flash i (r ∷ rs) c f = pop m flash i c (λ v c₁. pop_all m flash i rs (add_sp 4 (set_reg r v c₁)) f)

-- ---- addressing forms of 2026-09
-- by how much a base goes up
abbrev pub amount : Card → Amount → ℕ
amount c (ByReg r) = reg c r
amount c (ByInc v) = v

-- operation number i of a block, with the guest address behind it
unfoldable pub op_step : Memory → (flash : List ℕ) → (i next : ℕ) → Fast → Card → After
op_step m flash i next Nop c = on c
op_step m flash i next (MovI d v) c = on (set_reg d v c)
op_step m flash i next (Mov d s) c = on (set_reg d (reg c s) c)
op_step m flash i next (AddRI d s v) c = on (set_reg d (plus (reg c s) v) c)
op_step m flash i next (ShlI d s n) c = on (set_reg d (shl (reg c s) n) c)
op_step m flash i next (SarI d s n) c = on (set_reg d (sar (reg c s) n) c)
op_step m flash i next (Alu3 d a b op) c = on (set_reg d (alu op (reg c a) (reg c b)) c)
op_step m flash i next (Alu3I d a v op) c = on (set_reg d (alu op (reg c a) v) c)
op_step m flash i next (Alu2 d b op) c = on (set_reg d (alu op (reg c d) (reg c b)) c)
op_step m flash i next (Alu2I d v op) c = on (set_reg d (alu op (reg c d) v) c)
op_step m flash i next (A4 d s op rk rv) c = on (set_reg d (alu op (reg c s) (rhs c rk rv)) c)
op_step m flash i next (Ext d s part signed) c = on (set_reg d (ext part signed (reg c s)) c)
op_step m flash i next (MinMax d a b kind) c = on (set_reg d (min_max kind (reg c a) (reg c b)) c)
op_step m flash i next (Un d s k) c = on (set_reg d (un k (reg c s)) c)
op_step m flash i next (Div d a b k) c = on (set_reg d (div k (reg c a) (reg c b)) c)
-- "Mov2 reads both, then writes dh, then dl. Mov2I writes dl first."
op_step m flash i next (Mov2 dh dl sh sl) c = on (set_reg dl (reg c sl) (set_reg dh (reg c sh) c))
op_step m flash i next (Mov2I dh dl v) c = on (set_reg dh (cond (bit v 31) (2 ^ 32 - 1) 0) (set_reg dl v c))
op_step m flash i next (BitExt d s p l signed) c = on (set_reg d (bit_ext signed p l (reg c s)) c)
op_step m flash i next (BitIns d s p l) c = on (set_reg d (bit_ins p l (reg c d) (reg c s)) c)
op_step m flash i next (SpAdd v) c = on (add_sp v c)
op_step m flash i next (RFromSp d v) c = on (set_reg d (plus c.sp v) c)
op_step m flash i next (Ld d b off w signed) c = with_loaded (load m flash i w signed (plus (base_of c b) off) c) (λ v c₁. on (set_reg d v c₁))
op_step m flash i next (St s b off w) c = with_stored (store m i w true (plus (base_of c b) off) (reg c s) c) (λ c₁. on c₁)
op_step m flash i next (LdIdx d b x sh w signed) c =
    with_loaded (load m flash i w signed (plus (reg c b) (shl (reg c x) sh)) c) (λ v c₁. on (set_reg d v c₁))
op_step m flash i next (StIdx s b x sh w) c = with_stored (store m i w true (plus (reg c b) (shl (reg c x) sh)) (reg c s) c) (λ c₁. on c₁)
-- "LdPost with d = b adds the increment to the loaded value."
op_step m flash i next (LdPost d b w signed inc) c = with_loaded (load m flash i w signed (reg c b) c) (λ v c₁. on (add_reg b inc (set_reg d v c₁)))
op_step m flash i next (StPost s b w inc) c = with_stored (store m i w true (reg c b) (reg c s) c) (λ c₁. on (add_reg b inc c₁))
op_step m flash i next (Rmw b w op off v) c = rmw m flash i w op (plus (reg c b) off) v c
op_step m flash i next PushRet c = push m true i c.rets c (λ c₁. on c₁)
op_step m flash i next PopRets c = pop m flash i c (λ v c₁. on (add_sp 4 (set_rets v c₁)))
op_step m flash i next (BrI a v q target) c = fork (holds q (reg c a) v) i next target c
op_step m flash i next (BrR a b q target) c = fork (holds q (reg c a) (reg c b)) i next target c
op_step m flash i next (DecBr r q v target) c = let x : ℕ = minus (reg c r) 1 in fork (holds q x v) i next target (set_reg r x c)
-- taken where the mask meets a set bit, or, without ne, where it meets none
op_step m flash i next (BitBr r mk ne mv target) c = fork (holds (cond ne Ne Eq) (bit_and (reg c r) (rhs c mk mv)) 0) i next target c
op_step m flash i next (Goto target) c = chain i 0 target c
op_step m flash i next (Call target) c = chain i 0 target (set_rets next c)
op_step m flash i next Rts c = ind i c.rets c
op_step m flash i next (GotoR r) c = ind i (reg c r) c
op_step m flash i next (CallR r) c = ind i (reg c r) (set_rets next c)
op_step m flash i next PopRet c = pop m flash i c (λ v c₁. ind_brk i v (add_sp 4 c₁))
op_step m flash i next (BlockMove r mask u post down) c =
    let start : ℕ = move_start down (reg c r) (span mask) in
    move_all m flash i u start (members mask) c (λ c₁. on (set_if post r (move_end down start (span mask)) c₁))
op_step m flash i next (PushRets n) c = push m false i c.rets c (λ c₁. push_all m i (reverse (saved n)) c₁ (λ c₂. on c₂))
op_step m flash i next (PopPc n) c = pop_all m flash i (saved n) c (λ c₁. pop m flash i c₁ (λ v c₂. ind_brk i v (add_sp 4 c₂)))
-- the address stays as it was before the first load
op_step m flash i next (LdPair p b off) c = load_all m flash i (plus (base_of c b) off) 0 (pair_of p) c (λ c₁. on c₁)
op_step m flash i next (StPair p b off) c = store_all m i (plus (base_of c b) off) 0 (pair_of p) c (λ c₁. on c₁)
-- "LdPre writes the base before the load, so d wins where d = b."
op_step m flash i next (LdPre d b by w signed) c =
    let x : ℕ = plus (reg c b) (amount c by) in with_loaded (load m flash i w signed x (set_reg b x c)) (λ v c₁. on (set_reg d v c₁))
-- the base is written before s is read: with s = b the new base is stored
op_step m flash i next (StPre s b by w) c =
    let x : ℕ = plus (reg c b) (amount c by) in
    let c₁ : Card = set_reg b x c in with_stored (store m i w true x (reg c₁ s) c₁) (λ c₂. on c₂)
-- "LdPostR adds the index as it was before the load."
op_step m flash i next (LdPostR d b x w signed) c =
    with_loaded (load m flash i w signed (reg c b) c) (λ v c₁. on (add_reg b (reg c x) (set_reg d v c₁)))
-- memory is the left operand, the right side is read first
op_step m flash i next (MemA4 b off op rk rv) c = modify m flash i B32 (plus (reg c b) off) (λ x. alu op x (rhs c rk rv)) c
-- "Tb reads a byte or halfword and jumps with the break check."
op_step m flash i next (Tb r half) c =
    with_loaded (load m flash i (cond half B16 B8) false (plus (reg c r) next) c) (λ v c₁. ind_brk i (plus (shl v 1) next) c₁)
