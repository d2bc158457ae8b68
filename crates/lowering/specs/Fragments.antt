-- A step as structured code, given the block's fields and the register cache: the methods of `Gen` in the Rust.
use Rattle.std.specs.Prelude.{Bool, true, false, ◌&&◌, List, [], ◌∷◌, ◌++◌, ℕ, ◌+◌, ◌-◌, ◌^◌, eqb, ltb}
use Rattle.arm.specs.declared.Size.TheVariants.{W}
use Rattle.arm.specs.declared.Access.{Access}
use Rattle.arm.specs.declared.Access.TheVariants.{Strb, Ldrb, Ldrsb, Strh, Ldrh, Ldrsh, StrW, LdrW}
use Rattle.arm.specs.declared.Mode.TheVariants.{Post, Offset, Pre}
use Rattle.arm.specs.declared.Pair.TheVariants.{Stp, Ldp}
use Rattle.arm.specs.declared.Test.TheVariants.{Zero as is_zero, Nonzero as nonzero}
use Rattle.arm.specs.declared.Instr.{Instr}
use Rattle.block.specs.declared.Width.{Width}
use Rattle.block.specs.declared.Width.TheVariants.{Byte as B8, Half as B16, Word as B32}
use Rattle.block.specs.declared.Layout.{Layout}
use Rattle.block.specs.declared.Block.{Block}
use Rattle.block.specs.Block.{bytes}
use Rattle.code.specs.Items.{pick, b, b_cond, cb, tb}
use Rattle.code.specs.Tree.{Depth, top, under, Var, inner, outer, Code, code, lit, to, exit, block, start, ◌then◌}
use Rattle.lowering.specs.declared.RegCache.{RegCache}
use Rattle.lowering.specs.Instrs.{CPU, CTX, RAM, XIP, KEEP, KEEP2, FLAGS, DONE, LIMIT, EQ, NE, HI, LS, mov, mov_x, movz, mov32}
use Rattle.lowering.specs.Instrs.{add_i, sub_i, add, add_xLsl, sub, cmp, cmp_x, and, ubfx, sbfx, lsr_i, ldr, str, ldr_x, str_x, indexed}
use Rattle.lowering.specs.Instrs.{frame, blr, br, ret}
use Rattle.lowering.specs.Cache.{ld_reg, st_reg, seated, stored, flush, reload}
use Rattle.lowering.specs.Steps.{Field, sp, rets, Step}
pub use Rattle.lowering.specs.Steps.{minus}

-- bytes of the context
abbrev pub OFF_BRK : ℕ
OFF_BRK = 24

abbrev pub OFF_SLOT : ℕ
OFF_SLOT = 32

abbrev pub OFF_VER : ℕ
OFF_VER = 40

abbrev pub field_at : Layout → Field → ℕ
field_at lay sp = lay.sp
field_at lay rets = lay.rets

-- w(d) = w(s) + v, any 32 bits
unfoldable pub add_imm : (d s v : ℕ) → List Instr
add_imm d s v =
    pick (eqb v 0) (pick (eqb d s) [] (mov d s ∷ []))
    (pick (ltb v 4096) (add_i d s v ∷ [])
    (pick (ltb (minus v) 4096) (sub_i d s (minus v) ∷ []) (mov32 9 v ++ (add d s 9 ∷ []))))

-- first leave if the break word is set
unfoldable pub brk_first : {n : Depth} → Bool → Code (under n)
brk_first false = code []
brk_first true = code (ldr 9 CTX OFF_BRK ∷ []) then to (cb W nonzero 9) inner

-- a halfword is the one at the address with its lowest bit cleared
unfoldable pub even : Width → List Instr
even B8 = []
even B16 = mov32 2 (2 ^ 32 - 2) ++ (and 3 3 2 ∷ [])
even B32 = []

unfoldable pub loads : Width → Bool → Access
loads B8 false = Ldrb
loads B8 true = Ldrsb
loads B16 false = Ldrh
loads B16 true = Ldrsh
loads B32 false = LdrW
loads B32 true = LdrW

-- one region: off = address - base; the bytes must lie inside, or it goes to the miss
unfoldable pub try_region : {n : Depth} → (reg gbase len : ℕ) → Width → Bool → (miss done : Var n) → Code n
try_region reg gbase len w signed miss done =
    code (mov32 2 gbase ++ (sub 3 0 2 ∷ (even w ++ (mov32 2 (len - bytes w) ++ (cmp 3 2 ∷ [])))))
    then to (b_cond HI) miss
    then code (indexed (loads w signed) 0 reg 3 ∷ [])
    then to b done

-- what a helper gave, to 32 bits
unfoldable pub extended : Width → Bool → List Instr
extended w false = []
extended B8 true = sbfx 0 0 0 8 ∷ []
extended B16 true = sbfx 0 0 0 16 ∷ []
extended B32 true = []

-- a word that is on no multiple of 4: address bit 0, then bit 1
abbrev pub word_tests : {n : Depth} → Code (under n)
word_tests = to (tb nonzero 0 0) inner then to (tb nonzero 1 0) inner

-- an odd halfword goes to the write helper, and where words are tested a word that is on no multiple of 4
unfoldable pub align_test : {n : Depth} → (words : Bool) → Width → Code (under n)
align_test u B8 = code []
align_test u B16 = to (tb nonzero 0 0) inner
align_test false B32 = code []
align_test true B32 = word_tests

-- a nonzero byte of the code map for the group of the store's first byte: the write helper
unfoldable pub map_test : {n : Depth} → Bool → Code (under n)
map_test false = code []
map_test true = code (lsr_i 2 3 2 ∷ indexed Ldrb 2 FLAGS 2 ∷ []) then to (cb W nonzero 2) inner

unfoldable pub stores : Width → Access
stores B8 = Strb
stores B16 = Strh
stores B32 = StrW

module _ (blk : Block) (rc : RegCache) where
  -- a helper call, with the guest registers in memory
  unfoldable pub call : {n : Depth} → (f : ℕ) → Code n
  call f = code (flush blk.layout rc) then lit 9 f then code (blr 9 ∷ reload blk.layout rc)

  -- leave with pc, so many operations of this block done
  unfoldable pub exit_imm : {n : Depth} → (pc count : ℕ) → Code n
  exit_imm pc count = code (flush blk.layout rc ++ (mov32 9 pc ++ (str 9 CPU blk.layout.pc ∷ add_i 0 DONE count ∷ []))) then exit b

  -- go on at a fixed pc. The site is the branch to the word behind it, until `link` patches it
  unfoldable pub chain : {n : Depth} → (pc count : ℕ) → Code n
  chain pc count =
      code (flush blk.layout rc ++ (add_i DONE DONE count ∷ []))
      then start 10 (block (to b inner) then code (mov32 9 pc ++ (str 9 CPU blk.layout.pc ∷ [])))
      then code (str_x 10 CTX OFF_SLOT ∷ mov 0 DONE ∷ [])
      then exit b

  -- go on at pc w(t): into the table's body for it, or back
  unfoldable pub ind : {n : Depth} → (t count : ℕ) → Bool → Code n
  ind t count brk =
      code (flush blk.layout rc ++ (mov 12 t ∷ add_i DONE DONE count ∷ []))
      then block
      (brk_first brk
      then code (ubfx 10 12 1 14 ∷ [])
      then lit 11 blk.addresses.table
      then code (add_xLsl 11 11 10 4 ∷ ldr 13 11 0 ∷ cmp 13 12 ∷ [])
      then to (b_cond NE) inner
      then code (ldr_x 9 11 8 ∷ br 9 ∷ []))
      then code (str 12 CPU blk.layout.pc ∷ mov 0 DONE ∷ [])
      then exit b

  -- the hold mark, between the two operations of a glued pair
  unfoldable pub hold : Bool → List Instr
  hold false = []
  hold true = mov32 9 1 ++ (str 9 CPU blk.layout.hold ∷ [])

  -- check_brk, check_brk_hold: leave if the break word is set
  unfoldable pub check_brk : {n : Depth} → (glue : Bool) → (pc count : ℕ) → Code n
  check_brk glue pc count = block (code (ldr 9 CTX OFF_BRK ∷ []) then to (cb W is_zero 9) inner then code (hold glue) then exit_imm pc count)

  -- the flags are set
  unfoldable pub fork : {n : Depth} → (cond pc target count : ℕ) → Code n
  fork cond pc target count = block (to (b_cond cond) inner then chain pc count) then chain target count

  unfoldable pub limit : {n : Depth} → (pc count : ℕ) → Code n
  limit pc count = block (code (add_i 9 DONE count ∷ cmp 9 LIMIT ∷ []) then to (b_cond LS) inner then exit_imm pc 0)

  -- the version of the context and that at byte 0 of the guard, 64 bits each: where they are equal there is no call
  unfoldable pub guard : {n : Depth} → (at helper pc : ℕ) → Code n
  guard at helper pc =
      block
      (code (ldr_x 9 CTX OFF_VER ∷ [])
      then lit 1 at
      then code (ldr_x 10 1 0 ∷ cmp_x 9 10 ∷ [])
      then to (b_cond EQ) inner
      then code (mov_x 0 CTX ∷ [])
      then call helper
      then to (cb W nonzero 0) inner
      then exit_imm pc 0)

  -- blocks from outside: done, slow, xip
  unfoldable pub load : {n : Depth} → Width → Bool → (i : ℕ) → Code n
  load w signed i =
      block
      (block
      (block (try_region RAM blk.memory.ram_base blk.memory.ram_len w signed inner (outer (outer inner)))
      then try_region XIP blk.memory.xip_base blk.memory.xip_len w signed inner (outer inner))
      then code (mov 1 0 ∷ mov_x 0 CTX ∷ add_i 2 DONE i ∷ mov32 3 (bytes w))
      then call blk.addresses.h_read
      then code (extended w signed))

  -- blocks from outside: done, slow; with a code map the words stored alone are tested (2026-04), the rest is the commit's
  unfoldable pub store : {n : Depth} → Width → (alone : Bool) → (i : ℕ) → Code n
  store w alone i =
      block
      (block
      (align_test (alone && blk.memory.map) w
      then code (mov32 2 blk.memory.ram_base ++ (sub 3 0 2 ∷ (mov32 2 (blk.memory.ram_len - bytes w) ++ (cmp 3 2 ∷ []))))
      then to (b_cond HI) inner
      then map_test blk.memory.map
      then code (indexed (stores w) 1 RAM 3 ∷ [])
      then to b (outer inner))
      then code (mov 2 1 ∷ mov 1 0 ∷ mov_x 0 CTX ∷ add_i 3 DONE i ∷ mov32 4 (bytes w))
      then call blk.addresses.h_write)

  -- ---- a step
  unfoldable pub step_code : {n : Depth} → Step → Code n
  step_code (Step.ld_reg t r) = code (ld_reg blk.layout rc t r)
  step_code (Step.st_reg t r) = code (st_reg blk.layout rc t r)
  step_code (Step.ld_field f t) = code (ldr t CPU (field_at blk.layout f) ∷ [])
  step_code (Step.st_field f t) = code (str t CPU (field_at blk.layout f) ∷ [])
  step_code (Step.mov32 t v) = code (mov32 t v)
  step_code (Step.add_imm d s v) = code (add_imm d s v)
  step_code (Step.ins i) = code (i ∷ [])
  step_code (Step.load w signed i) = load w signed i
  step_code (Step.store w alone i) = store w alone i
  step_code (Step.check_brk glue pc count) = check_brk glue pc count
  step_code (Step.chain pc count) = chain pc count
  step_code (Step.fork cond pc target count) = fork cond pc target count
  step_code (Step.ind t count brk) = ind t count brk
  step_code (Step.limit pc count) = limit pc count
  step_code (Step.guard at helper pc) = guard at helper pc

-- the register cache behind a step
unfoldable pub step_cache : RegCache → Step → RegCache
step_cache rc (Step.ld_reg t r) = seated rc r
step_cache rc (Step.st_reg t r) = stored rc r
step_cache rc (Step.ld_field f t) = rc
step_cache rc (Step.st_field f t) = rc
step_cache rc (Step.mov32 t v) = rc
step_cache rc (Step.add_imm d s v) = rc
step_cache rc (Step.ins i) = rc
step_cache rc (Step.load w signed i) = rc
step_cache rc (Step.store w alone i) = rc
step_cache rc (Step.check_brk glue pc count) = rc
step_cache rc (Step.chain pc count) = rc
step_cache rc (Step.fork cond pc target count) = rc
step_cache rc (Step.ind t count brk) = rc
step_cache rc (Step.limit pc count) = rc
step_cache rc (Step.guard at helper pc) = rc

-- steps in order
unfoldable pub steps_code : Block → RegCache → List Step → Code top
steps_code blk rc [] = code []
steps_code blk rc (s ∷ ss) = step_code blk rc s then steps_code blk (step_cache rc s) ss

-- ---- the opening words and the common exit
unfoldable pub opening : List Instr
opening =
    frame Pre Stp 116 29 30 ∷ frame Offset Stp 2 CPU CTX ∷ frame Offset Stp 4 RAM XIP ∷ frame Offset Stp 6 KEEP KEEP2 ∷ frame Offset Stp 8 25 DONE
    ∷ frame Offset Stp 10 LIMIT 28 ∷ mov_x CPU 0 ∷ mov_x CTX 1 ∷ mov_x RAM 2 ∷ mov_x XIP 3 ∷ mov LIMIT 4 ∷ mov_x FLAGS 5 ∷ movz DONE 0 ∷ []

unfoldable pub closing : List Instr
closing =
    frame Offset Ldp 10 LIMIT 28 ∷ frame Offset Ldp 8 25 DONE ∷ frame Offset Ldp 6 KEEP KEEP2 ∷ frame Offset Ldp 4 RAM XIP ∷ frame Offset Ldp 2 CPU CTX
    ∷ frame Post Ldp 12 29 30 ∷ ret ∷ []
