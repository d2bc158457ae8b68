-- Every instruction of a fragment fits its word, in a checked block.
use mathlib.Core.Bool.{Bool, true, false, ◌&&◌}
use mathlib.Core.List.{List, [], ◌∷◌, ◌++◌}
use Prim.Native.Nat.{ℕ, ◌+◌, ◌-◌, ◌<◌, ◌≤◌}
use native.Mathlib.Omega.{arith}
use lib.Dec.{T}
use Rattle.arm.specs.declared.Access.TheVariants.{Ldrb}
use Rattle.arm.specs.declared.Instr.{Instr}
use Rattle.arm.specs.Instr.{Carried}
use Rattle.arm.specs.Decode.{carried, both}
use Rattle.arm.proofs.Pieces.{both_left, both_right}
use Rattle.arm.proofs.RoundTrip.{true_carried}
use Rattle.block.specs.declared.Width.{Width}
use Rattle.block.specs.declared.Width.TheVariants.{Byte as B8, Half as B16, Word as B32}
use Rattle.block.specs.declared.Block.{Block}
use Rattle.block.specs.Block.{bytes}
use Rattle.block.specs.Checked.{Checked}
use Rattle.code.specs.Items.{Sound}
use Rattle.code.specs.Tree.{Depth, top, under, Var, inner, outer, Fine}
use Rattle.lowering.specs.declared.RegCache.{RegCache}
use Rattle.lowering.specs.Instrs.{CPU, CTX, RAM, XIP, DONE, LIMIT, FLAGS, mov, mov_x, mov32, sub, cmp, cmp_x, and, ldr, str, str_x, ldr_x, ubfx}
use Rattle.lowering.specs.Instrs.{add_xLsl, br, blr, indexed, lsr_i}
use Rattle.lowering.specs.Cache.{flush}
use Rattle.lowering.specs.Steps.{Field, sp, rets, Step}
use Rattle.lowering.specs.Fragments.{field_at, brk_first, even, loads, try_region, extended, align_test, map_test, stores, call, exit_imm}
use Rattle.lowering.specs.Fragments.{chain, ind, hold, check_brk, fork, limit, guard, load, store, step_code, step_cache, steps_code}
use Rattle.lowering.specs.Fragments.{OFF_VER, opening, closing}
use Rattle.bounds.specs.Sound.{Number, Count, StepFits, AllFit}
use Rattle.bounds.proofs.Fine.{CacheFits, sound-append, is_host, ldr-fits, str-fits, add_i-fits, mov-fits, mov32-fits, add_imm-fits, ld_reg-fits, st_reg-fits, flush-fits, reload-fits, seated-fits, stored-fits}

-- instructions without a number to choose: by computation
abbrev every : List Instr → Bool
every [] = true
every (i ∷ is) = both (carried i) (every is)

sound_by : (is : List Instr) → T (every is) → Sound is
unfolding Sound
sound_by [] t = tt
sound_by (i ∷ is) t = (true_carried i (both_left (carried i) (every is) t), sound_by is (both_right (carried i) (every is) t))

brk-fine : (n : Depth) (u : Bool) → Fine (brk_first {n = n} u)
unfolding Fine brk_first
brk-fine n false = sound_by [] tt
brk-fine n true = (sound_by _ tt, omega arith)

even-fits : (w : Width) → Sound (even w)
unfolding even Sound
even-fits B8 = tt
even-fits B16 = sound-append (mov32 2 4294967294) (and 3 3 2 ∷ []) (mov32-fits 2 4294967294 (omega arith) (omega arith)) (sound_by (and 3 3 2 ∷ []) tt)
even-fits B32 = tt

loads-fits : (w : Width) (signed : Bool) (reg : ℕ) → reg < 32 → Carried (indexed (loads w signed) 0 reg 3)
unfolding loads
loads-fits B8 false reg h = omega arith
loads-fits B8 true reg h = omega arith
loads-fits B16 false reg h = omega arith
loads-fits B16 true reg h = omega arith
loads-fits B32 false reg h = omega arith
loads-fits B32 true reg h = omega arith

stores-fits : (w : Width) → Carried (indexed (stores w) 1 RAM 3)
unfolding stores
stores-fits B8 = true_carried (indexed (stores B8) 1 RAM 3) tt
stores-fits B16 = true_carried (indexed (stores B16) 1 RAM 3) tt
stores-fits B32 = true_carried (indexed (stores B32) 1 RAM 3) tt

extended_fits : (w : Width) (signed : Bool) → Sound (extended w signed)
unfolding extended Sound
extended_fits B8 false = tt
extended_fits B16 false = tt
extended_fits B32 false = tt
extended_fits B8 true = sound_by (extended B8 true) tt
extended_fits B16 true = sound_by (extended B16 true) tt
extended_fits B32 true = tt

align_fine : (n : Depth) (u : Bool) (w : Width) → Fine (align_test {n = n} u w)
unfolding Fine align_test Sound
align_fine n u B8 = tt
align_fine n u B16 = (omega arith, omega arith)
align_fine n false B32 = tt
align_fine n true B32 = ((omega arith, omega arith), (omega arith, omega arith))

map-fine : (n : Depth) (u : Bool) → Fine (map_test {n = n} u)
unfolding Fine map_test Sound
map-fine n false = tt
map-fine n true = (sound_by (lsr_i 2 3 2 ∷ indexed Ldrb 2 FLAGS 2 ∷ []) tt, omega arith)

bytes-fits : (w : Width) → (0 < bytes w) × (bytes w < 65536)
bytes-fits B8 = omega arith
bytes-fits B16 = omega arith
bytes-fits B32 = omega arith

region-fine : {n : Depth} (reg gbase len : ℕ) (w : Width) (signed : Bool) (miss done : Var n) → reg < 32 → Number gbase → len ≤ 4294967296 → Fine (try_region reg gbase len w signed miss done)
unfolding Fine try_region Sound
region-fine reg gbase len w signed miss done h k l = (
  sound-append (mov32 2 gbase) _ (mov32-fits 2 gbase (omega arith) k) (
    true_carried (sub 3 0 2) tt,
    sound-append (even w) _ (even-fits w)
        (sound-append (mov32 2 (len - bytes w)) _ (mov32-fits 2 (len - bytes w) (omega arith) (omega (arith, bytes-fits w))) (true_carried (cmp 3 2) tt, tt)),
  ),
  (omega arith, ((loads-fits w signed reg h, tt), tt)),
)

module _ (blk : Block) (ck : Checked blk) (rc : RegCache) (cf : CacheFits rc) where
  regs_lt : blk.layout.regs + 60 < 16384
  regs_lt = ck.layout.regs.inside

  pc_lt : blk.layout.pc < 16384
  pc_lt = omega (arith, ck.layout.pc.inside)

  flush-sound : Sound (flush blk.layout rc)
  flush-sound = flush-fits blk.layout regs_lt rc cf

  call-fine : (n : Depth) (f : ℕ) → Fine (call blk rc {n = n} f)
  unfolding Fine call Sound
  call-fine n f = (flush-sound, (omega arith, (true_carried (blr 9) tt, reload-fits blk.layout regs_lt rc cf)))

  store-pc : (pc : ℕ) → Number pc → Sound (mov32 9 pc ++ (str 9 CPU blk.layout.pc ∷ []))
  unfolding Sound
  store-pc pc h = sound-append (mov32 9 pc) _ (mov32-fits 9 pc (omega arith) h) (str-fits 9 _ (omega arith) pc_lt, tt)

  exit-fine : (n : Depth) (pc count : ℕ) → Number pc → Count count → Fine (exit_imm blk rc {n = n} pc count)
  unfolding Fine exit_imm Sound
  exit-fine n pc count h k = (
    sound-append (flush blk.layout rc) _ flush-sound
        (sound-append (mov32 9 pc) _ (mov32-fits 9 pc (omega arith) h) (str-fits 9 _ (omega arith) pc_lt, (add_i-fits 0 DONE count (omega arith) (omega arith) k, tt))),
    tt,
  )

  chain-fine : (n : Depth) (pc count : ℕ) → Number pc → Count count → Fine (chain blk rc {n = n} pc count)
  unfolding Fine chain Sound
  chain-fine n pc count h k = (
    sound-append (flush blk.layout rc) _ flush-sound (add_i-fits DONE DONE count (omega arith) (omega arith) k, tt),
    ((omega arith, (tt, store-pc pc h)), (sound_by (str_x 10 CTX 32 ∷ mov 0 DONE ∷ []) tt, tt)),
  )

  ind-fine : (n : Depth) (t count : ℕ) (brk : Bool) → t < 32 → Count count → Fine (ind blk rc {n = n} t count brk)
  unfolding Fine ind Sound
  ind-fine n t count brk h k = (
    sound-append (flush blk.layout rc) _ flush-sound (mov-fits 12 t (omega arith) h, (add_i-fits DONE DONE count (omega arith) (omega arith) k, tt)),
    (
      (
        brk-fine n brk,
        (
          sound_by (ubfx 10 12 1 14 ∷ []) tt,
          (
            omega arith,
            (
              sound_by (add_xLsl 11 11 10 4 ∷ ldr 13 11 0 ∷ cmp 13 12 ∷ []) tt,
              (omega arith, sound_by (ldr_x 9 11 8 ∷ br 9 ∷ []) tt),
            ),
          ),
        ),
      ),
      ((str-fits 12 _ (omega arith) pc_lt, (true_carried (mov 0 DONE) tt, tt)), tt),
    ),
  )

  hold-sound : (u : Bool) → Sound (hold blk rc u)
  unfolding hold Sound
  hold-sound false = tt
  hold-sound true = sound-append (mov32 9 1) _ (mov32-fits 9 1 (omega arith) (omega arith)) (str-fits 9 _ (omega arith) (omega (arith, ck.layout.hold.inside)), tt)

  check-fine : (n : Depth) (glue : Bool) (pc count : ℕ) → Number pc → Count count → Fine (check_brk blk rc {n = n} glue pc count)
  unfolding Fine check_brk
  check-fine n glue pc count h k = (sound_by (ldr 9 CTX 24 ∷ []) tt, (omega arith, (hold-sound glue, exit-fine (under n) pc count h k)))

  fork-fine : (n : Depth) (cond pc target count : ℕ) → cond < 16 → Number pc → Number target → Count count → Fine (fork blk rc {n = n} cond pc target count)
  unfolding Fine fork
  fork-fine n cond pc target count c h l k = ((c, chain-fine (under n) pc count h k), chain-fine n target count l k)

  limit-fine : (n : Depth) (pc count : ℕ) → Number pc → Count count → Fine (limit blk rc {n = n} pc count)
  unfolding Fine limit Sound
  limit-fine n pc count h k = ((add_i-fits 9 DONE count (omega arith) (omega arith) k, (true_carried (cmp 9 LIMIT) tt, tt)), (omega arith, exit-fine (under n) pc 0 h (omega arith)))

  guard-fine : (n : Depth) (at helper pc : ℕ) → Number pc → Fine (guard blk rc {n = n} at helper pc)
  unfolding Fine guard
  guard-fine n at helper pc h = (
    sound_by (ldr_x 9 CTX OFF_VER ∷ []) tt,
    (
      omega arith,
      (
        sound_by (ldr_x 10 1 0 ∷ cmp_x 9 10 ∷ []) tt,
        (
          omega arith,
          (sound_by (mov_x 0 CTX ∷ []) tt, (call-fine (under n) helper, (omega arith, exit-fine (under n) pc 0 h (omega arith)))),
        ),
      ),
    ),
  )

  load-fine : (n : Depth) (w : Width) (signed : Bool) (i : ℕ) → Count i → Fine (load blk rc {n = n} w signed i)
  unfolding Fine load Sound
  load-fine n w signed i k = (
    (
      region-fine RAM _ _ w signed inner (outer (outer inner)) (omega arith) (omega (arith, ck.memory.ram.inside, ck.memory.ram.long)) (omega (arith, ck.memory.ram.inside)),
      region-fine XIP _ _ w signed inner (outer inner) (omega arith) (omega (arith, ck.memory.xip.inside, ck.memory.xip.long)) (omega (arith, ck.memory.xip.inside)),
    ),
    (
      (true_carried (mov 1 0) tt, (true_carried (mov_x 0 CTX) tt, (add_i-fits 2 DONE i (omega arith) (omega arith) k, mov32-fits 3 (bytes w) (omega arith) (omega (arith, bytes-fits w))))),
      (call-fine (under n) _, extended_fits w signed),
    ),
  )

  store-fine : (n : Depth) (w : Width) (alone : Bool) (i : ℕ) → Count i → Fine (store blk rc {n = n} w alone i)
  unfolding Fine store Sound
  store-fine n w alone i k = (
    (
      align_fine (under n) (alone && blk.memory.map) w,
      (
        sound-append (mov32 2 blk.memory.ram_base) _ (mov32-fits 2 _ (omega arith) (omega (arith, ck.memory.ram.inside, ck.memory.ram.long)))
            (true_carried (sub 3 0 2) tt, sound-append (mov32 2 (blk.memory.ram_len - bytes w)) _ (mov32-fits 2 _ (omega arith) (omega (arith, ck.memory.ram.inside, bytes-fits w))) (true_carried (cmp 3 2) tt, tt)),
        (omega arith, (map-fine (under n) blk.memory.map, ((stores-fits w, tt), tt))),
      ),
    ),
    (
      (true_carried (mov 2 1) tt, (true_carried (mov 1 0) tt, (true_carried (mov_x 0 CTX) tt, (add_i-fits 3 DONE i (omega arith) (omega arith) k, mov32-fits 4 (bytes w) (omega arith) (omega (arith, bytes-fits w)))))),
      call-fine (under n) _,
    ),
  )

  field_lt : (f : Field) → field_at blk.layout f < 16384
  field_lt sp = omega (arith, ck.layout.sp.inside)
  field_lt rets = omega (arith, ck.layout.rets.inside)

  pub step-fine : (n : Depth) (s : Step) → StepFits s → Fine (step_code blk rc {n = n} s)
  unfolding Fine step_code Sound
  step-fine n (Step.ld_reg t r) h = ld_reg-fits blk.layout regs_lt rc t r cf (is_host t h.0) h.1
  step-fine n (Step.st_reg t r) h = st_reg-fits blk.layout regs_lt rc t r cf (is_host t h.0) h.1
  step-fine n (Step.ld_field f t) h = (ldr-fits t _ (is_host t h) (field_lt f), tt)
  step-fine n (Step.st_field f t) h = (str-fits t _ (is_host t h) (field_lt f), tt)
  step-fine n (Step.mov32 t v) h = mov32-fits t v (is_host t h.0) h.1
  step-fine n (Step.add_imm d s v) h = add_imm-fits d s v (is_host d h.0) (is_host s h.1) h.2
  step-fine n (Step.ins i) h = (true_carried i h, tt)
  step-fine n (Step.load w signed i) h = load-fine n w signed i h
  step-fine n (Step.store w alone i) h = store-fine n w alone i h
  step-fine n (Step.check_brk glue pc count) h = check-fine n glue pc count h.0 h.1
  step-fine n (Step.chain pc count) h = chain-fine n pc count h.0 h.1
  step-fine n (Step.fork cond pc target count) h = fork-fine n cond pc target count h.0 h.1 h.2 h.3
  step-fine n (Step.ind t count brk) h = ind-fine n t count brk (is_host t h.0) h.1
  step-fine n (Step.limit pc count) h = limit-fine n pc count h.0 h.1
  step-fine n (Step.guard at helper pc) h = guard-fine n at helper pc h

pub cache-fits : (rc : RegCache) (s : Step) → CacheFits rc → StepFits s → CacheFits (step_cache rc s)
unfolding step_cache
cache-fits rc (Step.ld_reg t r) c h = seated-fits rc r h.1 c
cache-fits rc (Step.st_reg t r) c h = stored-fits rc r h.1 c
cache-fits rc (Step.ld_field f t) c h = c
cache-fits rc (Step.st_field f t) c h = c
cache-fits rc (Step.mov32 t v) c h = c
cache-fits rc (Step.add_imm d s v) c h = c
cache-fits rc (Step.ins i) c h = c
cache-fits rc (Step.load w signed i) c h = c
cache-fits rc (Step.store w alone i) c h = c
cache-fits rc (Step.check_brk glue pc count) c h = c
cache-fits rc (Step.chain pc count) c h = c
cache-fits rc (Step.fork cond pc target count) c h = c
cache-fits rc (Step.ind t count brk) c h = c
cache-fits rc (Step.limit pc count) c h = c
cache-fits rc (Step.guard at helper pc) c h = c

pub steps-fine : (blk : Block) → Checked blk → (rc : RegCache) (ss : List Step) → CacheFits rc → AllFit ss → Fine (steps_code blk rc ss)
unfolding steps_code Fine Sound
steps-fine blk ck rc [] c h = tt
steps-fine blk ck rc (s ∷ ss) c h = (step-fine blk ck rc c top s h.0, steps-fine blk ck (step_cache rc s) ss (cache-fits rc s c h.0) h.1)

pub opening-sound : Sound opening
unfolding opening
opening-sound = sound_by opening tt

pub closing-sound : Sound closing
unfolding closing
closing-sound = sound_by closing tt
