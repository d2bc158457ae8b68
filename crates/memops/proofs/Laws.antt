-- The assemblers behind the calls of each function, joined along the tree of its definition.
use mathlib.Core.Bool.{Bool, true, false, ◌&&◌}
use mathlib.Core.List.{[], ◌∷◌}
use mathlib.Core.Path.{◌≡◌, ap, ◌∙◌}
use Prim.Native.Nat.{ℕ, ◌-◌}
use Rattle.arm.specs.declared.Access.{Access}
use Rattle.arm.specs.declared.Access.TheVariants.{Ldrb}
use Rattle.arm.specs.declared.Size.TheVariants.{W}
use Rattle.arm.specs.declared.Test.TheVariants.{Nonzero}
use Rattle.block.specs.declared.Width.{Width}
use Rattle.block.specs.declared.Width.TheVariants.{Byte, Half, Word}
use Rattle.block.specs.declared.Block.{Block}
use Rattle.block.specs.declared.Memory.{Memory}
use Rattle.block.specs.Block.{bytes}
use Rattle.code.specs.Items.{b, b_cond, cb, tb, ldr, label, literal, go, new, bind}
use Rattle.code.specs.Tree.{Var, inner, outer, code, inside, nowhere}
use Rattle.code.specs.Calls.{calls, next_l}
use Rattle.lowering.specs.declared.RegCache.{RegCache}
use Rattle.lowering.specs.Cache.{flush, reload}
use Rattle.lowering.specs.Instrs.{CTX, RAM, XIP, FLAGS, DONE, HI, mov, mov_x, mov32, add_i, sub, cmp, lsr_i, indexed, blr}
use Rattle.lowering.specs.Fragments.{even, loads, stores, extended, try_region, align_test, map_test, call, load, store}
use Rattle.asm.specs.declared.Asm.{Asm}
use Rattle.asm.specs.declared.Label.{Label}
use Rattle.asm.specs.State.{State, label_of}
use Rattle.emission.specs.Total.{emitted, after_t}
use Rattle.emission.specs.Emits.{Emits, Puts, Codes}
use Rattle.emission.proofs.After.{more, same, code-after, then-after}
use Rattle.emission.proofs.Writes.{writes-nothing, writes-more, writes-same, writes-code, writes-lit, writes-to, writes-then, writes-block}
use Rattle.memops.specs.Pieces.{by_read, ram_store, by_write}

-- ---- a region
pub region : (reg base len k n : ℕ) (w : Width) (signed : Bool) (miss done : ℕ) (f : Access) {a a₁ a₂ a₃ a₄ a₅ a₆ a₇ a₈ : Asm}
    → k ≡ bytes w → n ≡ len - k → f ≡ loads w signed
    → Emits a (mov32 2 base) a₁ → Emits a₁ (sub 3 0 2 ∷ []) a₂ → Emits a₂ (even w) a₃ → Emits a₃ (mov32 2 n) a₄ → Emits a₄ (cmp 3 2 ∷ []) a₅
    → Puts a₅ (go (b_cond HI) (label miss)) a₆ → Emits a₆ (indexed f 0 reg 3 ∷ []) a₇ → Puts a₇ (go b (label done)) a₈
    → Codes (inside miss (inside done nowhere)) a (try_region reg base len w signed inner (outer inner)) a₈
unfolding try_region
region reg base len k n w signed miss done f ks ns fs p₁ p₂ p₃ p₄ p₅ p₆ p₇ p₈ =
    let e : Var _ → ℕ = inside miss (inside done nowhere) in
    let room : mov32 2 n ≡ mov32 2 (len - bytes w) = ap (mov32 2) (ns ∙ ap (λ j. len - j) ks) in
    writes-then e 0 _ _
    (writes-code e 0 _
    (writes-more _ _ p₁ (writes-more (sub 3 0 2 ∷ []) _ p₂ (writes-more _ _ p₃ (writes-more _ _ (writes-same room p₄) p₅)))))
    (writes-then e 0 _ _ (writes-to e 0 (b_cond HI) inner p₆)
    (writes-then e 0 _ _ (writes-code e 0 _ (writes-same (ap (λ g. indexed g 0 reg 3 ∷ []) fs) p₇)) (writes-to e 0 b (outer inner) p₈)))

-- the same with a block between
region-under : (reg base len : ℕ) (w : Width) (signed : Bool) (miss mid done : ℕ) {a a₁ : Asm}
    → Codes (inside miss (inside done nowhere)) a (try_region reg base len w signed inner (outer inner)) a₁
    → Codes (inside miss (inside mid (inside done nowhere))) a (try_region reg base len w signed inner (outer (outer inner))) a₁
unfolding after_t calls next_l try_region
region-under reg base len w signed miss mid done p = p

module _ (blk : Block) (rc : RegCache) where
  -- ---- a helper call
  pub helper : (f : ℕ) {a a₁ a₂ a₃ a₄ : Asm} → Emits a (flush blk.layout rc) a₁ → Puts a₁ (go (ldr 9) (literal f)) a₂ → Emits a₂ (blr 9 ∷ []) a₃
      → Emits a₃ (reload blk.layout rc) a₄ → Codes nowhere a (call blk rc f) a₄
  unfolding call
  helper f p₁ p₂ p₃ p₄ =
      writes-then nowhere 0 _ _ (writes-code nowhere 0 _ p₁)
      (writes-then nowhere 0 _ _ (writes-lit nowhere 0 9 f p₂) (writes-code nowhere 0 _ (writes-more (blr 9 ∷ []) _ p₃ p₄)))

  pub read-helper : (f k : ℕ) (w : Width) (signed : Bool) (i : ℕ) {a a₁ a₂ a₃ a₄ a₅ a₆ : Asm} → k ≡ bytes w
      → Emits a (mov 1 0 ∷ []) a₁ → Emits a₁ (mov_x 0 CTX ∷ []) a₂ → Emits a₂ (add_i 2 DONE i ∷ []) a₃ → Emits a₃ (mov32 3 k) a₄
      → Codes nowhere a₄ (call blk rc f) a₅ → Emits a₅ (extended w signed) a₆ → Codes nowhere a (by_read blk rc f w signed i) a₆
  read-helper f k w signed i ks p₁ p₂ p₃ p₄ p₅ p₆ =
      writes-then nowhere 0 _ _
      (writes-code nowhere 0 _
      (writes-more (mov 1 0 ∷ []) _ p₁
      (writes-more (mov_x 0 CTX ∷ []) _ p₂ (writes-more (add_i 2 DONE i ∷ []) _ p₃ (writes-same (ap (mov32 3) ks) p₄)))))
      (writes-then nowhere 0 _ _ p₅ (writes-code nowhere 0 _ p₆))

  -- the same of states, whatever room they are in
  pub by_read_lem : (f k : ℕ) (w : Width) (signed : Bool) (i : ℕ) (s s₁ s₂ s₃ s₄ s₅ s₆ : State) → k ≡ bytes w
      → s₁ ≡ emitted (mov 1 0 ∷ []) s → s₂ ≡ emitted (mov_x 0 CTX ∷ []) s₁ → s₃ ≡ emitted (add_i 2 DONE i ∷ []) s₂ → s₄ ≡ emitted (mov32 3 k) s₃
      → s₅ ≡ after_t (call blk rc f) nowhere 0 s₄ → s₆ ≡ emitted (extended w signed) s₅ → s₆ ≡ after_t (by_read blk rc f w signed i) nowhere 0 s
  by_read_lem f k w signed i s s₁ s₂ s₃ s₄ s₅ s₆ ks p₁ p₂ p₃ p₄ p₅ p₆ =
      then-after nowhere 0 _ _ s s₄ s₆
      (code-after nowhere 0 _ s s₄
      (more (mov 1 0 ∷ []) _ s s₁ s₄ p₁
      (more (mov_x 0 CTX ∷ []) _ s₁ s₂ s₄ p₂ (more (add_i 2 DONE i ∷ []) _ s₂ s₃ s₄ p₃ (same _ _ s₃ s₄ (ap (mov32 3) ks) p₄)))))
      (then-after nowhere 0 _ _ s₄ s₅ s₆ p₅ (code-after nowhere 0 _ s₅ s₆ p₆))

  pub write-helper : (f k : ℕ) (w : Width) (i : ℕ) {a a₁ a₂ a₃ a₄ a₅ a₆ : Asm} → k ≡ bytes w
      → Emits a (mov 2 1 ∷ []) a₁ → Emits a₁ (mov 1 0 ∷ []) a₂ → Emits a₂ (mov_x 0 CTX ∷ []) a₃ → Emits a₃ (add_i 3 DONE i ∷ []) a₄
      → Emits a₄ (mov32 4 k) a₅ → Codes nowhere a₅ (call blk rc f) a₆ → Codes nowhere a (by_write blk rc f w i) a₆
  write-helper f k w i ks p₁ p₂ p₃ p₄ p₅ p₆ =
      writes-then nowhere 0 _ _
      (writes-code nowhere 0 _
      (writes-more (mov 2 1 ∷ []) _ p₁
      (writes-more (mov 1 0 ∷ []) _ p₂
      (writes-more (mov_x 0 CTX ∷ []) _ p₃ (writes-more (add_i 3 DONE i ∷ []) _ p₄ (writes-same (ap (mov32 4) ks) p₅))))))
      p₆

  -- inside a block
  read-under : (f : ℕ) (w : Width) (signed : Bool) (i l : ℕ) {a a₁ : Asm} → Codes nowhere a (by_read blk rc f w signed i) a₁
      → Codes (inside l nowhere) a (by_read blk rc f w signed i) a₁
  unfolding after_t calls next_l call
  read-under f w signed i l p = p

  write-under : (f : ℕ) (w : Width) (i l : ℕ) {a a₁ : Asm} → Codes nowhere a (by_write blk rc f w i) a₁ → Codes (inside l nowhere) a (by_write blk rc f w i) a₁
  unfolding after_t calls next_l call
  write-under f w i l p = p

-- ---- the tests of a store
pub no_test : (l : ℕ) {a : Asm} → Codes (inside l nowhere) a (code []) a
no_test l = writes-code (inside l nowhere) 0 [] writes-nothing

pub with_words : (l : ℕ) {a a₁ a₂ : Asm} → Puts a (go (tb Nonzero 0 0) (label l)) a₁ → Puts a₁ (go (tb Nonzero 1 0) (label l)) a₂
    → Codes (inside l nowhere) a (align_test true Word) a₂
unfolding align_test
with_words l p₁ p₂ =
    let e : Var _ → ℕ = inside l nowhere in
    writes-then e 0 _ _ (writes-to e 0 (tb Nonzero 0 0) inner p₁) (writes-to e 0 (tb Nonzero 1 0) inner p₂)

pub with_map : (l : ℕ) {a a₁ a₂ a₃ : Asm} → Emits a (lsr_i 2 3 2 ∷ []) a₁ → Emits a₁ (indexed Ldrb 2 FLAGS 2 ∷ []) a₂
    → Puts a₂ (go (cb W Nonzero 2) (label l)) a₃ → Codes (inside l nowhere) a (map_test true) a₃
unfolding map_test
with_map l p₁ p₂ p₃ =
    let e : Var _ → ℕ = inside l nowhere in
    writes-then e 0 _ _ (writes-code e 0 _ (writes-more (lsr_i 2 3 2 ∷ []) _ p₁ p₂)) (writes-to e 0 (cb W Nonzero 2) inner p₃)

-- the same with a block around
align-under : (u : Bool) (w : Width) (slow done : ℕ) {a a₁ : Asm} → Codes (inside slow nowhere) a (align_test u w) a₁
    → Codes (inside slow (inside done nowhere)) a (align_test u w) a₁
unfolding after_t calls next_l align_test
align-under u Byte slow done p = p
align-under u Half slow done p = p
align-under false Word slow done p = p
align-under true Word slow done p = p

map-under : (m : Bool) (slow done : ℕ) {a a₁ : Asm} → Codes (inside slow nowhere) a (map_test m) a₁ → Codes (inside slow (inside done nowhere)) a (map_test m) a₁
unfolding after_t calls next_l map_test
map-under false slow done p = p
map-under true slow done p = p

pub ram-store : (mem : Memory) (w : Width) (alone : Bool) (slow done k n : ℕ) (f : Access) {a a₁ a₂ a₃ a₄ a₅ a₆ a₇ a₈ a₉ : Asm}
    → k ≡ bytes w → n ≡ mem.ram_len - k → f ≡ stores w
    → Codes (inside slow nowhere) a (align_test (alone && mem.map) w) a₁ → Emits a₁ (mov32 2 mem.ram_base) a₂ → Emits a₂ (sub 3 0 2 ∷ []) a₃
    → Emits a₃ (mov32 2 n) a₄ → Emits a₄ (cmp 3 2 ∷ []) a₅ → Puts a₅ (go (b_cond HI) (label slow)) a₆
    → Codes (inside slow nowhere) a₆ (map_test mem.map) a₇ → Emits a₇ (indexed f 1 RAM 3 ∷ []) a₈ → Puts a₈ (go b (label done)) a₉
    → Codes (inside slow (inside done nowhere)) a (ram_store mem w alone) a₉
ram-store mem w alone slow done k n f ks ns fs p₁ p₂ p₃ p₄ p₅ p₆ p₇ p₈ p₉ =
    let e : Var _ → ℕ = inside slow (inside done nowhere) in
    let room : mov32 2 n ≡ mov32 2 (mem.ram_len - bytes w) = ap (mov32 2) (ns ∙ ap (λ j. mem.ram_len - j) ks) in
    writes-then e 0 _ _ (align-under (alone && mem.map) w slow done p₁)
    (writes-then e 0 _ _
    (writes-code e 0 _ (writes-more _ _ p₂ (writes-more (sub 3 0 2 ∷ []) _ p₃ (writes-more _ _ (writes-same room p₄) p₅))))
    (writes-then e 0 _ _ (writes-to e 0 (b_cond HI) inner p₆)
    (writes-then e 0 _ _ (map-under mem.map slow done p₇)
    (writes-then e 0 _ _ (writes-code e 0 _ (writes-same (ap (λ g. indexed g 1 RAM 3 ∷ []) fs) p₈)) (writes-to e 0 b (outer inner) p₉)))))

-- ---- the whole: labels first, bound at the end of each block
module _ (blk : Block) (rc : RegCache) {a a₁ a₂ : Asm} (done slow : Label) (m₁ : done ≡ label_of a.counts.labels) (p₁ : Puts a new a₁)
    (m₂ : slow ≡ label_of a₁.counts.labels) (p₂ : Puts a₁ new a₂) where
  pub load-whole : (w : Width) (signed : Bool) (i : ℕ) (xip : Label) {a₃ a₄ a₅ a₆ a₇ a₈ a₉ : Asm} → xip ≡ label_of a₂.counts.labels → Puts a₂ new a₃
      → Codes (inside xip.0 (inside done.0 nowhere)) a₃ (try_region RAM blk.memory.ram_base blk.memory.ram_len w signed inner (outer inner)) a₄
      → Puts a₄ (bind xip.0) a₅
      → Codes (inside slow.0 (inside done.0 nowhere)) a₅ (try_region XIP blk.memory.xip_base blk.memory.xip_len w signed inner (outer inner)) a₆
      → Puts a₆ (bind slow.0) a₇ → Codes nowhere a₇ (by_read blk rc blk.addresses.h_read w signed i) a₈ → Puts a₈ (bind done.0) a₉
      → Codes nowhere a (load blk rc w signed i) a₉
  unfolding load
  load-whole w signed i xip m₃ p₃ p₄ p₅ p₆ p₇ p₈ p₉ =
      let e : Var _ → ℕ = inside done.0 nowhere in
      let e₂ : Var _ → ℕ = inside slow.0 e in
      writes-block nowhere 0 m₁ p₁ _
      (writes-then e 0 _ _
      (writes-block e 0 m₂ p₂ _
      (writes-then e₂ 0 _ _ (writes-block e₂ 0 m₃ p₃ _ (region-under RAM _ _ w signed xip.0 slow.0 done.0 p₄) p₅) p₆) p₇)
      (read-under blk rc blk.addresses.h_read w signed i done.0 p₈)) p₉

  pub store-whole : (w : Width) (alone : Bool) (i : ℕ) {a₃ a₄ a₅ a₆ : Asm} → Codes (inside slow.0 (inside done.0 nowhere)) a₂ (ram_store blk.memory w alone) a₃
      → Puts a₃ (bind slow.0) a₄ → Codes nowhere a₄ (by_write blk rc blk.addresses.h_write w i) a₅ → Puts a₅ (bind done.0) a₆
      → Codes nowhere a (store blk rc w alone i) a₆
  unfolding store
  store-whole w alone i p₃ p₄ p₅ p₆ =
      let e : Var _ → ℕ = inside done.0 nowhere in
      writes-block nowhere 0 m₁ p₁ _
      (writes-then e 0 _ _ (writes-block e 0 m₂ p₂ _ p₃ p₄) (write-under blk rc blk.addresses.h_write w i done.0 p₅)) p₆
