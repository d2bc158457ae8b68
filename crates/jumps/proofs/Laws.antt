-- The assemblers behind the calls of each function, joined along the tree of its definition.
use mathlib.Core.Path.{◌≡◌, refl, sym, ap, ap₂, ◌∙◌}
use mathlib.Core.Bool.{Bool, true, false}
use mathlib.Core.List.{List, [], ◌∷◌, ◌++◌}
use Prim.Native.Nat.{ℕ}
use Rattle.arm.specs.declared.Size.TheVariants.{W}
use Rattle.arm.specs.declared.Test.TheVariants.{Zero as is_zero, Nonzero as nonzero}
use Rattle.arm.specs.declared.Instr.{Instr}
use Rattle.block.specs.declared.Block.{Block}
use Rattle.code.specs.Items.{Hole, b, b_cond, cb, adr, ldr as ldr_hole, label, literal, go, new, bind}
use Rattle.code.specs.Tree.{Depth, top, under, Var, inner, Code, code, to, block, ◌then◌, inside, nowhere}
use Rattle.lowering.specs.declared.RegCache.{RegCache}
use Rattle.lowering.specs.Cache.{flush}
use Rattle.lowering.specs.Instrs.{CPU, CTX, DONE, LIMIT, NE, LS, mov, mov32, add_i, add_xLsl, cmp}
use Rattle.lowering.specs.Instrs.{ubfx, ldr, str, ldr_x, str_x, br}
use Rattle.lowering.specs.Fragments.{OFF_BRK, OFF_SLOT, brk_first, hold, exit_imm, chain, ind, check_brk, fork, limit}
use Rattle.asm.specs.declared.Asm.{Asm}
use Rattle.asm.specs.declared.Label.{Label}
use Rattle.asm.specs.State.{State, state, label_of}
use Rattle.emission.specs.Total.{put_t, starts_t}
use Rattle.emission.specs.Emits.{Emits, Puts, Codes}
use Rattle.emission.proofs.After.{then-starts}
use Rattle.emission.proofs.Writes.{writes-nothing, writes-more, writes-code, writes-lit, writes-to, writes-exit, writes-then, writes-block, writes-start}
use Rattle.jumps.specs.Parts.{leave, back, lookup}

-- ---- the sites of a block, and these sites and then those
pub block-sites : {n : Depth} (e : Var n → ℕ) (c : Code (under n)) (ps : List ℕ) {l : Label} {a a₁ : Asm} → l ≡ label_of a.counts.labels → Puts a new a₁
    → ps ≡ starts_t c (inside l.0 e) 0 (state a₁) → ps ≡ starts_t (block c) e 0 (state a)
unfolding starts_t put_t
block-sites e c ps m p h = h ∙ ap₂ (λ (k : Label) s. starts_t c (inside k.0 e) 0 s) m p.code

pub then-sites : {n : Depth} (e : Var n → ℕ) (c d : Code n) (ps qs : List ℕ) {a a₁ : Asm} → Codes e a c a₁ → ps ≡ starts_t c e 0 (state a)
    → qs ≡ starts_t d e 0 (state a₁) → ps ++ qs ≡ starts_t (c then d) e 0 (state a)
then-sites e c d ps qs {a} {a₁} p h k = ap₂ ◌++◌ h k ∙ sym (then-starts e 0 c d (state a) (state a₁) p.code)

to_sites : {n : Depth} (e : Var n → ℕ) (h : Hole) (v : Var n) (s : State) → [] ≡ starts_t (to h v) e 0 s
unfolding starts_t
to_sites e h v s = refl

-- ---- at any depth
module _ {n : Depth} (e : Var n → ℕ) where
  pub leave-after : (i : Instr) {a a₁ a₂ a₃ : Asm} → Emits a (i ∷ []) a₁ → Emits a₁ (mov 0 DONE ∷ []) a₂ → Puts a₂ (go b (label 0)) a₃ → Codes e a (leave i) a₃
  leave-after i p₁ p₂ p₃ = writes-then e 0 _ _ (writes-code e 0 _ (writes-more (i ∷ []) _ p₁ p₂)) (writes-exit e 0 b p₃)

  module _ (blk : Block) (rc : RegCache) (pc count : ℕ) where
    pub exit_imm-after : {a a₁ a₂ a₃ a₄ a₅ : Asm} → Emits a (flush blk.layout rc) a₁ → Emits a₁ (mov32 9 pc) a₂ → Emits a₂ (str 9 CPU blk.layout.pc ∷ []) a₃
        → Emits a₃ (add_i 0 DONE count ∷ []) a₄ → Puts a₄ (go b (label 0)) a₅ → Codes e a (exit_imm blk rc pc count) a₅
    unfolding exit_imm
    exit_imm-after p₁ p₂ p₃ p₄ p₅ =
        writes-then e 0 _ _
        (writes-code e 0 _ (writes-more _ _ p₁ (writes-more _ _ p₂ (writes-more (str 9 CPU blk.layout.pc ∷ []) _ p₃ p₄))))
        (writes-exit e 0 b p₅)

    -- the words before a chain's site
    abbrev front : Code n
    front = code (flush blk.layout rc ++ (add_i DONE DONE count ∷ []))

    front-after : {a a₁ a₂ : Asm} → Emits a (flush blk.layout rc) a₁ → Emits a₁ (add_i DONE DONE count ∷ []) a₂ → Codes e a front a₂
    front-after p₁ p₂ = writes-code e 0 _ (writes-more _ _ p₁ p₂)

    pub chain-site : {a a₁ a₂ : Asm} → Emits a (flush blk.layout rc) a₁ → Emits a₁ (add_i DONE DONE count ∷ []) a₂
        → (a₂.counts.at ∷ []) ≡ starts_t (chain blk rc pc count) e 0 (state a)
    unfolding starts_t chain
    chain-site p₁ p₂ = let p = front-after p₁ p₂ in ap (λ (s : State). s.asm.at ∷ []) p.code

    pub chain-after : {a a₁ a₂ a₃ a₄ a₅ a₆ a₇ : Asm} {l : Label} → Emits a (flush blk.layout rc) a₁ → Emits a₁ (add_i DONE DONE count ∷ []) a₂
        → l ≡ label_of a₂.counts.labels → Puts a₂ new a₃ → Puts a₃ (bind l.0) a₄ → Codes e a₄ (back blk.layout.pc pc) a₅
        → Puts a₅ (go (adr 10) (label l.0)) a₆ → Codes e a₆ (leave (str_x 10 CTX OFF_SLOT)) a₇ → Codes e a (chain blk rc pc count) a₇
    unfolding chain
    chain-after p₁ p₂ m p₃ p₄ p₅ p₆ p₇ =
        writes-then e 0 front _ (front-after p₁ p₂) (writes-then e 0 _ _ (writes-start e 0 m p₃ 10 _ p₄ p₅ p₆) p₇)

  pub back-after : (off pc : ℕ) {a a₁ a₂ a₃ a₄ a₅ : Asm} {l : Label} → l ≡ label_of a.counts.labels → Puts a new a₁ → Puts a₁ (go b (label l.0)) a₂
      → Puts a₂ (bind l.0) a₃ → Emits a₃ (mov32 9 pc) a₄ → Emits a₄ (str 9 CPU off ∷ []) a₅ → Codes e a (back off pc) a₅
  back-after off pc {l = l} m p₁ p₂ p₃ p₄ p₅ =
      writes-then e 0 _ _ (writes-block e 0 m p₁ (to b inner) (writes-to (inside l.0 e) 0 b inner p₂) p₃)
      (writes-code e 0 _ (writes-more _ _ p₄ p₅))

  pub brk-set : (l : ℕ) {a a₁ a₂ : Asm} → Emits a (ldr 9 CTX OFF_BRK ∷ []) a₁ → Puts a₁ (go (cb W nonzero 9) (label l)) a₂
      → Codes (inside l e) a (brk_first true) a₂
  unfolding brk_first
  brk-set l p₁ p₂ = writes-then (inside l e) 0 _ _ (writes-code (inside l e) 0 _ p₁) (writes-to (inside l e) 0 (cb W nonzero 9) inner p₂)

  pub brk-clear : (l : ℕ) {a : Asm} → Codes (inside l e) a (brk_first false) a
  unfolding brk_first
  brk-clear l = writes-code (inside l e) 0 [] writes-nothing

  pub lookup-after : (table l : ℕ) {a a₁ a₂ a₃ a₄ a₅ a₆ a₇ a₈ : Asm} → Emits a (ubfx 10 12 1 14 ∷ []) a₁ → Puts a₁ (go (ldr_hole 11) (literal table)) a₂
      → Emits a₂ (add_xLsl 11 11 10 4 ∷ []) a₃ → Emits a₃ (ldr 13 11 0 ∷ []) a₄ → Emits a₄ (cmp 13 12 ∷ []) a₅ → Puts a₅ (go (b_cond NE) (label l)) a₆
      → Emits a₆ (ldr_x 9 11 8 ∷ []) a₇ → Emits a₇ (br 9 ∷ []) a₈ → Codes (inside l e) a (lookup table) a₈
  lookup-after table l p₁ p₂ p₃ p₄ p₅ p₆ p₇ p₈ =
      let f : Var (under n) → ℕ = inside l e in
      writes-then f 0 _ _ (writes-code f 0 _ p₁)
      (writes-then f 0 _ _ (writes-lit f 0 11 table p₂)
      (writes-then f 0 _ _ (writes-code f 0 _ (writes-more (add_xLsl 11 11 10 4 ∷ []) _ p₃ (writes-more (ldr 13 11 0 ∷ []) _ p₄ p₅)))
      (writes-then f 0 _ _ (writes-to f 0 (b_cond NE) inner p₆) (writes-code f 0 _ (writes-more (ldr_x 9 11 8 ∷ []) _ p₇ p₈)))))

-- ---- steps, with no block around them
module _ (blk : Block) (rc : RegCache) where
  pub ind-after : (t count : ℕ) (brk : Bool) {a a₁ a₂ a₃ a₄ a₅ a₆ a₇ a₈ : Asm} {l : Label} → Emits a (flush blk.layout rc) a₁ → Emits a₁ (mov 12 t ∷ []) a₂
      → Emits a₂ (add_i DONE DONE count ∷ []) a₃ → l ≡ label_of a₃.counts.labels → Puts a₃ new a₄
      → Codes (inside l.0 nowhere) a₄ (brk_first brk) a₅ → Codes (inside l.0 nowhere) a₅ (lookup blk.addresses.table) a₆ → Puts a₆ (bind l.0) a₇
      → Codes nowhere a₇ (leave (str 12 CPU blk.layout.pc)) a₈ → Codes nowhere a (ind blk rc t count brk) a₈
  unfolding ind
  ind-after t count brk {l = l} p₁ p₂ p₃ m p₄ p₅ p₆ p₇ p₈ =
      writes-then nowhere 0 _ _ (writes-code nowhere 0 _ (writes-more _ _ p₁ (writes-more (mov 12 t ∷ []) _ p₂ p₃)))
      (writes-then nowhere 0 _ _
      (writes-block nowhere 0 m p₄ _ (writes-then (inside l.0 nowhere) 0 (brk_first brk) (lookup blk.addresses.table) p₅ p₆) p₇)
      p₈)

  pub check-after : (glue : Bool) (pc count : ℕ) {a a₁ a₂ a₃ a₄ a₅ a₆ : Asm} {l : Label} → l ≡ label_of a.counts.labels → Puts a new a₁
      → Emits a₁ (ldr 9 CTX OFF_BRK ∷ []) a₂ → Puts a₂ (go (cb W is_zero 9) (label l.0)) a₃ → Emits a₃ (hold blk rc glue) a₄
      → Codes (inside l.0 nowhere) a₄ (exit_imm blk rc pc count) a₅ → Puts a₅ (bind l.0) a₆ → Codes nowhere a (check_brk blk rc glue pc count) a₆
  unfolding check_brk
  check-after glue pc count {l = l} m p₁ p₂ p₃ p₄ p₅ p₆ =
      let e : Var (under top) → ℕ = inside l.0 nowhere in
      writes-block nowhere 0 m p₁ _
      (writes-then e 0 _ _ (writes-code e 0 _ p₂)
      (writes-then e 0 _ _ (writes-to e 0 (cb W is_zero 9) inner p₃) (writes-then e 0 _ _ (writes-code e 0 _ p₄) p₅)))
      p₆

  pub limit-after : (pc count : ℕ) {a a₁ a₂ a₃ a₄ a₅ a₆ : Asm} {l : Label} → l ≡ label_of a.counts.labels → Puts a new a₁
      → Emits a₁ (add_i 9 DONE count ∷ []) a₂ → Emits a₂ (cmp 9 LIMIT ∷ []) a₃ → Puts a₃ (go (b_cond LS) (label l.0)) a₄
      → Codes (inside l.0 nowhere) a₄ (exit_imm blk rc pc 0) a₅ → Puts a₅ (bind l.0) a₆ → Codes nowhere a (limit blk rc pc count) a₆
  unfolding limit
  limit-after pc count {l = l} m p₁ p₂ p₃ p₄ p₅ p₆ =
      let e : Var (under top) → ℕ = inside l.0 nowhere in
      writes-block nowhere 0 m p₁ _
      (writes-then e 0 _ _ (writes-code e 0 _ (writes-more (add_i 9 DONE count ∷ []) _ p₂ p₃)) (writes-then e 0 _ _ (writes-to e 0 (b_cond LS) inner p₄) p₅))
      p₆

  module _ (cond pc goal count : ℕ) {a a₁ a₂ a₃ a₄ : Asm} {l : Label} (m : l ≡ label_of a.counts.labels) (p₁ : Puts a new a₁)
      (p₂ : Puts a₁ (go (b_cond cond) (label l.0)) a₂) (p₃ : Codes (inside l.0 nowhere) a₂ (chain blk rc pc count) a₃) (p₄ : Puts a₃ (bind l.0) a₄) where
    abbrev within : Var (under top) → ℕ
    within = inside l.0 nowhere

    jump : Codes within a₁ (to (b_cond cond) inner) a₂
    jump = writes-to within 0 (b_cond cond) inner p₂

    first : Codes nowhere a (block (to (b_cond cond) inner then chain blk rc pc count)) a₄
    first = writes-block nowhere 0 m p₁ _ (writes-then within 0 _ _ jump p₃) p₄

    pub fork-after : {a₅ : Asm} → Codes nowhere a₄ (chain blk rc goal count) a₅ → Codes nowhere a (fork blk rc cond pc goal count) a₅
    unfolding fork
    fork-after p₅ = writes-then nowhere 0 _ _ first p₅

    pub fork-sites : (i j : ℕ) → (i ∷ []) ≡ starts_t (chain blk rc pc count) within 0 (state a₂)
        → (j ∷ []) ≡ starts_t (chain blk rc goal count) nowhere 0 (state a₄)
        → (i ∷ j ∷ []) ≡ starts_t (fork blk rc cond pc goal count) nowhere 0 (state a)
    unfolding fork
    fork-sites i j h k =
        then-sites nowhere _ _ (i ∷ []) (j ∷ []) first
        (block-sites nowhere _ (i ∷ []) m p₁ (then-sites within (to (b_cond cond) inner) _ [] (i ∷ []) jump (to_sites within (b_cond cond) inner (state a₁)) h))
        k

-- ---- instructions in a row
pub six : (i₁ i₂ i₃ i₄ i₅ i₆ : Instr) {a a₁ a₂ a₃ a₄ a₅ a₆ : Asm} → Emits a (i₁ ∷ []) a₁ → Emits a₁ (i₂ ∷ []) a₂ → Emits a₂ (i₃ ∷ []) a₃ → Emits a₃ (i₄ ∷ []) a₄
    → Emits a₄ (i₅ ∷ []) a₅ → Emits a₅ (i₆ ∷ []) a₆ → Emits a (i₁ ∷ i₂ ∷ i₃ ∷ i₄ ∷ i₅ ∷ i₆ ∷ []) a₆
six i₁ i₂ i₃ i₄ i₅ i₆ p₁ p₂ p₃ p₄ p₅ p₆ =
    writes-more (i₁ ∷ []) _ p₁ (writes-more (i₂ ∷ []) _ p₂ (writes-more (i₃ ∷ []) _ p₃ (writes-more (i₄ ∷ []) _ p₄ (writes-more (i₅ ∷ []) _ p₅ p₆))))

pub seven : (i i₁ i₂ i₃ i₄ i₅ i₆ : Instr) {a₀ a a₁ a₂ a₃ a₄ a₅ a₆ : Asm} → Emits a₀ (i ∷ []) a → Emits a (i₁ ∷ []) a₁ → Emits a₁ (i₂ ∷ []) a₂ → Emits a₂ (i₃ ∷ []) a₃
    → Emits a₃ (i₄ ∷ []) a₄ → Emits a₄ (i₅ ∷ []) a₅ → Emits a₅ (i₆ ∷ []) a₆ → Emits a₀ (i ∷ i₁ ∷ i₂ ∷ i₃ ∷ i₄ ∷ i₅ ∷ i₆ ∷ []) a₆
seven i i₁ i₂ i₃ i₄ i₅ i₆ p p₁ p₂ p₃ p₄ p₅ p₆ = writes-more (i ∷ []) _ p (six i₁ i₂ i₃ i₄ i₅ i₆ p₁ p₂ p₃ p₄ p₅ p₆)
