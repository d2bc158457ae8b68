-- The assemblers behind the calls of `guard`, joined along the tree of its definition.
use mathlib.Core.Path.{◌≡◌}
use mathlib.Core.List.{[], ◌∷◌}
use Prim.Native.Nat.{ℕ}
use Rattle.arm.specs.declared.Size.TheVariants.{W}
use Rattle.arm.specs.declared.Test.TheVariants.{Nonzero as nonzero}
use Rattle.block.specs.declared.Block.{Block}
use Rattle.code.specs.Items.{b_cond, cb, ldr, label, literal, go, new, bind}
use Rattle.code.specs.Tree.{top, under, Var, inner, inside, nowhere}
use Rattle.code.specs.Calls.{calls, next_l}
use Rattle.lowering.specs.declared.RegCache.{RegCache}
use Rattle.lowering.specs.Instrs.{CTX, EQ, mov_x, ldr_x, cmp_x}
use Rattle.lowering.specs.Fragments.{OFF_VER, call, exit_imm, guard}
use Rattle.asm.specs.declared.Asm.{Asm}
use Rattle.asm.specs.declared.Label.{Label}
use Rattle.asm.specs.State.{label_of}
use Rattle.emission.specs.Total.{after_t}
use Rattle.emission.specs.Emits.{Emits, Puts, Codes}
use Rattle.emission.proofs.Writes.{writes-more, writes-code, writes-lit, writes-to, writes-then, writes-block}

module _ (blk : Block) (rc : RegCache) where
  -- a call inside a block: it names no label
  call-under : (f l : ℕ) {a a₁ : Asm} → Codes nowhere a (call blk rc f) a₁ → Codes (inside l nowhere) a (call blk rc f) a₁
  unfolding after_t calls next_l call
  call-under f l p = p

  pub guard-after : (at helper pc : ℕ) {a a₁ a₂ a₃ a₄ a₅ a₆ a₇ a₈ a₉ a₁₀ a₁₁ : Asm} {l : Label} → l ≡ label_of a.counts.labels → Puts a new a₁
      → Emits a₁ (ldr_x 9 CTX OFF_VER ∷ []) a₂ → Puts a₂ (go (ldr 1) (literal at)) a₃ → Emits a₃ (ldr_x 10 1 0 ∷ []) a₄
      → Emits a₄ (cmp_x 9 10 ∷ []) a₅ → Puts a₅ (go (b_cond EQ) (label l.0)) a₆ → Emits a₆ (mov_x 0 CTX ∷ []) a₇
      → Codes nowhere a₇ (call blk rc helper) a₈ → Puts a₈ (go (cb W nonzero 0) (label l.0)) a₉
      → Codes (inside l.0 nowhere) a₉ (exit_imm blk rc pc 0) a₁₀ → Puts a₁₀ (bind l.0) a₁₁ → Codes nowhere a (guard blk rc at helper pc) a₁₁
  unfolding guard
  guard-after at helper pc {l = l} m p₁ p₂ p₃ p₄ p₅ p₆ p₇ p₈ p₉ p₁₀ p₁₁ =
      let e : Var (under top) → ℕ = inside l.0 nowhere in
      writes-block nowhere 0 m p₁ _
      (writes-then e 0 _ _ (writes-code e 0 _ p₂)
      (writes-then e 0 _ _ (writes-lit e 0 1 at p₃)
      (writes-then e 0 _ _ (writes-code e 0 _ (writes-more (ldr_x 10 1 0 ∷ []) _ p₄ p₅))
      (writes-then e 0 _ _ (writes-to e 0 (b_cond EQ) inner p₆)
      (writes-then e 0 _ _ (writes-code e 0 _ p₇)
      (writes-then e 0 _ _ (call-under helper l.0 p₈) (writes-then e 0 _ _ (writes-to e 0 (cb W nonzero 0) inner p₉) p₁₀))))))) p₁₁
