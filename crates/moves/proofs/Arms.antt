-- The instructions of each branch are the definition's.
use Rattle.std.proofs.Common.{◌≡◌, refl, sym, ap, ◌∙◌, ℕ, ◌-◌, ◌/◌, ◌%◌, ◌<◌, ◌≤◌, Bool, true, false, List, [], ◌∷◌, ◌++◌, le-ltb, lt-ltb, eq-eqb, ne_eqb}
use Rattle.arm.specs.declared.Size.TheVariants.{W}
use Rattle.arm.specs.declared.Move.TheVariants.{Movn, Movz, Movk}
use Rattle.arm.specs.declared.Instr.{Instr}
use Rattle.arm.specs.declared.Instr.TheVariants.{MoveWide}
use Rattle.block.specs.declared.Width.{Width}
use Rattle.block.specs.declared.Width.TheVariants.{Byte as B8, Half as B16, Word as B32}
use Rattle.lowering.specs.Instrs.{mov, mov32, add_i, sub_i, add}
use Rattle.lowering.specs.Fragments.{minus, add_imm, even, extended}

module _ (rd v : ℕ) where
  pub low_half : v / 65536 ≡ 0 → MoveWide W Movz 0 v rd ∷ [] ≡ mov32 rd v
  unfolding mov32
  low_half e = rw (eq-eqb _ _ e) refl

  pub high_half : (v / 65536 ≡ 0 → ⊥) → v % 65536 ≡ 0 → MoveWide W Movz 1 (v / 65536) rd ∷ [] ≡ mov32 rd v
  unfolding mov32
  high_half n e = rw (ne_eqb _ _ n, eq-eqb _ _ e) refl

  pub inverted : (v / 65536 ≡ 0 → ⊥) → (v % 65536 ≡ 0 → ⊥) → v / 65536 ≡ 65535 → MoveWide W Movn 0 (65535 - v % 65536) rd ∷ [] ≡ mov32 rd v
  unfolding mov32
  inverted n m e = rw (ne_eqb _ _ n, ne_eqb _ _ m, eq-eqb _ _ e) refl

  pub both_halves : (v / 65536 ≡ 0 → ⊥) → (v % 65536 ≡ 0 → ⊥) → (v / 65536 ≡ 65535 → ⊥)
      → MoveWide W Movz 0 (v % 65536) rd ∷ MoveWide W Movk 1 (v / 65536) rd ∷ [] ≡ mov32 rd v
  unfolding mov32
  both_halves n m k = rw (ne_eqb _ _ n, ne_eqb _ _ m, ne_eqb _ _ k) refl

pub even_none : (w : Width) → (w ≡ B16 → ⊥) → [] ≡ even w
unfolding even
even_none B8 n = refl
even_none B16 n = absurd (n refl)
even_none B32 n = refl

pub extended-arm : (w p : Width) (u : Bool) (xs : List Instr) → w ≡ p → u ≡ true → xs ≡ extended p true → xs ≡ extended w u
extended-arm w p true xs e f h = h ∙ ap (λ q. extended q true) (sym e)
extended-arm w p false xs e f h = cc

pub extended_none : (w : Width) (u : Bool) → u ≡ false → [] ≡ extended w u
unfolding extended
extended_none w u e = rw e refl

-- ---- an immediate added
module _ (d s v : ℕ) where
  pub add_none : v ≡ 0 → d ≡ s → [] ≡ add_imm d s v
  unfolding add_imm
  add_none e f = rw (eq-eqb _ _ e, eq-eqb _ _ f) refl

  pub add-moved : v ≡ 0 → (d ≡ s → ⊥) → mov d s ∷ [] ≡ add_imm d s v
  unfolding add_imm
  add-moved e n = rw (eq-eqb _ _ e, ne_eqb _ _ n) refl

  pub add-short : (v ≡ 0 → ⊥) → v < 4096 → add_i d s v ∷ [] ≡ add_imm d s v
  unfolding add_imm
  add-short n l = rw (ne_eqb _ _ n, lt-ltb _ _ l) refl

  pub add-minus : (m : ℕ) → (v ≡ 0 → ⊥) → 4096 ≤ v → m ≡ minus v → m < 4096 → sub_i d s m ∷ [] ≡ add_imm d s v
  unfolding add_imm
  add-minus m n l e k = rw (ne_eqb _ _ n, le-ltb _ _ l, ← e, lt-ltb _ _ k) refl

  pub add_both : (m : ℕ) → (v ≡ 0 → ⊥) → 4096 ≤ v → m ≡ minus v → 4096 ≤ m → mov32 9 v ++ (add d s 9 ∷ []) ≡ add_imm d s v
  unfolding add_imm
  add_both m n l e k = rw (ne_eqb _ _ n, le-ltb _ _ l, ← e, le-ltb _ _ k) refl
