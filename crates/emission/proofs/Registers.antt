-- A guest register's way to its slot, and its move from or to it, by the instructions of the definition.
use Rattle.std.proofs.Common.{◌≡◌, refl, sym, ap, ◌∙◌, Bool, true, false, List, [], ◌∷◌, ◌++◌, append-nil, ℕ, ◌/◌}
use Rattle.arm.specs.declared.Access.TheVariants.{LdrW}
use Rattle.arm.specs.declared.Instr.{Instr}
use Rattle.arm.specs.declared.Instr.TheVariants.{MemoryImm}
use Rattle.block.specs.declared.Layout.{Layout}
use Rattle.lowering.specs.declared.RegCache.{RegCache}
use Rattle.lowering.specs.Instrs.{CPU, mov}
use Rattle.lowering.specs.Cache.{host, off_reg, is_held, chosen, slot_for, spill, ld_reg, st_reg}
use Rattle.emission.specs.Total.{seating}

module _ (lay : Layout) (rc : RegCache) (r : ℕ) (load : Bool) where
  pub held-seating : is_held rc r ≡ true → [] ≡ seating lay rc r load
  held-seating e = rw e refl

  module _ (i : ℕ) (ss : List Instr) (e : is_held rc r ≡ false) (q : i ≡ chosen rc) (p : ss ≡ spill lay rc) where
    pub loaded-seating : (h k : ℕ) → load ≡ true → h ≡ host i → k ≡ off_reg lay r / 4 → ss ++ (MemoryImm LdrW k CPU h ∷ []) ≡ seating lay rc r load
    loaded-seating h k l o b = rw (e, l, ← q, o, b) (ap (λ xs. xs ++ (MemoryImm LdrW (off_reg lay r / 4) CPU (host i) ∷ [])) p)

    pub bare-seating : load ≡ false → ss ≡ seating lay rc r load
    bare-seating l = rw (e, l) (p ∙ sym (append-nil (spill lay rc)))

module _ (lay : Layout) (rc : RegCache) (t r i h : ℕ) (s : i ≡ slot_for rc r) (o : h ≡ host i) where
  pub ld-seated : seating lay rc r true ++ (mov t h ∷ []) ≡ ld_reg lay rc t r
  unfolding ld_reg
  ld-seated = rw (o, s) refl

  pub st-seated : seating lay rc r false ++ (mov h t ∷ []) ≡ st_reg lay rc t r
  unfolding st_reg
  st-seated = rw (o, s, append-nil (spill lay rc)) refl
