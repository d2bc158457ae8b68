-- The range test of an access: is the offset from a region's base inside it?
--     range_frag          the code of the test
--     range_in, range_out     its jump is not taken inside, and taken outside
--     store_limit             the offset that it is held against, of a store
use mathlib.Core.Path.{◌≡◌, refl, ap, ◌∙◌}
use mathlib.Core.Option.{Option, none, some}
use mathlib.Core.List.{[], ◌∷◌, ◌++◌}
use Prim.Native.Nat.{ℕ, ◌+◌, ◌-◌, ◌%◌, ◌^◌, ◌≤◌, ◌<◌}
use native.Mathlib.Nat.{mod-eq_of_lt}
use native.Mathlib.Omega.{arith}
use borrow.Author.Tests.{lt-ltb, le-ltb}
use lib.Bits.{bit_and}
use Rattle.arm.specs.declared.Size.TheVariants.{W}
use Rattle.arm.specs.declared.Logic.TheVariants.{And}
use Rattle.block.specs.declared.Width.{Width}
use Rattle.block.specs.declared.Width.TheVariants.{Byte as B8, Half as B16, Word as B32}
use Rattle.block.specs.declared.Block.{Block}
use Rattle.block.specs.Block.{bytes}
use Rattle.code.specs.Items.{b_cond}
use Rattle.code.specs.Tree.{Depth, Var, code, to}
use Rattle.machine.specs.Bits.{ConditionHolds}
use Rattle.machine.specs.State.{State, R}
use Rattle.machine.specs.Execute.{Helpers}
use Rattle.machine.proofs.Flags.{compared, hi_means}
use Rattle.machine.proofs.Data.{exec-sub, exec-logic}
use Rattle.card.specs.Word.{minus}
use Rattle.card.specs.Memory.{even_if_half}
use Rattle.lowering.specs.declared.RegCache.{RegCache}
use Rattle.lowering.specs.Instrs.{HI, mov32, sub, and, cmp}
use Rattle.lowering.specs.Fragments.{even}
use Rattle.relation.specs.Lines.{arm, of_effect, exec, taken}
use Rattle.relation.specs.Abs.{Abs, upd, with_temp}
use Rattle.relation.specs.Relation.{cls, Sim, Frag}
use Rattle.registers.proofs.Basics.{upd_same, upd_other}
use Rattle.registers.proofs.Frags.{frag_map, frag_append, frag_cons}
use Rattle.registers.proofs.Constants.{Below, sim-below, temp_frag, mov32-sim}
use Rattle.accesses.proofs.Paths.{Goes, goes_if, frag_unless}
use Rattle.accesses.proofs.Temps.{compare_frag, below_same, below_set, below-skip}
use Rattle.accesses.proofs.Numbers.{even_is}

-- the last offset in RAM at which a store of this width ends inside
abbrev pub store_limit : Block → Width → ℕ
store_limit b w = b.memory.ram_len - bytes w

abbrev pub tested : Abs → (offset limit : ℕ) → Abs
tested a o l = record { c = a.c; t = upd (upd a.t 2 (some l)) 3 (some o); f = some (compared W o l) }

module _ (h : Helpers) (base : ℕ) {b : Block} {s0 : State} {n : Depth} {rc : RegCache} where
  sub_frag : (a : Abs) (p v : ℕ) → a.t 0 ≡ some p → a.t 2 ≡ some v → Frag (arm h base) {n = n} (code (sub 3 0 2 ∷ [])) (Sim b s0 rc a) (Sim b s0 rc (with_temp 3 (some (minus p v)) a))
  unfolding exec cls
  sub_frag a p v k l =
      temp_frag h base a (sub 3 0 2) 3 (minus p v) (λ s. (R W s 0 + (2 ^ 32 - R W s 2)) % 2 ^ 32) refl (λ s w. ap of_effect (exec-sub h s W 2 0 3))
      (λ s w. rw (w.temps 0 p refl k, w.temps 2 v refl l) again)
    where
      again : minus p v % 2 ^ 32 ≡ minus p v
      again = omega arith

  and_frag : (a : Abs) (x v : ℕ) → a.t 3 ≡ some x → a.t 2 ≡ some v → bit_and x v < 2 ^ 32
      → Frag (arm h base) {n = n} (code (and 3 3 2 ∷ [])) (Sim b s0 rc a) (Sim b s0 rc (with_temp 3 (some (bit_and x v)) a))
  unfolding exec cls
  and_frag a x v k l m =
      temp_frag h base a (and 3 3 2) 3 (bit_and x v) (λ s. bit_and (R W s 3) (R W s 2)) refl (λ s w. ap of_effect (exec-logic h s W And 2 3 3))
      (λ s w. rw (w.temps 3 x refl k, w.temps 2 v refl l) (mod-eq_of_lt m))

  module _ (a : Abs) (p : ℕ) (k0 : a.t 0 ≡ some p) (k2 : a.t 2 ≡ none) (k3 : a.t 3 ≡ none) where
    -- the limit, and the comparison
    limit_frag : (t : ℕ → Option ℕ) (o l : ℕ) → l < 2 ^ 32 → t 3 ≡ some o → Below a.t t
        → Frag (arm h base) {n = n} (code (mov32 2 l ++ (cmp 3 2 ∷ []))) (Sim b s0 rc (record { c = a.c; t = t; f = a.f })) (Sim b s0 rc (tested a o l))
    unfolding cls
    limit_frag t o l m e q =
        let z : upd t 2 (some l) 3 ≡ some o = upd_other t 2 (some l) 3 (omega arith) ∙ e in
        let y : upd t 2 (some l) 2 ≡ some l = upd_same t 2 (some l) in
        frag_append (mov32-sim h base (record { c = a.c; t = t; f = a.f }) 2 l refl m)
        (frag_map (compare_frag h base (record { c = a.c; t = upd t 2 (some l); f = a.f }) 3 2 o l refl refl z y)
        (λ s w. sim-below (upd (upd a.t 2 (some l)) 3 (some o)) (below_set (below_set (below-skip q 2 (some l) k2) 2 (some l) y) 3 (some o) z) w))

    -- the offset is even for a halfword
    even_frag : (w : Width) (t : ℕ → Option ℕ) (o l : ℕ) → o < 2 ^ 32 → l < 2 ^ 32 → t 3 ≡ some o → Below a.t t
        → Frag (arm h base) {n = n} (code (even w ++ (mov32 2 l ++ (cmp 3 2 ∷ [])))) (Sim b s0 rc (record { c = a.c; t = t; f = a.f })) (Sim b s0 rc (tested a (even_if_half w o) l))
    unfolding even cls
    even_frag B8 t o l u m e q = limit_frag t o l m e q
    even_frag B32 t o l u m e q = limit_frag t o l m e q
    even_frag B16 t o l u m e q =
        let z : upd t 2 (some (2 ^ 32 - 2)) 3 ≡ some o = upd_other t 2 (some (2 ^ 32 - 2)) 3 (omega arith) ∙ e in
        let y : upd t 2 (some (2 ^ 32 - 2)) 2 ≡ some (2 ^ 32 - 2) = upd_same t 2 (some (2 ^ 32 - 2)) in
        let v : bit_and o (2 ^ 32 - 2) ≡ o - o % 2 = even_is o u in
        let t₁ : ℕ → Option ℕ = upd (upd t 2 (some (2 ^ 32 - 2))) 3 (some (bit_and o (2 ^ 32 - 2))) in
        frag_append
        (frag_append (mov32-sim h base (record { c = a.c; t = t; f = a.f }) 2 (2 ^ 32 - 2) refl (omega arith))
        (and_frag (record { c = a.c; t = upd t 2 (some (2 ^ 32 - 2)); f = a.f }) o (2 ^ 32 - 2) z y (omega arith)))
        (limit_frag t₁ (o - o % 2) l m (upd_same (upd t 2 (some (2 ^ 32 - 2))) 3 (some (bit_and o (2 ^ 32 - 2))) ∙ ap some v) (below-skip (below-skip q 2 (some (2 ^ 32 - 2)) k2) 3 (some (bit_and o (2 ^ 32 - 2))) k3))

    pub range_frag : (w : Width) (g l : ℕ) → g < 2 ^ 32 → l < 2 ^ 32
        → Frag (arm h base) {n = n} (code (mov32 2 g ++ (sub 3 0 2 ∷ (even w ++ (mov32 2 l ++ (cmp 3 2 ∷ [])))))) (Sim b s0 rc a) (Sim b s0 rc (tested a (even_if_half w (minus p g)) l))
    unfolding cls
    range_frag w g l u m =
        let z : upd a.t 2 (some g) 0 ≡ some p = upd_other a.t 2 (some g) 0 (omega arith) ∙ k0 in
        let t₁ : ℕ → Option ℕ = upd (upd a.t 2 (some g)) 3 (some (minus p g)) in
        frag_append (mov32-sim h base a 2 g refl u)
        (frag_cons (sub_frag (with_temp 2 (some g) a) p g z (upd_same a.t 2 (some g)))
        (even_frag w t₁ (minus p g) l (omega arith) m (upd_same (upd a.t 2 (some g)) 3 (some (minus p g))) (below-skip (below-skip (below_same a.t) 2 (some g) k2) 3 (some (minus p g)) k3)))

-- ---- the jump behind the test
module _ (h : Helpers) (base : ℕ) {b : Block} {s0 : State} {n : Depth} {rc : RegCache} (a : Abs) (v : Var n) (o l : ℕ) (u : o < 2 ^ 32) (m : l < 2 ^ 32) where
  pub range_in : o ≤ l → Frag (arm h base) (to (b_cond HI) v) (Sim b s0 rc (tested a o l)) (Sim b s0 rc (tested a o l))
  unfolding taken
  range_in q = frag_unless (b_cond HI) v (λ s w. ap (ConditionHolds 8) (w.flags (compared W o l) refl) ∙ hi_means W o l u m ∙ le-ltb l o q)

  pub range_out : l < o → Goes (arm h base) (to (b_cond HI) v) v (Sim b s0 rc (tested a o l)) (Sim b s0 rc (tested a o l))
  unfolding taken
  range_out q = goes_if (b_cond HI) v (λ s w. ap (ConditionHolds 8) (w.flags (compared W o l) refl) ∙ hi_means W o l u m ∙ lt-ltb l o q)
