-- One word of a group that lies from KEEP on, and the base behind the words: their steps do what the card does, and go on as it goes on.
--     load_agrees, store_agrees      a word
--     base_agrees                    the base
-- Assumes nothing.
use mathlib.Core.Path.{◌≡◌, refl, ap}
use mathlib.Core.Bool.{Bool, true, false}
use mathlib.Core.Option.{Option, some, none}
use mathlib.Core.List.{List, ◌∷◌, ◌++◌}
use Prim.Native.Nat.{ℕ, ◌*◌, ◌^◌, ◌<◌}
use native.Mathlib.Omega.{arith}
use Rattle.block.specs.declared.Width.TheVariants.{Word as B32}
use Rattle.block.specs.declared.Block.{Block}
use Rattle.card.specs.Word.{plus}
use Rattle.card.specs.Card.{Card, reg, set_reg}
use Rattle.card.specs.Memory.{load, store}
use Rattle.card.specs.Step.{After, on, with_loaded, with_stored, move_end, set_if}
use Rattle.lowering.specs.Instrs.{KEEP}
use Rattle.lowering.specs.Steps.{Step, move_word, move_base}
use Rattle.relation.specs.Abs.{Abs, upd, kill, mstep, mrun, with_temp, with_card}
use Rattle.kinds.specs.Agrees.{Agrees}
use Rattle.kinds.proofs.Kind.{with0}
use Rattle.kinds.proofs.Bus.{loaded, stored, after-load, after_store}

module _ (b : Block) (flash : List ℕ) (limit i : ℕ) where
  -- from any state with this number in KEEP, the steps do what g does with its card
  abbrev pub Keeping : ℕ → (Card → After) → List Step → Type 0
  Keeping x g ss = (a : Abs) → a.t KEEP ≡ some x → Agrees (g a.c) (mrun b flash limit ss a)

  -- ---- a word
  pub load_agrees : (x r k : ℕ) (g : Card → After) (ss : List Step) → Keeping x g ss
      → Keeping x (λ c. with_loaded (load b.memory flash i B32 false (plus x (4 * k)) c) (λ v c₁. g (set_reg r v c₁)))
      (move_word false i k r ++ ss)
  unfolding mrun mstep upd kill
  load_agrees x r k g ss h a q =
      let t : ℕ → Option ℕ = (with0 (plus x (4 * k)) (with_temp 9 none a)).t in
      rw q (after-load b flash limit i B32 false _ _ t _ (Step.st_reg 0 r ∷ ss) (λ v c l. h (with_card (set_reg r v c) (loaded t v c)) q))

  pub store_agrees : (x r k : ℕ) (g : Card → After) (ss : List Step) → Keeping x g ss
      → Keeping x (λ c. with_stored (store b.memory i B32 false (plus x (4 * k)) (reg c r) c) g) (move_word true i k r ++ ss)
  unfolding mrun mstep upd kill
  store_agrees x r k g ss h a q =
      let t : ℕ → Option ℕ = (with_temp 1 (some (reg a.c r)) (with0 (plus x (4 * k)) (with_temp 9 none a))).t in
      rw q (after_store b flash limit i B32 false _ _ _ t _ ss (λ c. h (stored t c) q))

  -- ---- the base behind the words
  pub base_agrees : (r x n : ℕ) → x < 2 ^ 32 → (post down : Bool)
      → Keeping x (λ c. on (set_if post r (move_end down x n) c)) (move_base post down n r)
  unfolding mrun mstep upd
  base_agrees r x n h false down a q = refl
  base_agrees r x n h true true a q = let e : plus x 0 ≡ x = omega arith in rw q (ap (λ v. set_reg r v a.c) e)
  base_agrees r x n h true false a q = rw q refl
