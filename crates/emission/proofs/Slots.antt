-- A flush, a slot at a time.
use mathlib.Core.Path.{◌≡◌, refl, sym, ap, ◌∙◌}
use mathlib.Core.Bool.{Bool, true, false, not}
use mathlib.Core.List.{List, [], ◌∷◌}
use Prim.Native.Nat.{ℕ, suc, ◌+◌, ◌<◌, ◌≤◌}
use native.Mathlib.Numerals.{add-one}
use native.Mathlib.Omega.{arith}
use lib.Dec.{eqb}
use lib.ListN.{length, get_or, drop, drop_of_length-le}
use lib.Seq.{drop-cons}
use borrow.Author.Tests.{eq-eqb}
use Rattle.arm.specs.declared.Access.{Access}
use Rattle.arm.specs.declared.Access.TheVariants.{LdrW, StrW}
use Rattle.arm.specs.declared.Instr.{Instr}
use Rattle.block.specs.declared.Layout.{Layout}
use Rattle.code.specs.Items.{pick}
use Rattle.lowering.specs.Instrs.{CPU, ldr, str}
use Rattle.lowering.specs.Cache.{POOL, host, FREE, off_reg, flush_from, reload_from}
use Rattle.words.specs.Answers.{answer, word_of}
use Rattle.asm.specs.declared.Asm.{Asm}
use Rattle.asm.specs.State.{State, state, word, Wrote}
use Rattle.asm.proofs.Wrote.{wrote-then, wrote-as, wrote-with}
use Rattle.emission.specs.Total.{put_t, run_t, emitted, at_place}
use Rattle.emission.proofs.Writes.{writes-nothing}

-- ---- one instruction
pub ins_by : (i : Instr) (w : ℕ) {a b : Asm} → w ≡ word_of (answer i) → Wrote a (word w (state a)) b → Wrote a (emitted (i ∷ []) (state a)) b
unfolding emitted run_t put_t
ins_by i w {a} e p = wrote-as p (ap (λ k. word k (state a)) e)

-- ---- one slot
pub none_moved : (access : Access) (lay : Layout) (h r : ℕ) → r ≡ FREE → [] ≡ at_place access lay h r
none_moved access lay h r e = rw (eq-eqb r FREE e) refl

-- ---- all slots: what is left of them, written from here, ends as all of them from the start
pub record Onward (all rest : List Instr) (a b : Asm) : Type 0 where
  pub ends : emitted all (state a) ≡ emitted rest (state b)
  pub rooms : Wrote a (state b) b

-- one slot more
goes_on : (all rest next is : List Instr) {a b b' : Asm} → ((s : State) → emitted rest s ≡ emitted next (emitted is s)) → Onward all rest a b
    → Wrote b (emitted is (state b)) b' → Onward all next a b'
goes_on all rest next is {a} {b} {b'} t w p =
    record { ends = w.ends ∙ t (state b) ∙ ap (emitted next) (sym p.code); rooms = wrote-with (wrote-then w.rooms p) refl }

arrives : (all rest : List Instr) {a b : Asm} → rest ≡ [] → Onward all rest a b → Wrote a (emitted all (state a)) b
unfolding emitted run_t
arrives all rest {a} {b} e w = wrote-with w.rooms (sym (w.ends ∙ ap (λ is. emitted is (state b)) e))

-- ---- a flush
store_split : (i : Instr) (is : List Instr) (free : Bool) (s : State)
    → emitted (pick (not free) (i ∷ is) is) s ≡ emitted is (emitted (pick free [] (i ∷ [])) s)
unfolding emitted run_t
store_split i is true s = refl
store_split i is false s = refl

-- what is left to store from slot i on
abbrev pub left : Layout → List ℕ → List Bool → ℕ → List Instr
left lay gs ds i = flush_from lay (drop i POOL) (drop i gs) (drop i ds)

module _ (lay : Layout) (gs : List ℕ) (ds : List Bool) (i : ℕ) {a b : Asm} (w : Onward (left lay gs ds 0) (left lay gs ds i) a b) where
  module _ (lg : length gs ≡ 8) (ld : length ds ≡ 8) (l : i < 8) where
    pub one_stored : (h : ℕ) (b' : Asm) → h ≡ host i → get_or ds i false ≡ true → Wrote b (emitted (at_place StrW lay h (get_or gs i 0)) (state b)) b'
        → Onward (left lay gs ds 0) (left lay gs ds (i + 1)) a b'
    unfolding flush_from
    one_stored h b' o d p =
        goes_on _ _ _ (at_place StrW lay h (get_or gs i 0))
        (λ s. rw (drop-cons POOL i 0 l, drop-cons gs i 0 (omega arith), drop-cons ds i false (omega arith), add-one, o, d)
        (store_split (str (host i) CPU (off_reg lay (get_or gs i 0))) (flush_from lay (drop (suc i) POOL) (drop (suc i) gs) (drop (suc i) ds)) (eqb (get_or gs i 0) FREE) s))
        w p

    pub one_kept : get_or ds i false ≡ false → Onward (left lay gs ds 0) (left lay gs ds (i + 1)) a b
    unfolding flush_from emitted run_t
    one_kept d =
        goes_on _ _ _ [] (λ s. rw (drop-cons POOL i 0 l, drop-cons gs i 0 (omega arith), drop-cons ds i false (omega arith), add-one, d) refl) w writes-nothing

  pub all_stored : 8 ≤ i → Wrote a (emitted (left lay gs ds 0) (state a)) b
  unfolding flush_from
  all_stored l = arrives _ _ (rw (drop_of_length-le POOL l) refl) w

-- ---- a reload
load_split : (i : Instr) (is : List Instr) (free : Bool) (s : State) → emitted (pick free is (i ∷ is)) s ≡ emitted is (emitted (pick free [] (i ∷ [])) s)
unfolding emitted run_t
load_split i is true s = refl
load_split i is false s = refl

-- what is left to load from slot i on
abbrev pub unloaded : Layout → List ℕ → ℕ → List Instr
unloaded lay gs i = reload_from lay (drop i POOL) (drop i gs)

module _ (lay : Layout) (gs : List ℕ) (i : ℕ) {a b : Asm} (w : Onward (unloaded lay gs 0) (unloaded lay gs i) a b) where
  pub one_loaded : length gs ≡ 8 → i < 8 → (h : ℕ) (b' : Asm) → h ≡ host i → Wrote b (emitted (at_place LdrW lay h (get_or gs i 0)) (state b)) b'
      → Onward (unloaded lay gs 0) (unloaded lay gs (i + 1)) a b'
  unfolding reload_from
  one_loaded lg l h b' o p =
      goes_on _ _ _ (at_place LdrW lay h (get_or gs i 0))
      (λ s. rw (drop-cons POOL i 0 l, drop-cons gs i 0 (omega arith), add-one, o)
      (load_split (ldr (host i) CPU (off_reg lay (get_or gs i 0))) (reload_from lay (drop (suc i) POOL) (drop (suc i) gs)) (eqb (get_or gs i 0) FREE) s))
      w p

  pub all_loaded : 8 ≤ i → Wrote a (emitted (unloaded lay gs 0) (state a)) b
  unfolding reload_from
  all_loaded l = arrives _ _ (rw (drop_of_length-le POOL l) refl) w
