-- What the code emits for an item, whatever its operands: for one that no word carries, the word 0.
use Rattle.std.specs.Prelude.{Bool, List, [], ◌∷◌, ◌++◌, map, ℕ, ◌/◌, eqb}
use Rattle.arm.specs.declared.Access.{Access}
use Rattle.arm.specs.declared.Instr.{Instr}
use Rattle.arm.specs.declared.Instr.TheVariants.{MemoryImm}
use Rattle.block.specs.declared.Layout.{Layout}
use Rattle.lowering.specs.Instrs.{CPU, ldr}
use Rattle.lowering.specs.declared.RegCache.{RegCache}
use Rattle.lowering.specs.Cache.{host, FREE, off_reg, is_held, chosen, spill}
use Rattle.code.specs.Items.{pick, Item, ins, go, new, bind}
use Rattle.words.specs.Answers.{answer, word_of}
use Rattle.code.specs.Tree.{Depth, Var, Code, code, lit, to, exit, block, start, ◌then◌, inside}
use Rattle.code.specs.Calls.{calls}
use Rattle.asm.specs.State.{State, word, put}

unfoldable pub put_t : Item → State → State
put_t (ins i) s = word (word_of (answer i)) s
put_t (go h p) s = put (go h p) s
put_t new s = put new s
put_t (bind l) s = put (bind l) s

unfoldable pub run_t : List Item → State → State
run_t [] s = s
run_t (i ∷ is) s = run_t is (put_t i s)

-- the state behind instructions
unfoldable pub emitted : List Instr → State → State
emitted is s = run_t (map ins is) s

-- THE STATE BEHIND STRUCTURED CODE: e gives each label's number, x the common exit's
unfoldable pub after_t : {n : Depth} → Code n → (Var n → ℕ) → ℕ → State → State
after_t c e x s = run_t (calls c e x s.asm.labels) s

-- where the words stand whose address the code takes: the chain sites
unfoldable pub starts_t : {n : Depth} → Code n → (Var n → ℕ) → ℕ → State → List ℕ
starts_t (code is) e x s = []
starts_t (lit rt v) e x s = []
starts_t (to h v) e x s = []
starts_t (exit h) e x s = []
starts_t (block c) e x s = starts_t c (inside s.asm.labels e) x (put_t new s)
starts_t (start rd c) e x s = s.asm.at ∷ starts_t c e x (put_t (bind s.asm.labels) (put_t new s))
starts_t (c then d) e x s = starts_t c e x s ++ starts_t d e x (after_t c e x s)

-- host register h, stored at the place of guest register r or loaded from it; nothing for a free slot
abbrev pub at_place : Access → Layout → (h r : ℕ) → List Instr
at_place access lay h r = pick (eqb r FREE) [] (MemoryImm access (off_reg lay r / 4) CPU h ∷ [])

-- a guest register's way to a slot: nothing where it has one, else the spill, and its load if its value is asked for
abbrev pub seating : Layout → RegCache → (r : ℕ) → (load : Bool) → List Instr
seating lay rc r load = pick (is_held rc r) [] (spill lay rc ++ pick load (ldr (host (chosen rc)) CPU (off_reg lay r) ∷ []) [])
