-- Laws for contracts: one call as an item, a literal's place, and a whole block as its items.
use mathlib.Core.Path.{◌≡◌, refl, sym, ap, ◌∙◌}
use mathlib.Core.List.{List, [], ◌∷◌, ◌++◌, map}
use Prim.Native.Nat.{ℕ, suc, ◌+◌, ◌≤◌}
use native.Mathlib.Omega.{arith}
use mathlib.Core.Bool.{Bool, true, false}
use lib.Dec.{ltb}
use lib.IntN.{pos}
use lib.ListN.{set, length}
use Rattle.arm.specs.declared.Instr.{Instr}
use Rattle.arm.specs.Instr.{encode}
use Rattle.code.specs.Items.{size, pick, Hole, adr, fill, label, Item, ins, go, new, bind}
use Rattle.code.specs.Emit.{kind}
use Rattle.code.specs.Tree.{Depth, top, Var, Code, code, lit, to, exit, block, start, ◌then◌, inside, words, labels, items}
use Rattle.code.specs.Tree.{nowhere, whole_items}
use Rattle.code.specs.Calls.{bumped, next_l, calls}
use Rattle.code.proofs.Calls.{calls_are}
use Rattle.code.proofs.Tree.{size-append}
use Rattle.asm.specs.declared.Asm.{Asm}
use Rattle.asm.specs.declared.Counts.{Counts}
use Rattle.asm.specs.declared.Label.{Label}
use Rattle.asm.specs.declared.Reference.TheVariants.{ToLabel}
use Rattle.asm.specs.State.{literal_room, literals_at, State, parts, state, Wrote, counts, begin, kept, keep_at, made, fixed, put, run}
use Rattle.asm.proofs.Wrote.{wrote-as}

-- ---- one call as an item
pub go-put : {a b : Asm} (h : Hole) (l : Label) (w : ℕ) → w ≡ encode (fill h (pos 0)) → Wrote a (fixed (ToLabel l (kind h)) w (state a)) b
    → Wrote a (put (go h (label l.0)) (state a)) b
unfolding put
go-put {a} h l w e p = wrote-as p (ap (λ x. fixed (ToLabel l (kind h)) x (state a)) e)

-- ---- the counts behind a literal
-- a literal is kept or not: what holds both ways
keep_case : (P : State → Type 0) (i v : ℕ) (s : State) → P s → P (parts s.words (set s.tab (literals_at + kept s) v) (counts s.asm.at s.asm.labels s.asm.fixups (suc (kept s)))) → P (keep_at i v s)
unfolding keep_at
keep_case P i v s a b = by (ltb i (kept s)) (ltb (kept s) literal_room)
  where
    by : (t r : Bool) → P (pick t s (pick r (parts s.words (set s.tab (literals_at + kept s) v) (counts s.asm.at s.asm.labels s.asm.fixups (suc (kept s)))) s))
    by true r = a
    by false true = b
    by false false = a

pub keep-labels : (i v : ℕ) (s : State) → (keep_at i v s).asm.labels ≡ s.asm.labels
keep-labels i v s = keep_case (λ t. t.asm.labels ≡ s.asm.labels) i v s refl refl

pub keep-at : (i v : ℕ) (s : State) → (keep_at i v s).asm.at ≡ s.asm.at
keep-at i v s = keep_case (λ t. t.asm.at ≡ s.asm.at) i v s refl refl

-- ---- a block: its body, then the common exit
run-append : (xs ys : List Item) (s : State) → run (xs ++ ys) s ≡ run ys (run xs s)
unfolding run
run-append [] ys s = refl
run-append (x ∷ xs) ys s = run-append xs ys (put x s)

pub whole_run : (c : Code top) (end : List Instr) (s s₁ s₂ s₃ s₄ : State) → s.asm ≡ begin → suc (labels c) ≤ 1048576
    → s₁ ≡ put new s → s₂ ≡ run (calls c nowhere 0 s₁.asm.labels) s₁ → s₃ ≡ put (bind 0) s₂ → s₄ ≡ run (map ins end) s₃
    → s₄ ≡ run (whole_items c end) s
unfolding whole_items run put made bumped
whole_run c end s s₁ s₂ s₃ s₄ z h p q r t =
    let first : s₂ ≡ run (items c nowhere 0 1) (put new s) =
    q ∙ ap (λ u. run (calls c nowhere 0 u.asm.labels) u) p
    ∙ ap (λ m. run (calls c nowhere 0 m) (put new s)) (ap (λ (a : Counts). bumped a.labels) z)
    ∙ ap (λ is. run is (put new s)) (calls_are c nowhere 0 1 (omega arith)) in
    t ∙ ap (run (map ins end)) (r ∙ ap (put (bind 0)) first)
    ∙ sym (run-append (items c nowhere 0 1) (bind 0 ∷ map ins end) (put new s))

-- ---- as many words as the code has
pub calls-size : {n : Depth} (c : Code n) (e : Var n → ℕ) (x l : ℕ) → size (calls c e x l) ≡ words c
unfolding size calls words
calls-size (code is) e x l = ins-size is
  where
    ins-size : (is : List Instr) → size (map ins is) ≡ length is
    ins-size [] = refl
    ins-size (i ∷ is) = ap suc (ins-size is)
calls-size (lit rt v) e x l = refl
calls-size (to h v) e x l = refl
calls-size (exit h) e x l = refl
calls-size (block c) e x l = size-append (calls c (inside l e) x (bumped l)) (bind l ∷ []) ∙ omega (arith, calls-size c (inside l e) x (bumped l))
calls-size (start rd c) e x l = size-append (calls c e x (bumped l)) (go (adr rd) (label l) ∷ []) ∙ omega (arith, calls-size c e x (bumped l))
calls-size (c then d) e x l = size-append (calls c e x l) (calls d e x (next_l c l)) ∙ omega (arith, calls-size c e x l, calls-size d e x (next_l c l))
