-- The position behind emitted code, and its sites: those of the definition, while the count of words does not stop.
use mathlib.Core.Path.{◌≡◌, refl, ap, ap₂, ◌∙◌}
use mathlib.Core.List.{List, [], ◌∷◌, ◌++◌}
use Prim.Native.Nat.{ℕ, suc, ◌+◌, ◌≤◌}
use native.Mathlib.Omega.{arith}
use Rattle.code.specs.Items.{size, index, label, literal, Item, ins, go, new, bind}
use Rattle.code.specs.Tree.{Depth, Var, Code, code, lit, to, exit, block, start, ◌then◌, inside, words}
use Rattle.code.specs.Calls.{bumped, calls}
use Rattle.code.proofs.Calls.{bump}
use Rattle.lowering.specs.Compile.{starts}
use Rattle.asm.specs.State.{State, word, put, made, fixed, held}
use Rattle.asm.proofs.Laws.{keep-at, calls-size}
use Rattle.emission.specs.Total.{put_t, run_t, after_t, starts_t}

at_run : (is : List Item) (s : State) → s.asm.at + size is ≤ 1048576 → (run_t is s).asm.at ≡ s.asm.at + size is
unfolding run_t put_t put word fixed made size
at_run [] s h = omega arith
at_run (ins i ∷ is) s h = at_run is (put_t (ins i) s) (omega (arith, bump s.asm.at (omega arith))) ∙ omega (arith, bump s.asm.at (omega arith))
at_run (go g (label l) ∷ is) s h = at_run is (put (go g (label l)) s) (omega (arith, bump s.asm.at (omega arith))) ∙ omega (arith, bump s.asm.at (omega arith))
at_run (go g (literal v) ∷ is) s h =
    let e : (put (go g (literal v)) s).asm.at ≡ suc s.asm.at = ap bumped (keep-at (index v (held s)) v s) ∙ bump s.asm.at (omega arith) in
    at_run is (put (go g (literal v)) s) (omega (arith, e)) ∙ omega (arith, e)
at_run (new ∷ is) s h = at_run is (put new s) h
at_run (bind l ∷ is) s h = at_run is (put (bind l) s) h

-- as many words further
pub at_after : {n : Depth} (c : Code n) (e : Var n → ℕ) (x : ℕ) (s : State) → s.asm.at + words c ≤ 1048576 → (after_t c e x s).asm.at ≡ s.asm.at + words c
unfolding after_t
at_after c e x s h =
    let q : size (calls c e x s.asm.labels) ≡ words c = calls-size c e x s.asm.labels in
    at_run (calls c e x s.asm.labels) s (omega (arith, q)) ∙ omega (arith, q)

-- THE SITES ARE THE DEFINITION'S
pub starts_are : {n : Depth} (c : Code n) (e : Var n → ℕ) (x : ℕ) (s : State) → s.asm.at + words c ≤ 1048576 → starts_t c e x s ≡ starts c s.asm.at
unfolding starts_t starts words put_t put made
starts_are (code is) e x s h = refl
starts_are (lit rt v) e x s h = refl
starts_are (to k v) e x s h = refl
starts_are (exit k) e x s h = refl
starts_are (block c) e x s h = starts_are c (inside s.asm.labels e) x (put_t new s) h
starts_are (start rd c) e x s h = ap (λ ps. s.asm.at ∷ ps) (starts_are c e x (put_t (bind s.asm.labels) (put_t new s)) (omega arith))
starts_are (c then d) e x s h =
    let q : (after_t c e x s).asm.at ≡ s.asm.at + words c = at_after c e x s (omega arith) in
    ap₂ ◌++◌ (starts_are c e x s (omega arith)) (starts_are d e x (after_t c e x s) (omega (arith, q)) ∙ ap (starts d) q)
