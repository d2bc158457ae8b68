-- The calls are the items while the count of labels is below its end.
use mathlib.Core.Path.{◌≡◌, refl, ap, ap₂, ◌∙◌}
use mathlib.Core.List.{List, [], ◌∷◌, ◌++◌}
use Prim.Native.Nat.{ℕ, suc, ◌+◌, ◌<◌, ◌≤◌}
use native.Mathlib.Omega.{arith}
use borrow.Author.Tests.{lt-ltb}
use Rattle.code.specs.Items.{adr, label, Item, go, new, bind}
use Rattle.code.specs.Tree.{Depth, Var, Code, code, lit, to, exit, block, start, ◌then◌, inside, labels, items, after}
use Rattle.code.specs.Calls.{bumped, next_l, calls}
use Rattle.code.proofs.Tree.{after_is}

pub bump : (n : ℕ) → n < 1048576 → bumped n ≡ suc n
unfolding bumped
bump n h = rw (lt-ltb n 1048576 h)

next_is : {n : Depth} (c : Code n) (l : ℕ) → labels c + l ≤ 1048576 → next_l c l ≡ after c l
unfolding next_l after labels
next_is (code is) l h = refl
next_is (lit rt v) l h = refl
next_is (to k v) l h = refl
next_is (exit k) l h = refl
next_is (block c) l h = ap (next_l c) (bump l (omega arith)) ∙ next_is c (suc l) (omega arith)
next_is (start rd c) l h = ap (next_l c) (bump l (omega arith)) ∙ next_is c (suc l) (omega arith)
next_is (c then d) l h = ap (next_l d) (next_is c l (omega arith)) ∙ next_is d (after c l) (omega (arith, after_is c l))

pub calls_are : {n : Depth} (c : Code n) (e : Var n → ℕ) (x l : ℕ) → labels c + l ≤ 1048576 → calls c e x l ≡ items c e x l
unfolding calls items labels
calls_are (code is) e x l h = refl
calls_are (lit rt v) e x l h = refl
calls_are (to k v) e x l h = refl
calls_are (exit k) e x l h = refl
calls_are (block c) e x l h =
    ap (λ (is : List Item). new ∷ (is ++ (bind l ∷ [])))
    (ap (calls c (inside l e) x) (bump l (omega arith)) ∙ calls_are c (inside l e) x (suc l) (omega arith))
calls_are (start rd c) e x l h =
    ap (λ (is : List Item). new ∷ bind l ∷ (is ++ (go (adr rd) (label l) ∷ [])))
    (ap (calls c e x) (bump l (omega arith)) ∙ calls_are c e x (suc l) (omega arith))
calls_are (c then d) e x l h =
    ap₂ (λ (a b : List Item). a ++ b) (calls_are c e x l (omega arith))
    (ap (calls d e x) (next_is c l (omega arith)) ∙ calls_are d e x (after c l) (omega (arith, after_is c l)))
