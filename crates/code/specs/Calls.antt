-- The calls that the code makes for structured code: its items, with the code's own count of labels, which stops at 2 ^ 20.
use Rattle.std.specs.Prelude.{List, [], ◌∷◌, ◌++◌, map, ℕ, suc, ltb}
use Rattle.code.specs.Items.{pick, adr, ldr, label, literal, Item, ins, go, new, bind}
use Rattle.code.specs.Tree.{Depth, Var, Code, code, lit, to, exit, block, start, ◌then◌, inside}

-- a count of the code's, one more
unfoldable pub bumped : ℕ → ℕ
bumped n = pick (ltb n 1048576) (suc n) n

-- the next label's number behind the code
unfoldable pub next_l : {n : Depth} → Code n → ℕ → ℕ
next_l (code is) l = l
next_l (lit rt v) l = l
next_l (to h v) l = l
next_l (exit h) l = l
next_l (block c) l = next_l c (bumped l)
next_l (start rd c) l = next_l c (bumped l)
next_l (c then d) l = next_l d (next_l c l)

-- from number l on; x is the exit's
unfoldable pub calls : {n : Depth} → Code n → (Var n → ℕ) → ℕ → ℕ → List Item
calls (code is) e x l = map ins is
calls (lit rt v) e x l = go (ldr rt) (literal v) ∷ []
calls (to h v) e x l = go h (label (e v)) ∷ []
calls (exit h) e x l = go h (label x) ∷ []
calls (block c) e x l = new ∷ (calls c (inside l e) x (bumped l) ++ (bind l ∷ []))
calls (start rd c) e x l = new ∷ bind l ∷ (calls c e x (bumped l) ++ (go (adr rd) (label l) ∷ []))
calls (c then d) e x l = calls c e x l ++ calls d e x (next_l c l)
