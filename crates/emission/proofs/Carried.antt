-- Code whose operands fit is emitted as it is meant.
use mathlib.Core.Path.{◌≡◌, refl, ap, ◌∙◌}
use mathlib.Core.List.{List, [], ◌∷◌, ◌++◌, map}
use Prim.Native.Nat.{ℕ}
use Rattle.arm.specs.declared.Instr.{Instr}
use Rattle.arm.specs.Instr.{encode, Carried}
use Rattle.words.specs.Answers.{word_of}
use Rattle.words.proofs.Answers.{carried-word}
use Rattle.code.specs.Items.{Item, ins, go, new, bind, Sound, label, literal}
use Rattle.code.specs.Tree.{Depth, Var, Code, code, lit, to, exit, block, start, ◌then◌, Fine, inside}
use Rattle.code.specs.Calls.{calls, next_l, bumped}
use Rattle.asm.specs.State.{State, word, put, run}
use Rattle.emission.specs.Total.{put_t, run_t}

-- every instruction among the items is carried
Good : List Item → Type 0
Good [] = Unit {0}
Good (ins i ∷ is) = Carried i × Good is
Good (go h p ∷ is) = Good is
Good (new ∷ is) = Good is
Good (bind l ∷ is) = Good is

good-append : (xs ys : List Item) → Good xs → Good ys → Good (xs ++ ys)
unfolding Good
good-append [] ys h k = k
good-append (ins i ∷ xs) ys h k = (h.0, good-append xs ys h.1 k)
good-append (go g p ∷ xs) ys h k = good-append xs ys h k
good-append (new ∷ xs) ys h k = good-append xs ys h k
good-append (bind l ∷ xs) ys h k = good-append xs ys h k

good-ins : (is : List Instr) → Sound is → Good (map ins is)
unfolding Good Sound
good-ins [] h = tt
good-ins (i ∷ is) h = (h.0, good-ins is h.1)

good-calls : {n : Depth} (c : Code n) (e : Var n → ℕ) (x l : ℕ) → Fine c → Good (calls c e x l)
unfolding Good calls Fine
good-calls (code is) e x l h = good-ins is h
good-calls (lit rt v) e x l h = tt
good-calls (to k v) e x l h = tt
good-calls (exit k) e x l h = tt
good-calls (block c) e x l h = good-append (calls c (inside l e) x (bumped l)) (bind l ∷ []) (good-calls c (inside l e) x (bumped l) h) tt
good-calls (start rd c) e x l h = good-append (calls c e x (bumped l)) _ (good-calls c e x (bumped l) h.1) tt
good-calls (c then d) e x l h = good-append (calls c e x l) (calls d e x (next_l c l)) (good-calls c e x l h.0) (good-calls d e x (next_l c l) h.1)

good-run : (is : List Item) (s : State) → Good is → run_t is s ≡ run is s
unfolding Good run_t run put_t put
good-run [] s h = refl
good-run (ins i ∷ is) s h = ap (λ w. run_t is (word w s)) (ap word_of (carried-word i h.0)) ∙ good-run is (word (encode i) s) h.1
good-run (go k (label l) ∷ is) s h = good-run is (put (go k (label l)) s) h
good-run (go k (literal v) ∷ is) s h = good-run is (put (go k (literal v)) s) h
good-run (new ∷ is) s h = good-run is (put new s) h
good-run (bind l ∷ is) s h = good-run is (put (bind l) s) h

-- THE TOTAL RUN IS THE RUN, of code whose operands fit
pub fine-run : {n : Depth} (c : Code n) (e : Var n → ℕ) (x l : ℕ) (s : State) → Fine c → run_t (calls c e x l) s ≡ run (calls c e x l) s
fine-run c e x l s h = good-run (calls c e x l) s (good-calls c e x l h)
