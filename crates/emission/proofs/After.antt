-- Structured code, as it is emitted piece by piece: a law for each way to build it.
use mathlib.Core.Path.{◌≡◌, refl, sym, ap, ◌∙◌}
use mathlib.Core.List.{List, [], ◌∷◌, ◌++◌, map, map-append}
use Prim.Native.Nat.{ℕ}
use Rattle.arm.specs.declared.Instr.{Instr}
use Rattle.code.specs.Items.{Hole, adr, ldr, label, literal, Item, ins, go, new, bind, index}
use Rattle.code.specs.Tree.{Depth, under, Var, Code, code, lit, to, exit, block, start, ◌then◌, inside}
use Rattle.code.specs.Calls.{calls, next_l, bumped}
use Rattle.asm.specs.State.{State, word, put, made, fixed, held, keep_at}
use Rattle.asm.proofs.Laws.{keep-labels}
use Rattle.emission.specs.Total.{put_t, run_t, emitted, after_t, starts_t}

pub run_t-append : (xs ys : List Item) (s : State) → run_t (xs ++ ys) s ≡ run_t ys (run_t xs s)
unfolding run_t
run_t-append [] ys s = refl
run_t-append (i ∷ xs) ys s = run_t-append xs ys (put_t i s)

-- ---- the code's count of labels
made_ins : (is : List Instr) (s : State) → (run_t (map ins is) s).asm.labels ≡ s.asm.labels
unfolding run_t put_t word
made_ins [] s = refl
made_ins (i ∷ is) s = made_ins is (put_t (ins i) s)

made_is : {n : Depth} (c : Code n) (e : Var n → ℕ) (x l : ℕ) (s : State) → s.asm.labels ≡ l → (run_t (calls c e x l) s).asm.labels ≡ next_l c l
unfolding run_t put_t put fixed made keep_at calls next_l
made_is (code is) e x l s q = made_ins is s ∙ q
made_is (lit rt v) e x l s q = keep-labels (index v (held s)) v s ∙ q
made_is (to h v) e x l s q = q
made_is (exit h) e x l s q = q
made_is (block c) e x l s q = ap (λ (t : State). t.asm.labels) (run_t-append (calls c (inside l e) x (bumped l)) (bind l ∷ []) (put_t new s)) ∙ made_is c (inside l e) x (bumped l) (put_t new s) (ap bumped q)
made_is (start rd c) e x l s q = ap (λ (t : State). t.asm.labels) (run_t-append (calls c e x (bumped l)) (go (adr rd) (label l) ∷ []) (put_t (bind l) (put_t new s))) ∙ made_is c e x (bumped l) (put_t (bind l) (put_t new s)) (ap bumped q)
made_is (c then d) e x l s q = ap (λ (t : State). t.asm.labels) (run_t-append (calls c e x l) (calls d e x (next_l c l)) s) ∙ made_is d e x (next_l c l) (run_t (calls c e x l) s) (made_is c e x l s q)

-- ---- instructions
pub none : (s : State) → s ≡ emitted [] s
unfolding emitted run_t
none s = refl

-- these and then those
pub more : (is js : List Instr) (s s₁ s₂ : State) → s₁ ≡ emitted is s → s₂ ≡ emitted js s₁ → s₂ ≡ emitted (is ++ js) s
unfolding emitted
more is js s s₁ s₂ p q = q ∙ ap (run_t (map ins js)) p ∙ sym (run_t-append (map ins is) (map ins js) s) ∙ ap (λ xs. run_t xs s) (sym (map-append ins is js))

-- the same instructions, said otherwise
pub same : (is js : List Instr) (s s₁ : State) → is ≡ js → s₁ ≡ emitted is s → s₁ ≡ emitted js s
same is js s s₁ e p = p ∙ ap (λ xs. emitted xs s) e

-- ---- each way to build code
module _ {n : Depth} (e : Var n → ℕ) (x : ℕ) where
  pub code-after : (is : List Instr) (s s₁ : State) → s₁ ≡ emitted is s → s₁ ≡ after_t (code is) e x s
  unfolding emitted after_t calls
  code-after is s s₁ p = p

  pub lit-after : (rt v : ℕ) (s s₁ : State) → s₁ ≡ put (go (ldr rt) (literal v)) s → s₁ ≡ after_t (lit rt v) e x s
  unfolding after_t calls run_t put_t
  lit-after rt v s s₁ p = p

  pub to_after : (h : Hole) (v : Var n) (s s₁ : State) → s₁ ≡ put (go h (label (e v))) s → s₁ ≡ after_t (to h v) e x s
  unfolding after_t calls run_t put_t
  to_after h v s s₁ p = p

  pub exit-after : (h : Hole) (s s₁ : State) → s₁ ≡ put (go h (label x)) s → s₁ ≡ after_t (exit h) e x s
  unfolding after_t calls run_t put_t
  exit-after h s s₁ p = p

  pub then-after : (c d : Code n) (s s₁ s₂ : State) → s₁ ≡ after_t c e x s → s₂ ≡ after_t d e x s₁ → s₂ ≡ after_t (c then d) e x s
  unfolding after_t calls
  then-after c d s s₁ s₂ p q =
      q ∙ ap (λ t. run_t (calls d e x t.asm.labels) t) p ∙ ap (λ m. run_t (calls d e x m) (run_t (calls c e x s.asm.labels) s)) (made_is c e x s.asm.labels s refl)
      ∙ sym (run_t-append (calls c e x s.asm.labels) (calls d e x (next_l c s.asm.labels)) s)

  pub block-after : (c : Code (under n)) (s s₁ s₂ s₃ : State) → s₁ ≡ put new s → s₂ ≡ after_t c (inside s.asm.labels e) x s₁ → s₃ ≡ put (bind s.asm.labels) s₂ → s₃ ≡ after_t (block c) e x s
  unfolding after_t calls run_t put_t put made
  block-after c s s₁ s₂ s₃ p q r =
      r ∙ ap (put (bind s.asm.labels)) (q ∙ ap (λ t. run_t (calls c (inside s.asm.labels e) x t.asm.labels) t) p)
      ∙ sym (run_t-append (calls c (inside s.asm.labels e) x (bumped s.asm.labels)) (bind s.asm.labels ∷ []) (put new s))

  pub start-after : (rd : ℕ) (c : Code n) (s s₁ s₂ s₃ s₄ : State) → s₁ ≡ put new s → s₂ ≡ put (bind s.asm.labels) s₁ → s₃ ≡ after_t c e x s₂ → s₄ ≡ put (go (adr rd) (label s.asm.labels)) s₃ → s₄ ≡ after_t (start rd c) e x s
  unfolding after_t calls run_t put_t put made
  start-after rd c s s₁ s₂ s₃ s₄ p q r t =
      t ∙ ap (put (go (adr rd) (label s.asm.labels))) (r ∙ ap (λ u. run_t (calls c e x u.asm.labels) u) (q ∙ ap (put (bind s.asm.labels)) p))
      ∙ sym (run_t-append (calls c e x (bumped s.asm.labels)) (go (adr rd) (label s.asm.labels) ∷ []) (put (bind s.asm.labels) (put new s)))

  -- ---- the sites of code in pieces
  pub then-starts : (c d : Code n) (s s₁ : State) → s₁ ≡ after_t c e x s → starts_t (c then d) e x s ≡ starts_t c e x s ++ starts_t d e x s₁
  unfolding starts_t
  then-starts c d s s₁ p = ap (λ t. starts_t c e x s ++ starts_t d e x t) (sym p)
