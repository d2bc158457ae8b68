-- What an assembler wrote, piece by piece: the laws of After.antt, with the lent rooms.
use mathlib.Core.Path.{◌≡◌, refl, ap, ◌∙◌}
use mathlib.Core.List.{List, [], ◌++◌}
use Prim.Native.Nat.{ℕ}
use Rattle.arm.specs.declared.Instr.{Instr}
use Rattle.code.specs.Items.{Hole, adr, ldr, label, literal, go, new, bind}
use Rattle.code.specs.Tree.{Depth, under, Var, Code, code, lit, to, exit, block, start, ◌then◌, inside}
use Rattle.asm.specs.declared.Asm.{Asm}
use Rattle.asm.specs.declared.Label.{Label}
use Rattle.asm.specs.State.{state, label_of, put, Wrote}
use Rattle.asm.proofs.Wrote.{wrote-then, wrote-with}
use Rattle.emission.specs.Total.{emitted, after_t}
use Rattle.emission.proofs.After.{none, same, more, code-after, lit-after, to_after, exit-after, then-after, block-after, start-after}

pub writes-nothing : {a : Asm} → Wrote a (emitted [] (state a)) a
writes-nothing {a} = record { code = none (state a); words = refl; table = refl }

-- these instructions and then those
pub writes-more : (is js : List Instr) {a b c : Asm} → Wrote a (emitted is (state a)) b → Wrote b (emitted js (state b)) c
    → Wrote a (emitted (is ++ js) (state a)) c
writes-more is js {a} {b} {c} p q = wrote-with (wrote-then p q) (more is js (state a) (state b) (state c) p.code q.code)

-- the same instructions, said otherwise
pub writes-same : {is js : List Instr} {a b : Asm} → is ≡ js → Wrote a (emitted is (state a)) b → Wrote a (emitted js (state a)) b
writes-same {is} {js} {a} {b} e p = wrote-with p (same is js (state a) (state b) e p.code)

-- ---- each way to build code
module _ {n : Depth} (e : Var n → ℕ) (x : ℕ) where
  pub writes-code : (is : List Instr) {a b : Asm} → Wrote a (emitted is (state a)) b → Wrote a (after_t (code is) e x (state a)) b
  writes-code is {a} {b} p = wrote-with p (code-after e x is (state a) (state b) p.code)

  pub writes-lit : (rt v : ℕ) {a b : Asm} → Wrote a (put (go (ldr rt) (literal v)) (state a)) b → Wrote a (after_t (lit rt v) e x (state a)) b
  writes-lit rt v {a} {b} p = wrote-with p (lit-after e x rt v (state a) (state b) p.code)

  pub writes-to : (h : Hole) (v : Var n) {a b : Asm} → Wrote a (put (go h (label (e v))) (state a)) b → Wrote a (after_t (to h v) e x (state a)) b
  writes-to h v {a} {b} p = wrote-with p (to_after e x h v (state a) (state b) p.code)

  pub writes-exit : (h : Hole) {a b : Asm} → Wrote a (put (go h (label x)) (state a)) b → Wrote a (after_t (exit h) e x (state a)) b
  writes-exit h {a} {b} p = wrote-with p (exit-after e x h (state a) (state b) p.code)

  pub writes-then : (c d : Code n) {a b b' : Asm} → Wrote a (after_t c e x (state a)) b → Wrote b (after_t d e x (state b)) b'
      → Wrote a (after_t (c then d) e x (state a)) b'
  writes-then c d {a} {b} {b'} p q = wrote-with (wrote-then p q) (then-after e x c d (state a) (state b) (state b') p.code q.code)

  -- ---- with the label that `new_label` answers
  module _ {l : Label} {a b : Asm} (m : l ≡ label_of a.counts.labels) (p : Wrote a (put new (state a)) b) where
    pub writes-block : (c : Code (under n)) {b₁ b₂ : Asm} → Wrote b (after_t c (inside l.0 e) x (state b)) b₁ → Wrote b₁ (put (bind l.0) (state b₁)) b₂
        → Wrote a (after_t (block c) e x (state a)) b₂
    writes-block c {b₁} {b₂} q r =
        wrote-with (wrote-then p (wrote-then q r))
        (block-after e x c (state a) (state b) (state b₁) (state b₂) p.code
        (q.code ∙ ap (λ (k : Label). after_t c (inside k.0 e) x (state b)) m) (r.code ∙ ap (λ (k : Label). put (bind k.0) (state b₁)) m))

    pub writes-start : (rd : ℕ) (c : Code n) {b₁ b₂ b₃ : Asm} → Wrote b (put (bind l.0) (state b)) b₁ → Wrote b₁ (after_t c e x (state b₁)) b₂
        → Wrote b₂ (put (go (adr rd) (label l.0)) (state b₂)) b₃ → Wrote a (after_t (start rd c) e x (state a)) b₃
    writes-start rd c {b₁} {b₂} {b₃} q r u =
        wrote-with (wrote-then p (wrote-then q (wrote-then r u)))
        (start-after e x rd c (state a) (state b) (state b₁) (state b₂) (state b₃) p.code
        (q.code ∙ ap (λ (k : Label). put (bind k.0) (state b)) m) r.code (u.code ∙ ap (λ (k : Label). put (go (adr rd) (label k.0)) (state b₂)) m))
