-- Code that goes behind a block around it.
--     Goes                            so it ends, with what holds then
--     goes_after, goes_before         code in front of it, and code that it passes over
--     goes_if, frag_unless            a jump that is taken, and one that is not
--     block_here, block_on            behind the block that it stands in, and behind one around that
use mathlib.Core.Path.{◌≡◌, ap, ◌∙◌}
use mathlib.Core.Bool.{true, false}
use Prim.Native.Nat.{ℕ, ◌+◌}
use Rattle.code.specs.Items.{pick, Hole}
use Rattle.code.specs.Tree.{Depth, under, Var, inner, outer, Code, to, block, ◌then◌, words}
use Rattle.code.specs.Machine.{Machine, fell, went, and_then, caught, does}
use Rattle.relation.specs.Relation.{Frag}

pub record Goes (M : Machine) {n : Depth} (f : Code n) (v : Var n) (A B : M.State → Type 0) : Type 0 where
  pub runs : (p : ℕ) (s : M.State) → A s → (s' : M.State) × (does M f p s ≡ went v s') × B s'

module _ {M : Machine} {n : Depth} where
  pub goes_map : {f : Code n} {v : Var n} {A B C : M.State → Type 0} → Goes M f v A B → ((s : M.State) → B s → C s) → Goes M f v A C
  goes_map p h = record { runs = λ q s w. let (s₁, r, w₁) = p.runs q s w in (s₁, r, h s₁ w₁) }

  pub goes_after : {f g : Code n} {v : Var n} {A B C : M.State → Type 0} → Frag M f A B → Goes M g v B C → Goes M (f then g) v A C
  unfolding does
  goes_after {f = f} {g = g} p q = record {
    runs = λ k s w.
        let (s₁, r₁, w₁) = p.runs k s w in
        let (s₂, r₂, w₂) = q.runs (k + words f) s₁ w₁ in
        (s₂, ap (λ o. and_then o (λ s₃. does M g (k + words f) s₃)) r₁ ∙ r₂, w₂);
  }

  pub goes_before : {f g : Code n} {v : Var n} {A B : M.State → Type 0} → Goes M f v A B → Goes M (f then g) v A B
  unfolding does
  goes_before {f = f} {g = g} p = record {
    runs = λ k s w.
        let (s₁, r₁, w₁) = p.runs k s w in
        (s₁, ap (λ o. and_then o (λ s₃. does M g (k + words f) s₃)) r₁, w₁);
  }

  pub goes_if : (x : Hole) (v : Var n) {A : M.State → Type 0} → ((s : M.State) → A s → M.taken x s ≡ true) → Goes M (to x v) v A A
  unfolding does
  goes_if x v h = record { runs = λ k s w. (s, ap (λ t. pick t (went v s) (fell s)) (h s w), w) }

  pub frag_unless : (x : Hole) (v : Var n) {A : M.State → Type 0} → ((s : M.State) → A s → M.taken x s ≡ false) → Frag M (to x v) A A
  unfolding does
  frag_unless x v h = record { runs = λ k s w. (s, ap (λ t. pick t (went v s) (fell s)) (h s w), w) }

  pub block_here : {f : Code (under n)} {A B : M.State → Type 0} → Goes M f inner A B → Frag M (block f) A B
  unfolding does
  block_here p = record { runs = λ k s w. let (s₁, r, w₁) = p.runs k s w in (s₁, ap caught r, w₁) }

  pub block_on : {f : Code (under n)} {v : Var n} {A B : M.State → Type 0} → Goes M f (outer v) A B → Goes M (block f) v A B
  unfolding does
  block_on p = record { runs = λ k s w. let (s₁, r, w₁) = p.runs k s w in (s₁, ap caught r, w₁) }
