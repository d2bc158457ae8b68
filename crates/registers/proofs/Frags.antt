-- Code that falls off its end, put together.
--     frag_map, frag_pre, frag_with       what holds after and before
--     frag_nil, frag-one, frag_cons, frag_append     lists of instructions
--     frag_then, frag_block, frag_lit     trees
use mathlib.Core.Path.{◌≡◌, refl, ap, ◌∙◌}
use mathlib.Core.List.{List, [], ◌∷◌, ◌++◌}
use Prim.Native.Nat.{ℕ, ◌+◌}
use Rattle.arm.specs.declared.Instr.{Instr}
use Rattle.code.specs.Tree.{Depth, under, Code, code, lit, block, ◌then◌, words}
use Rattle.code.specs.Machine.{Machine, Eff, fall, stop, fell, and_then, caught, go_on, of_eff, straight, does}
use Rattle.relation.specs.Relation.{Frag}

-- what a list of instructions does, one list after another
pub straight-append : (M : Machine) (is js : List Instr) (s : M.State) → straight M (is ++ js) s ≡ go_on (straight M is s) (λ s₁. straight M js s₁)
unfolding straight
straight-append M [] js s = refl
straight-append M (i ∷ is) js s = by (λ s₁. straight-append M is js s₁) (M.exec i s)
  where
    by : ((s₁ : M.State) → straight M (is ++ js) s₁ ≡ go_on (straight M is s₁) (λ s₂. straight M js s₂)) → (f : Eff M.State M.Stop) → go_on f (λ s₁. straight M (is ++ js) s₁) ≡ go_on (go_on f (λ s₁. straight M is s₁)) (λ s₁. straight M js s₁)
    by rec (fall s₁) = rec s₁
    by rec (stop r) = refl

pub fell_is : {S R : Type 0} {n : Depth} (f : Eff S R) (s : S) → of_eff {n = n} f ≡ fell s → f ≡ fall s
fell_is (fall s₁) s h = cc
fell_is (stop r) s h = cc

module _ {M : Machine} {n : Depth} where
  pub frag_map : {f : Code n} {A B C : M.State → Type 0} → Frag M f A B → ((s : M.State) → B s → C s) → Frag M f A C
  frag_map p h = record { runs = λ q s w. let (s₁, r, w₁) = p.runs q s w in (s₁, r, h s₁ w₁) }

  pub frag_pre : {f : Code n} {A B C : M.State → Type 0} → ((s : M.State) → A s → B s) → Frag M f B C → Frag M f A C
  frag_pre h p = record { runs = λ q s w. p.runs q s (h s w) }

  -- what is known of the first state may be used
  pub frag_with : {f : Code n} {A B : M.State → Type 0} → ((s : M.State) → A s → Frag M f A B) → Frag M f A B
  frag_with h = record { runs = λ q s w. (h s w).runs q s w }

  pub frag_nil : {A : M.State → Type 0} → Frag M {n = n} (code []) A A
  unfolding does straight
  frag_nil = record { runs = λ q s w. (s, refl, w) }

  pub frag_then : {f g : Code n} {A B C : M.State → Type 0} → Frag M f A B → Frag M g B C → Frag M (f then g) A C
  unfolding does
  frag_then {f = f} {g = g} p q = record {
    runs = λ k s w.
        let (s₁, r₁, w₁) = p.runs k s w in
        let (s₂, r₂, w₂) = q.runs (k + words f) s₁ w₁ in
        (s₂, ap (λ o. and_then o (λ s₃. does M g (k + words f) s₃)) r₁ ∙ r₂, w₂);
  }

  pub frag_append : {is js : List Instr} {A B C : M.State → Type 0} → Frag M {n = n} (code is) A B → Frag M {n = n} (code js) B C → Frag M {n = n} (code (is ++ js)) A C
  unfolding does
  frag_append {is = is} {js = js} p q = record {
    runs = λ k s w.
        let (s₁, r₁, w₁) = p.runs k s w in
        let (s₂, r₂, w₂) = q.runs k s₁ w₁ in
        (s₂, ap (of_eff {n = n}) (straight-append M is js s ∙ ap (λ o. go_on o (λ s₃. straight M js s₃)) (fell_is {n = n} (straight M is s) s₁ r₁)) ∙ r₂, w₂);
  }

  -- one instruction, that makes f s of a state s
  pub frag-one : (i : Instr) (f : M.State → M.State) {A B : M.State → Type 0} → ((s : M.State) → A s → M.exec i s ≡ fall (f s)) → ((s : M.State) → A s → B (f s)) → Frag M {n = n} (code (i ∷ [])) A B
  unfolding does straight
  frag-one i f e h = record { runs = λ k s w. (f s, ap (λ o. of_eff {n = n} (go_on o (λ s₁. fall s₁))) (e s w), h s w) }

  pub frag_cons : {i : Instr} {is : List Instr} {A B C : M.State → Type 0} → Frag M {n = n} (code (i ∷ [])) A B → Frag M {n = n} (code is) B C → Frag M {n = n} (code (i ∷ is)) A C
  frag_cons p q = frag_append p q

  -- a literal's load
  pub frag_lit : (rt v : ℕ) {A B : M.State → Type 0} → ((s : M.State) → A s → B (M.loads rt v s)) → Frag M {n = n} (lit rt v) A B
  unfolding does
  frag_lit rt v h = record { runs = λ k s w. (M.loads rt v s, refl, h s w) }

  pub frag_block : {f : Code (under n)} {A B : M.State → Type 0} → Frag M f A B → Frag M (block f) A B
  unfolding does
  frag_block p = record { runs = λ k s w. let (s₁, r, w₁) = p.runs k s w in (s₁, ap caught r, w₁) }
