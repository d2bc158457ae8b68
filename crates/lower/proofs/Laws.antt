-- Lists of steps, lowered one behind another, and what they leave.
use mathlib.Core.Path.{refl, sym, ap, ◌∙◌}
use mathlib.Core.List.{List, [], ◌++◌}
use Rattle.lowering.specs.Steps.{Step}
use Rattle.asm.specs.declared.Asm.{Asm}
use Rattle.asm.specs.State.{state}
use Rattle.emission.specs.declared.Gen.{Gen}
use Rattle.emission.specs.Gen.{given_of}
use Rattle.stepping.specs.Done.{Generated, steps_done}
use Rattle.stepping.proofs.Steps.{steps_append, done_is}
use Rattle.lower.specs.Lowers.{ats_of, targets_of, generated, Lowers, Leaves}

module _ {a : Asm} {q : Gen} where
  -- no step
  pub none_lowers : Lowers [] a q a q
  unfolding steps_done
  none_lowers = record { done = refl }

  -- these and then those
  pub then_lowers : {xs ys : List Step} {b c : Asm} {r u : Gen} → Lowers xs a q b r → Lowers ys b r c u → Lowers (xs ++ ys) a q c u
  then_lowers {xs} {ys} h k = record { done = k.done ∙ ap (steps_done ys) h.done ∙ sym (steps_append xs ys (generated a q)) }

-- five lists of steps, one behind another
pub lower5 : {l₁ l₂ l₃ l₄ l₅ : List Step} {a₀ a₁ a₂ a₃ a₄ a₅ : Asm} {q₀ q₁ q₂ q₃ q₄ q₅ : Gen} → Lowers l₁ a₀ q₀ a₁ q₁ → Lowers l₂ a₁ q₁ a₂ q₂
    → Lowers l₃ a₂ q₂ a₃ q₃ → Lowers l₄ a₃ q₃ a₄ q₄ → Lowers l₅ a₄ q₄ a₅ q₅ → Lowers (l₁ ++ (l₂ ++ (l₃ ++ (l₄ ++ l₅)))) a₀ q₀ a₅ q₅
lower5 h₁ h₂ h₃ h₄ h₅ = then_lowers h₁ (then_lowers h₂ (then_lowers h₃ (then_lowers h₄ h₅)))

-- ALL OF THEM
pub lowers-leaves : (ss : List Step) (a b : Asm) (q r : Gen) → Lowers ss a q b r → Leaves ss a q b r
unfolding generated
lowers-leaves ss a b q r h =
    let e = h.done ∙ done_is a.words.ghost_name a.table.ghost_name (given_of q) ss (state a) q.rc (ats_of q.sites) (targets_of q.sites) in
    record {
      wrote = record { code = ap (λ (s : Generated). s.code) e; words = ap (λ (s : Generated). s.words) e; table = ap (λ (s : Generated). s.table) e };
      given = ap (λ (s : Generated). s.given) e;
      cache = ap (λ (s : Generated). s.cache) e;
      ats = ap (λ (s : Generated). s.ats) e;
      targets = ap (λ (s : Generated). s.targets) e;
    }
