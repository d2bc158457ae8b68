-- What lowering a list of steps leaves: the words, the register cache, and the chain sites.
use Rattle.std.specs.Prelude.{◌≡◌, List, ℕ, map}
use Rattle.code.specs.Tree.{nowhere}
use Rattle.lowering.specs.Steps.{Step}
use Rattle.lowering.specs.Fragments.{steps_code}
use Rattle.lowering.specs.Compile.{targets}
use Rattle.asm.specs.declared.Asm.{Asm}
use Rattle.asm.specs.State.{state, Wrote}
use Rattle.emission.specs.declared.Gen.{Gen}
use Rattle.emission.specs.declared.Sites.{Sites}
use Rattle.emission.specs.Gen.{given_of}
use Rattle.emission.specs.Sites.{listed}
use Rattle.emission.specs.Total.{after_t, starts_t}
use Rattle.stepping.specs.Behind.{cache_behind}
use Rattle.stepping.specs.Done.{Generated, steps_done}
pub use Rattle.stepping.specs.Done.{kept}

-- the sites' positions, and the guest addresses that they go on at
abbrev pub ats_of : Sites → List ℕ
ats_of s = map (λ x. x.at) (listed s)

abbrev pub targets_of : Sites → List ℕ
targets_of s = map (λ x. x.target) (listed s)

-- what an assembler and a generator have so far
unfoldable pub generated : Asm → Gen → Generated
generated a g =
    record {
      code = state a;
      words = a.words.ghost_name;
      table = a.table.ghost_name;
      given = given_of g;
      cache = g.rc;
      ats = ats_of g.sites;
      targets = targets_of g.sites;
    }

-- FROM the assembler a and the generator q TO b and r
pub record Lowers (ss : List Step) (a : Asm) (q : Gen) (b : Asm) (r : Gen) : Type 0 where
  pub done : generated b r ≡ steps_done ss (generated a q)

-- the same by its parts (proofs/Laws.antt, `lowers-leaves`): the code of all steps, as the definition has it
pub record Leaves (ss : List Step) (a : Asm) (q : Gen) (b : Asm) (r : Gen) : Type 0 where
  pub wrote : Wrote a (after_t (steps_code (given_of q) q.rc ss) nowhere 0 (state a)) b
  pub given : given_of r ≡ given_of q
  pub cache : r.rc ≡ cache_behind q.rc ss
  pub ats : ats_of r.sites ≡ kept (ats_of q.sites) (starts_t (steps_code (given_of q) q.rc ss) nowhere 0 (state a))
  pub targets : targets_of r.sites ≡ kept (targets_of q.sites) (targets ss)
