-- The chain sites that a generator has, in the order in which they were emitted.
use Rattle.std.specs.Prelude.{List, [], ◌∷◌}
use Rattle.lowering.specs.declared.Site.{Site}
use Rattle.emission.specs.declared.Sites.{Sites}
use Rattle.emission.specs.declared.Sites.TheVariants.{None, One, Two}

abbrev pub listed : Sites → List Site
listed None = []
listed (One s) = s ∷ []
listed (Two s t) = s ∷ t ∷ []
