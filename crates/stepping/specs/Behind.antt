-- The register cache behind a list of steps.
use Rattle.std.specs.Prelude.{List, [], ◌∷◌}
use Rattle.lowering.specs.declared.RegCache.{RegCache}
use Rattle.lowering.specs.Steps.{Step}
use Rattle.lowering.specs.Fragments.{step_cache}

unfoldable pub cache_behind : RegCache → List Step → RegCache
cache_behind rc [] = rc
cache_behind rc (s ∷ ss) = cache_behind (step_cache rc s) ss
