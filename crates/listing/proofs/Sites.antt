-- The lines of the sites, one by one.
use Prim.Native.Nat.{ℕ, ◌+◌, ◌≤◌, ◌<◌}
use mathlib.Core.Path.{◌≡◌}
use mathlib.Core.List.{List, [], ◌++◌}
use native.Mathlib.Numerals.{add-one}
use lib.ListN.{length, get_or, drop, drop_of_length-le}
use lib.Seq.{drop-cons}
use Rattle.text.specs.declared.put.Buffer.{Buffer}
use Rattle.text.specs.Buffer.{Puts}
use Rattle.text.proofs.Placed.{nothing, then}
use Rattle.lowering.specs.declared.Site.{Site}
use Rattle.listing.specs.Listing.{site_line, site_lines}

module _ (sites : List Site) (i : ℕ) where
  more :
      (d : Site)
      → i < length sites
      → site_lines (drop i sites)
      ≡ site_line (get_or sites i d).at (get_or sites i d).target ++ site_lines (drop (i + 1) sites)
  unfolding site_lines
  more d h = rw (add-one i, drop-cons sites i d h)

  none_left : length sites ≤ i → site_lines (drop i sites) ≡ []
  unfolding site_lines
  none_left h = rw (drop_of_length-le sites h)

-- the sites from i on are all that is left to put
pub record Left (sites : List Site) (a b : Buffer) (i : ℕ) : Type 0 where
  pub rest : (c : Buffer) → Puts (site_lines (drop i sites)) b c → Puts (site_lines sites) a c

pub start : (sites : List Site) (a : Buffer) → Left sites a a 0
start sites a = record { rest = λ c p. p }

module _ (sites : List Site) (a b : Buffer) (i : ℕ) (l : Left sites a b i) where
  pub step :
      (c : Buffer)
      → (d : Site)
      → i < length sites
      → Puts (site_line (get_or sites i d).at (get_or sites i d).target) b c
      → Left sites a c (i + 1)
  step c d h p = record { rest = λ e q. l.rest e (rw (more sites i d h) (then p q)) }

  pub done : length sites ≤ i → Puts (site_lines sites) a b
  done h = l.rest b (rw (none_left sites i h) (nothing b))
