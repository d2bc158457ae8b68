-- Memory after a helper call.
--     called-ram, called-map      RAM and the code map are the outcome's
--     called-context              the context has the outcome's break word and version
--     called_other                of the first eight regions the others are as they were
--     called-guards               the guards have the outcome's versions; called-outside: their other bytes are as they were
--     called-alike                the shape is the same, where the outcome's RAM and map have their lengths
-- Assumes nothing.
use mathlib.Core.Path.{◌≡◌, sym, ap, ◌∙◌, subst}
use mathlib.Core.Logic.{◌≢◌}
use mathlib.Core.List.{List}
use Prim.Native.Nat.{ℕ, ◌≤◌, ◌<◌}
use native.Mathlib.Omega.{arith}
use lib.ListN.{length, get_or, drop}
use Rattle.machine.specs.State.{Region, State, Request, Outcome, context, ram, map, guards}
use Rattle.machine.specs.Memory.{write_le, bytes_of, size_of, with_bytes}
use Rattle.machine.specs.Execute.{told, called}
use Rattle.machine.proofs.Bytes.{length-write_le}
use Rattle.machine.proofs.Versions.{renewed, versioned_other, versioned-alike, versioned-outside, versioned-renewed}
use Rattle.machine.proofs.Regions.{Alike, alike_trans, alike_with, bytes_same, bytes_other, length_with, drop_with}

module _ (q : Request) (o : Outcome) (os : List Outcome) (s : State) where
  -- the context's bytes, and the regions as they are written one behind another
  ctx : List ℕ
  ctx = told o (bytes_of s.mem context)

  broken : List Region
  unfolding ctx
  broken = with_bytes context ctx s.mem

  filled : List Region
  unfolding broken ctx
  filled = with_bytes ram o.ram broken

  mapped : List Region
  unfolding filled broken ctx
  mapped = with_bytes map o.map filled

  abbrev now : List Region
  now = (called q o os s).mem

  pub called-map : map < length s.mem → bytes_of now map ≡ o.map
  unfolding mapped filled broken ctx
  called-map h =
      versioned_other guards o.guards mapped map (omega arith)
      ∙ bytes_same map o.map filled
      (subst (λ n. map < n) (sym (length_with ram o.ram broken ∙ length_with context ctx s.mem)) h)

  pub called-ram : ram < length s.mem → bytes_of now ram ≡ o.ram
  unfolding mapped filled broken ctx
  called-ram h =
      versioned_other guards o.guards mapped ram (omega arith)
      ∙ bytes_other map o.map filled ram (omega arith)
      ∙ bytes_same ram o.ram broken (subst (λ n. ram < n) (sym (length_with context ctx s.mem)) h)

  pub called-context : context < length s.mem → bytes_of now context ≡ told o (bytes_of s.mem context)
  unfolding mapped filled broken ctx
  called-context h =
      versioned_other guards o.guards mapped context (omega arith)
      ∙ bytes_other map o.map filled context (omega arith)
      ∙ bytes_other ram o.ram broken context (omega arith)
      ∙ bytes_same context ctx s.mem h

  -- the regions before the guards' versions are written
  before : (k : ℕ) → k ≢ context → k ≢ ram → k ≢ map → bytes_of mapped k ≡ bytes_of s.mem k
  unfolding mapped filled broken ctx
  before k c r m = bytes_other map o.map filled k m ∙ bytes_other ram o.ram broken k r ∙ bytes_other context ctx s.mem k c

  pub called_other : (k : ℕ) → k < guards → k ≢ context → k ≢ ram → k ≢ map → bytes_of now k ≡ bytes_of s.mem k
  unfolding mapped filled broken ctx
  called_other k l c r m = versioned_other guards o.guards mapped k l ∙ before k c r m

  pub called-outside : (k i : ℕ) → guards ≤ k → 8 ≤ i → get_or (bytes_of now k) i 0 ≡ get_or (bytes_of s.mem k) i 0
  unfolding mapped filled broken ctx
  called-outside k i l n =
      versioned-outside guards o.guards mapped k i n ∙ ap (λ b. get_or b i 0) (before k (omega arith) (omega arith) (omega arith))

  pub called-guards : drop guards now ≡ renewed (drop guards s.mem) o.guards
  unfolding mapped filled broken ctx
  called-guards =
      versioned-renewed guards o.guards mapped
      ∙ ap (λ rs. renewed rs o.guards)
      (drop_with guards map o.map filled (omega arith)
      ∙ drop_with guards ram o.ram broken (omega arith)
      ∙ drop_with guards context ctx s.mem (omega arith))

  pub called-alike : length o.ram ≡ size_of s.mem ram → length o.map ≡ size_of s.mem map → Alike s.mem now
  unfolding mapped filled broken ctx
  called-alike e f =
      let l : List ℕ = bytes_of s.mem context in
      let a : Alike s.mem broken =
      alike_with context ctx s.mem (length-write_le (write_le l 24 4 o.brk) 40 8 o.version ∙ length-write_le l 24 4 o.brk) in
      let b : Alike s.mem filled = alike_trans a (alike_with ram o.ram broken (e ∙ sym (a.size ram))) in
      alike_trans (alike_trans b (alike_with map o.map filled (f ∙ sym (b.size map)))) (versioned-alike guards o.guards mapped)
