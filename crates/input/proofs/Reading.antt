-- What one more piece leaves of the input and in the buffer.
use Rattle.std.proofs.Common.{◌≡◌, ℕ, ◌+◌, ◌≤◌}
use Rattle.std.proofs.Common.{List, ◌++◌, length, take, drop, refl, ap, sym, ◌∙◌, append_assoc, arith}
use Rattle.std.proofs.Math.Seq.{take-append-add, length-sets}
use Rattle.std.proofs.lemmas.List.{take-append-le, take_at, length-take-le, length-append}
use Rattle.std.proofs.lemmas.List.Edits.{sets, sets-eq}
use Rattle.std.proofs.lemmas.Option.{same_Some}
use Rattle.std.specs.declared.option.Option.{Option}
use Rattle.std.specs.declared.option.Option.TheVariants.{None, Some}
use Rattle.std.specs.Io.KnownBytes.{Consumes}
use Rattle.text.specs.Put.{Kept}
use Rattle.input.specs.Input.{HoldsAll}

-- what is taken in two steps is taken in one
pub consumed : (a b c : Option (List ℕ)) (xs ys : List ℕ) → Consumes a b xs → Consumes b c ys → Consumes a c (xs ++ ys)
consumed None b c xs ys p q = tt
consumed (Some known) None c xs ys p q = absurd p
consumed (Some known) (Some left) None xs ys p q = absurd q
consumed (Some known) (Some left) (Some cs) xs ys p q = p ∙ ap (λ l. xs ++ l) q ∙ sym (append_assoc xs ys cs)

-- n of the bytes ys, put behind the first a of xs
pub behind :
    (a n : ℕ) (xs ys rest : List ℕ)
    → a ≤ length xs
    → n ≤ length ys
    → take (a + n) (take a xs ++ (ys ++ rest)) ≡ take a xs ++ take n ys
behind a n xs ys rest h g =
    ap (λ k. take (k + n) (take a xs ++ (ys ++ rest))) (sym (length-take-le a xs h))
    ∙ take-append-add (take a xs) (ys ++ rest) n
    ∙ ap (λ l. take a xs ++ l) (take-append-le n ys rest g)

-- bytes that were kept behind the first len of the buffer
pub starts :
    (buf part last : List ℕ) (len r : ℕ)
    → len ≤ length buf
    → Kept (Some len) buf part last (Some r)
    → (r ≤ length last) × (take r last ≡ take len buf ++ part)
starts buf part last len r h (n, e, fits, end, is) =
    let s : n ≡ len = sym (same_Some len n e) in
    let room : len + length part ≤ length buf = omega (arith, fits, s) in
    let to : r ≡ len + length part = omega (arith, end, s) in (
      omega (arith, to, room, ap length is, length-sets buf n part),
      ap (λ l. take r l) (is ∙ ap (λ k. sets buf k part) s ∙ sets-eq part buf len room)
          ∙ take_at (take len buf ++ part) (drop (len + length part) buf) r
          (length-append (take len buf) part ∙ ap (λ k. k + length part) (length-take-le len buf h) ∙ sym to),
    )

-- those that found no room there
pub too_long :
    (old new : Option (List ℕ)) (buf part last : List ℕ) (len : ℕ)
    → len ≤ length buf
    → Consumes old new (take len buf ++ part)
    → Kept (Some len) buf part last None
    → HoldsAll old last None
too_long old new buf part last len h p (is, small) =
    (take len buf ++ part, new, p, omega (arith, small len refl, ap length is, length-append (take len buf) part, length-take-le len buf h))
