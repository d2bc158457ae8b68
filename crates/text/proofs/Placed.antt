-- Bytes put one behind the other.
use Prim.Native.Nat.{ℕ, suc, ◌+◌}
use mathlib.Core.Path.{◌≡◌, refl, ap, sym, ◌∙◌}
use mathlib.Core.List.{List, [], ◌∷◌, ◌++◌}
use native.Mathlib.Nat.{add-zero, add-suc, suc-add}
use native.Mathlib.Omega.{arith}
use lib.ListN.{length, set, length-append}
use lib.Seq.{sets, length-sets}
use Rattle.text.specs.declared.put.Buffer.{Buffer}
use Rattle.text.specs.Buffer.{PutsAll, Puts}

sets_append : (xs ys out : List ℕ) (j : ℕ) → sets out j (xs ++ ys) ≡ sets (sets out j xs) (j + length xs) ys
sets_append [] ys out j = rw add-zero
sets_append (x ∷ xs) ys out j =
    sets_append xs ys (set out j x) (suc j)
    ∙ ap (λ (k : ℕ). sets (sets (set out j x) (suc j) xs) k ys) (suc-add j (length xs) ∙ sym (add-suc j (length xs)))

-- what `put` leaves
pub puts : (bytes : List ℕ) (a b : Buffer) → PutsAll bytes a b → Puts bytes a b
puts bytes a b p =
    record {
      lent = p.lent;
      room = ap length p.written ∙ length-sets a.out.now a.len bytes;
      placed = record { kept = p.end.kept; whole = p.end.whole; holds = λ h. p.written };
    }

pub nothing : (a : Buffer) → Puts [] a a
nothing a =
    record {
      lent = refl;
      room = refl;
      placed = record { kept = omega arith; whole = λ h. omega arith; holds = λ h. refl };
    }

pub then : {xs ys : List ℕ} {a b c : Buffer} → Puts xs a b → Puts ys b c → Puts (xs ++ ys) a c
then {xs} {ys} {a} {b} {c} p q =
    let n = length-append xs ys in
    record {
      lent = q.lent ∙ p.lent;
      room = q.room ∙ p.room;
      placed =
          record {
            kept = omega (arith, p.room, p.placed.kept, q.placed.kept);
            whole =
                λ h.
                let e = p.placed.whole (omega arith) in
                omega (arith, p.room, e, q.placed.whole (omega (arith, p.room, e)));
            holds =
                λ h.
                let e : b.len ≡ a.len + length xs = p.placed.whole (omega arith) in
                q.placed.holds (omega (arith, p.room))
                ∙ ap (λ (k : ℕ). sets b.out.now k ys) e
                ∙ ap (λ (l : List ℕ). sets l (a.len + length xs) ys) (p.placed.holds (omega arith))
                ∙ sym (sets_append xs ys a.out.now a.len);
          };
    }
