-- A lent buffer before and after bytes are put into it. It stays the same buffer.
use Rattle.std.specs.Prelude.{ℕ, ◌≡◌, List, length}
use Rattle.std.proofs.lemmas.List.Edits.{sets}
use Rattle.text.specs.declared.put.Buffer.{Buffer}
use Rattle.text.specs.Put.{Ahead, Placed}

-- the bytes stand behind what was written, as far as there is room
pub record PutsAll (bytes : List ℕ) (a b : Buffer) : Type 0 where
  pub lent : b.out.ghost_name ≡ a.out.ghost_name
  pub written : b.out.now ≡ sets a.out.now a.len bytes
  pub end : Ahead a.len (length bytes) (length a.out.now) b.len

-- they stand there, where there is room for them
pub record Puts (bytes : List ℕ) (a b : Buffer) : Type 0 where
  pub lent : b.out.ghost_name ≡ a.out.ghost_name
  pub room : length b.out.now ≡ length a.out.now
  pub placed : Placed bytes a.out.now a.len b.out.now b.len
