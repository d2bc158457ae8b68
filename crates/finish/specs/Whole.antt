-- A whole block's words in the lent room, and what is told of them.
use Rattle.std.specs.Prelude.{ℕ, ◌+◌, ◌*◌, ◌^◌, ◌<◌, ◌≤◌, List, [], length, nat_lt, Result, Ok, Err}
use Rattle.arm.specs.declared.Instr.{Instr}
use Rattle.code.specs.Items.{pick, Sound}
use Rattle.code.specs.Emit.{lay}
use Rattle.code.specs.Tree.{top, Code, labels, jumps, nowhere, whole_lines, pool_in, Tests, Fine}
use Rattle.finish.specs.Finish.{zeros, short_of}
use Rattle.finish.specs.declared.Short.{Short}
use Rattle.asm.specs.State.{label_room, literal_room, fixup_room}

-- the words with those behind them untouched, or zeros where they do not fit
unfoldable pub laid : List ℕ → List ℕ → List ℕ
laid ws lent = pick (nat_lt (length lent) (length ws)) (zeros lent) (lay ws lent)

unfoldable pub told : List ℕ → List ℕ → Result ℕ Short
told ws lent = pick (nat_lt (length lent) (length ws)) (Err (short_of (length ws))) (Ok (length ws))

-- how many words the block takes, by what is told
abbrev pub count_of : Result ℕ Short → ℕ
count_of (Ok n) = n
count_of (Err e) = e.0

-- a block that the tables hold, that words carry, and in which each jump reaches
pub record Held (c : Code top) (end : List Instr) : Type 0 where
  pub labels : labels c < label_room
  pub jumps : jumps c ≤ fixup_room
  pub literals : length (pool_in [] (whole_lines c end)) ≤ literal_room
  pub fine : Fine c
  pub sound : Sound end
  pub tests : Tests c nowhere 0
  pub short : length (whole_lines c end) + 1 + 2 * length (pool_in [] (whole_lines c end)) < 2 ^ 18
