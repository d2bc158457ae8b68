-- Numbers of a record, little-endian; a byte beyond the end counts as 0.
use Rattle.std.specs.Prelude.{List, ℕ, ◌+◌, ◌*◌, get_or}

abbrev pub byte_at : List ℕ → ℕ → ℕ
byte_at s i = get_or s i 0

unfoldable pub num16 : List ℕ → ℕ → ℕ
num16 s i = byte_at s i + 256 * byte_at s (i + 1)

unfoldable pub num32 : List ℕ → ℕ → ℕ
num32 s i = num16 s i + 65536 * num16 s (i + 2)

unfoldable pub num64 : List ℕ → ℕ → ℕ
num64 s i = num32 s i + 4294967296 * num32 s (i + 4)
