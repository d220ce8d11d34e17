-- The entries of a table: as they are kept, and as they are given. Assumes nothing.
use Rattle.std.specs.Prelude.{ℕ, zero, suc, ◌+◌, ◌-◌, ◌*◌, cond, ◌&&◌, List, ◌==◌, nat_lt, slice_index}

-- no correlation: 100 on the diagonal, 0 elsewhere
abbrev pub identity : ℕ → ℕ → ℕ
identity r c = cond (r == c) 100 0

-- 16 rows of 16 cells, one after the other; past them stands the identity
abbrev pub entry : List ℕ → ℕ → ℕ → ℕ
entry cells r c = cond (nat_lt r 16 && nat_lt c 16) (slice_index cells (r * 16 + c)) (identity r c)

-- how many entries above the diagonal stand in the rows before r, of n members
abbrev pub before : ℕ → ℕ → ℕ
before n zero = 0
before n (suc r) = before n r + (n - suc r)

-- how many entries above the diagonal a table of n members has
abbrev pub entry_count : ℕ → ℕ
entry_count n = before n n

-- the entry of row r and column c, r < c, of those given row by row; 0 past the members
abbrev pub above : ℕ → List ℕ → ℕ → ℕ → ℕ
above n given r c = cond (nat_lt c n) (slice_index given (before n r + (c - suc r))) 0

-- the table of n members with the entries given above its diagonal, row by row
abbrev pub filled : ℕ → List ℕ → ℕ → ℕ → ℕ
filled n given r c = cond (r == c) 100 (cond (nat_lt r c) (above n given r c) (above n given c r))
