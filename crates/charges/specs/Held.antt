-- The pairs that are held, each a low and a high. Assumes nothing.
use Rattle.std.specs.Prelude.{ℕ, cond, ◌&&◌, List, map, length, take, Some, None, Option, nat_le, nat_lt}
use Rattle.charges.specs.declared.pairs.PairFault.{PairFault}
use Rattle.charges.specs.declared.pairs.PairFault.TheVariants.{Full, Large}
use Rattle.charges.specs.declared.pairs.Pairs.{Pairs}
use Rattle.charges.specs.declared.pairs.Side.{Side}
use Rattle.charges.specs.declared.pairs.Side.TheVariants.{Low, High}

abbrev pub held : Pairs → List (ℕ × ℕ)
held p = take p.len p.values

-- one pair more behind ps: want of room is asked first, then whether one of the two passes the limit
abbrev pub pair_fault : List (ℕ × ℕ) → ℕ × ℕ → Option PairFault
pair_fault ps p = cond (nat_lt (length ps) 27) (cond (nat_le p.0 16777215 && nat_le p.1 16777215) None (Some Large)) (Some Full)

abbrev pub lows : List (ℕ × ℕ) → List ℕ
lows ps = map (λ p. p.0) ps

abbrev pub highs : List (ℕ × ℕ) → List ℕ
highs ps = map (λ p. p.1) ps

abbrev pub side_of : Side → ℕ × ℕ → ℕ
side_of Low p = p.0
side_of High p = p.1

abbrev pub sides : Side → List (ℕ × ℕ) → List ℕ
sides s ps = map (side_of s) ps
